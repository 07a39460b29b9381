-- The kinds by code in the sawp reading, as the table of docs/FORMAT.md, 5.1, has them.
use Rattle.std.specs.Prelude.{ℕ, cond, List, [], ◌∷◌}
use Rattle.rfc6733.specs.Value.{one_of}
use Rattle.record.specs.Kinds.{unhandled, octet_string, unsigned32, unsigned64, grouped, enumerated, utf8_string}
use Rattle.record.specs.Kinds.{diameter_identity, diameter_uri, address, time}

pub record Codes : Type 0 where
  pub kind : ℕ
  pub codes : List ℕ

abbrev pub codes : ℕ → List ℕ → Codes
codes k cs = record { kind = k; codes = cs }

abbrev pub kinds_by_code : List Codes
kinds_by_code =
    codes octet_string (44 ∷ 33 ∷ [])
    ∷ codes unsigned32
    (85 ∷ 485 ∷ 259 ∷ 258 ∷ 291 ∷ 276 ∷ 298 ∷ 267 ∷ 299 ∷ 272 ∷ 278 ∷ 262 ∷ 268 ∷ 27 ∷ 270 ∷ 265 ∷ 266 ∷ [])
    ∷ codes unsigned64 (287 ∷ [])
    ∷ codes grouped (297 ∷ 279 ∷ 284 ∷ 260 ∷ [])
    ∷ codes enumerated (483 ∷ 480 ∷ 274 ∷ 277 ∷ 285 ∷ 273 ∷ 261 ∷ 271 ∷ 295 ∷ [])
    ∷ codes utf8_string (50 ∷ 25 ∷ 281 ∷ 269 ∷ 263 ∷ 1 ∷ [])
    ∷ codes diameter_identity (293 ∷ 235 ∷ 294 ∷ 264 ∷ 296 ∷ 280 ∷ 282 ∷ [])
    ∷ codes diameter_uri (292 ∷ [])
    ∷ codes address (257 ∷ [])
    ∷ codes time (55 ∷ [])
    ∷ []

-- the kind of the first row that lists the code; any other code, 0 included, is Unhandled
abbrev pub kind_among : List Codes → ℕ → ℕ
kind_among [] c = unhandled
kind_among (r ∷ rs) c = cond (one_of c r.codes) r.kind (kind_among rs c)
