-- Dictionaries: which kind an AVP has by its code and vendor, and how an Address is read. The RFC reading and the sawp reading
-- are two of them. Departures are numbered as in docs/DIFFERENCES.md.
use Rattle.std.specs.Prelude.{ℕ, cond, List, [], ◌∷◌, length, ltb, eqb}
use Rattle.octets.specs.Octets.{be}
use Rattle.flags.specs.Flags.{data_length}
use Rattle.record.specs.Value.{Value, value}
use Rattle.record.specs.Kinds.{unhandled, octet_string, unsigned32, unsigned64, grouped, enumerated, utf8_string, diameter_identity, diameter_uri, address, time}
use Rattle.record.specs.Rows.{Row, row, kind_in}

pub record Dictionary : Type 0 where
  -- by the code, and the vendor, which is 0 without the vendor bit
  pub kind : ℕ → ℕ → ℕ
  pub as_address : List ℕ → Value

-- RFC 6733, section 4.5: the AVPs of the base protocol, in the order of its table
abbrev pub base_avps : List Row
base_avps =
    row 85 unsigned32
    ∷ row 483 enumerated
    ∷ row 50 utf8_string
    ∷ row 485 unsigned32
    ∷ row 480 enumerated
    ∷ row 44 octet_string
    ∷ row 287 unsigned64
    ∷ row 259 unsigned32
    ∷ row 258 unsigned32
    ∷ row 274 enumerated
    ∷ row 291 unsigned32
    ∷ row 276 unsigned32
    ∷ row 277 enumerated
    ∷ row 285 enumerated
    ∷ row 25 octet_string
    ∷ row 293 diameter_identity
    ∷ row 283 diameter_identity
    ∷ row 273 enumerated
    ∷ row 281 utf8_string
    ∷ row 294 diameter_identity
    ∷ row 55 time
    ∷ row 297 grouped
    ∷ row 298 unsigned32
    ∷ row 279 grouped
    ∷ row 267 unsigned32
    ∷ row 257 address
    ∷ row 299 unsigned32
    ∷ row 272 unsigned32
    ∷ row 264 diameter_identity
    ∷ row 296 diameter_identity
    ∷ row 278 unsigned32
    ∷ row 269 utf8_string
    ∷ row 280 diameter_identity
    ∷ row 284 grouped
    ∷ row 33 octet_string
    ∷ row 292 diameter_uri
    ∷ row 261 enumerated
    ∷ row 262 unsigned32
    ∷ row 268 unsigned32
    ∷ row 282 diameter_identity
    ∷ row 263 utf8_string
    ∷ row 27 unsigned32
    ∷ row 270 unsigned32
    ∷ row 271 enumerated
    ∷ row 265 unsigned32
    ∷ row 295 enumerated
    ∷ row 1 utf8_string
    ∷ row 266 unsigned32
    ∷ row 260 grouped
    ∷ []

-- Departures S1 and S2 of the sawp reading: Class is UTF8String; Destination-Realm has the code 235 and not 283.
abbrev pub sawp_avps : List Row
sawp_avps = row 25 utf8_string ∷ row 235 diameter_identity ∷ row 283 unhandled ∷ base_avps

-- RFC 6733, section 4.3.1: a 2-byte family, then the address. Departure D7: families other than IPv4 and IPv6 are Unhandled
unfoldable pub family_address : List ℕ → Value
family_address s =
    cond (ltb (length s) 2) (value unhandled data_length 0)
    (cond (eqb (be 2 s 0) 1)
    (cond (eqb (length s) 6) (value address 0 (be 4 s 2)) (value unhandled data_length 0))
    (cond (eqb (be 2 s 0) 2)
    (cond (eqb (length s) 18) (value address 0 0) (value unhandled data_length 0))
    (value unhandled 0 0)))

-- Departure S4: the address alone, with no family before it
unfoldable pub bare_address : List ℕ → Value
bare_address s =
    cond (eqb (length s) 4) (value address 0 (be 4 s 0))
    (cond (eqb (length s) 16) (value address 0 0)
    (value unhandled data_length 0))

-- The dictionary of a table of the IETF's. RFC 6733, section 4.1: a vendor's codes are its own, so the table says nothing of them.
-- Departure D6: vendor 0 is the IETF's
abbrev pub by_rows : List Row → Dictionary
by_rows rs = record { kind = λ c v. cond (eqb v 0) (kind_in rs c) unhandled; as_address = family_address }

unfoldable pub rfc : Dictionary
rfc = by_rows base_avps

-- Departure S3: the vendor doesn't count
unfoldable pub sawp : Dictionary
sawp = record { kind = λ c v. kind_in sawp_avps c; as_address = bare_address }
