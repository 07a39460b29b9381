-- The marked messages (docs/FORMAT.md, 10), P1 to P13: each with its limits and what the dump shows.
use Rattle.std.specs.Prelude.{ℕ, List, [], ◌∷◌, ◌++◌, take, replicate}
use Rattle.refusal.specs.declared.Refusal.TheVariants.{Incomplete, NotVersion, BadLength, NotTiled, TooDeep, NoRecords}
use Rattle.rfc6733.specs.Dictionary.{Dictionary}
use Rattle.rfc6733.specs.Decoder.{decoded, message_records}
use Rattle.rfc6733.specs.Dump.{Dump, lines, refusal, dump}

pub record Case : Type 0 where
  pub limit : ℕ
  pub room : ℕ
  pub input : List ℕ
  pub shows : Dump

abbrev pub given : List ℕ → Dump → Case
given s d = record { limit = 64; room = 64; input = s; shows = d }

-- a header of version 1 with a length, and n bytes that are zero after it
abbrev stating : ℕ → ℕ → List ℕ
stating len n = 1 ∷ 0 ∷ 0 ∷ len ∷ replicate n 0

-- the message of one AVP
abbrev holding : ℕ → List ℕ → List ℕ
holding len a = stating len 16 ++ a

-- Result-Code with a fifth data byte
abbrev surplus : List ℕ
surplus = 0x00 ∷ 0x00 ∷ 0x01 ∷ 0x0C ∷ 0x00 ∷ 0x00 ∷ 0x00 ∷ 0x0D ∷ 0x00 ∷ 0x00 ∷ 0x07 ∷ 0xD1 ∷ 0x00 ∷ 0x00 ∷ 0x00 ∷ 0x00 ∷ []

-- Result-Code with three, and a byte of padding
abbrev short : List ℕ
short = 0 ∷ 0 ∷ 1 ∷ 0x0C ∷ 0 ∷ 0 ∷ 0 ∷ 11 ∷ 0 ∷ 0 ∷ 0 ∷ 0 ∷ []

-- Failed-AVP with a member that is not complete, and with none
abbrev pub failing : List ℕ
failing = 0 ∷ 0 ∷ 1 ∷ 0x17 ∷ 0 ∷ 0 ∷ 0 ∷ 9 ∷ 0 ∷ 0 ∷ 0 ∷ 0 ∷ []

abbrev empty : List ℕ
empty = 0 ∷ 0 ∷ 1 ∷ 0x17 ∷ 0 ∷ 0 ∷ 0 ∷ 8 ∷ []

abbrev pub marked : List Case
marked =
    -- P1
    given [] (refusal (Incomplete 1))
    -- P2
    ∷ given (2 ∷ []) (refusal NotVersion)
    -- P3
    ∷ given (1 ∷ 0 ∷ []) (refusal (Incomplete 2))
    -- P4
    ∷ given (stating 3 0) (refusal BadLength)
    -- P5
    ∷ given (stating 19 4) (refusal (Incomplete 11))
    -- P6
    ∷ given (stating 19 15) (refusal BadLength)
    -- P7
    ∷ given (stating 20 16) (lines ((20 ∷ 0 ∷ 0 ∷ 0 ∷ []) ∷ []))
    -- P8
    ∷ given (holding 36 surplus) (lines ((36 ∷ 2 ∷ 1 ∷ 1 ∷ []) ∷ (1 ∷ 268 ∷ 0 ∷ 4 ∷ 2 ∷ 13 ∷ 2001 ∷ 4294967295 ∷ []) ∷ []))
    -- P9
    ∷ given (holding 32 short) (lines ((32 ∷ 2 ∷ 1 ∷ 1 ∷ []) ∷ (1 ∷ 268 ∷ 0 ∷ 0 ∷ 2 ∷ 11 ∷ 0 ∷ 4294967295 ∷ []) ∷ []))
    -- P10
    ∷ given (holding 33 (take 13 surplus)) (refusal NotTiled)
    -- P11, and with the depth limit 1
    ∷ given (holding 32 failing) (lines ((32 ∷ 1 ∷ 1 ∷ 2 ∷ []) ∷ (1 ∷ 279 ∷ 0 ∷ 0 ∷ 1 ∷ 9 ∷ 0 ∷ 4294967295 ∷ []) ∷ []))
    ∷ record { limit = 1; room = 64; input = holding 32 failing; shows = refusal TooDeep }
    -- P12, and with the depth limit 1
    ∷ given (holding 28 empty) (lines ((28 ∷ 0 ∷ 1 ∷ 1 ∷ []) ∷ (1 ∷ 279 ∷ 0 ∷ 8 ∷ 0 ∷ 8 ∷ 0 ∷ 4294967295 ∷ []) ∷ []))
    ∷ record { limit = 1; room = 64; input = holding 28 empty; shows = lines ((28 ∷ 0 ∷ 1 ∷ 1 ∷ []) ∷ (1 ∷ 279 ∷ 0 ∷ 8 ∷ 0 ∷ 8 ∷ 0 ∷ 4294967295 ∷ []) ∷ []) }
    -- P13
    ∷ record { limit = 64; room = 0; input = holding 36 surplus; shows = refusal (NoRecords 1) }
    ∷ []

-- what the definition shows of a case, and what it must show
abbrev pub shown : Dictionary → Case → Dump
shown D c = dump (decoded D c.limit c.room c.input) (message_records D c.input)
