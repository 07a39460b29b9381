-- What a reading makes of data; and text, which Diameter and RADIUS read alike (docs/FORMAT.md, 4.4).
use Rattle.std.specs.Prelude.{ℕ, cond, List}
use Rattle.rfc3629.specs.Utf8.{well_formed, valid_up_to}
use Rattle.flags.specs.Flags.{data_value}
use Rattle.record.specs.Kinds.{unhandled}

-- a kind, the error flags that it raises, and the number in a record's value field
pub record Value : Type 0 where
  pub kind : ℕ
  pub errors : ℕ
  pub number : ℕ

abbrev pub value : ℕ → ℕ → ℕ → Value
value k e n = record { kind = k; errors = e; number = n }

-- text: RFC 3629 decides. If the text is ill-formed, `number` is the length of its longest well-formed prefix
unfoldable pub text : ℕ → List ℕ → Value
text k s = cond (well_formed s) (value k 0 0) (value unhandled data_value (valid_up_to s))
