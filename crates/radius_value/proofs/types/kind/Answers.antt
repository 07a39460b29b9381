-- `kind` meets its contract: the table is the first 64 kinds of the list, by computation. An entry of it is the list's kind,
-- and past it no code is listed, so `unwrap_or` gives Unhandled.
use Prim.Native.Nat.{ℕ}
use mathlib.Core.Path.{◌≡◌, ◌∙◌}
use native.Mathlib.Omega.{arith}
use lib.ListN.{get_or}
use Rattle.record.specs.Kinds.{unhandled}
use Rattle.record.specs.Rows.{kind_in, table}
use Rattle.record.proofs.Rows.{entry_of}
use Rattle.rfc2865.specs.Types.{attribute_types, kind_of}
use Rattle.radius_value.proofs.types.kind.Goals as goal

entry : (code : ℕ) → get_or (table (kind_in attribute_types) 64) code unhandled ≡ kind_of code
unfolding kind_of
entry code = entry_of attribute_types 64 (omega arith) code

pub returns : goal.returns
returns c =
    c.unwrap_or.ensures ∙ rw (c.copied.ensures) (c.get.ensures.lookup.4 (omega arith) unhandled ∙ entry c.args.code)
