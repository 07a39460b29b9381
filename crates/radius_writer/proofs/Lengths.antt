-- How long a table's packet is: its header, and its records' lengths. The type of the header's fields says that the
-- authenticator has 16 bytes.
use Prim.Native.Nat.{ℕ, ◌+◌}
use mathlib.Core.Path.{◌≡◌, refl, ◌∙◌}
use mathlib.Core.List.{List, [], ◌∷◌}
use native.Mathlib.Omega.{arith}
use lib.ListN.{length, length-append}
use mir.Val.{Val}
use denote.Laws.{Is}
use Rattle.record.specs.Record.{Record}
use Rattle.record.specs.Table.{table_of}
use Rattle.rfc2865.specs.Packet.{Header, authenticator_size, header_size}
use Rattle.rfc2865.specs.Writer.{attribute_bytes, run_bytes, table_bytes}
use Rattle.rfc2865.proofs.Lengths.{attribute_length_lem, packet_length_lem}
use Rattle.rfc2865.proofs.Rules.{Kept, keeps_good}
use Rattle.radius_writer.specs.declared.Fields.{Fields}
use Rattle.radius_size.specs.Sizing.{lengths}
use Rattle.radius_writer.specs.contracts.Fields.{the_row}

pub run_length : (pool : List ℕ) (rs : List Record) → Kept (length pool) rs → length (run_bytes pool rs) ≡ lengths rs
run_length pool [] k = refl
run_length pool (r ∷ rs) k =
    length-append (attribute_bytes pool r) (run_bytes pool rs)
    ∙ omega (arith, attribute_length_lem pool r (keeps_good (length pool) r k.0), run_length pool rs k.1)

-- what owning the header's fields tells of their last
pub sixteen : (f : Fields) (vs : List Val) → Is the_row f vs → length f.authenticator ≡ authenticator_size
sixteen f vs owned = owned.1.1.1.1.0.1.0.1

module _ (h : Header) (told : length h.authenticator ≡ authenticator_size) where
  pub total_length : (table pool : List ℕ) → Kept (length pool) (table_of table)
      → length (table_bytes h table pool) ≡ header_size + lengths (table_of table)
  unfolding table_bytes
  total_length table pool k =
      packet_length_lem h told (run_bytes pool (table_of table)) ∙ omega (arith, run_length pool (table_of table) k)
