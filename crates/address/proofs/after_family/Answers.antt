-- `after_family` meets its contract: its tests are those of the definition, on the length of the data and on the family that the first two
-- bytes write.
use Prim.Native.Nat.{◌-◌}
use mathlib.Core.Path.{◌≡◌, ◌∙◌}
use native.Mathlib.Omega.{arith}
use lib.ListN.{length}
use Rattle.std.proofs.lemmas.Bool.Decides.{nat_tests}
use Rattle.octets.specs.Octets.{be}
use Rattle.octets.proofs.Numbers.{read_at, be_part}
use Rattle.rfc6733.specs.Dictionary.{family_address}
use Rattle.address.proofs.Shown.{bad_length, other_family, ipv4, ipv6}
use Rattle.address.proofs.after_family.Goals as goal
use Rattle.address.proofs.after_family.Goals.{After-be_u16}

-- the family that the code has read is the one that the data begin with
family : (c : After-be_u16) → c.be_u16.result ≡ be 2 c.args.«data».now 0
family c = read_at 2 _ 0 _ c.be_u16.ensures

pub returns-in_default : goal.returns-in_default
unfolding family_address
returns-in_default c = bad_length _ (grind (arith, nat_tests))

pub returns-in-1-eq6 : goal.returns-in-1-eq6
unfolding family_address
returns-in-1-eq6 c =
    let s = c.args.«data».now in
    let f = family (goal.at.returns-in-1-eq6 c).After-be_u16 in
    let number = c.be_u32.ensures ∙ be_part 4 s (length s - 2) 2 (omega arith) in
    ipv4 s _ (grind (arith, nat_tests)) (omega arith)

pub returns-in-1-default : goal.returns-in-1-default
unfolding family_address
returns-in-1-default c =
    let f = family (goal.at.returns-in-1-default c).After-be_u16 in
    bad_length _ (grind (arith, nat_tests))

pub returns-in-2-eq18 : goal.returns-in-2-eq18
unfolding family_address
returns-in-2-eq18 c =
    let f = family (goal.at.returns-in-2-eq18 c).After-be_u16 in
    ipv6 _ (grind (arith, nat_tests)) (omega arith)

pub returns-in-1-default-2 : goal.returns-in-1-default-2
unfolding family_address
returns-in-1-default-2 c =
    let f = family (goal.at.returns-in-1-default-2 c).After-be_u16 in
    bad_length _ (grind (arith, nat_tests))

pub returns-in_default-2 : goal.returns-in_default-2
unfolding family_address
returns-in_default-2 c =
    let f = family (goal.at.returns-in_default-2 c).After-be_u16 in other_family _ (grind (arith, nat_tests))
