-- `vendor_id` meets its contract: with the vendor bit the header is 12 bytes, and bytes 8 to 11 are the vendor.
use mathlib.Core.Path.{sym, ◌∙◌}
use native.Mathlib.Omega.{arith}
use Rattle.rfc6733.specs.Avp.{flags}
use Rattle.rfc6733.proofs.Complete.{head}
use Rattle.front.proofs.Fields.{Vendored, with_vendor, without_vendor}
use Rattle.avps.proofs.known.vendor_id.Goals as goal
use Rattle.avps.proofs.known.vendor_id.Goals.{Then-vendor_specific_flag}

vendor_there : (c : Then-vendor_specific_flag) → Vendored c.args.s.now
vendor_there c = with_vendor _ (sym c.vendor_specific_flag.ensures ∙ c.if-vendor_specific_flag.true)

pub bounds-s-4 : goal.bounds-s-4
bounds-s-4 c = omega (arith, head (flags c.args.s.now))

pub word-requires : goal.word-requires
word-requires c = omega (arith, vendor_there (goal.at.word-requires c).Then-vendor_specific_flag)

pub returns-then-vendor_specific_flag : goal.returns-then-vendor_specific_flag
returns-then-vendor_specific_flag c = c.word.ensures ∙ sym (vendor_there (goal.at.returns-then-vendor_specific_flag c).Then-vendor_specific_flag).vendor_is

pub returns : goal.returns
returns c = sym (without_vendor _ (sym c.vendor_specific_flag.ensures ∙ c.if-vendor_specific_flag.false))
