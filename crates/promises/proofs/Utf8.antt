-- Request E3, of the functions themselves: the check says yes exactly where the text is characters of RFC 3629's syntax, one after the
-- other. The contracts say so of the reading from the front, and that says what the syntax says (rfc3629/proofs/Grammar).
use mathlib.Core.Path.{◌≡◌, sym, ◌∙◌}
use mathlib.Core.Bool.{Bool, true}
use mathlib.Core.Logic.{◌↔◌}
use contract.Lifetimes.{Lfts}
use Rattle.rfc3629.specs.Syntax.{Utf8Octets}
use Rattle.rfc3629.proofs.Grammar.{well_formed_is}
use Rattle.promises.proofs.OneOutcome.Calls.{Slice, IsUtf8, TandrekilyIsUtf8}

pub is_utf8_exactly : (κs : Lfts 1) (s : Slice) (r : Bool) → IsUtf8 κs s r → (r ≡ true) ↔ Utf8Octets s.now
is_utf8_exactly κs s r p = let is = well_formed_is s.now in (λ e. is.0 (sym p ∙ e), λ octets. p ∙ is.1 octets)

pub tandrekily_is_utf8_exactly : (κs : Lfts 1) (text : Slice) (r : Bool) → TandrekilyIsUtf8 κs text r → (r ≡ true) ↔ Utf8Octets text.now
tandrekily_is_utf8_exactly = is_utf8_exactly
