-- What stands at a place of a payload, and what a search from there finds, by the outlines of what is left from there on (docs/FORMAT.md, 7.8).
use Rattle.std.specs.Prelude.{ℕ, ◌+◌, ◌-◌, ◌≡◌, true, cond, List, [], ◌∷◌, drop}
use Rattle.std.specs.Prelude.{Option, None, Some, Result, Ok, Err}
use Rattle.octets.specs.Run.{Tree, tree, tiles}
use Rattle.refusal.specs.Answer.{Refusal}
use Rattle.refusal.specs.declared.Refusal.TheVariants.{NotTiled}
use Rattle.record.specs.Outline.{Outline}
use Rattle.rfc6733.specs.Avp.{head_size, complete}
use Rattle.rfc6733.specs.Records.{unentered, tiling}
use Rattle.rfc6733.specs.Search.{outlines, first_with}
use Rattle.avp.specs.declared.AVP.{AVP}
use Rattle.front.specs.Front.{avp_of}
use Rattle.steps.specs.declared.Step.{Step}
use Rattle.steps.specs.declared.Step.TheVariants as step
use Rattle.steps.specs.declared.Stepped.{Stepped}

-- the place past an AVP: after its data and its padding
unfoldable pub past : Outline → ℕ
past o = o.place + (o.length - head_size o.flags) + o.padding

-- an AVP is found, and the reader stands past it
abbrev pub onto : Outline → Stepped
onto o = record { found = step.At o; place = past o }

-- where none is found the reader stays; what is left of the payload tells why
abbrev pub moved : ℕ → Tree → Option Outline → Stepped
moved at t (Some o) = onto o
moved at t None = record { found = cond (tiles t) step.End step.Broken; place = at }

abbrev pub first : List Outline → Option Outline
first [] = None
first (o ∷ os) = Some o

-- a step at a place, and a search for a code from there on
unfoldable pub step_at : List ℕ → ℕ → Stepped
step_at s at = let t = tree unentered (drop at s) in moved at t (first (outlines at t))

unfoldable pub find_at : ℕ → List ℕ → ℕ → Stepped
find_at code s at = let t = tree unentered (drop at s) in moved at t (first_with code (outlines at t))

-- ---- of a message

-- the end is none, and the failing place a refusal
abbrev pub found_of : Step → Result (Option Outline) Refusal
found_of (step.At o) = Ok (Some o)
found_of step.Broken = Err NotTiled
found_of step.End = Ok None

-- ---- what the functions behind these ask and leave

-- a is the AVP at a place, and complete
pub record Standing (s : List ℕ) (at : ℕ) (a : AVP) : Type 0 where
  pub whole : complete (drop at s) ≡ true
  pub is : a ≡ avp_of (drop at s)

-- a search from a place stops at r: the first AVP from r on, if any, is the first with the code; and what is left there tells why
pub record Stops (code : ℕ) (s : List ℕ) (place r : ℕ) : Type 0 where
  pub same_first : first (outlines r (tree unentered (drop r s))) ≡ first_with code (outlines place (tree unentered (drop place s)))
  pub same_end : tiling (drop r s) ≡ tiling (drop place s)
