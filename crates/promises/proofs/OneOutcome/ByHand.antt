-- Calls of the methods of `Reader`, a struct that holds a reference. What the clause of each says is written here by hand, and that the clause
-- as read from the source says just that is `refl`.
use mathlib.Core.Path.{◌≡◌, refl}
use mathlib.Core.List.{List}
use Prim.Native.Nat.{ℕ}
use seplogic.Ra.Ura.{Ura}
use base.Logic.{SProp}
use prog.Memory.{Memory}
use prog.Routine.{Routine}
use types.Logic.{Logic}
use contract.Lifetimes.{Lfts}
use contract.Monad.{Fun, fact}
use denote.Ref.{Bor, MutBor}
use Rattle.rfc6733.specs.Header.{header_size}
use Rattle.reader.specs.declared.Reader.{Reader}
use Rattle.steps.specs.declared.Step.{Step}
use Rattle.reader.specs.Reading.{step_of, find_of, Went}
use Rattle.reader.specs.contracts.Reader.new as reader_new
use Rattle.reader.specs.contracts.Reader.next as reader_next
use Rattle.reader.specs.contracts.Reader.find as reader_find

abbrev pub ReaderNew : Bor (List ℕ) → Reader → Type 0
ReaderNew message r = (r.payload ≡ message) × (r.place ≡ header_size)

abbrev pub ReaderNext : MutBor Reader → Step → MutBor Reader → Type 0
ReaderNext self r self' = Went self.now (step_of self.now) r self'.now

abbrev pub ReaderFind : MutBor Reader → ℕ → Step → MutBor Reader → Type 0
ReaderFind self code r self' = Went self.now (find_of code self.now) r self'.now

module _ {M : Type 1} {𝓤 : Ura M} (𝓛 : Logic 𝓤) (mem : Memory → SProp 𝓤) (run : Routine → Fun 𝓤) where
  reader_new_clause : (κs : Lfts 1) (message : Bor (List ℕ)) (r : Reader)
      → (reader_new.clauses 𝓛 mem run κs (message, tt)).ensures tt r (message, tt) ≡ fact 𝓤 (ReaderNew message r)
  reader_new_clause κs message r = refl

  reader_next_clause : (κs : Lfts 2) (self self' : MutBor Reader) (r : Step)
      → (reader_next.clauses 𝓛 mem run κs (self, tt)).ensures tt r (self', tt) ≡ fact 𝓤 (ReaderNext self r self')
  reader_next_clause κs self self' r = refl

  reader_find_clause : (κs : Lfts 2) (self self' : MutBor Reader) (code : ℕ) (r : Step)
      → (reader_find.clauses 𝓛 mem run κs (self, (code, tt))).ensures tt r (self', (code, tt)) ≡ fact 𝓤 (ReaderFind self code r self')
  reader_find_clause κs self self' code r = refl
