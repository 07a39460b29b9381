-- What one AVP alone must be, and the store afterwards.
use Rattle.std.specs.Prelude.{ℕ, ◌≡◌, true, List, Result}
use Rattle.refusal.specs.Answer.{Refusal}
use Rattle.rfc6733.specs.Avp.{avp_size, complete}
use Rattle.rfc6733.specs.Decoder.{alone_records}
use Rattle.rfc6733.specs.Dictionary.{Dictionary}
use Rattle.record.specs.Store.{stored}
use Rattle.avps.specs.declared.Counts.{Counts}
use Rattle.avps.specs.Answers.{answer_of}

-- an AVP at the front that is complete, of so many bytes
pub record Complete (size : ℕ) (s : List ℕ) : Type 0 where
  pub whole : complete s ≡ true
  pub size_is : size ≡ avp_size s

-- the store afterwards
abbrev pub store_after_avp : Dictionary → List ℕ → List ℕ → Result Counts Refusal → List ℕ
store_after_avp D input store r = stored (answer_of r) (alone_records D input) store
