-- What an acceptance returns beside a header: error flags, number of records, headers tried, consumed length.
use Rattle.std.specs.Prelude.{ℕ}

pub record Counts : Type 0 where
  pub errors : ℕ
  pub records : ℕ
  pub tried : ℕ
  pub length : ℕ
