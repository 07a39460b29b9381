-- The bytes of a number over the first four or eight, where they are there.
use Rattle.std.specs.Prelude.{ℕ, List}
use Rattle.octets.specs.Octets.{octets, put_all}

abbrev pub put_word : ℕ → List ℕ → List ℕ
put_word v s = put_all (octets 4 v) s

abbrev pub put_long : ℕ → List ℕ → List ℕ
put_long v s = put_all (octets 8 v) s
