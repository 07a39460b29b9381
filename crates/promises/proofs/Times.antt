-- Request E4, of the functions themselves: Unix seconds go on second by second, past 2036 too, no two Times have the same, and all lie between
-- 1968-01-20 and 2104-02-26. The contracts say that they are the definition's, of which these are laws (rfc6733/proofs/Times).
use Prim.Native.Nat.{ℕ, ◌+◌, ◌-◌, ◌%◌, ◌^◌, ◌<◌}
use mathlib.Core.Path.{◌≡◌, sym, ap, ◌∙◌}
use mathlib.Core.Logic.{◌≢◌}
use lib.IntN.{ℤ, pos, ◌+ℤ◌}
use lib.Signed.{◌≤ℤ◌}
use Rattle.rfc6733.proofs.Times as times
use Rattle.rfc6733.proofs.Times.{earliest, latest}
use Rattle.promises.proofs.OneOutcome.Calls.{UnixSeconds, TandrekilyUnixSeconds}

module _ (v : ℕ) (r : ℤ) (small : v < 2 ^ 32) (p : UnixSeconds v r) where
  pub between : (earliest ≤ℤ r) × (r ≤ℤ latest)
  between = rw p (times.not_before_1968 v small, times.not_after_2104 v small)

  -- of the Time after v, which is 0 after 2 ^ 32 - 1
  pub a_second_on : (s : ℤ) → v ≢ 2 ^ 31 - 1 → UnixSeconds ((v + 1) % 2 ^ 32) s → s ≡ r +ℤ pos 1
  a_second_on s not_last q = q ∙ times.a_second_on v small not_last ∙ sym (ap (λ (z : ℤ). z +ℤ pos 1) p)

  pub no_two_alike : (w : ℕ) → w < 2 ^ 32 → UnixSeconds w r → v ≡ w
  no_two_alike w small' q = times.no_two_alike v w small small' (sym p ∙ q)

-- the library's call is the same, so that all this is said of it too
pub by_the_library : (v : ℕ) (r : ℤ) → TandrekilyUnixSeconds v r → UnixSeconds v r
by_the_library v r p = p
