-- Laws of `count_of`: the answer from the facts, in the order of the refusals, and the facts from an acceptance.
use Prim.Native.Nat.{ℕ, ◌≤◌, ◌<◌}
use mathlib.Core.Path.{◌≡◌, sym, ap}
use mathlib.Core.Bool.{true, false, not}
use mathlib.Core.List.{List, [], ◌++◌}
use lib.Dec.{ltb}
use borrow.Author.Tests.{lt-ltb, le-ltb}
use Rattle.octets.specs.Run.{Tree, tiles, tried, deepest}
use Rattle.rfc6733.specs.Records.{record_count}
use Rattle.rfc6733.specs.Decoder.{allowed, limit_refusals, depth_refusals}
use Rattle.record.specs.Refusals.{tile_refusals}
use Rattle.refusal.specs.Answer.{Test, passes, answer_of}
use Rattle.refusal.proofs.Answers.{and-true, kept_not, kept_lt, passed}
use Rattle.refusal.specs.declared.Refusal.TheVariants.{NotTiled, TooDeep, BadDepth}
use Rattle.std.specs.Prelude.{Ok, Err}
use Rattle.count.specs.declared.Sums.{Sums}
use Rattle.count.specs.Counts.{sums, count_of}
use Rattle.count.proofs.Levels.{Known}

module _ (limit : ℕ) (t : Tree) where
  pub not_allowed : allowed limit ≡ false → answer_of (Err BadDepth) ≡ count_of limit t
  unfolding count_of
  not_allowed e = rw e

  module _ (limit_is : allowed limit ≡ true) where
    pub not_tiled : tiles t ≡ false → answer_of (Err NotTiled) ≡ count_of limit t
    unfolding count_of
    not_tiled e = rw (limit_is, e)

    pub too_deep : tiles t ≡ true → limit < deepest t → answer_of (Err TooDeep) ≡ count_of limit t
    unfolding count_of
    too_deep e h = rw (limit_is, e, lt-ltb limit (deepest t) h)

    pub fits : {n k : ℕ} → Known limit t true n k → answer_of (Ok (record { records = n; tried = k })) ≡ count_of limit t
    unfolding count_of
    fits w = rw (limit_is, sym w.tiles_is, le-ltb _ _ w.shallow, w.records_is, w.tried_is)

-- ---- the facts from an acceptance

-- a run that these refusals pass, and others after them
pub record Passing (limit : ℕ) (t : Tree) (others : List Test) : Type 0 where
  pub limit_is : allowed limit ≡ true
  pub tiled : tiles t ≡ true
  pub shallow : deepest t ≤ limit
  pub others_pass : passes others ≡ true

pub was_passing : (limit : ℕ) (t : Tree) (others : List Test)
    → passes (limit_refusals limit ++ (tile_refusals t ++ (depth_refusals limit t ++ others))) ≡ true → Passing limit t others
was_passing limit t others p =
    let limits = and-true (not (not (allowed limit))) _ p in
    let tiled = and-true (not (not (tiles t))) _ limits.1 in
    let shallow = and-true (not (ltb limit (deepest t))) _ tiled.1 in
    record {
      limit_is = kept_not _ limits.0;
      tiled = kept_not _ tiled.0;
      shallow = kept_lt limit (deepest t) shallow.0;
      others_pass = shallow.1;
    }

-- a run that fits, with its sums
pub record Fitting (limit : ℕ) (t : Tree) (n k : ℕ) : Type 0 where
  pub limit_is : allowed limit ≡ true
  pub tiled : tiles t ≡ true
  pub shallow : deepest t ≤ limit
  pub records_is : n ≡ record_count t
  pub tried_is : k ≡ tried t

pub fitting : {limit : ℕ} {t : Tree} {others : List Test} (n k : ℕ) → Passing limit t others
    → sums t ≡ record { records = n; tried = k } → Fitting limit t n k
fitting n k p e =
    record {
      limit_is = p.limit_is;
      tiled = p.tiled;
      shallow = p.shallow;
      records_is = sym (ap (λ (s : Sums). s.records) e);
      tried_is = sym (ap (λ (s : Sums). s.tried) e);
    }

pub was_fitting : (limit : ℕ) (t : Tree) (s : Sums) → answer_of (Ok s) ≡ count_of limit t → Fitting limit t s.records s.tried
unfolding count_of
was_fitting limit t s e =
    let p = passed (limit_refusals limit ++ (tile_refusals t ++ depth_refusals limit t)) (sums t) _ (sym e) in
    fitting s.records s.tried (was_passing limit t [] p.0) p.1
