-- To compare Unit-Values is an order. Scaled by ten to the 18 each of them is a whole number, and whole numbers are
-- ordered. Values that are the same number are Equal, whatever their exponents.
use Rattle.std.proofs.Common.{◌≡◌, ℕ, ◌+◌, ◌^◌, ℤ, pos, ◌+ℤ◌, ◌*ℤ◌, true, false, ◌&&◌, ◌⊎◌, ◌↔◌}
use Rattle.std.proofs.Common.{inl, inr, refl, sym, ap, ◌∙◌}
use Rattle.std.proofs.Math.IntN.{zero-*ℤ}
use Rattle.std.proofs.lemmas.Bool.{cases_Bool, and_parts}
use Rattle.std.proofs.lemmas.Cmp.{int_ranked, tied_itself}
use Rattle.std.specs.Ordering.{ordering_reverse}
use Rattle.std.specs.declared.cmp.Ordering.{Ordering}
use Rattle.std.specs.declared.cmp.Ordering.TheVariants.{Less, Equal, Greater}
use Rattle.refusal.specs.Answer.{Refusal, Answer, accepted, refused}
use Rattle.refusal.specs.declared.Refusal.TheVariants.{BadExponent}
use Rattle.unit_value.specs.declared.UnitValue.{UnitValue}
use Rattle.unit_value.specs.UnitValues.{order, in_range, tens, scaled, compared}
use Rattle.unit_value.proofs.Powers.{powers_joined}
use Rattle.unit_value.proofs.Exponents.{tens_more}
use Rattle.unit_value.proofs.Wholes.{order_total}

-- ---- whole numbers

pub order_reversed : (x y : ℤ) → order y x ≡ ordering_reverse (order x y)
order_reversed x y = order_total.antisymm y x

pub order_itself : (x : ℤ) → order x x ≡ Equal
order_itself x = tied_itself order_total x

pub order_equal : (x y : ℤ) → order x y ≡ Equal → x ≡ y
unfolding order
order_equal x y stands = int_ranked x y Equal (sym stands)

pub order_transitive : (x y z : ℤ) → order x y ≡ Less → order y z ≡ Less → order x z ≡ Less
order_transitive x y z e f = order_total.trans x y z e f

-- ---- which values are compared

-- both exponents are taken, and the scaled values stand so
pub record Standing (u v : UnitValue) (o : Ordering) : Type 0 where
  pub left_taken : in_range u.exponent ≡ true
  pub right_taken : in_range v.exponent ≡ true
  pub stands : order (scaled u) (scaled v) ≡ o

module _ (u v : UnitValue) where
  pub accepted_is : (o : Ordering) → (compared u v ≡ accepted o) ↔ Standing u v o
  unfolding compared
  accepted_is o = (there, back)
    where
      there : compared u v ≡ accepted o → Standing u v o
      there e =
          elim (cases_Bool (in_range u.exponent && in_range v.exponent)) [
            | inl both ↦
                let taken = and_parts (in_range u.exponent) (in_range v.exponent) both in
                record { left_taken = taken.0; right_taken = taken.1; stands = cc }
            | inr not-both ↦ absurd (cc)
          ]

      back : Standing u v o → compared u v ≡ accepted o
      back s = rw (s.left_taken, s.right_taken, s.stands)

  pub refused_is : (why : Refusal)
      → (compared u v ≡ refused why) ↔ ((why ≡ BadExponent) × (in_range u.exponent && in_range v.exponent ≡ false))
  unfolding compared
  refused_is why =
      elim (cases_Bool (in_range u.exponent && in_range v.exponent)) [
        | inl e ↦ rw e (λ f. (cc, cc), λ h. cc)
        | inr e ↦ rw e (λ f. (cc, refl), λ h. cc)
      ]

  pub compared_in_range : in_range u.exponent ≡ true → in_range v.exponent ≡ true
      → compared u v ≡ accepted (order (scaled u) (scaled v))
  compared_in_range left right =
      (accepted_is (order (scaled u) (scaled v))).1 (record { left_taken = left; right_taken = right; stands = refl })

-- ---- one of three, and not two

abbrev pub OneOfThree : Answer Ordering → Type 0
OneOfThree a = (a ≡ accepted Less) ⊎ ((a ≡ accepted Equal) ⊎ (a ≡ accepted Greater))

which : (o : Ordering) → OneOfThree (accepted o)
which Less = inl refl
which Equal = inr (inl refl)
which Greater = inr (inr refl)

module _ (u v : UnitValue) where
  pub one_of_three : in_range u.exponent ≡ true → in_range v.exponent ≡ true → OneOfThree (compared u v)
  one_of_three left right = rw (compared_in_range u v left right) (which (order (scaled u) (scaled v)))

  pub not_two : (o p : Ordering) → compared u v ≡ accepted o → compared u v ≡ accepted p → o ≡ p
  not_two o p e f = cc

-- ---- Equal where they are the same number, and only there

module _ (u v : UnitValue) where
  pub same_equal : in_range u.exponent ≡ true → in_range v.exponent ≡ true → scaled u ≡ scaled v
      → compared u v ≡ accepted Equal
  same_equal left right same = compared_in_range u v left right ∙ ap accepted (rw same (order_itself (scaled v)))

  pub equal_same : compared u v ≡ accepted Equal → scaled u ≡ scaled v
  equal_same e = order_equal (scaled u) (scaled v) ((accepted_is u v Equal).0 e).stands

-- ---- the other way round

pub compared_reversed : (u v : UnitValue) (o : Ordering) → compared u v ≡ accepted o
    → compared v u ≡ accepted (ordering_reverse o)
compared_reversed u v o e =
    let s = (accepted_is u v o).0 e in
    compared_in_range v u s.right_taken s.left_taken
    ∙ ap accepted (order_reversed (scaled u) (scaled v) ∙ ap ordering_reverse s.stands)

-- ---- in a chain

module _ (u v w : UnitValue) where
  chain : {o p q : Ordering} → compared u v ≡ accepted o → compared v w ≡ accepted p → order (scaled u) (scaled w) ≡ q
      → compared u w ≡ accepted q
  chain {o} {p} e f stands =
      compared_in_range u w ((accepted_is u v o).0 e).left_taken ((accepted_is v w p).0 f).right_taken
      ∙ ap accepted stands

  pub less_then_less : compared u v ≡ accepted Less → compared v w ≡ accepted Less → compared u w ≡ accepted Less
  less_then_less e f =
      let first = ((accepted_is u v Less).0 e).stands in
      let second = ((accepted_is v w Less).0 f).stands in
      chain e f (order_transitive (scaled u) (scaled v) (scaled w) first second)

  -- so Equal twice is Equal, and Less with Equal before or after it is Less
  pub equal_then : (o : Ordering) → compared u v ≡ accepted Equal → compared v w ≡ accepted o
      → compared u w ≡ accepted o
  equal_then o e f = chain e f (rw (equal_same u v e) ((accepted_is v w o).0 f).stands)

  pub then_equal : (o : Ordering) → compared u v ≡ accepted o → compared v w ≡ accepted Equal
      → compared u w ≡ accepted o
  then_equal o e f = chain e f (rw (← equal_same v w f) ((accepted_is u v o).0 e).stands)

-- ---- one number, written in two ways

module _ (u v : UnitValue) (left : in_range u.exponent ≡ true) (right : in_range v.exponent ≡ true) where
  -- as 15 with the exponent 0 and 150 with the exponent -1
  pub zeros_moved : (k : ℕ) → v.digits ≡ u.digits *ℤ pos (10 ^ k) → v.exponent +ℤ pos k ≡ u.exponent
      → compared u v ≡ accepted Equal
  unfolding scaled
  zeros_moved k digits exponent =
      let tens_are : tens u.exponent ≡ k + tens v.exponent = ap tens (sym exponent) ∙ tens_more k v.exponent right in
      same_equal u v left right (rw (tens_are, digits) (sym (powers_joined u.digits k (tens v.exponent))))

  pub zeros_equal : u.digits ≡ pos 0 → v.digits ≡ pos 0 → compared u v ≡ accepted Equal
  unfolding scaled
  zeros_equal e f =
      same_equal u v left right
      (rw (e, f) (zero-*ℤ (pos (10 ^ tens u.exponent)) ∙ sym (zero-*ℤ (pos (10 ^ tens v.exponent)))))
