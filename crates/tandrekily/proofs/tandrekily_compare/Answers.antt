-- `tandrekily_compare` meets its contract: it shows the answer of `unit_value::compare`, case by case.
use mathlib.Core.Path.{◌≡◌, refl, sym, ap, ◌∙◌}
use lib.IntN.{ℤ}
use mir.Syntax.{w32, w64}
use mir.Val.{SFits, to_z, of_z}
use mir.ValLaws.{to_z-of_z}
use Rattle.refusal.specs.Answer.{Answer, answer_of}
use Rattle.std.specs.declared.cmp.Ordering.{Ordering}
use Rattle.std.specs.declared.cmp.Ordering.TheVariants.{Less, Equal, Greater}
use Rattle.unit_value.specs.UnitValues.{compared}
use Rattle.results.specs.Results.{sign_of}
use Rattle.tandrekily.specs.Asked.{compared_given, number_shown, order_shown}
use Rattle.tandrekily.proofs.tandrekily_compare.Goals as goal
use Rattle.tandrekily.proofs.tandrekily_compare.Goals.{After-compare}

-- the values as the machine holds them
held : (d e d' e' : ℤ) → SFits w64 d → SFits w32 e → SFits w64 d' → SFits w32 e'
    → compared (record { digits = to_z w64 (of_z w64 d); exponent = to_z w32 (of_z w32 e) })
    (record { digits = to_z w64 (of_z w64 d'); exponent = to_z w32 (of_z w32 e') })
    ≡ compared_given d e d' e'
unfolding compared_given
held d e d' e' fd fe fd' fe' = rw (to_z-of_z w64 d fd, to_z-of_z w32 e fe, to_z-of_z w64 d' fd', to_z-of_z w32 e' fe')

answered : (c : After-compare) → let b = c.args in
    answer_of c.compare.result ≡ compared_given b.digits b.exponent b.other_digits b.other_exponent
answered c = let f = c.ranges in c.compare.ensures ∙ held _ _ _ _ f.digits f.exponent f.other_digits f.other_exponent

sign_held : (o : Ordering) → to_z w32 (of_z w32 (sign_of o)) ≡ sign_of o
sign_held Less = refl
sign_held Equal = refl
sign_held Greater = refl

-- the order that is lent, by an answer
abbrev order_by : After-compare → Answer Ordering → ℤ
order_by c x = order_shown x c.args.order.now

pub returns-in-Ok : goal.returns-in-Ok
unfolding number_shown order_shown
returns-in-Ok c =
    let a = (goal.at.returns-in-Ok c).After-compare in
    let e = ap answer_of (sym c.in-Ok.is) ∙ answered a in
    record {
      number = ap number_shown e;
      order = ap (λ (z : ℤ). to_z w32 (of_z w32 z)) c.sign_of.ensures ∙ sign_held _ ∙ ap (order_by a) e;
    }

pub returns-in-Err : goal.returns-in-Err
unfolding number_shown order_shown
returns-in-Err c =
    let a = (goal.at.returns-in-Err c).After-compare in
    let e = ap answer_of (sym c.in-Err.is) ∙ answered a in
    record { number = c.number.ensures ∙ ap number_shown e; order = ap (order_by a) e }
