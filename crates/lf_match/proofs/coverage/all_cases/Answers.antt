use Rattle.std.proofs.Common.{◌≡◌, ◌∷◌, ◌<◌, List, length, drop, get_or, ℕ, suc, sym, ap, ◌∙◌, drop-cons}
use Rattle.lf_equations.specs.declared.alternative.Case.{Case}
use Rattle.lf_match.proofs.Alternatives.{ends_here}
use Rattle.lf_match.proofs.coverage.all_cases.Goals as goal

front_is : (xs : List Case) (i : ℕ) (a : Case) → i < length xs → a ≡ get_or xs i a → drop i xs ≡ a ∷ drop (suc i) xs
front_is xs i a h e = drop-cons xs i a h ∙ ap (λ x. x ∷ drop (suc i) xs) (sym e)

pub returns-in-Err-clause-value : goal.returns-in-Err-clause-value
returns-in-Err-clause-value c = λ t. c.cases.invariant ∙ ends_here c.args.view.now c.args.constructors.now _ _ c.case-item.result c.cases.units _ c.in-Err.end
    (front_is c.args.cases.now c.cases.case-index c.case-item.result c.cases-test.true c.case-item.is) (c.in-Err.ensures.value t)
