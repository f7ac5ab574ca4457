-- The second test, one alternative at a time.
use Rattle.std.proofs.Common.{◌≡◌, ℕ, Bool, true, false, List, [], ◌∷◌, refl, ap, ◌∙◌}
use Rattle.lf_core.specs.Term.{Path}
use Rattle.lf_checker.specs.View.{View}
use Rattle.lf_checker.specs.Run.{Answer, done, refused, out, need, go_on}
use Rattle.lf_equations.specs.declared.alternative.Case.{Case}
use Rattle.lf_equations.specs.Outcome as outcome
use Rattle.lf_equations.specs.Outcome.{gets, unless_fault}
use Rattle.lf_equations.specs.Coverage.{is_case, not_a_case, all_cases}
use Rattle.lf_match.proofs.Ends.{step_ends}
use Rattle.lf_match.specs.declared.ended.Ended.{Ended}
use Rattle.lf_match.specs.Compiles.{ended}
use Rattle.lf_match.specs.Parts.{test_case}

pub none_left : (V : View) (ctors : List Path) (u : ℕ) → all_cases V ctors [] u ≡ done (gets tt) u
none_left V ctors u = refl

by_test : (V : View) (ctors : List Path) (a : Case) (alts : List Case) (o : Answer Bool)
    → go_on (go_on o outcome.gives) (outcome.go_on (λ b. outcome.◌>>◌ (unless_fault (not_a_case a.constructor b)) (all_cases V ctors alts)))
    ≡ go_on (go_on o (λ b. unless_fault (not_a_case a.constructor b))) (outcome.go_on (λ x. all_cases V ctors alts))
by_test V ctors a alts (done true u) = refl
by_test V ctors a alts (done false u) = refl
by_test V ctors a alts (refused e u) = refl
by_test V ctors a alts out = refl
by_test V ctors a alts (need k) = refl

pub one_more : (V : View) (ctors : List Path) (a : Case) (alts : List Case) (u : ℕ)
    → all_cases V ctors (a ∷ alts) u ≡ go_on (test_case V ctors a u) (outcome.go_on (λ x. all_cases V ctors alts))
one_more V ctors a alts u = by_test V ctors a alts (is_case V ctors a u)

pub ends_here : (V : View) (ctors : List Path) (alts rest : List Case) (a : Case) (u v : ℕ) (e : Ended) → alts ≡ a ∷ rest → test_case V ctors a u ≡ ended e v
    → all_cases V ctors alts u ≡ ended e v
ends_here V ctors alts rest a u v e h t = ap (λ xs. all_cases V ctors xs u) h ∙ one_more V ctors a rest u ∙ step_ends (test_case V ctors a u) (λ x. all_cases V ctors rest) e v t
