-- The rules on forms, each with what comes after it, are the definition's.
use Rattle.std.proofs.Common.{◌≡◌, ℕ, zero, suc, Bool, true, false, refl, ◌∙◌}
use Rattle.std.specs.Prelude.{◌^◌, ◌&&◌, nat_lt, Option, Some, None}
use Rattle.lf_core.specs.Term.{Universe, Term, lit}
use Rattle.lf_core.specs.Same.{same}
use Rattle.lf_rules.specs.Environment.{Context, nat_succ}
use Rattle.lf_checker.specs.Equal.{Verdict, decided, again, undecided}
use Rattle.lf_elaboration.specs.Forms.{Binding, Applied, as_sort, as_pi, as_lambda, as_application, as_literal}
use Rattle.lf_elaboration.specs.Metavariables.{Changes}
use Rattle.lf_elaboration.specs.Run.{Answer, done, failed, out, need, Run, go_on, gives, choose}
use Rattle.lf_elaboration.specs.Unifier as unifier
use Rattle.lf_elaboration.specs.Unifier.{Unify, or_else, decided_by, decides}
use Rattle.lf_unify.specs.Pairs.{both, some_when, number_before, beside, predecessors}
use Rattle.lf_unify.specs.Tower.{
  unify_level_within,
  unify_level,
  unify_bodies,
  unify_binders,
  lambda_left,
  lambda_right,
  left_or,
  right_or,
  by_successors,
  lambdas_or,
  by_lambdas,
  pis_or,
  by_pis,
  sorts_or,
  by_form,
}

-- What decides has nothing after it.
pub after : (o : Answer Changes Bool) (n : Run Changes Verdict)
    → go_on (go_on o (λ r. gives (decided r))) (λ v. decided_by v n) ≡ go_on o (λ r. gives (decided r))
after (done r u cs) n = refl
after (failed m u cs) n = refl
after (out cs) n = refl
after (need k) n = refl

pub then_none : (m n n' : Run Changes Verdict) (u : ℕ) (cs : Changes) → ((v : ℕ) (ds : Changes) → n v ds ≡ n' v ds)
    → or_else m n u cs ≡ or_else m n' u cs
then_none m n n' u cs h = behind (m u cs)
  where
    decide : (v : Verdict) (w : ℕ) (ds : Changes) → decided_by v n w ds ≡ decided_by v n' w ds
    decide undecided w ds = h w ds
    decide (decided r) w ds = refl
    decide (again x y) w ds = refl

    behind : (o : Answer Changes Verdict) → go_on o (λ v. decided_by v n) ≡ go_on o (λ v. decided_by v n')
    behind (done v w ds) = decide v w ds
    behind (failed e w ds) = refl
    behind (out ds) = refl
    behind (need k) = refl

module _ (self : Unify) (C : Context) where
  by_test : (b : Bool) (x : Term) (n : ℕ) (rest : Run Changes Verdict) (u : ℕ) (cs : Changes)
      → or_else (choose b (decides (self C x (lit n))) (gives undecided)) rest u cs ≡ left_or self C (beside x (some_when b n)) rest u cs
  by_test true x n rest u cs = after (self C x (lit n) u cs) rest
  by_test false x n rest u cs = refl

  left_is : (x : Option Applied) (n : Option ℕ) (rest : Run Changes Verdict) (u : ℕ) (cs : Changes)
      → or_else (unifier.successor_left self C x n) rest u cs ≡ left_or self C (predecessors x n) rest u cs
  unfolding number_before
  left_is (Some s) (Some (suc n)) rest u cs = by_test (same s.function nat_succ && nat_lt (suc n) (2 ^ 128)) s.argument n rest u cs
  left_is (Some s) (Some zero) rest u cs = refl
  left_is (Some s) None rest u cs = refl
  left_is None n rest u cs = refl

  right_test : (b : Bool) (x : Term) (n : ℕ) (u : ℕ) (cs : Changes)
      → choose b (decides (self C (lit n) x)) (gives undecided) u cs ≡ right_or self C (beside x (some_when b n)) (gives undecided) u cs
  right_test true x n u cs = refl
  right_test false x n u cs = refl

  right_is : (n : Option ℕ) (x : Option Applied) (u : ℕ) (cs : Changes)
      → unifier.successor_right self C n x u cs ≡ right_or self C (predecessors x n) (gives undecided) u cs
  unfolding number_before
  right_is (Some (suc n)) (Some s) u cs = right_test (same s.function nat_succ && nat_lt (suc n) (2 ^ 128)) s.argument n u cs
  right_is (Some zero) (Some s) u cs = refl
  right_is (Some n) None u cs = refl
  right_is None (Some s) u cs = refl
  right_is None None u cs = refl

  lambdas_is : (a b : Term) (p q : Option Binding) (rest : Run Changes Verdict) (u : ℕ) (cs : Changes)
      → or_else (unifier.by_lambdas self C a b p q) rest u cs ≡ lambdas_or self C a b p q rest u cs
  unfolding unify_binders unify_bodies lambda_left lambda_right
  lambdas_is a b (Some p) (Some q) rest u cs = after (unifier.unify_binders self C p.domain p.body q.domain q.body u cs) rest
  lambdas_is a b (Some p) None rest u cs = after (unifier.lambda_left self C p.domain p.body b u cs) rest
  lambdas_is a b None (Some q) rest u cs = after (unifier.lambda_right self C a q.domain q.body u cs) rest
  lambdas_is a b None None rest u cs = refl

  pis_is : (p q : Option Binding) (rest : Run Changes Verdict) (u : ℕ) (cs : Changes)
      → or_else (unifier.by_pis self C p q) rest u cs ≡ pis_or self C (both p q) rest u cs
  unfolding unify_binders unify_bodies
  pis_is (Some p) (Some q) rest u cs = after (unifier.unify_binders self C p.domain p.body q.domain q.body u cs) rest
  pis_is (Some p) None rest u cs = refl
  pis_is None q rest u cs = refl

  sorts_is : (l m : Option Universe) (rest : Run Changes Verdict) (u : ℕ) (cs : Changes)
      → or_else (unifier.by_sorts l m) rest u cs ≡ sorts_or (both l m) rest u cs
  unfolding unify_level unify_level_within
  sorts_is (Some l) (Some m) rest u cs = after (unify_level l m u cs) rest
  sorts_is (Some l) None rest u cs = refl
  sorts_is None m rest u cs = refl

  successors_tower : (a b : Term) (u : ℕ) (cs : Changes)
      → or_else (unifier.successor_left self C (as_application a) (as_literal b)) (unifier.successor_right self C (as_literal a) (as_application b)) u cs
      ≡ by_successors self C a b u cs
  unfolding by_successors
  successors_tower a b u cs =
      then_none (unifier.successor_left self C (as_application a) (as_literal b)) _ _ u cs (right_is (as_literal a) (as_application b))
      ∙ left_is (as_application a) (as_literal b) _ u cs

  lambdas_tower : (a b : Term) (rest : Run Changes Verdict) (u : ℕ) (cs : Changes) → ((v : ℕ) (ds : Changes) → rest v ds ≡ by_successors self C a b v ds)
      → or_else (unifier.by_lambdas self C a b (as_lambda a) (as_lambda b)) rest u cs ≡ by_lambdas self C a b u cs
  unfolding by_lambdas
  lambdas_tower a b rest u cs h =
      then_none (unifier.by_lambdas self C a b (as_lambda a) (as_lambda b)) rest (by_successors self C a b) u cs h
      ∙ lambdas_is a b (as_lambda a) (as_lambda b) _ u cs

  pis_tower : (a b : Term) (rest : Run Changes Verdict) (u : ℕ) (cs : Changes) → ((v : ℕ) (ds : Changes) → rest v ds ≡ by_lambdas self C a b v ds)
      → or_else (unifier.by_pis self C (as_pi a) (as_pi b)) rest u cs ≡ by_pis self C a b u cs
  unfolding by_pis
  pis_tower a b rest u cs h =
      then_none (unifier.by_pis self C (as_pi a) (as_pi b)) rest (by_lambdas self C a b) u cs h ∙ pis_is (as_pi a) (as_pi b) _ u cs

  pub form_tower : (a b : Term) (u : ℕ) (cs : Changes) → unifier.by_form self C a b u cs ≡ by_form self C a b u cs
  unfolding by_form
  form_tower a b u cs =
      then_none (unifier.by_sorts (as_sort a) (as_sort b)) _ (by_pis self C a b) u cs
      (λ v ds. pis_tower a b _ v ds (λ w es. lambdas_tower a b _ w es (successors_tower a b)))
      ∙ sorts_is (as_sort a) (as_sort b) _ u cs
