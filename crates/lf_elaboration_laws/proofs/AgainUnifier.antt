-- The unifier with more nesting and more units, rule by rule.
use Rattle.std.proofs.Common.{◌≡◌, ℕ, zero, suc, ◌+◌, Bool, false, if◌then◌else◌, List, [], ◌∷◌, Option, Some, None, refl, subst, arith}
use Rattle.lf_core.specs.Term.{Path, Universe, Term, bound, free, meta, sort, const, app, lam, pi, letin, lit, proj}
use Rattle.lf_rules.specs.Environment.{Context}
use Rattle.lf_checker.specs.View.{View}
use Rattle.lf_checker.specs.Calls.{Calls}
use Rattle.lf_checker.specs.Checker.{calls}
use Rattle.lf_checker.specs.Equal.{Verdict, decided, again, undecided}
use Rattle.lf_elaboration.specs.Forms.{Binding, Instance, Applied, Projection, as_constant, as_projection}
use Rattle.lf_elaboration.specs.Metavariables.{Changes}
use Rattle.lf_elaboration.specs.Run.{Run, gives, spend, or_as_before, type_unchecked}
use Rattle.lf_elaboration.specs.Unifier.{
  Unify,
  decided_by,
  or_else,
  decides,
  if_true,
  without_metavariables,
  Pattern,
  pattern_type,
  types_unify,
  solve,
  by_pattern,
  by_whnf,
  unify_bodies,
  unify_binders,
  lambda_left,
  lambda_right,
  by_predecessors,
  by_sorts,
  by_pis,
  by_lambdas,
  successor_left,
  successor_right,
  by_form,
  unify_constants,
  unify_projections,
  unify_heads,
  unify_all,
  unify_spines,
  by_heads,
  unify_turn,
  unify_loop,
  unify_body,
  unify,
}
use Rattle.lf_extension_laws.specs.Enough.{Suffice}
use Rattle.lf_extension_laws.proofs.Enough.{enough_done, enough_then, enough_spend, enough_caught, enough_choose, enough_put, enough_made, enough_opening}
use Rattle.lf_extension_laws.proofs.EnoughEqual.{enough_unfolding, calls_suffice}
use Rattle.lf_elaboration_laws.specs.Enough.{Again, UnifierAgain}
use Rattle.lf_elaboration_laws.proofs.Again.{
  again_done,
  again_then,
  again_choose,
  again_spend,
  again_checks,
  again_refused,
  again_before,
  again_and,
  again_level,
  again_levels,
  again_instantiated,
  again_abstraction,
}

ruleset anew = (again_done, again_then, again_choose, again_checks, again_refused)

-- What is asked of the checker.
ruleset only = (enough_done, enough_then, enough_spend, enough_caught, enough_choose, enough_put, enough_made, enough_opening)

module _ (V : View) (extra : ℕ) (c d : Calls) (a : Suffice extra c d) (f g : Unify)
    (h : (C : Context) (s t : Term) (u : ℕ) (cs : Changes) → Again extra (f C s t u cs) (g C s t (u + extra) cs)) where
  again_without : (C : Context) (s t : Term) (u : ℕ) (cs : Changes)
      → Again extra (without_metavariables c C s t u cs) (without_metavariables d C s t (u + extra) cs)
  again_without C s t u cs = search (anew, only, again_checks, a.equal) depth 14

  again_type : (C : Context) (t : Term) (u : ℕ) (cs : Changes) → Again extra (type_unchecked c C t u cs) (type_unchecked d C t (u + extra) cs)
  again_type C t u cs = search (anew, only, a.infer) depth 14

  again_pattern_type : (C : Context) (p : Pattern) (ks : List ℕ) (q : Term) (u : ℕ) (cs : Changes)
      → Again extra (pattern_type c C p ks q u cs) (pattern_type d C p ks q (u + extra) cs)
  again_pattern_type C p [] q u cs = refl
  again_pattern_type C p (k ∷ ks) q u cs = again_type C q u cs

  again_types : (C : Context) (A B : Option Term) (u : ℕ) (cs : Changes) → Again extra (types_unify f C A B u cs) (types_unify g C A B (u + extra) cs)
  again_types C (Some A) (Some B) u cs = h C A B u cs
  again_types C (Some A) None u cs = refl
  again_types C None B u cs = refl

  again_decided : (v : Verdict) (m n : Run Changes Verdict) (u : ℕ) (cs : Changes) → Again extra (m u cs) (n (u + extra) cs)
      → Again extra (decided_by v m u cs) (decided_by v n (u + extra) cs)
  again_decided undecided m n u cs k = k
  again_decided (decided r) m n u cs k = refl
  again_decided (again s t) m n u cs k = refl

  again_or : (m n k l : Run Changes Verdict) (u : ℕ) (cs : Changes) → Again extra (m u cs) (k (u + extra) cs)
      → ((v : ℕ) (ds : Changes) → Again extra (n v ds) (l (v + extra) ds))
      → Again extra (or_else m n u cs) (or_else k l (u + extra) cs)
  again_or m n k l u cs i j = again_then extra (m u cs) _ _ _ i (λ v w ds. again_decided v n l w ds (j w ds))

  again_solve : (C : Context) (p : Pattern) (q t : Term) (u : ℕ) (cs : Changes) → Again extra (solve c f C p q t u cs) (solve d g C p q t (u + extra) cs)
  again_solve C p q t u cs = search (anew, only, again_type, again_pattern_type, again_types, again_and extra, again_abstraction extra) depth 18

  again_pattern : (C : Context) (o : Option Pattern) (q t : Term) (u : ℕ) (cs : Changes)
      → Again extra (by_pattern c f C o q t u cs) (by_pattern d g C o q t (u + extra) cs)
  again_pattern C None q t u cs = refl
  again_pattern C (Some p) q t u cs = search (anew, only, again_solve) depth 12

  again_whnf : (C : Context) (s t : Term) (u : ℕ) (cs : Changes) → Again extra (by_whnf c C s t u cs) (by_whnf d C s t (u + extra) cs)
  again_whnf C s t u cs = search (anew, only, again_checks, a.whnf) depth 16

  again_bodies : (C : Context) (A s t : Term) (u : ℕ) (cs : Changes) → Again extra (unify_bodies f C A s t u cs) (unify_bodies g C A s t (u + extra) cs)
  again_bodies C A s t u cs = search (anew, only, h) depth 14

  again_binders : (C : Context) (A s B t : Term) (u : ℕ) (cs : Changes)
      → Again extra (unify_binders f C A s B t u cs) (unify_binders g C A s B t (u + extra) cs)
  again_binders C A s B t u cs = search (anew, only, h, again_and extra, again_bodies) depth 14

  again_lambda_left : (C : Context) (A s t : Term) (u : ℕ) (cs : Changes) → Again extra (lambda_left f C A s t u cs) (lambda_left g C A s t (u + extra) cs)
  again_lambda_left C A s t u cs = search (anew, only, h) depth 14

  again_lambda_right : (C : Context) (t A s : Term) (u : ℕ) (cs : Changes) → Again extra (lambda_right f C t A s u cs) (lambda_right g C t A s (u + extra) cs)
  again_lambda_right C t A s u cs = search (anew, only, h) depth 14

  again_decides : (m n : Run Changes Bool) (u : ℕ) (cs : Changes) → Again extra (m u cs) (n (u + extra) cs)
      → Again extra (decides m u cs) (decides n (u + extra) cs)
  again_decides m n u cs k = again_then extra (m u cs) _ _ _ k (λ r v ds. refl)

  again_predecessors : (n : ℕ) (t : Term) (m k : Run Changes Bool) (u : ℕ) (cs : Changes) → Again extra (m u cs) (k (u + extra) cs)
      → Again extra (by_predecessors n t m u cs) (by_predecessors n t k (u + extra) cs)
  again_predecessors n t m k u cs i = search (anew, only, again_decides, i) depth 12

  again_pis : (C : Context) (x y : Option Binding) (u : ℕ) (cs : Changes) → Again extra (by_pis f C x y u cs) (by_pis g C x y (u + extra) cs)
  again_pis C (Some x) (Some y) u cs = search (again_decides, again_binders)
  again_pis C (Some x) None u cs = refl
  again_pis C None y u cs = refl

  again_lambdas : (C : Context) (s t : Term) (x y : Option Binding) (u : ℕ) (cs : Changes)
      → Again extra (by_lambdas f C s t x y u cs) (by_lambdas g C s t x y (u + extra) cs)
  again_lambdas C s t (Some x) (Some y) u cs = search (again_decides, again_binders)
  again_lambdas C s t (Some x) None u cs = search (again_decides, again_lambda_left)
  again_lambdas C s t None (Some y) u cs = search (again_decides, again_lambda_right)
  again_lambdas C s t None None u cs = refl

  again_successor_left : (C : Context) (x : Option Applied) (y : Option ℕ) (u : ℕ) (cs : Changes)
      → Again extra (successor_left f C x y u cs) (successor_left g C x y (u + extra) cs)
  again_successor_left C (Some x) (Some (suc n)) u cs = search (again_predecessors, h)
  again_successor_left C (Some x) (Some zero) u cs = refl
  again_successor_left C (Some x) None u cs = refl
  again_successor_left C None y u cs = refl

  again_successor_right : (C : Context) (x : Option ℕ) (y : Option Applied) (u : ℕ) (cs : Changes)
      → Again extra (successor_right f C x y u cs) (successor_right g C x y (u + extra) cs)
  again_successor_right C (Some (suc n)) (Some y) u cs = search (again_predecessors, h)
  again_successor_right C (Some zero) (Some y) u cs = refl
  again_successor_right C (Some n) None u cs = refl
  again_successor_right C None y u cs = refl

  again_constants : (n : Path) (ls : List Universe) (x : Option Instance) (u : ℕ) (cs : Changes)
      → Again extra (unify_constants n ls x u cs) (unify_constants n ls x (u + extra) cs)
  again_constants n ls (Some x) u cs = search (anew, only, again_levels extra) depth 8
  again_constants n ls None u cs = refl

  again_sorts : (x y : Option Universe) (u : ℕ) (cs : Changes) → Again extra (by_sorts x y u cs) (by_sorts x y (u + extra) cs)
  again_sorts (Some l) (Some m) u cs = search (anew, only, again_level extra) depth 10
  again_sorts (Some l) None u cs = refl
  again_sorts None y u cs = refl

  again_form : (C : Context) (s t : Term) (u : ℕ) (cs : Changes) → Again extra (by_form f C s t u cs) (by_form g C s t (u + extra) cs)
  again_form C s t u cs = search (anew, only, again_decided, again_sorts, again_pis, again_lambdas, again_successor_left, again_successor_right) depth 24

  again_projections : (C : Context) (S : Path) (i : ℕ) (t : Term) (x : Option Projection) (u : ℕ) (cs : Changes)
      → Again extra (unify_projections f C S i t x u cs) (unify_projections g C S i t x (u + extra) cs)
  again_projections C S i t (Some x) u cs = search (anew, only, h)
  again_projections C S i t None u cs = refl

  again_heads : (C : Context) (s t : Term) (u : ℕ) (cs : Changes) → Again extra (unify_heads f C s t u cs) (unify_heads g C s t (u + extra) cs)
  again_heads C (proj S i s) t u cs = again_projections C S i s (as_projection t) u cs
  again_heads C (const n ls) t u cs = again_constants n ls (as_constant t) u cs
  again_heads C (free k) t u cs = refl
  again_heads C (meta k) t u cs = refl
  again_heads C (bound k) t u cs = refl
  again_heads C (sort l) t u cs = refl
  again_heads C (app r s) t u cs = refl
  again_heads C (lam x A s) t u cs = refl
  again_heads C (pi x A B) t u cs = refl
  again_heads C (letin x A v s) t u cs = refl
  again_heads C (lit n) t u cs = refl

  again_all : (C : Context) (xs ys : List Term) (u : ℕ) (cs : Changes) → Again extra (unify_all f C xs ys u cs) (unify_all g C xs ys (u + extra) cs)
  again_all C [] [] u cs = refl
  again_all C (x ∷ xs) (y ∷ ys) u cs = search (anew, only, h, again_and extra, again_all C xs ys) depth 14
  again_all C [] (y ∷ ys) u cs = refl
  again_all C (x ∷ xs) [] u cs = refl

  again_spines : (C : Context) (s t : Term) (u : ℕ) (cs : Changes) → Again extra (unify_spines f C s t u cs) (unify_spines g C s t (u + extra) cs)
  again_spines C s t u cs = search (anew, only, again_heads, again_and extra, again_all) depth 14

  again_or_before : (m n : Run Changes Bool) (u : ℕ) (cs : Changes) → Again extra (m u cs) (n (u + extra) cs)
      → Again extra (or_as_before m u cs) (or_as_before n (u + extra) cs)
  again_or_before m n u cs k = again_before extra cs (m u cs) _ k

  again_if_true : (m n : Run Changes Bool) (u : ℕ) (cs : Changes) → Again extra (m u cs) (n (u + extra) cs)
      → Again extra (if_true m u cs) (if_true n (u + extra) cs)
  again_if_true m n u cs k = again_then extra (m u cs) _ _ _ k (λ r v ds. refl)

  again_by_heads : (C : Context) (s t : Term) (u : ℕ) (cs : Changes) → Again extra (by_heads f C s t u cs) (by_heads g C s t (u + extra) cs)
  again_by_heads C s t u cs = search (anew, only, again_if_true, again_or_before, again_spines) depth 14

  again_turn : (C : Context) (s t : Term) (u : ℕ) (cs : Changes) → Again extra (unify_turn V c f C s t u cs) (unify_turn V d g C s t (u + extra) cs)
  again_turn C s t u cs =
      search (anew, only, again_decided, again_without, again_pattern, again_whnf, again_form, again_by_heads, enough_unfolding V extra) depth 44

  again_loop : (C : Context) (n : ℕ) (s t : Term) (u : ℕ) (cs : Changes) → Again extra (unify_loop V c f C n s t u cs) (unify_loop V d g C n s t (u + extra) cs)
  again_loop C zero s t u cs = tt
  again_loop C (suc n) s t u cs = again_then extra (unify_turn V c f C s t u cs) _ _ _ (again_turn C s t u cs)
      (more (λ y z v ds. again_loop C n y z v ds))
    where
      more : ((y z : Term) (v : ℕ) (ds : Changes) → Again extra (unify_loop V c f C n y z v ds) (unify_loop V d g C n y z (v + extra) ds))
          → (r : Verdict) (v : ℕ) (ds : Changes)
          → Again extra ((elim r as (λ q. Run Changes Bool) [ decided b ↦ gives b | again y z ↦ unify_loop V c f C n y z | undecided ↦ gives false ]) v ds)
          ((elim r as (λ q. Run Changes Bool) [ decided b ↦ gives b | again y z ↦ unify_loop V d g C n y z | undecided ↦ gives false ]) (v + extra) ds)
      more k (decided b) v ds = refl
      more k (again y z) v ds = k y z v ds
      more k undecided v ds = refl

  again_body : (C : Context) (s t : Term) (u : ℕ) (cs : Changes) → Again extra (unify_body V c f C s t u cs) (unify_body V d g C s t (u + extra) cs)
  unfolding unify_body
  again_body C s t u cs = search (anew, only, again_instantiated extra, again_loop) depth 14

pub unifier_again : UnifierAgain
unifier_again V zero deeper k C s t u cs = tt
unifier_again V (suc n) deeper k C s t u cs =
    let m : Run Changes Bool = unify_body V (calls V n) (unify V n) C s t in
    let i : Run Changes Bool = unify_body V (calls V (n + deeper)) (unify V (n + deeper)) C s t in
    let e : suc (n + deeper) ≡ suc n + deeper = omega arith in
    subst (λ d. Again k (unify V (suc n) C s t u cs) (unify V d C s t (u + k) cs)) e
    (again_before k cs (spend 1 m u cs) (spend 1 i (u + k) cs) (again_spend k 1 m i u cs
    (λ v. again_body V k (calls V n) (calls V (n + deeper)) (calls_suffice V k n deeper) (unify V n) (unify V (n + deeper))
    (λ D y z w ds. unifier_again V n deeper k D y z w ds) C s t v cs)))
