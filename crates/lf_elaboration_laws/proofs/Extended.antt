-- The extension law of the unifier, rule by rule.
use Rattle.std.proofs.Common.{ℕ, zero, suc, Bool, true, false, nat_eq, List, [], ◌∷◌, length, Option, Some, None, refl}
use Rattle.lf_core.specs.Term.{Path, Universe, Term, bound, free, meta, sort, const, app, lam, pi, letin, lit, proj}
use Rattle.lf_rules.specs.Environment.{Context}
use Rattle.lf_checker.specs.View.{View, body_of}
use Rattle.lf_checker.specs.Extends.{Tells}
use Rattle.lf_checker.specs.Run as checker
use Rattle.lf_checker.specs.Calls.{Calls, Mode, unchecked, Seen, known, unknown, missing, see}
use Rattle.lf_checker.specs.Checker.{calls}
use Rattle.lf_checker.specs.Equal.{Verdict, decided, again, undecided, of_body, definition_seen, definition_of, by_unfolding}
use Rattle.lf_extension_laws.specs.Extension as checking
use Rattle.lf_extension_laws.proofs.Kept as kept_checker
use Rattle.lf_extension_laws.proofs.Extended.{calls_kept}
use Rattle.lf_elaboration.specs.Forms.{Binding, Applied, Projection, as_projection}
use Rattle.lf_elaboration.specs.Metavariables.{Changes, types_of}
use Rattle.lf_elaboration.specs.LevelUnifier.{and_then}
use Rattle.lf_elaboration.specs.Run.{Run, gives, spend, checks, type_unchecked, or_as_before}
use Rattle.lf_elaboration.specs.Unifier.{
  Unify,
  decided_by,
  or_else,
  decides,
  if_true,
  without_metavariables,
  Pattern,
  pattern_type,
  types_unify,
  solve,
  by_pattern,
  by_whnf,
  unify_bodies,
  unify_binders,
  lambda_left,
  lambda_right,
  by_predecessors,
  by_pis,
  by_lambdas,
  successor_left,
  successor_right,
  by_form,
  unify_projections,
  unify_heads,
  unify_all,
  unify_spines,
  by_heads,
  unify_turn,
  unify_loop,
  unify_body,
  unify,
}
use Rattle.lf_elaboration_laws.specs.Extension.{Kept, AgreeUnify, UnifierExtends}
use Rattle.lf_elaboration_laws.proofs.Kept.{kept_self, kept_then, kept_choose, kept_or_fail, kept_spend, kept_checks, kept_before}

ruleset kept = (kept_self, kept_then, kept_choose, kept_or_fail, kept_spend)

ruleset checked = (kept_checker.kept_self, kept_checker.kept_then, kept_checker.kept_choose, kept_checker.kept_caught, kept_checker.kept_spend)

-- unfolding, as the checker's law has it

kept_definition_seen : (U V : View) → Tells V U → (n : Path) (ls : List Universe) (q : Seen) (u : ℕ)
    → checking.Kept (definition_seen U n ls q u) (definition_seen V n ls q u)
kept_definition_seen U V x n ls (known k) u =
    kept_checker.kept_choose (nat_eq (length ls) (length k.levels)) (of_body (body_of U n)) (checker.gives None) (of_body (body_of V n)) (checker.gives None) u
    (kept_checker.kept_body (body_of U n) (body_of V n) (λ b. of_body b u) (λ b. of_body b u) (λ i. refl) (λ b. kept_checker.kept_self (of_body b u))
    (kept_checker.body_kept U V x n)) refl
kept_definition_seen U V x n ls unknown u = refl
kept_definition_seen U V x n ls (missing k) u = tt

kept_definition : (U V : View) → Tells V U → (h : Term) (u : ℕ) → checking.Kept (definition_of U h u) (definition_of V h u)
kept_definition U V x (const n ls) u =
    kept_checker.kept_seen (see U n) (see V n) (λ q. definition_seen U n ls q u) (λ q. definition_seen V n ls q u) (λ k. refl)
    (λ q. kept_definition_seen U V x n ls q u) (kept_checker.see_kept U V x n)
kept_definition U V x _ u = refl

kept_unfolding : (U V : View) → Tells V U → (l r : Term) (u : ℕ) → checking.Kept (by_unfolding U l r u) (by_unfolding V l r u)
kept_unfolding U V x l r u = search (checked, kept_definition U V x) depth 8

module _ (c d : Calls) (a : checking.Agree c d) (f g : Unify) (h : AgreeUnify f g) where
  kept_without : (C : Context) (s t : Term) (u : ℕ) (cs : Changes) → Kept (without_metavariables c C s t u cs) (without_metavariables d C s t u cs)
  kept_without C s t u cs = search (kept, kept_checks, a.equal) depth 10

  kept_type : (C : Context) (t : Term) (u : ℕ) (cs : Changes) → Kept (type_unchecked c C t u cs) (type_unchecked d C t u cs)
  kept_type C t u cs =
      let m : Mode = unchecked (types_of cs) in
      kept_checks (checker.attempt (c.infer m C t)) (checker.attempt (d.infer m C t)) u cs
      (kept_checker.kept_caught (c.infer m C t u) (d.infer m C t u) (a.infer m C t u))

  kept_pattern_type : (C : Context) (p : Pattern) (ks : List ℕ) (q : Term) (u : ℕ) (cs : Changes)
      → Kept (pattern_type c C p ks q u cs) (pattern_type d C p ks q u cs)
  kept_pattern_type C p [] q u cs = refl
  kept_pattern_type C p (k ∷ ks) q u cs = kept_type C q u cs

  kept_types : (C : Context) (A B : Option Term) (u : ℕ) (cs : Changes) → Kept (types_unify f C A B u cs) (types_unify g C A B u cs)
  kept_types C (Some A) (Some B) u cs = h C A B u cs
  kept_types C (Some A) None u cs = refl
  kept_types C None B u cs = refl

  kept_and : (b : Bool) (m n : Run Changes Bool) (u : ℕ) (cs : Changes) → Kept (m u cs) (n u cs) → Kept (and_then b m u cs) (and_then b n u cs)
  kept_and true m n u cs k = k
  kept_and false m n u cs k = refl

  kept_decided : (v : Verdict) (m n : Run Changes Verdict) (u : ℕ) (cs : Changes) → Kept (m u cs) (n u cs)
      → Kept (decided_by v m u cs) (decided_by v n u cs)
  kept_decided undecided m n u cs k = k
  kept_decided (decided r) m n u cs k = refl
  kept_decided (again s t) m n u cs k = refl

  kept_or : (m n k l : Run Changes Verdict) (u : ℕ) (cs : Changes) → Kept (m u cs) (k u cs) → ((v : ℕ) (ds : Changes) → Kept (n v ds) (l v ds))
      → Kept (or_else m n u cs) (or_else k l u cs)
  kept_or m n k l u cs i j = kept_then (m u cs) (k u cs) _ _ i (λ v w ds. kept_decided v n l w ds (j w ds))

  kept_solve : (C : Context) (p : Pattern) (q t : Term) (u : ℕ) (cs : Changes) → Kept (solve c f C p q t u cs) (solve d g C p q t u cs)
  kept_solve C p q t u cs = search (kept, kept_type, kept_pattern_type, kept_types, kept_and) depth 14

  kept_pattern : (C : Context) (o : Option Pattern) (q t : Term) (u : ℕ) (cs : Changes) → Kept (by_pattern c f C o q t u cs) (by_pattern d g C o q t u cs)
  kept_pattern C None q t u cs = refl
  kept_pattern C (Some p) q t u cs = search (kept, kept_solve) depth 8

  kept_whnf : (C : Context) (s t : Term) (u : ℕ) (cs : Changes) → Kept (by_whnf c C s t u cs) (by_whnf d C s t u cs)
  kept_whnf C s t u cs = search (kept, kept_checks, a.whnf) depth 12

  kept_bodies : (C : Context) (A s t : Term) (u : ℕ) (cs : Changes) → Kept (unify_bodies f C A s t u cs) (unify_bodies g C A s t u cs)
  kept_bodies C A s t u cs = search (kept, h) depth 10

  kept_binders : (C : Context) (A s B t : Term) (u : ℕ) (cs : Changes) → Kept (unify_binders f C A s B t u cs) (unify_binders g C A s B t u cs)
  kept_binders C A s B t u cs = search (kept, h, kept_and, kept_bodies) depth 10

  kept_lambda_left : (C : Context) (A s t : Term) (u : ℕ) (cs : Changes) → Kept (lambda_left f C A s t u cs) (lambda_left g C A s t u cs)
  kept_lambda_left C A s t u cs = search (kept, h) depth 10

  kept_lambda_right : (C : Context) (t A s : Term) (u : ℕ) (cs : Changes) → Kept (lambda_right f C t A s u cs) (lambda_right g C t A s u cs)
  kept_lambda_right C t A s u cs = search (kept, h) depth 10

  kept_decides : (m n : Run Changes Bool) (u : ℕ) (cs : Changes) → Kept (m u cs) (n u cs) → Kept (decides m u cs) (decides n u cs)
  kept_decides m n u cs k = kept_then (m u cs) (n u cs) _ _ k (λ r v ds. refl)

  kept_predecessors : (n : ℕ) (t : Term) (m k : Run Changes Bool) (u : ℕ) (cs : Changes) → Kept (m u cs) (k u cs)
      → Kept (by_predecessors n t m u cs) (by_predecessors n t k u cs)
  kept_predecessors n t m k u cs i = search (kept, kept_decides, i) depth 8

  kept_pis : (C : Context) (x y : Option Binding) (u : ℕ) (cs : Changes) → Kept (by_pis f C x y u cs) (by_pis g C x y u cs)
  kept_pis C (Some x) (Some y) u cs = search (kept_decides, kept_binders)
  kept_pis C (Some x) None u cs = refl
  kept_pis C None y u cs = refl

  kept_lambdas : (C : Context) (s t : Term) (x y : Option Binding) (u : ℕ) (cs : Changes) → Kept (by_lambdas f C s t x y u cs) (by_lambdas g C s t x y u cs)
  kept_lambdas C s t (Some x) (Some y) u cs = search (kept_decides, kept_binders)
  kept_lambdas C s t (Some x) None u cs = search (kept_decides, kept_lambda_left)
  kept_lambdas C s t None (Some y) u cs = search (kept_decides, kept_lambda_right)
  kept_lambdas C s t None None u cs = refl

  kept_successor_left : (C : Context) (x : Option Applied) (y : Option ℕ) (u : ℕ) (cs : Changes)
      → Kept (successor_left f C x y u cs) (successor_left g C x y u cs)
  kept_successor_left C (Some x) (Some (suc n)) u cs = search (kept_predecessors, h)
  kept_successor_left C (Some x) (Some zero) u cs = refl
  kept_successor_left C (Some x) None u cs = refl
  kept_successor_left C None y u cs = refl

  kept_successor_right : (C : Context) (x : Option ℕ) (y : Option Applied) (u : ℕ) (cs : Changes)
      → Kept (successor_right f C x y u cs) (successor_right g C x y u cs)
  kept_successor_right C (Some (suc n)) (Some y) u cs = search (kept_predecessors, h)
  kept_successor_right C (Some zero) (Some y) u cs = refl
  kept_successor_right C (Some n) None u cs = refl
  kept_successor_right C None y u cs = refl

  kept_form : (C : Context) (s t : Term) (u : ℕ) (cs : Changes) → Kept (by_form f C s t u cs) (by_form g C s t u cs)
  kept_form C s t u cs = search (kept, kept_decided, kept_pis, kept_lambdas, kept_successor_left, kept_successor_right) depth 20

  kept_projections : (C : Context) (S : Path) (i : ℕ) (t : Term) (x : Option Projection) (u : ℕ) (cs : Changes)
      → Kept (unify_projections f C S i t x u cs) (unify_projections g C S i t x u cs)
  kept_projections C S i t (Some x) u cs = search (kept, h)
  kept_projections C S i t None u cs = refl

  kept_heads : (C : Context) (s t : Term) (u : ℕ) (cs : Changes) → Kept (unify_heads f C s t u cs) (unify_heads g C s t u cs)
  kept_heads C (proj S i s) t u cs = kept_projections C S i s (as_projection t) u cs
  kept_heads C (const n ls) t u cs = kept_self (unify_heads g C (const n ls) t u cs)
  kept_heads C (free k) t u cs = refl
  kept_heads C (meta k) t u cs = refl
  kept_heads C (bound k) t u cs = refl
  kept_heads C (sort l) t u cs = refl
  kept_heads C (app r s) t u cs = refl
  kept_heads C (lam x A s) t u cs = refl
  kept_heads C (pi x A B) t u cs = refl
  kept_heads C (letin x A v s) t u cs = refl
  kept_heads C (lit n) t u cs = refl

  kept_all : (C : Context) (xs ys : List Term) (u : ℕ) (cs : Changes) → Kept (unify_all f C xs ys u cs) (unify_all g C xs ys u cs)
  kept_all C [] [] u cs = refl
  kept_all C (x ∷ xs) (y ∷ ys) u cs = search (kept, h, kept_and, kept_all C xs ys) depth 10
  kept_all C [] (y ∷ ys) u cs = refl
  kept_all C (x ∷ xs) [] u cs = refl

  kept_spines : (C : Context) (s t : Term) (u : ℕ) (cs : Changes) → Kept (unify_spines f C s t u cs) (unify_spines g C s t u cs)
  kept_spines C s t u cs = search (kept, kept_heads, kept_and, kept_all) depth 10

  kept_or_before : (m n : Run Changes Bool) (u : ℕ) (cs : Changes) → Kept (m u cs) (n u cs) → Kept (or_as_before m u cs) (or_as_before n u cs)
  kept_or_before m n u cs k = kept_before cs (m u cs) (n u cs) k

  kept_if_true : (m n : Run Changes Bool) (u : ℕ) (cs : Changes) → Kept (m u cs) (n u cs) → Kept (if_true m u cs) (if_true n u cs)
  kept_if_true m n u cs k = kept_then (m u cs) (n u cs) _ _ k (λ r v ds. refl)

  kept_by_heads : (C : Context) (s t : Term) (u : ℕ) (cs : Changes) → Kept (by_heads f C s t u cs) (by_heads g C s t u cs)
  kept_by_heads C s t u cs = search (kept, kept_if_true, kept_or_before, kept_spines) depth 10

  module _ (U V : View) (x : Tells V U) where
    kept_unfold : (s t : Term) (u : ℕ) (cs : Changes) → Kept (checks (by_unfolding U s t) u cs) (checks (by_unfolding V s t) u cs)
    kept_unfold s t u cs = kept_checks (by_unfolding U s t) (by_unfolding V s t) u cs (kept_unfolding U V x s t u)

    kept_turn : (C : Context) (s t : Term) (u : ℕ) (cs : Changes) → Kept (unify_turn U c f C s t u cs) (unify_turn V d g C s t u cs)
    kept_turn C s t u cs =
        search (kept, kept_decided, kept_without, kept_pattern, kept_whnf, kept_form, kept_by_heads, kept_unfold) depth 40

    kept_loop : (C : Context) (n : ℕ) (s t : Term) (u : ℕ) (cs : Changes) → Kept (unify_loop U c f C n s t u cs) (unify_loop V d g C n s t u cs)
    kept_loop C zero s t u cs = refl
    kept_loop C (suc n) s t u cs = kept_then (unify_turn U c f C s t u cs) (unify_turn V d g C s t u cs) _ _ (kept_turn C s t u cs)
        (more (λ y z v ds. kept_loop C n y z v ds))
      where
        more : ((y z : Term) (v : ℕ) (ds : Changes) → Kept (unify_loop U c f C n y z v ds) (unify_loop V d g C n y z v ds))
            → (r : Verdict) (v : ℕ) (ds : Changes)
            → Kept ((elim r as (λ q. Run Changes Bool) [ decided b ↦ gives b | again y z ↦ unify_loop U c f C n y z | undecided ↦ gives false ]) v ds)
            ((elim r as (λ q. Run Changes Bool) [ decided b ↦ gives b | again y z ↦ unify_loop V d g C n y z | undecided ↦ gives false ]) v ds)
        more k (decided b) v ds = refl
        more k (again y z) v ds = k y z v ds
        more k undecided v ds = refl

    kept_body : (C : Context) (s t : Term) (u : ℕ) (cs : Changes) → Kept (unify_body U c f C s t u cs) (unify_body V d g C s t u cs)
    unfolding unify_body
    kept_body C s t u cs = search (kept, kept_loop) depth 10

pub unifier_extends : UnifierExtends
unifier_extends U V x zero C s t u cs = refl
unifier_extends U V x (suc n) C s t u cs =
    let m : Run Changes Bool = unify_body U (calls U n) (unify U n) C s t in
    let k : Run Changes Bool = unify_body V (calls V n) (unify V n) C s t in
    kept_before cs (spend 1 m u cs) (spend 1 k u cs) (kept_spend 1 m k u cs
    (λ v. kept_body (calls U n) (calls V n) (calls_kept U V x n) (unify U n) (unify V n) (unifier_extends U V x n) U V x C s t v cs))
