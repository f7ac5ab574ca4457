-- The extension law of the steps of proofs: induction and cases, injection, and those that only look at the goal.
use Rattle.std.proofs.Common.{ℕ, ◌-◌, Bool, List, [], ◌∷◌, length, reverse, ◌≡◌, Option, Some, None, refl, subst, sym}
use Rattle.lf_core.specs.Term.{Path, Universe, Term}
use Rattle.lf_core.specs.declared.constant.TaskKey.{TaskKey}
use Rattle.lf_rules.specs.Environment.{Context}
use Rattle.lf_checker.specs.View.{View}
use Rattle.lf_checker.specs.Extends.{Shape, Tells}
use Rattle.lf_checker.specs.Run.{Answer, need, Run}
use Rattle.lf_checker.specs.Calls.{Calls, Seen, known, unknown, missing, see}
use Rattle.lf_extension_laws.specs.Extension.{Kept, Agree}
use Rattle.lf_extension_laws.proofs.Kept.{kept_self, kept_then, kept_spend, kept_choose, see_kept, kept_seen, SameSeen}
use Rattle.lf_elaboration.specs.Forms.{Binding, as_pi, Instance}
use Rattle.lf_elaboration.specs.Step.{intro, latest_of, assumption}
use Rattle.lf_elaboration.specs.Equations.{Equation}
use Rattle.lf_elaboration.specs.Induction.{
  Target,
  target_seen,
  target_of,
  allows,
  recursor_of,
  fields_seen,
  case_at,
  Cases,
  cases_for,
  at_motive,
  by_recursor,
  by_target,
  induct,
}
use Rattle.lf_elaboration.specs.Injection.{injectivity_of, built_alike, when_made, by_injectivity, by_constructors, by_sides, by_equation, inject}
use Rattle.lf_elaboration_laws.proofs.Parts.{realized_kept}

ruleset kept = (kept_self, kept_then, kept_spend, kept_choose)

-- A run by what is seen of a constant, that waits for what is missing.
by_seen : {A : Type 0} (s t : Seen) (f g : Seen → Answer A) → ((k : Shape) → s ≡ known k → Kept (f (known k)) (g (known k))) → Kept (f unknown) (g unknown)
    → ((k : TaskKey) → f (missing k) ≡ need k) → SameSeen s t → Kept (f s) (g t)
by_seen (known k) t f g h w m e = subst (λ r. Kept (f (known k)) (g r)) e (h k refl)
by_seen unknown t f g h w m e = subst (λ r. Kept (f unknown) (g r)) e w
by_seen (missing k) t f g h w m e = subst (λ r. Kept r (g t)) (sym (m k)) tt

module _ (U V : View) (x : Tells V U) (c d : Calls) (a : Agree c d) where
  pub kept_intro : (C : Context) (goal : Term) (u : ℕ) → Kept (intro c C goal u) (intro d C goal u)
  kept_intro C goal u = search (kept, a.whnf) depth 8

  kept_latest : (C : Context) (goal : Term) (n : ℕ) (As : List Term) (u : ℕ) → Kept (latest_of c C goal n As u) (latest_of d C goal n As u)
  kept_latest C goal n [] u = refl
  kept_latest C goal n (A ∷ As) u =
      let rest : (v : ℕ) → Kept (latest_of c C goal (n - 1) As v) (latest_of d C goal (n - 1) As v) = λ v. kept_latest C goal (n - 1) As v in
      search (kept, a.equal, rest) depth 8

  pub kept_assumption : (C : Context) (goal : Term) (u : ℕ) → Kept (assumption c C goal u) (assumption d C goal u)
  kept_assumption C goal u = kept_latest C goal (length C) (reverse C) u

  -- ---- Induction and cases

  kept_target : (C : Context) (n : ℕ) (o : Option Instance) (xs : List Term) (u : ℕ) → Kept (target_of U C n o xs u) (target_of V C n o xs u)
  kept_target C n (Some I) xs u = kept_seen (see U I.name) (see V I.name) (λ q. target_seen C n I xs q u) (λ q. target_seen C n I xs q u) (λ k. refl)
      (λ q. kept_self (target_seen C n I xs q u)) (see_kept U V x I.name)
  kept_target C n None xs u = refl

  kept_fields : (n : Path) (u : ℕ) → Kept (fields_seen (see U n) u) (fields_seen (see V n) u)
  kept_fields n u = kept_seen (see U n) (see V n) (λ q. fields_seen q u) (λ q. fields_seen q u) (λ k. refl) (λ q. kept_self (fields_seen q u))
      (see_kept U V x n)

  kept_case : (h : Bool) (M : Term) (o : Option ℕ) (p : Option Binding) (f g : Term → Run (Option Cases)) → ((T : Term) (u : ℕ) → Kept (f T u) (g T u))
      → (u : ℕ) → Kept (case_at h M o p f u) (case_at h M o p g u)
  kept_case h M (Some n) (Some p) f g i u = search (kept, i) depth 10
  kept_case h M (Some n) None f g i u = refl
  kept_case h M None p f g i u = refl

  kept_cases : (h : Bool) (M : Term) (ns : List Path) (T : Term) (u : ℕ) → Kept (cases_for U h M ns T u) (cases_for V h M ns T u)
  kept_cases h M [] T u = refl
  kept_cases h M (n ∷ ns) T u =
      kept_then (fields_seen (see U n) u) (fields_seen (see V n) u) _ _ (kept_fields n u)
      (λ o v. kept_case h M o (as_pi T) (cases_for U h M ns) (cases_for V h M ns) (λ S w. kept_cases h M ns S w) v)

  kept_motive : (goal : Term) (l : Universe) (h : Bool) (t : Target) (o : Option Binding) (u : ℕ)
      → Kept (at_motive U goal l h t o u) (at_motive V goal l h t o u)
  kept_motive goal l h t None u = refl
  kept_motive goal l h t (Some p) u = search (kept, kept_cases) depth 14

  kept_recursor : (goal : Term) (l : Universe) (h : Bool) (t : Target) (s r : Seen) → SameSeen s r → (u : ℕ)
      → Kept (by_recursor U goal l h t s u) (by_recursor V goal l h t r u)
  kept_recursor goal l h t s r e u =
      by_seen s r (λ q. by_recursor U goal l h t q u) (λ q. by_recursor V goal l h t q u) (λ k i. known_recursor k) refl (λ k. refl) e
    where
      known_recursor : (k : Shape) → Kept (by_recursor U goal l h t (known k) u) (by_recursor V goal l h t (known k) u)
      known_recursor k = search (kept, kept_motive) depth 12

  kept_by_target : (goal : Term) (l : Universe) (h : Bool) (o : Option Target) (u : ℕ) → Kept (by_target U goal l h o u) (by_target V goal l h o u)
  kept_by_target goal l h None u = refl
  kept_by_target goal l h (Some t) u = kept_choose (allows t l) _ _ _ _ u
      (kept_recursor goal l h t (see U (recursor_of t)) (see V (recursor_of t)) (see_kept U V x (recursor_of t)) u) refl

  pub kept_induct : (C : Context) (goal : Term) (l : Universe) (n : ℕ) (A : Term) (h : Bool) (u : ℕ)
      → Kept (induct U c C goal l n A h u) (induct V d C goal l n A h u)
  kept_induct C goal l n A h u = search (kept, a.whnf, kept_target, kept_by_target) depth 12

  -- ---- Injection

  kept_injectivity : (goal : Term) (n : Path) (ls : List Universe) (xs : List Term) (u : ℕ)
      → Kept (by_injectivity U goal n ls xs (see U n) u) (by_injectivity V goal n ls xs (see V n) u)
  kept_injectivity goal n ls xs u =
      by_seen (see U n) (see V n) (λ q. by_injectivity U goal n ls xs q u) (λ q. by_injectivity V goal n ls xs q u) at refl (λ k. refl) (see_kept U V x n)
    where
      at : (k : Shape) → see U n ≡ known k → Kept (by_injectivity U goal n ls xs (known k) u) (by_injectivity V goal n ls xs (known k) u)
      at k e = subst (λ b. Kept (by_injectivity U goal n ls xs (known k) u) (when_made b goal n ls xs k.ty u)) (realized_kept U V x n k e)
          (kept_self (by_injectivity U goal n ls xs (known k) u))

  kept_constructors : (goal : Term) (n : ℕ) (i j : Instance) (xs ys : List Term) (u : ℕ)
      → Kept (by_constructors U goal n i j xs ys (see U i.name) u) (by_constructors V goal n i j xs ys (see V i.name) u)
  kept_constructors goal n i j xs ys u =
      by_seen (see U i.name) (see V i.name) (λ q. by_constructors U goal n i j xs ys q u) (λ q. by_constructors V goal n i j xs ys q u) at refl (λ k. refl)
      (see_kept U V x i.name)
    where
      at : (k : Shape) → see U i.name ≡ known k → Kept (by_constructors U goal n i j xs ys (known k) u) (by_constructors V goal n i j xs ys (known k) u)
      at k e = kept_choose (built_alike i j xs ys k.detail) _ _ _ _ u (kept_injectivity goal (injectivity_of i.name) i.levels _ u) refl

  kept_sides : (goal : Term) (n : ℕ) (i j : Option Instance) (xs ys : List Term) (u : ℕ)
      → Kept (by_sides U goal n i j xs ys u) (by_sides V goal n i j xs ys u)
  kept_sides goal n (Some i) (Some j) xs ys u = kept_constructors goal n i j xs ys u
  kept_sides goal n (Some i) None xs ys u = refl
  kept_sides goal n None j xs ys u = refl

  kept_by_equation : (C : Context) (goal : Term) (n : ℕ) (o : Option Equation) (u : ℕ) → Kept (by_equation U c C goal n o u) (by_equation V d C goal n o u)
  kept_by_equation C goal n None u = refl
  kept_by_equation C goal n (Some q) u = search (kept, a.whnf, kept_sides) depth 10

  pub kept_inject : (C : Context) (goal : Term) (n : ℕ) (A : Term) (u : ℕ) → Kept (inject U c C goal n A u) (inject V d C goal n A u)
  kept_inject C goal n A u = search (kept, a.whnf, kept_by_equation) depth 8
