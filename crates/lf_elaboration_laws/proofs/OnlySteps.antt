-- What the steps of proofs wait for.
use Rattle.std.proofs.Common.{ℕ, ◌-◌, Bool, true, false, List, [], ◌∷◌, length, reverse, Option, Some, None}
use Rattle.lf_core.specs.Term.{Path, Universe, Term}
use Rattle.lf_core.specs.declared.constant.TaskKey.{TaskKey}
use Rattle.lf_rules.specs.Environment.{Context}
use Rattle.lf_checker.specs.View.{View}
use Rattle.lf_checker.specs.Run.{Run}
use Rattle.lf_checker.specs.Calls.{Calls, Seen, known, unknown, missing, see}
use Rattle.lf_extension_laws.proofs.Only.{Only, SeenIn, Reads, Asks, only_then, only_spend, only_caught, only_choose, only_put, only_made, only_opening}
use Rattle.lf_elaboration.specs.Forms.{Binding, as_pi, Instance}
use Rattle.lf_elaboration.specs.Step.{Step, padded, padded_all, proof_by, intro, latest_of, assumption}
use Rattle.lf_elaboration.specs.Equations.{Equation, by_motive, rewritten}
use Rattle.lf_elaboration.specs.Motive.{motive}
use Rattle.lf_elaboration.specs.Induction.{
  Target,
  target_seen,
  target_of,
  allows,
  recursor_of,
  abstracted,
  at_argument,
  codomain_at,
  fields_seen,
  case_at,
  Cases,
  cases_for,
  by_cases,
  at_motive,
  by_recursor,
  by_target,
  induct,
}
use Rattle.lf_elaboration.specs.Injection.{injectivity_of, built_alike, injected, when_made, by_injectivity, by_constructors, by_sides, by_equation, inject}
use Rattle.lf_elaboration.specs.Identifiers.{is_realized}

ruleset only = (only_then, only_spend, only_caught, only_choose, only_put, only_made, only_opening)

module _ (Key : TaskKey → Type 0) where
  -- ---- Steps that read no view

  only_padded : (g : Term) (p : Option Term) (u : ℕ) → Only true Key (padded g p u)
  only_padded g None u = tt
  only_padded g (Some p) u = search (only) depth 6

  only_padded_all : (gs : List Term) (ps : List (Option Term)) (u : ℕ) → Only true Key (padded_all gs ps u)
  only_padded_all [] ps u = tt
  only_padded_all (g ∷ gs) [] u = tt
  only_padded_all (g ∷ gs) (p ∷ ps) u = search (only, only_padded, only_padded_all gs ps) depth 8

  pub only_proof : (s : Step) (gs : List Term) (u : ℕ) → Only true Key (proof_by s gs u)
  only_proof s gs u = search (only, only_padded_all) depth 8

  only_by_motive : (q : Equation) (h : Term) (o : Option Term) (u : ℕ) → Only true Key (by_motive q h o u)
  only_by_motive q h None u = tt
  only_by_motive q h (Some t) u = search (only) depth 14

  pub only_rewritten : (goal : Term) (q : Equation) (h : Term) (u : ℕ) → Only true Key (rewritten goal q h u)
  only_rewritten goal q h u = only_by_motive q h (motive goal q.left) u

  only_abstracted : (ks : List ℕ) (t : Term) (u : ℕ) → Only true Key (abstracted ks t u)
  only_abstracted [] t u = tt
  only_abstracted (k ∷ ks) t u = search (only, λ (b : Term) (v : ℕ). only_abstracted ks b v) depth 8

  only_at_argument : (o : Option Binding) (t : Term) (f : Term → Run (Option Term)) → ((B : Term) (u : ℕ) → Only true Key (f B u)) → (u : ℕ)
      → Only true Key (at_argument o t f u)
  only_at_argument (Some p) t f h u = search (only, h) depth 8
  only_at_argument None t f h u = tt

  pub only_codomain : (xs : List Term) (T : Term) (u : ℕ) → Only true Key (codomain_at xs T u)
  only_codomain [] T u = tt
  only_codomain (x ∷ xs) T u = only_at_argument (as_pi T) x (codomain_at xs) (only_codomain xs) u

  module _ (c : Calls) (a : Asks Key c) where
    pub only_intro : (C : Context) (goal : Term) (u : ℕ) → Only true Key (intro c C goal u)
    only_intro C goal u = search (only, a.whnf) depth 8

    only_latest : (C : Context) (goal : Term) (n : ℕ) (As : List Term) (u : ℕ) → Only true Key (latest_of c C goal n As u)
    only_latest C goal n [] u = tt
    only_latest C goal n (A ∷ As) u =
        let rest : (v : ℕ) → Only true Key (latest_of c C goal (n - 1) As v) = λ v. only_latest C goal (n - 1) As v in
        search (only, a.equal, rest) depth 8

    pub only_assumption : (C : Context) (goal : Term) (u : ℕ) → Only true Key (assumption c C goal u)
    only_assumption C goal u = only_latest C goal (length C) (reverse C) u

module _ (V : View) (Key : TaskKey → Type 0) (reads : Reads V Key) (c : Calls) (a : Asks Key c) where
  -- ---- Induction and cases

  only_target_seen : (C : Context) (n : ℕ) (I : Instance) (xs : List Term) (q : Seen) (u : ℕ) → SeenIn Key q → Only true Key (target_seen C n I xs q u)
  only_target_seen C n I xs (known k) u h = tt
  only_target_seen C n I xs unknown u h = tt
  only_target_seen C n I xs (missing k) u h = h

  only_target : (C : Context) (n : ℕ) (o : Option Instance) (xs : List Term) (u : ℕ) → Only true Key (target_of V C n o xs u)
  only_target C n (Some I) xs u = only_target_seen C n I xs (see V I.name) u (reads.sees I.name)
  only_target C n None xs u = tt

  only_fields : (q : Seen) (u : ℕ) → SeenIn Key q → Only true Key (fields_seen q u)
  only_fields (known k) u h = tt
  only_fields unknown u h = tt
  only_fields (missing k) u h = h

  only_case : (h : Bool) (M : Term) (o : Option ℕ) (p : Option Binding) (f : Term → Run (Option Cases)) → ((T : Term) (u : ℕ) → Only true Key (f T u))
      → (u : ℕ) → Only true Key (case_at h M o p f u)
  only_case h M (Some n) (Some p) f i u = search (only, i) depth 10
  only_case h M (Some n) None f i u = tt
  only_case h M None p f i u = tt

  only_cases : (h : Bool) (M : Term) (ns : List Path) (T : Term) (u : ℕ) → Only true Key (cases_for V h M ns T u)
  only_cases h M [] T u = tt
  only_cases h M (n ∷ ns) T u =
      only_then true Key (fields_seen (see V n) u) _ (only_fields (see V n) u (reads.sees n))
      (λ o v. only_case h M o (as_pi T) (cases_for V h M ns) (λ S w. only_cases h M ns S w) v)

  only_by_cases : (t : Target) (l : Universe) (M : Term) (o : Option Cases) (u : ℕ) → Only true Key (by_cases t l M o u)
  only_by_cases t l M None u = tt
  only_by_cases t l M (Some cs) u = search (only) depth 8

  only_motive : (goal : Term) (l : Universe) (h : Bool) (t : Target) (o : Option Binding) (u : ℕ) → Only true Key (at_motive V goal l h t o u)
  only_motive goal l h t None u = tt
  only_motive goal l h t (Some p) u = search (only, only_abstracted Key, only_cases, only_by_cases) depth 16

  only_recursor : (goal : Term) (l : Universe) (h : Bool) (t : Target) (q : Seen) (u : ℕ) → SeenIn Key q → Only true Key (by_recursor V goal l h t q u)
  only_recursor goal l h t (known k) u i = search (only, only_codomain Key, only_motive) depth 14
  only_recursor goal l h t unknown u i = tt
  only_recursor goal l h t (missing k) u i = i

  only_by_target : (goal : Term) (l : Universe) (h : Bool) (o : Option Target) (u : ℕ) → Only true Key (by_target V goal l h o u)
  only_by_target goal l h None u = tt
  only_by_target goal l h (Some t) u = only_choose true Key (allows t l) _ _ u
      (only_recursor goal l h t (see V (recursor_of t)) u (reads.sees (recursor_of t))) tt

  pub only_induct : (C : Context) (goal : Term) (l : Universe) (n : ℕ) (A : Term) (h : Bool) (u : ℕ) → Only true Key (induct V c C goal l n A h u)
  only_induct C goal l n A h u = search (only, a.whnf, only_target, only_by_target) depth 12

  -- ---- Injection

  only_injected : (n : Path) (goal : Term) (ls : List Universe) (xs : List Term) (o : Option Term) (u : ℕ) → Only true Key (injected n goal ls xs o u)
  only_injected n goal ls xs None u = tt
  only_injected n goal ls xs (Some A) u = search (only) depth 10

  only_when_made : (b : Bool) (goal : Term) (n : Path) (ls : List Universe) (xs : List Term) (ty : Term) (u : ℕ)
      → Only true Key (when_made b goal n ls xs ty u)
  only_when_made false goal n ls xs ty u = tt
  only_when_made true goal n ls xs ty u = search (only, only_codomain Key, only_injected) depth 12

  only_injectivity : (goal : Term) (n : Path) (ls : List Universe) (xs : List Term) (q : Seen) (u : ℕ) → SeenIn Key q
      → Only true Key (by_injectivity V goal n ls xs q u)
  only_injectivity goal n ls xs (known k) u h = only_when_made (is_realized V n) goal n ls xs k.ty u
  only_injectivity goal n ls xs unknown u h = tt
  only_injectivity goal n ls xs (missing k) u h = h

  only_constructors : (goal : Term) (n : ℕ) (i j : Instance) (xs ys : List Term) (q : Seen) (u : ℕ) → SeenIn Key q
      → Only true Key (by_constructors V goal n i j xs ys q u)
  only_constructors goal n i j xs ys (known k) u h = only_choose true Key (built_alike i j xs ys k.detail) _ _ u
      (only_injectivity goal (injectivity_of i.name) i.levels _ (see V (injectivity_of i.name)) u (reads.sees (injectivity_of i.name))) tt
  only_constructors goal n i j xs ys unknown u h = tt
  only_constructors goal n i j xs ys (missing k) u h = h

  only_sides : (goal : Term) (n : ℕ) (i j : Option Instance) (xs ys : List Term) (u : ℕ) → Only true Key (by_sides V goal n i j xs ys u)
  only_sides goal n (Some i) (Some j) xs ys u = only_constructors goal n i j xs ys (see V i.name) u (reads.sees i.name)
  only_sides goal n (Some i) None xs ys u = tt
  only_sides goal n None j xs ys u = tt

  only_by_equation : (C : Context) (goal : Term) (n : ℕ) (o : Option Equation) (u : ℕ) → Only true Key (by_equation V c C goal n o u)
  only_by_equation C goal n None u = tt
  only_by_equation C goal n (Some q) u = search (only, a.whnf, only_sides) depth 12

  pub only_inject : (C : Context) (goal : Term) (n : ℕ) (A : Term) (u : ℕ) → Only true Key (inject V c C goal n A u)
  only_inject C goal n A u = search (only, a.whnf, only_by_equation) depth 8
