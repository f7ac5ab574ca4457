-- Runs of the unifier only add changes, and never answer with an error.
use Rattle.std.proofs.Common.{
  ◌≡◌,
  ℕ,
  zero,
  suc,
  ◌-◌,
  Bool,
  true,
  false,
  nat_lt,
  if◌then◌else◌,
  List,
  [],
  ◌∷◌,
  ◌++◌,
  length,
  take,
  Option,
  Some,
  None,
  refl,
  sym,
  ap,
  subst,
  ◌∙◌,
}
use Rattle.lf_core.specs.Term.{Universe, level_zero, level_succ, level_max, level_imax, level_param, level_meta, Term}
use Rattle.lf_rules.specs.Environment.{Context}
use Rattle.lf_checker.specs.Run as checker
use Rattle.lf_checker.specs.Equal.{Verdict, decided, again, undecided}
use Rattle.lf_elaboration.specs.Forms.{Sides, as_pi, as_successor, as_maximum, as_impredicative_maximum}
use Rattle.lf_elaboration.specs.LevelUnifier.{and_then, by_both, by_successors, by_level_parts, by_level_form, unify_level_within, unify_levels}
use Rattle.lf_elaboration.specs.Metavariables.{Changes, Unassigned}
use Rattle.lf_elaboration.specs.Run.{
  Answer,
  done,
  failed,
  out,
  need,
  Run,
  go_on,
  gives_up,
  choose,
  spend,
  checks,
  answered,
  instantiated,
  unless_refused,
  as_before,
}
use Rattle.lf_elaboration.specs.Unifier.{decided_by, or_else, decides, if_true, behind, abstraction, by_predecessors}
use Rattle.lf_core.specs.declared.constant.TaskKey.{TaskKey}
use Rattle.lf_extension_laws.proofs.Only.{Only, only_then, only_spend, only_caught, only_choose, only_put, only_made, only_opening}
use Rattle.lf_elaboration_laws.specs.Unifier.{Begins}

-- The changes begin with these, and there is no error; what is waited for has such a key.
abbrev pub Calm : (TaskKey → Type 0) → {A : Type 0} → Changes → Answer Changes A → Type 0
Calm Key cs (done x u new) = Begins cs new
Calm Key cs (failed m u new) = ⊥
Calm Key cs (out new) = Begins cs new
Calm Key cs (need k) = Key k

-- As the unifier leaves them.
abbrev pub Left : (TaskKey → Type 0) → Changes → Answer Changes Bool → Type 0
Left Key cs (done true u new) = Begins cs new
Left Key cs (done false u new) = new ≡ cs
Left Key cs (failed m u new) = ⊥
Left Key cs (out new) = new ≡ cs
Left Key cs (need k) = Key k

append_nothing : (cs : Changes) → cs ≡ cs ++ []
append_nothing [] = refl
append_nothing (c ∷ cs) = ap (λ ds. c ∷ ds) (append_nothing cs)

append_twice : (cs ds es : Changes) → (cs ++ ds) ++ es ≡ cs ++ (ds ++ es)
append_twice [] ds es = refl
append_twice (c ∷ cs) ds es = ap (λ fs. c ∷ fs) (append_twice cs ds es)

pub same : (cs : Changes) → Begins cs cs
same cs = ([], append_nothing cs)

pub longer : (cs ds es : Changes) → Begins cs ds → Begins ds es → Begins cs es
longer cs ds es h g = (h.0 ++ g.0, g.1 ∙ ap (λ fs. fs ++ g.0) h.1 ∙ append_twice cs h.0 g.0)

longer_calm : {A : Type 0} (Key : TaskKey → Type 0) (cs ds : Changes) (o : Answer Changes A) → Begins cs ds → Calm Key ds o → Calm Key cs o
longer_calm Key cs ds (done x u es) h g = longer cs ds es h g
longer_calm Key cs ds (failed m u es) h g = absurd g
longer_calm Key cs ds (out es) h g = longer cs ds es h g
longer_calm Key cs ds (need k) h g = g

pub calm_then : {A B : Type 0} (Key : TaskKey → Type 0) (cs : Changes) (o : Answer Changes A) (f : A → Run Changes B) → Calm Key cs o
    → ((x : A) (u : ℕ) (ds : Changes) → Calm Key ds (f x u ds)) → Calm Key cs (go_on o f)
calm_then Key cs (done x u ds) f h k = longer_calm Key cs ds (f x u ds) h (k x u ds)
calm_then Key cs (failed m u ds) f h k = absurd h
calm_then Key cs (out ds) f h k = h
calm_then Key cs (need n) f h k = h

pub calm_choose : {A : Type 0} (Key : TaskKey → Type 0) (b : Bool) (m n : Run Changes A) (u : ℕ) (cs : Changes) → Calm Key cs (m u cs)
    → Calm Key cs (n u cs) → Calm Key cs (choose b m n u cs)
calm_choose Key true m n u cs h g = h
calm_choose Key false m n u cs h g = g

pub calm_spend : {A : Type 0} (Key : TaskKey → Type 0) (n : ℕ) (m : Run Changes A) (u : ℕ) (cs : Changes) → ((v : ℕ) → Calm Key cs (m v cs))
    → Calm Key cs (spend n m u cs)
calm_spend {A = A} Key n m u cs h = at (nat_lt u n)
  where
    at : (b : Bool) → Calm Key {A = A} cs (if b then out cs else m (u - n) cs)
    at true = same cs
    at false = h (u - n)

calm_answered : {A : Type 0} (Key : TaskKey → Type 0) (cs : Changes) (o : checker.Answer A) → Only true Key o → Calm Key cs (answered (λ e. gives_up) cs o)
calm_answered Key cs (checker.done x u) h = same cs
calm_answered Key cs (checker.refused e u) h = same cs
calm_answered Key cs checker.out h = same cs
calm_answered Key cs (checker.need k) h = h

pub calm_checks : {A : Type 0} (Key : TaskKey → Type 0) (m : checker.Run A) (u : ℕ) (cs : Changes) → Only true Key (m u) → Calm Key cs (checks m u cs)
calm_checks Key m u cs h = calm_answered Key cs (m u) h

pub calm_refused : (Key : TaskKey → Type 0) (more cs : Changes) (o : Option Unassigned) (u : ℕ) → Calm Key cs (unless_refused more o u cs)
calm_refused Key more cs None u = (more, refl)
calm_refused Key more cs (Some r) u = same cs

pub calm_before : (Key : TaskKey → Type 0) (cs : Changes) (o : Answer Changes Bool) → Calm Key cs o → Left Key cs (as_before cs o)
calm_before Key cs (done true u new) h = h
calm_before Key cs (done false u new) h = taken cs new h
  where
    first : (cs ds : Changes) → take (length cs) (cs ++ ds) ≡ cs
    first [] ds = refl
    first (c ∷ cs) ds = ap (λ es. c ∷ es) (first cs ds)

    taken : (cs new : Changes) → Begins cs new → take (length cs) new ≡ cs
    taken cs new h = subst (λ ds. take (length cs) ds ≡ cs) (sym h.1) (first cs h.0)
calm_before Key cs (failed m u new) h = absurd h
calm_before Key cs (out new) h = taken cs new h
  where
    first : (cs ds : Changes) → take (length cs) (cs ++ ds) ≡ cs
    first [] ds = refl
    first (c ∷ cs) ds = ap (λ es. c ∷ es) (first cs ds)

    taken : (cs new : Changes) → Begins cs new → take (length cs) new ≡ cs
    taken cs new h = subst (λ ds. take (length cs) ds ≡ cs) (sym h.1) (first cs h.0)
calm_before Key cs (need k) h = h

pub calm_leaves : (Key : TaskKey → Type 0) (cs : Changes) (o : Answer Changes Bool) → Left Key cs o → Calm Key cs o
calm_leaves Key cs (done true u new) h = h
calm_leaves Key cs (done false u new) h = subst (λ ds. Begins cs ds) (sym h) (same cs)
calm_leaves Key cs (failed m u new) h = absurd h
calm_leaves Key cs (out new) h = subst (λ ds. Begins cs ds) (sym h) (same cs)
calm_leaves Key cs (need k) h = h

ruleset calm = (same, calm_then, calm_choose, calm_checks, calm_refused)

-- What is asked of the checker.
ruleset only = (only_then, only_spend, only_caught, only_choose, only_put, only_made, only_opening)

module _ (Key : TaskKey → Type 0) where
  pub calm_and : (b : Bool) (m : Run Changes Bool) (u : ℕ) (cs : Changes) → Calm Key cs (m u cs) → Calm Key cs (and_then b m u cs)
  calm_and true m u cs k = k
  calm_and false m u cs k = same cs

  calm_both : (f : Universe → Universe → Run Changes Bool) → ((l m : Universe) (u : ℕ) (cs : Changes) → Calm Key cs (f l m u cs))
      → (x y : Option Sides) (u : ℕ) (cs : Changes) → Calm Key cs (by_both f x y u cs)
  calm_both f h (Some x) (Some y) u cs = search (calm, only, h, calm_and) depth 12
  calm_both f h (Some x) None u cs = same cs
  calm_both f h None y u cs = same cs

  calm_successors : (f : Universe → Universe → Run Changes Bool) → ((l m : Universe) (u : ℕ) (cs : Changes) → Calm Key cs (f l m u cs))
      → (x y : Option Universe) (u : ℕ) (cs : Changes) → Calm Key cs (by_successors f x y u cs)
  calm_successors f h (Some x) (Some y) u cs = h x y u cs
  calm_successors f h (Some x) None u cs = same cs
  calm_successors f h None y u cs = same cs

  calm_level_parts : (f : Universe → Universe → Run Changes Bool) → ((l m : Universe) (u : ℕ) (cs : Changes) → Calm Key cs (f l m u cs))
      → (l m : Universe) (u : ℕ) (cs : Changes) → Calm Key cs (by_level_parts f l m u cs)
  calm_level_parts f h (level_succ l) m u cs = calm_successors f h (Some l) (as_successor m) u cs
  calm_level_parts f h (level_max l k) m u cs = calm_both f h (Some (record { left = l; right = k })) (as_maximum m) u cs
  calm_level_parts f h (level_imax l k) m u cs = calm_both f h (Some (record { left = l; right = k })) (as_impredicative_maximum m) u cs
  calm_level_parts f h level_zero m u cs = same cs
  calm_level_parts f h (level_param k) m u cs = same cs
  calm_level_parts f h (level_meta k) m u cs = same cs

  calm_level_form : (f : Universe → Universe → Run Changes Bool) → ((l m : Universe) (u : ℕ) (cs : Changes) → Calm Key cs (f l m u cs))
      → (l m : Universe) (x y : Option ℕ) (u : ℕ) (cs : Changes) → Calm Key cs (by_level_form f l m x y u cs)
  calm_level_form f h l m (Some j) (Some k) u cs = search (calm, only) depth 12
  calm_level_form f h l m (Some j) None u cs = search (calm, only) depth 12
  calm_level_form f h l m None (Some k) u cs = search (calm, only) depth 12
  calm_level_form f h l m None None u cs = calm_level_parts f h l m u cs

  pub calm_level : (n : ℕ) (l m : Universe) (u : ℕ) (cs : Changes) → Calm Key cs (unify_level_within n l m u cs)
  calm_level zero l m u cs = same cs
  calm_level (suc n) l m u cs = search (calm, only, calm_level_form (unify_level_within n) (calm_level n)) depth 12

  pub calm_levels : (ls ms : List Universe) (u : ℕ) (cs : Changes) → Calm Key cs (unify_levels ls ms u cs)
  calm_levels [] [] u cs = same cs
  calm_levels (l ∷ ls) (m ∷ ms) u cs = search (calm, only, calm_level, calm_and, calm_levels ls ms) depth 12
  calm_levels [] (m ∷ ms) u cs = same cs
  calm_levels (l ∷ ls) [] u cs = same cs

  pub calm_instantiated : (t : Term) (u : ℕ) (cs : Changes) → Calm Key cs (instantiated t u cs)
  calm_instantiated t u cs = search (calm, only) depth 12

  pub calm_abstraction : (C : Context) (T : Term) (ks : List ℕ) (t : Term) (u : ℕ) (cs : Changes) → Calm Key cs (abstraction C T ks t u cs)
  calm_abstraction C T [] t u cs = same cs
  calm_abstraction C T (k ∷ ks) t u cs = search (calm, only, calm_abstraction C (behind T (as_pi T)) ks t) depth 14

  pub calm_decided : (v : Verdict) (m : Run Changes Verdict) (u : ℕ) (cs : Changes) → Calm Key cs (m u cs) → Calm Key cs (decided_by v m u cs)
  calm_decided undecided m u cs k = k
  calm_decided (decided r) m u cs k = same cs
  calm_decided (again s t) m u cs k = same cs

  pub calm_or : (m n : Run Changes Verdict) (u : ℕ) (cs : Changes) → Calm Key cs (m u cs) → ((v : ℕ) (ds : Changes) → Calm Key ds (n v ds))
      → Calm Key cs (or_else m n u cs)
  calm_or m n u cs h k = calm_then Key cs (m u cs) _ h (λ v w ds. calm_decided v n w ds (k w ds))

  pub calm_decides : (m : Run Changes Bool) (u : ℕ) (cs : Changes) → Calm Key cs (m u cs) → Calm Key cs (decides m u cs)
  calm_decides m u cs k = calm_then Key cs (m u cs) _ k (λ r v ds. same ds)

  pub calm_if_true : (m : Run Changes Bool) (u : ℕ) (cs : Changes) → Calm Key cs (m u cs) → Calm Key cs (if_true m u cs)
  calm_if_true m u cs k = calm_then Key cs (m u cs) _ k (λ r v ds. same ds)

  pub calm_predecessors : (n : ℕ) (t : Term) (m : Run Changes Bool) (u : ℕ) (cs : Changes) → Calm Key cs (m u cs) → Calm Key cs (by_predecessors n t m u cs)
  calm_predecessors n t m u cs k = search (calm, only, calm_decides, k) depth 12
