-- Runs of which the second has more units, through the ways to put runs together, and the unifier on levels.
use Rattle.lf_checker.specs.Run as checker
use Rattle.std.proofs.Common.{
  ◌≡◌,
  ℕ,
  zero,
  suc,
  ◌+◌,
  ◌-◌,
  ◌≤◌,
  Bool,
  true,
  false,
  nat_lt,
  if◌then◌else◌,
  List,
  [],
  ◌∷◌,
  Option,
  Some,
  None,
  refl,
  sym,
  subst,
  arith,
}
use Rattle.lf_core.specs.Term.{Universe, level_zero, level_succ, level_max, level_imax, level_param, level_meta, Term}
use Rattle.lf_rules.specs.Environment.{Context}
use Rattle.lf_elaboration.specs.Forms.{Sides, as_pi, as_successor, as_maximum, as_impredicative_maximum}
use Rattle.lf_elaboration.specs.LevelUnifier.{and_then, by_both, by_successors, by_level_parts, by_level_form, unify_level_within, unify_levels}
use Rattle.lf_elaboration.specs.Metavariables.{Changes, Unassigned}
use Rattle.lf_elaboration.specs.Run.{
  Answer,
  done,
  failed,
  out,
  need,
  Run,
  go_on,
  gives_up,
  choose,
  spend,
  checks,
  answered,
  instantiated,
  unless_refused,
  as_before,
}
use Rattle.lf_elaboration.specs.Unifier.{behind, abstraction}
use Rattle.std.proofs.lemmas.Bool.{ltb-false}
use Rattle.lf_extension_laws.specs.Enough.{Enough}
use Rattle.lf_extension_laws.proofs.Enough.{enough_done, enough_then, enough_spend, enough_caught, enough_choose, enough_put, enough_made, enough_opening}
use Rattle.lf_elaboration_laws.specs.Enough.{Again}

pub again_done : {S A : Type 0} (k : ℕ) (x : A) (u : ℕ) (s : S) → Again k (done x u s) (done x (u + k) s)
again_done k x u s = refl

pub again_then : {S A B : Type 0} (k : ℕ) (o p : Answer S A) (f g : A → Run S B) → Again k o p
    → ((x : A) (u : ℕ) (s : S) → Again k (f x u s) (g x (u + k) s)) → Again k (go_on o f) (go_on p g)
again_then k (done x u s) p f g h i = subst (λ q. Again k (f x u s) (go_on q g)) h (i x u s)
again_then k (failed m u s) p f g h i = subst (λ q. Again k (failed m u s) (go_on q g)) h refl
again_then k (out s) p f g h i = tt
again_then k (need n) p f g h i = subst (λ q. Again k (need n) (go_on q g)) h refl

pub again_choose : {S A : Type 0} (k : ℕ) (b : Bool) (m n i j : Run S A) (u : ℕ) (s : S) → Again k (m u s) (i (u + k) s) → Again k (n u s) (j (u + k) s)
    → Again k (choose b m n u s) (choose b i j (u + k) s)
again_choose k true m n i j u s h g = h
again_choose k false m n i j u s h g = g

later : (k n u : ℕ) → n ≤ u → (u + k) - n ≡ (u - n) + k
later k n u h = omega arith

no_less : (k n u : ℕ) → n ≤ u → nat_lt (u + k) n ≡ false
no_less k n u h = grind arith

pub again_spend : {S A : Type 0} (k n : ℕ) (m i : Run S A) (u : ℕ) (s : S) → ((v : ℕ) → Again k (m v s) (i (v + k) s))
    → Again k (spend n m u s) (spend n i (u + k) s)
again_spend {S = S} {A = A} k n m i u s h = at (nat_lt u n) refl
  where
    at : (b : Bool) → nat_lt u n ≡ b
        → Again k {S = S} {A = A} (if b then out s else m (u - n) s) (if nat_lt (u + k) n then out s else i ((u + k) - n) s)
    at true e = tt
    at false e =
        let l : n ≤ u = ltb-false u n e in
        subst (λ b. Again k (m (u - n) s) (if b then out s else i ((u + k) - n) s)) (sym (no_less k n u l))
        (subst (λ v. Again k (m (u - n) s) (i v s)) (sym (later k n u l)) (h (u - n)))

again_answered : {S A : Type 0} (k : ℕ) (s : S) (o p : checker.Answer A) → Enough k o p
    → Again k (answered (λ e. gives_up) s o) (answered (λ e. gives_up) s p)
again_answered k s (checker.done x u) p h = subst (λ q. Again k (done x u s) (answered (λ e. gives_up) s q)) h refl
again_answered k s (checker.refused e u) p h = tt
again_answered k s checker.out p h = tt
again_answered {S = S} {A = A} k s (checker.need n) p h = subst (λ q. Again k {S = S} {A = A} (need n) (answered (λ e. gives_up) s q)) h refl

pub again_checks : {S A : Type 0} (k : ℕ) (m n : checker.Run A) (u : ℕ) (s : S) → Enough k (m u) (n (u + k)) → Again k (checks m u s) (checks n (u + k) s)
again_checks k m n u s h = again_answered k s (m u) (n (u + k)) h

pub again_refused : (k : ℕ) (more cs : Changes) (o : Option Unassigned) (u : ℕ)
    → Again k (unless_refused more o u cs) (unless_refused more o (u + k) cs)
again_refused k more cs None u = refl
again_refused k more cs (Some r) u = refl

pub again_before : (k : ℕ) (cs : Changes) (o p : Answer Changes Bool) → Again k o p → Again k (as_before cs o) (as_before cs p)
again_before k cs (done true u s) p h = subst (λ q. Again k (done true u s) (as_before cs q)) h refl
again_before k cs (done false u s) p h = subst (λ q. Again k (as_before cs (done false u s)) (as_before cs q)) h refl
again_before k cs (failed m u s) p h = subst (λ q. Again k (as_before cs (failed m u s)) (as_before cs q)) h refl
again_before k cs (out s) p h = tt
again_before k cs (need n) p h = subst (λ q. Again k (as_before cs (need n)) (as_before cs q)) h refl

ruleset anew = (again_done, again_then, again_choose, again_checks, again_refused)

-- What is asked of the checker.
ruleset only = (enough_done, enough_then, enough_spend, enough_caught, enough_choose, enough_put, enough_made, enough_opening)

module _ (extra : ℕ) where
  pub again_and : (b : Bool) (m n : Run Changes Bool) (u : ℕ) (cs : Changes) → Again extra (m u cs) (n (u + extra) cs)
      → Again extra (and_then b m u cs) (and_then b n (u + extra) cs)
  again_and true m n u cs k = k
  again_and false m n u cs k = refl

  again_both : (f : Universe → Universe → Run Changes Bool) → ((l m : Universe) (u : ℕ) (cs : Changes) → Again extra (f l m u cs) (f l m (u + extra) cs))
      → (x y : Option Sides) (u : ℕ) (cs : Changes) → Again extra (by_both f x y u cs) (by_both f x y (u + extra) cs)
  again_both f h (Some x) (Some y) u cs = search (anew, only, h, again_and) depth 12
  again_both f h (Some x) None u cs = refl
  again_both f h None y u cs = refl

  again_successors : (f : Universe → Universe → Run Changes Bool) → ((l m : Universe) (u : ℕ) (cs : Changes) → Again extra (f l m u cs) (f l m (u + extra) cs))
      → (x y : Option Universe) (u : ℕ) (cs : Changes) → Again extra (by_successors f x y u cs) (by_successors f x y (u + extra) cs)
  again_successors f h (Some x) (Some y) u cs = h x y u cs
  again_successors f h (Some x) None u cs = refl
  again_successors f h None y u cs = refl

  again_level_parts : (f : Universe → Universe → Run Changes Bool) → ((l m : Universe) (u : ℕ) (cs : Changes) → Again extra (f l m u cs) (f l m (u + extra) cs))
      → (l m : Universe) (u : ℕ) (cs : Changes) → Again extra (by_level_parts f l m u cs) (by_level_parts f l m (u + extra) cs)
  again_level_parts f h (level_succ l) m u cs = again_successors f h (Some l) (as_successor m) u cs
  again_level_parts f h (level_max l k) m u cs = again_both f h (Some (record { left = l; right = k })) (as_maximum m) u cs
  again_level_parts f h (level_imax l k) m u cs = again_both f h (Some (record { left = l; right = k })) (as_impredicative_maximum m) u cs
  again_level_parts f h level_zero m u cs = refl
  again_level_parts f h (level_param k) m u cs = refl
  again_level_parts f h (level_meta k) m u cs = refl

  again_level_form : (f : Universe → Universe → Run Changes Bool) → ((l m : Universe) (u : ℕ) (cs : Changes) → Again extra (f l m u cs) (f l m (u + extra) cs))
      → (l m : Universe) (x y : Option ℕ) (u : ℕ) (cs : Changes) → Again extra (by_level_form f l m x y u cs) (by_level_form f l m x y (u + extra) cs)
  again_level_form f h l m (Some j) (Some k) u cs = search (anew, only) depth 12
  again_level_form f h l m (Some j) None u cs = search (anew, only) depth 12
  again_level_form f h l m None (Some k) u cs = search (anew, only) depth 12
  again_level_form f h l m None None u cs = again_level_parts f h l m u cs

  pub again_level : (n : ℕ) (l m : Universe) (u : ℕ) (cs : Changes) → Again extra (unify_level_within n l m u cs) (unify_level_within n l m (u + extra) cs)
  again_level zero l m u cs = tt
  again_level (suc n) l m u cs = search (anew, only, again_level_form (unify_level_within n) (again_level n)) depth 12

  pub again_levels : (ls ms : List Universe) (u : ℕ) (cs : Changes) → Again extra (unify_levels ls ms u cs) (unify_levels ls ms (u + extra) cs)
  again_levels [] [] u cs = refl
  again_levels (l ∷ ls) (m ∷ ms) u cs = search (anew, only, again_level, again_and, again_levels ls ms) depth 12
  again_levels [] (m ∷ ms) u cs = refl
  again_levels (l ∷ ls) [] u cs = refl

  pub again_instantiated : (t : Term) (u : ℕ) (cs : Changes) → Again extra (instantiated t u cs) (instantiated t (u + extra) cs)
  again_instantiated t u cs = search (anew, only) depth 12

  pub again_abstraction : (C : Context) (T : Term) (ks : List ℕ) (t : Term) (u : ℕ) (cs : Changes)
      → Again extra (abstraction C T ks t u cs) (abstraction C T ks t (u + extra) cs)
  again_abstraction C T [] t u cs = refl
  again_abstraction C T (k ∷ ks) t u cs = search (anew, only, again_abstraction C (behind T (as_pi T)) ks t) depth 14
