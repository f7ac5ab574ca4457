-- What the checker and the unifier give on a view is the same from all nesting and all units that suffice, since more of both gives the same.
use Rattle.std.proofs.Common.{◌≡◌, ℕ, ◌+◌, true, false, sym, ap, subst, ◌∙◌, arith}
use Rattle.lf_core.specs.Term.{Term}
use Rattle.lf_rules.specs.Environment.{Context}
use Rattle.lf_checker.specs.View.{View}
use Rattle.lf_checker.specs.Run as checker
use Rattle.lf_checker.specs.Checker.{calls}
use Rattle.lf_extension_laws.specs.Enough.{Enough}
use Rattle.lf_extension_laws.proofs.EnoughEqual.{calls_suffice}
use Rattle.lf_elaboration.specs.Metavariables.{Changes}
use Rattle.lf_elaboration.specs.Run as run
use Rattle.lf_elaboration.specs.Unifier.{unify}
use Rattle.lf_elaboration_laws.specs.Enough.{Again}
use Rattle.lf_elaboration_laws.proofs.AgainUnifier.{unifier_again}
use Rattle.lf_resolution.specs.Tree.{HasForm, Unifies}

-- The unifier says false where nesting and units suffice.
abbrev pub Differs : View → Context → Term → Term → Changes → Type 0
Differs V C a b before = (depth u v : ℕ) × (after : Changes) × (unify V depth C a b u before ≡ run.done false v after)

-- What the checker and the unifier give on a view is the same from all nesting and units that suffice.
pub record Steady (V : View) : Type 0 where
  pub form : (C : Context) (t W X : Term) → HasForm V C t W → HasForm V C t X → W ≡ X
  pub changes : (C : Context) (a b : Term) (cs ds es : Changes) → Unifies V C a b cs ds → Unifies V C a b cs es → ds ≡ es
  pub verdict : (C : Context) (a b : Term) (cs ds : Changes) → Unifies V C a b cs ds → Differs V C a b cs → ⊥

enough_is : {A : Type 0} (k : ℕ) (o p : checker.Answer A) (x : A) (v : ℕ) → o ≡ checker.done x v → Enough k o p → checker.done x (v + k) ≡ p
enough_is k o p x v e h = subst (λ q. Enough k q p) e h

again_is : {S A : Type 0} (k : ℕ) (o p : run.Answer S A) (x : A) (v : ℕ) (s : S) → o ≡ run.done x v s → Again k o p → run.done x (v + k) s ≡ p
again_is k o p x v s e h = subst (λ q. Again k q p) e h

turned : (m n : ℕ) → m + n ≡ n + m
turned m n = omega arith

one_form : {A : Type 0} (x y : A) (u v : ℕ) → checker.done x u ≡ checker.done y v → x ≡ y
one_form x y u v e = cc

one_state : {S : Type 0} (s t : S) (u v : ℕ) → run.done true u s ≡ run.done true v t → s ≡ t
one_state s t u v e = cc

module _ (V : View) where
  forms : (C : Context) (t W X : Term) → HasForm V C t W → HasForm V C t X → W ≡ X
  forms C t W X (d, u, v, e) (i, j, w, f) =
      let a = enough_is j ((calls V d).whnf true C t u) ((calls V (d + i)).whnf true C t (u + j)) W v e ((calls_suffice V j d i).whnf true C t u) in
      let b = enough_is u ((calls V i).whnf true C t j) ((calls V (i + d)).whnf true C t (j + u)) X w f ((calls_suffice V u i d).whnf true C t j) in
      let c : (calls V (i + d)).whnf true C t (j + u) ≡ (calls V (d + i)).whnf true C t (u + j)
      = ap (λ n. (calls V n).whnf true C t (j + u)) (turned i d) ∙ ap (λ n. (calls V (d + i)).whnf true C t n) (turned j u) in
      one_form W X (v + j) (w + u) (a ∙ sym (b ∙ c))

  same_answer : (C : Context) (s t : Term) (cs : Changes) (d u i j : ℕ) → unify V (i + d) C s t (j + u) cs ≡ unify V (d + i) C s t (u + j) cs
  same_answer C s t cs d u i j =
      ap (λ n. unify V n C s t (j + u) cs) (turned i d) ∙ ap (λ n. unify V (d + i) C s t n cs) (turned j u)

  changes_are : (C : Context) (s t : Term) (cs ds es : Changes) → Unifies V C s t cs ds → Unifies V C s t cs es → ds ≡ es
  changes_are C s t cs ds es (d, u, v, e) (i, j, w, f) =
      let a = again_is j (unify V d C s t u cs) (unify V (d + i) C s t (u + j) cs) true v ds e (unifier_again V d i j C s t u cs) in
      let b = again_is u (unify V i C s t j cs) (unify V (i + d) C s t (j + u) cs) true w es f (unifier_again V i d u C s t j cs) in
      one_state ds es (v + j) (w + u) (a ∙ sym (b ∙ same_answer C s t cs d u i j))

  no_other : (C : Context) (s t : Term) (cs ds : Changes) → Unifies V C s t cs ds → Differs V C s t cs → ⊥
  no_other C s t cs ds (d, u, v, e) (i, j, w, es, f) =
      let a = again_is j (unify V d C s t u cs) (unify V (d + i) C s t (u + j) cs) true v ds e (unifier_again V d i j C s t u cs) in
      let b = again_is u (unify V i C s t j cs) (unify V (i + d) C s t (j + u) cs) false w es f (unifier_again V i d u C s t j cs) in
      not_both (v + j) (w + u) (a ∙ sym (b ∙ same_answer C s t cs d u i j))
    where
      not_both : (m n : ℕ) → run.done true m ds ≡ run.done false n es → ⊥
      not_both m n q = absurd (cc)

  pub steady : Steady V
  steady = record { form = forms; changes = changes_are; verdict = no_other }
