-- The functions that are opened by name are the definition's.
use Rattle.std.proofs.Common.{◌≡◌, ℕ, zero, suc, ◌-◌, Bool, true, false, refl, sym, ap, ◌∙◌, arith}
use Rattle.std.specs.Prelude.{nat_lt, nat_eq, if◌then◌else◌, Option, Some, None}
use Rattle.std.proofs.lemmas.Bool.{eqb-true, false_from_ne_true}
use Rattle.lf_core.specs.Term.{Term}
use Rattle.lf_rules.specs.Environment.{Context}
use Rattle.lf_checker.specs.View.{View}
use Rattle.lf_checker.specs.Run as checker
use Rattle.lf_checker.specs.Calls.{Calls}
use Rattle.lf_checker.specs.Checker.{calls}
use Rattle.lf_checker.specs.Whnf.{turn_limit}
use Rattle.lf_checker.specs.Equal as equal
use Rattle.lf_checker.specs.Equal.{Verdict, decided, again, undecided}
use Rattle.lf_steps.specs.Runs as steps
use Rattle.lf_elaboration.specs.Metavariables.{Changes}
use Rattle.lf_elaboration.specs.Run.{Answer, done, failed, out, need, Run, ◌>>=◌, go_on, gives, gives_up, answered, checks, instantiated, as_before}
use Rattle.lf_elaboration.specs.Unifier as unifier
use Rattle.lf_elaboration.specs.Unifier.{Unify, or_else, decided_by}
use Rattle.lf_unify.specs.Tower.{
  assigned,
  solve,
  by_solving,
  by_form,
  unify_heads,
  unify_spines,
  spines_or_as_before,
  by_heads,
  by_unfolding,
  by_last,
  by_forms,
  by_whnf,
  by_rest,
  by_patterns,
  pattern_or,
  without_metavariables,
  unify_turn,
  unify_loop,
  unify_body,
  entered,
}
use Rattle.lf_unify.proofs.Floor.{take_whole}
use Rattle.lf_unify.proofs.Forms.{after, then_none, form_tower}

bound : {A B : Type 0} (o : Answer Changes A) (f g : A → Run Changes B) → ((a : A) (u : ℕ) (cs : Changes) → f a u cs ≡ g a u cs) → go_on o f ≡ go_on o g
bound (done a u cs) f g h = h a u cs
bound (failed m u cs) f g h = refl
bound (out cs) f g h = refl
bound (need k) f g h = refl

-- The rules after the patterns.
rest_tower : (V : View) (c : Calls) (self : Unify) (C : Context) (a b : Term) (u : ℕ) (cs : Changes)
    → by_rest V c self C a b u cs
    ≡ or_else (unifier.by_whnf c C a b) (or_else (unifier.by_form self C a b) (or_else (unifier.by_heads self C a b) (checks (equal.by_unfolding V a b)))) u cs
unfolding by_rest by_forms by_whnf by_last by_heads spines_or_as_before unify_spines unify_heads by_unfolding
rest_tower V c self C a b u cs =
    let last = or_else (unifier.by_heads self C a b) (checks (equal.by_unfolding V a b)) in
    then_none (unifier.by_whnf c C a b) (or_else (by_form self C a b) last) (or_else (unifier.by_form self C a b) last) u cs
    (λ v ds. ap (λ o. go_on o (λ w. decided_by w last)) (sym (form_tower self C a b v ds)))

pattern_is : (c : Calls) (self : Unify) (C : Context) (p : Option unifier.Pattern) (q t : Term) (rest : Run Changes Verdict) (u : ℕ) (cs : Changes)
    → pattern_or c self C p q t rest u cs ≡ or_else (unifier.by_pattern c self C p q t) rest u cs
unfolding by_solving solve assigned
pattern_is c self C (Some p) q t rest u cs = sym (after (unifier.solve c self C p q t u cs) rest)
pattern_is c self C None q t rest u cs = refl

patterns_tower : (V : View) (c : Calls) (self : Unify) (C : Context) (a b : Term) (u : ℕ) (cs : Changes)
    → by_patterns V c self C a b u cs
    ≡ or_else (unifier.by_pattern c self C (unifier.pattern_of a) a b) (or_else (unifier.by_pattern c self C (unifier.pattern_of b) b a)
    (or_else (unifier.by_whnf c C a b) (or_else (unifier.by_form self C a b) (or_else (unifier.by_heads self C a b) (checks (equal.by_unfolding V a b)))))) u cs
unfolding by_patterns
patterns_tower V c self C a b u cs =
    pattern_is c self C (unifier.pattern_of a) a b _ u cs
    ∙ then_none (unifier.by_pattern c self C (unifier.pattern_of a) a b) _ _ u cs (λ v ds.
    pattern_is c self C (unifier.pattern_of b) b a _ v ds
    ∙ then_none (unifier.by_pattern c self C (unifier.pattern_of b) b a) _ _ v ds (rest_tower V c self C a b))

turn_tower : (V : View) (c : Calls) (self : Unify) (C : Context) (a b : Term) (u : ℕ) (cs : Changes)
    → unify_turn V c self C a b u cs ≡ unifier.unify_turn V c self C a b u cs
unfolding unify_turn without_metavariables
turn_tower V c self C a b u cs =
    then_none (unifier.without_metavariables c C a b) _ _ u cs (λ v ds.
    then_none (unifier.by_same_tree a b) _ _ v ds (patterns_tower V c self C a b))

decided_turn : (V : View) (c : Calls) (self : Unify) (C : Context) (n : ℕ)
    (ih : (x y : Term) (v : ℕ) (ds : Changes) → unify_loop V c self C n x y v ds ≡ unifier.unify_loop V c self C n x y v ds)
    (p : Verdict) (u : ℕ) (cs : Changes)
    → (elim p as (λ _. Run Changes Bool) [ decided r ↦ gives r | again x y ↦ unify_loop V c self C n x y | undecided ↦ gives false ]) u cs
    ≡ (elim p as (λ _. Run Changes Bool) [ decided r ↦ gives r | again x y ↦ unifier.unify_loop V c self C n x y | undecided ↦ gives false ]) u cs
decided_turn V c self C n ih (decided r) u cs = refl
decided_turn V c self C n ih (again x y) u cs = ih x y u cs
decided_turn V c self C n ih undecided u cs = refl

loop_tower : (V : View) (c : Calls) (self : Unify) (C : Context) (n : ℕ) (a b : Term) (u : ℕ) (cs : Changes)
    → unify_loop V c self C n a b u cs ≡ unifier.unify_loop V c self C n a b u cs
unfolding unify_loop
loop_tower V c self C zero a b u cs = refl
loop_tower V c self C (suc n) a b u cs =
    ap (λ o. go_on o (λ p. elim p [ decided r ↦ gives r | again x y ↦ unify_loop V c self C n x y | undecided ↦ gives false ]))
    (turn_tower V c self C a b u cs)
    ∙ bound (unifier.unify_turn V c self C a b u cs) _ _ (decided_turn V c self C n (loop_tower V c self C n))

body_tower : (V : View) (c : Calls) (self : Unify) (C : Context) (x y : Term) (u : ℕ) (cs : Changes)
    → unify_body V c self C x y u cs ≡ unifier.unify_loop V c self C turn_limit x y u cs
unfolding unify_body
body_tower V c self C x y u cs = loop_tower V c self C turn_limit x y u cs

-- The start of a call.
some_none : (n : ℕ) → nat_eq (suc n) 0 ≡ false
some_none n = false_from_ne_true (nat_eq (suc n) 0) (λ e. let p = eqb-true (suc n) 0 e in absurd (omega (arith, p)))

paid : {A : Type 0} (b : Bool) (u : ℕ) (cs : Changes) (m : Run Changes A)
    → (if b then out cs else m (u - 1) cs)
    ≡ go_on (answered (λ e. gives_up) cs (if b then checker.out else checker.done tt (u - 1))) (λ (_ : Unit {0}). m)
paid true u cs m = refl
paid false u cs m = refl

body_is : (V : View) (n : ℕ) (C : Context) (a b : Term) (u : ℕ) (cs : Changes)
    → go_on (instantiated a u cs) (λ x. instantiated b >>= (λ y. unify_body V (calls V n) (unifier.unify V n) C x y))
    ≡ unifier.unify_body V (calls V n) (unifier.unify V n) C a b u cs
unfolding unifier.unify_body
body_is V n C a b u cs =
    bound (instantiated a u cs) _ _ (λ x v ds. bound (instantiated b v ds) _ _ (λ y w es. body_tower V (calls V n) (unifier.unify V n) C x y w es))

started : (V : View) (n : ℕ) (C : Context) (a b : Term) (u : ℕ) (cs : Changes)
    → entered V (suc n) C a b u cs ≡ (if nat_lt u 1 then out cs else unifier.unify_body V (calls V n) (unifier.unify V n) C a b (u - 1) cs)
unfolding entered steps.enter
started V n C a b u cs =
    let e : suc n - 1 ≡ n = omega arith in
    rw (e, some_none n) (sym (paid (nat_lt u 1) u cs _) ∙ ap (λ r. if nat_lt u 1 then out cs else r) (body_is V n C a b (u - 1) cs))

not_started : (V : View) (C : Context) (a b : Term) (u : ℕ) (cs : Changes) → entered V 0 C a b u cs ≡ out cs
unfolding entered steps.enter
not_started V C a b u cs = refl

pub unify_start : (V : View) (d : ℕ) (C : Context) (a b : Term) (u : ℕ) (cs : Changes)
    → unifier.unify V d C a b u cs ≡ as_before cs (entered V d C a b u cs)
unify_start V zero C a b u cs = sym (ap (as_before cs) (not_started V C a b u cs) ∙ ap out (take_whole cs))
unify_start V (suc n) C a b u cs = ap (as_before cs) (sym (started V n C a b u cs))
