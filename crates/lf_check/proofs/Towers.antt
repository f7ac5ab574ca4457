-- The functions that are opened by name are the definition's.
use Rattle.std.proofs.Common.{◌≡◌, ℕ, zero, suc, ◌-◌, Bool, true, false, List, refl, sym, ap, ◌∙◌}
use Rattle.std.specs.Prelude.{Option, Some, None}
use Rattle.lf_core.specs.Term.{Path, Universe, Term}
use Rattle.lf_core.specs.Spine.{head_of, arguments_of}
use Rattle.lf_rules.specs.Environment.{Context}
use Rattle.lf_checker.specs.View.{View}
use Rattle.lf_checker.specs.Extends.{Shape}
use Rattle.lf_checker.specs.Run.{Answer, done, refused, out, need, Run, go_on, gives}
use Rattle.lf_checker.specs.Calls.{Mode, Calls, Seen, known, unknown, missing, see}
use Rattle.lf_checker.specs.Checker.{calls}
use Rattle.lf_checker.specs.Whnf as whnf
use Rattle.lf_checker.specs.Whnf.{Progress, stays, next, ends, Recursor, Split, split, fire, literal_constructor}
use Rattle.lf_checker.specs.Equal as equal
use Rattle.lf_checker.specs.Equal.{Verdict, decided, again, undecided}
use Rattle.lf_steps.specs.Runs.{enter}
use Rattle.lf_check.specs.Steps as steps
use Rattle.lf_check.specs.Tower as tower
use Rattle.lf_check.specs.Tower.{
  head_step,
  put_in,
  like_k,
  at_type,
  at_seen,
  on_split,
  operands,
  projection,
  do_step,
  whnf_turn,
  whnf_loop,
  whnf_body,
  by_form,
  by_proofs,
  by_eta,
  eta_by,
  eta_at,
  equal_heads,
  built_of,
  against_built,
  by_structures,
  by_types,
  by_literals,
  by_arguments,
  by_unfolding,
  by_heads,
  by_rest,
  equal_turn,
  equal_loop,
  equal_body,
}
use Rattle.lf_check.proofs.HeadSteps.{turn_is, like_k_is}
use Rattle.lf_check.proofs.Nest.{at_whnf, at_equal}

bound : {A B : Type 0} (o : Answer A) (f g : A → Run B) → ((a : A) (u : ℕ) → f a u ≡ g a u) → go_on o f ≡ go_on o g
bound (done a u) f g h = h a u
bound (refused e u) f g h = refl
bound out f g h = refl
bound (need k) f g h = refl

like_k_tower : (V : View) (c : Calls) (C : Context) (ls : List Universe) (r : Recursor) (s : Split) (w : Term) (type : Shape) (u : ℕ)
    → like_k V c C ls r s w type u ≡ whnf.like_k V c C ls r s w type.ty type.detail u
unfolding like_k put_in
like_k_tower V c C ls r s w type u = sym (like_k_is V c C ls r s w type.ty type.detail u)

or_tower : (V : View) (c : Calls) (C : Context) (ls : List Universe) (r : Recursor) (s : Split) (w : Term) (type : Shape) (p : Progress) (u : ℕ)
    → tower.or_like_k V c C ls r s w type p u ≡ whnf.or_like_k V c C ls r s w type p u
or_tower V c C ls r s w type stays u = like_k_tower V c C ls r s w type u
or_tower V c C ls r s w type (next t) u = refl
or_tower V c C ls r s w type (ends t) u = refl

at_tower : (V : View) (c : Calls) (C : Context) (ls : List Universe) (r : Recursor) (s : Split) (k : Seen) (u : ℕ)
    → at_seen V c C ls r s k u ≡ whnf.at_major V c C ls r s k u
unfolding at_type
at_tower V c C ls r s (known type) u =
    bound (c.whnf true C s.major u) _ _ (λ w v. bound (fire V r ls s (literal_constructor w) v) _ _ (λ p i. or_tower V c C ls r s w type p i))
at_tower V c C ls r s unknown u = refl
at_tower V c C ls r s (missing k) u = refl

split_tower : (V : View) (c : Calls) (C : Context) (ls : List Universe) (r : Recursor) (o : Option Split) (u : ℕ)
    → on_split V c C ls r o u ≡ whnf.recursor_turn V c C ls r o u
split_tower V c C ls r None u = refl
split_tower V c C ls r (Some s) u = at_tower V c C ls r s (see V r.ind) u

step_tower : (V : View) (c : Calls) (d : Bool) (C : Context) (s : steps.Step) (u : ℕ) → do_step V c d C s u ≡ steps.do_step V c d C s u
unfolding operands projection
step_tower V c d C (steps.ready p) u = refl
step_tower V c d C (steps.recurse ls r n xs) u = split_tower V c C ls r (split n xs) u
step_tower V c d C (steps.operate n x y) u = refl
step_tower V c d C (steps.project S i t xs) u = refl

turn_tower : (V : View) (c : Calls) (d : Bool) (C : Context) (t : Term) (u : ℕ) → whnf_turn V c d C t u ≡ whnf.whnf_turn V c d C t u
unfolding whnf_turn head_step
turn_tower V c d C t u = bound (head_step V d t u) _ _ (λ s v. step_tower V c d C s v) ∙ sym (turn_is V c d C t u)

turned : (V : View) (c : Calls) (d : Bool) (C : Context) (n : ℕ) (t : Term) (ih : (s : Term) (v : ℕ) → whnf_loop V c d C n s v ≡ whnf.whnf_loop V c d C n s v)
    (p : Progress) (u : ℕ)
    → (elim p as (λ _. Run Term) [ stays ↦ gives t | next s ↦ whnf_loop V c d C n s | ends s ↦ gives s ]) u
    ≡ (elim p as (λ _. Run Term) [ stays ↦ gives t | next s ↦ whnf.whnf_loop V c d C n s | ends s ↦ gives s ]) u
turned V c d C n t ih stays u = refl
turned V c d C n t ih (next s) u = ih s u
turned V c d C n t ih (ends s) u = refl

loop_tower : (V : View) (c : Calls) (d : Bool) (C : Context) (n : ℕ) (t : Term) (u : ℕ) → whnf_loop V c d C n t u ≡ whnf.whnf_loop V c d C n t u
unfolding whnf_loop
loop_tower V c d C zero t u = refl
loop_tower V c d C (suc n) t u =
    ap (λ o. go_on o (λ p. elim p [ stays ↦ gives t | next s ↦ whnf_loop V c d C n s | ends s ↦ gives s ])) (turn_tower V c d C t u)
    ∙ bound (whnf.whnf_turn V c d C t u) _ _ (turned V c d C n t (loop_tower V c d C n))

body_tower : (V : View) (c : Calls) (d : Bool) (C : Context) (t : Term) (u : ℕ) → whnf_body V c d C t u ≡ whnf.whnf_body V c d C t u
unfolding whnf_body whnf.whnf_body
body_tower V c d C t u = loop_tower V c d C whnf.turn_limit t u

pub whnf_start : (V : View) (d : ℕ) (delta : Bool) (C : Context) (t : Term) (u : ℕ)
    → (calls V d).whnf delta C t u ≡ go_on (enter d u) (λ _. whnf_body V (calls V (d - 1)) delta C t)
whnf_start V d delta C t u = at_whnf V d delta C t u ∙ bound (enter d u) _ _ (λ x v. sym (body_tower V (calls V (d - 1)) delta C t v))

-- ---- Equality.

turn_equal : (V : View) (c : Calls) (C : Context) (a b : Term) (u : ℕ) → equal_turn V c C a b u ≡ equal.equal_turn V c C a b u
unfolding equal_turn by_form by_rest by_heads by_unfolding by_arguments equal_heads by_literals by_types by_structures against_built built_of eta_at eta_by
    by_eta by_proofs
turn_equal V c C a b u = refl

decided_turn : (V : View) (c : Calls) (C : Context) (n : ℕ) (ih : (x y : Term) (v : ℕ) → equal_loop V c C n x y v ≡ equal.equal_loop V c C n x y v)
    (p : Verdict) (u : ℕ)
    → (elim p as (λ _. Run Bool) [ decided r ↦ gives r | again x y ↦ equal_loop V c C n x y | undecided ↦ gives false ]) u
    ≡ (elim p as (λ _. Run Bool) [ decided r ↦ gives r | again x y ↦ equal.equal_loop V c C n x y | undecided ↦ gives false ]) u
decided_turn V c C n ih (decided r) u = refl
decided_turn V c C n ih (again x y) u = ih x y u
decided_turn V c C n ih undecided u = refl

loop_equal : (V : View) (c : Calls) (C : Context) (n : ℕ) (a b : Term) (u : ℕ) → equal_loop V c C n a b u ≡ equal.equal_loop V c C n a b u
unfolding equal_loop
loop_equal V c C zero a b u = refl
loop_equal V c C (suc n) a b u =
    ap (λ o. go_on o (λ p. elim p [ decided r ↦ gives r | again x y ↦ equal_loop V c C n x y | undecided ↦ gives false ])) (turn_equal V c C a b u)
    ∙ bound (equal.equal_turn V c C a b u) _ _ (decided_turn V c C n (loop_equal V c C n))

body_equal : (V : View) (c : Calls) (C : Context) (a b : Term) (u : ℕ) → equal_body V c C a b u ≡ equal.equal_body V c C a b u
unfolding equal_body equal.equal_body
body_equal V c C a b u = loop_equal V c C whnf.turn_limit a b u

pub equal_start : (V : View) (d : ℕ) (C : Context) (a b : Term) (u : ℕ)
    → (calls V d).equal C a b u ≡ go_on (enter d u) (λ _. equal_body V (calls V (d - 1)) C a b)
equal_start V d C a b u = at_equal V d C a b u ∙ bound (enter d u) _ _ (λ x v. sym (body_equal V (calls V (d - 1)) C a b v))
