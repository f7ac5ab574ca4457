-- The functions that are opened by name are the definition's, one candidate and one goal at a time.
use Rattle.std.proofs.Common.{
  ◌≡◌,
  ℕ,
  zero,
  suc,
  ◌+◌,
  ◌-◌,
  ◌<◌,
  ◌≤◌,
  Bool,
  true,
  false,
  List,
  [],
  ◌∷◌,
  ◌++◌,
  length,
  get_or,
  slice_get,
  refl,
  sym,
  ap,
  ◌∙◌,
  arith,
}
use Rattle.std.proofs.Math.Seq.{take-suc, take-length}
use Rattle.std.proofs.lemmas.List.{reverse-append}
use Rattle.std.specs.Prelude.{take, reverse, map, Option, Some, None}
use Rattle.lf_core.specs.Term.{Path, Term}
use Rattle.lf_rules.specs.Environment.{Context}
use Rattle.lf_rules.specs.Telescope.{pi_count}
use Rattle.lf_checker.specs.View.{View}
use Rattle.lf_checker.specs.Calls.{see}
use Rattle.lf_checker.specs.Checker.{calls}
use Rattle.lf_checker.specs.Run.{Answer, done, refused, out, need, Run, go_on, ◌>>=◌, gives, choose}
use Rattle.lf_elaboration.specs.Metavariables.{Changes}
use Rattle.lf_elaboration.specs.Scope.{Scope}
use Rattle.lf_elaboration.specs.Unifier.{Unify, unify}
use Rattle.lf_elaboration.specs.Apply.{Given}
use Rattle.lf_resolution.specs.Attempt.{Attempt, before_pis, is_settled, in_brackets}
use Rattle.lf_resolution.specs.Candidate.{Candidate, Source, of_instance, locals_down, sources}
use Rattle.lf_resolution.specs.Walk as spec
use Rattle.lf_resolution.specs.Walk.{Resolve, has_class, for_pis, unifies, on_found, or_next, local_at, instance_seen}
use Rattle.lf_steps.specs.declared.halt.Halt.{Halt}
use Rattle.lf_steps.specs.Runs.{halted}
use Rattle.lf_steps.proofs.Runs.{halts}
use Rattle.lf_class.specs.declared.search.Search.{Search}
use Rattle.lf_class.specs.Named.{scope}
use Rattle.lf_class.specs.Tower.{
  names,
  resolves,
  instances,
  instances_into,
  answered,
  settled,
  by_candidate,
  tried,
  try_locals,
  latest_of,
  try_instances,
  try_all,
  walk_goal,
}
use Rattle.lf_class.proofs.Pis.{twice}
use Rattle.lf_class.proofs.Into.{all_instances}

-- ---- One candidate

tried_is : (s : Search) (C : Context) (goal : Term) (e : Option Candidate)
    → on_found e (spec.by_candidate (unify s.check.view.now s.check.depth) (resolves s C) C goal) ≡ tried s C goal e
unfolding by_candidate settled answered instances
tried_is s C goal None = refl
tried_is s C goal (Some e) = refl

-- What is settled speaks of the candidate and its metavariables alone.
alike : (s : Search) (C : Context) (a b : Attempt) (u : ℕ) → b.term ≡ a.term → b.given ≡ a.given → settled s C a b.changes u ≡ settled s C b b.changes u
unfolding settled
alike s C a b u p q = sym (λ i. settled s C (record { term = p i; rest = a.rest; given = q i; changes = b.changes }) b.changes u)

pub candidate_settled : (s : Search) (C : Context) (goal : Term) (e : Candidate) (a b : Attempt) (u v w : ℕ)
    → for_pis (length C) (pi_count e.ty) (before_pis e) u ≡ done a v → unifies (unify s.check.view.now s.check.depth) C a goal v ≡ done (Some b.changes) w
    → b.term ≡ a.term → b.given ≡ a.given → by_candidate s C goal e u ≡ settled s C b b.changes w
unfolding by_candidate
candidate_settled s C goal e a b u v w f g p q =
    ap (λ o. go_on o (λ a. unifies (unify s.check.view.now s.check.depth) C a goal >>= (λ cs. on_found cs (settled s C a)))) f
    ∙ ap (λ o. go_on o (λ cs. on_found cs (settled s C a))) g
    ∙ alike s C a b w p q

pub settled_answered : (s : Search) (C : Context) (a : Attempt) (cs : Changes) (gs : List Given) (u : ℕ) → is_settled cs a.given ≡ true
    → gs ≡ in_brackets a.given → settled s C a cs u ≡ answered s C a.term gs cs u
unfolding settled
settled_answered s C a cs gs u h e =
    ap (λ b. choose b (answered s C a.term (in_brackets a.given) cs) (gives None) u) h ∙ ap (λ ds. answered s C a.term ds cs u) (sym e)

pub instances_begin : (s : Search) (C : Context) (goals : List Term) (u : ℕ) → instances s C goals u ≡ instances_into s C [] goals u
unfolding instances instances_into
instances_begin s C goals u = all_instances (resolves s C) goals u

-- ---- Locals

there : {A : Type 0} (xs : List A) (m : ℕ) (x : A) → m < length xs → get_or xs m x ≡ x → slice_get xs m ≡ Some x
there [] m x h e = absurd (omega (arith, h))
there (y ∷ xs) zero x h e = ap Some e
there (y ∷ xs) (suc m) x h e = there xs m x (omega (arith, h)) e

pub no_local : (s : Search) (C : Context) (goal : Term) (n u : ℕ) → n ≡ 0 → try_locals s C goal n u ≡ done None u
unfolding try_locals
no_local s C goal n u e = ap (λ m. try_locals s C goal m u) e

local_step : (s : Search) (C : Context) (goal : Term) (m u : ℕ)
    → try_locals s C goal (suc m) u
    ≡ go_on (local_at s.check.view.now (names s) m (slice_get C m) u) (λ e v. go_on (tried s C goal e v) (λ o. or_next o (try_locals s C goal m)))
unfolding try_locals
local_step s C goal m u =
    let V = s.check.view.now in
    let f = unify V s.check.depth in
    let rest : Option Term → Run (Option Term) = λ o. or_next o (spec.try_all V (names s) f (resolves s C) C goal (locals_down m)) in
    twice (local_at V (names s) m (slice_get C m) u) (λ e. on_found e (spec.by_candidate f (resolves s C) C goal)) rest
    ∙ (λ i. go_on (local_at V (names s) m (slice_get C m) u) (λ e v. go_on (tried_is s C goal e i v) rest))

one_local : (s : Search) (C : Context) (goal A : Term) (m n u : ℕ) → m + 1 ≡ n → n ≤ length C → get_or C m A ≡ A
    → try_locals s C goal n u
    ≡ go_on (local_at s.check.view.now (names s) m (Some A) u) (λ e v. go_on (tried s C goal e v) (λ o. or_next o (try_locals s C goal m)))
one_local s C goal A m n u h l e =
    let i : n ≡ suc m = omega (arith, h) in
    ap (λ k. try_locals s C goal k u) i ∙ local_step s C goal m u
    ∙ ap (λ o. go_on (local_at s.check.view.now (names s) m o u) (λ e v. go_on (tried s C goal e v) (λ o. or_next o (try_locals s C goal m))))
    (there C m A (omega (arith, h, l)) e)

-- What comes of one candidate, and then of the others.
after : {A : Type 0} (o : Answer A) (next : A → Run (Option Term)) (rest : Option Term → Run (Option Term)) (e : A) (v : ℕ) → o ≡ done e v
    → go_on o (λ e v. go_on (next e v) rest) ≡ go_on (next e v) rest
after o next rest e v h = ap (λ p. go_on p (λ e v. go_on (next e v) rest)) h

pub local_halts : (s : Search) (C : Context) (goal A : Term) (h : Halt) (m n u v : ℕ) → m + 1 ≡ n → n ≤ length C → get_or C m A ≡ A
    → local_at s.check.view.now (names s) m (Some A) u ≡ halted h v → try_locals s C goal n u ≡ halted h v
local_halts s C goal A h m n u v g l e f =
    one_local s C goal A m n u g l e ∙ halts _ (λ e v. go_on (tried s C goal e v) (λ o. or_next o (try_locals s C goal m))) h v f

pub local_tried : (s : Search) (C : Context) (goal A : Term) (e : Option Candidate) (m n u v : ℕ) → m + 1 ≡ n → n ≤ length C → get_or C m A ≡ A
    → local_at s.check.view.now (names s) m (Some A) u ≡ done e v
    → try_locals s C goal n u ≡ go_on (tried s C goal e v) (λ o. or_next o (try_locals s C goal m))
local_tried s C goal A e m n u v g l i f =
    one_local s C goal A m n u g l i ∙ after _ (tried s C goal) (λ o. or_next o (try_locals s C goal m)) e v f

pub local_tried_halts : (s : Search) (C : Context) (goal A : Term) (e : Option Candidate) (h : Halt) (m n u v w : ℕ) → m + 1 ≡ n → n ≤ length C
    → get_or C m A ≡ A → local_at s.check.view.now (names s) m (Some A) u ≡ done e v → tried s C goal e v ≡ halted h w
    → try_locals s C goal n u ≡ halted h w
local_tried_halts s C goal A e h m n u v w g l i f k =
    local_tried s C goal A e m n u v g l i f ∙ halts _ (λ o. or_next o (try_locals s C goal m)) h w k

pub local_found : (s : Search) (C : Context) (goal A : Term) (e : Option Candidate) (t : Term) (m n u v w : ℕ) → m + 1 ≡ n → n ≤ length C
    → get_or C m A ≡ A → local_at s.check.view.now (names s) m (Some A) u ≡ done e v → tried s C goal e v ≡ done (Some t) w
    → try_locals s C goal n u ≡ done (Some t) w
local_found s C goal A e t m n u v w g l i f k =
    local_tried s C goal A e m n u v g l i f ∙ ap (λ o. go_on o (λ o. or_next o (try_locals s C goal m))) k

pub local_passed : (s : Search) (C : Context) (goal A : Term) (e : Option Candidate) (m n u v w : ℕ) → m + 1 ≡ n → n ≤ length C
    → get_or C m A ≡ A → local_at s.check.view.now (names s) m (Some A) u ≡ done e v → tried s C goal e v ≡ done None w
    → try_locals s C goal n u ≡ try_locals s C goal m w
local_passed s C goal A e m n u v w g l i f k =
    local_tried s C goal A e m n u v g l i f ∙ ap (λ o. go_on o (λ o. or_next o (try_locals s C goal m))) k

-- ---- Instances

pub no_instance : (s : Search) (C : Context) (goal : Term) (is : List Path) (n u : ℕ) → n ≡ 0 → try_instances s C goal (take n is) u ≡ done None u
unfolding try_instances
no_instance s C goal is n u e = ap (λ m. try_instances s C goal (take m is) u) e

pub all_instances_left : (s : Search) (C : Context) (goal : Term) (is : List Path) (n u : ℕ) → n ≡ length is
    → try_instances s C goal is u ≡ try_instances s C goal (take n is) u
all_instances_left s C goal is n u e = ap (λ ns. try_instances s C goal ns u) (sym (take-length is) ∙ ap (λ k. take k is) (sym e))

last_first : (is : List Path) (m : ℕ) (x : Path) → m < length is → get_or is m x ≡ x → reverse (take (suc m) is) ≡ x ∷ reverse (take m is)
last_first is m x h e = ap reverse (take-suc is m x h) ∙ ap (λ y. reverse (take m is ++ y ∷ [])) e ∙ reverse-append (take m is) (x ∷ [])

latest_step : (s : Search) (C : Context) (goal : Term) (x : Path) (ns : List Path) (rs : List Path) (u : ℕ) → reverse ns ≡ x ∷ reverse rs
    → try_instances s C goal ns u
    ≡ go_on (instance_seen x (see s.check.view.now x) u) (λ e v. go_on (tried s C goal e v) (λ o. or_next o (try_instances s C goal rs)))
unfolding try_instances
latest_step s C goal x ns rs u h =
    let V = s.check.view.now in
    let f = unify V s.check.depth in
    let rest : Option Term → Run (Option Term) = λ o. or_next o (spec.try_all V (names s) f (resolves s C) C goal (latest_of rs)) in
    ap (λ l. spec.try_all V (names s) f (resolves s C) C goal (map (λ n. of_instance n) l) u) h
    ∙ twice (instance_seen x (see V x) u) (λ e. on_found e (spec.by_candidate f (resolves s C) C goal)) rest
    ∙ (λ i. go_on (instance_seen x (see V x) u) (λ e v. go_on (tried_is s C goal e i v) rest))

one_instance : (s : Search) (C : Context) (goal : Term) (is : List Path) (x : Path) (m n u : ℕ) → m + 1 ≡ n → n ≤ length is → get_or is m x ≡ x
    → try_instances s C goal (take n is) u
    ≡ go_on (instance_seen x (see s.check.view.now x) u) (λ e v. go_on (tried s C goal e v) (λ o. or_next o (try_instances s C goal (take m is))))
one_instance s C goal is x m n u h l e =
    let i : n ≡ suc m = omega (arith, h) in
    ap (λ k. try_instances s C goal (take k is) u) i
    ∙ latest_step s C goal x (take (suc m) is) (take m is) u (last_first is m x (omega (arith, h, l)) e)

pub instance_halts : (s : Search) (C : Context) (goal : Term) (is : List Path) (x : Path) (h : Halt) (m n u v : ℕ) → m + 1 ≡ n → n ≤ length is
    → get_or is m x ≡ x → instance_seen x (see s.check.view.now x) u ≡ halted h v → try_instances s C goal (take n is) u ≡ halted h v
instance_halts s C goal is x h m n u v g l e f =
    one_instance s C goal is x m n u g l e ∙ halts _ (λ e v. go_on (tried s C goal e v) (λ o. or_next o (try_instances s C goal (take m is)))) h v f

instance_tried : (s : Search) (C : Context) (goal : Term) (is : List Path) (x : Path) (e : Option Candidate) (m n u v : ℕ) → m + 1 ≡ n
    → n ≤ length is → get_or is m x ≡ x → instance_seen x (see s.check.view.now x) u ≡ done e v
    → try_instances s C goal (take n is) u ≡ go_on (tried s C goal e v) (λ o. or_next o (try_instances s C goal (take m is)))
instance_tried s C goal is x e m n u v g l i f =
    one_instance s C goal is x m n u g l i ∙ after _ (tried s C goal) (λ o. or_next o (try_instances s C goal (take m is))) e v f

pub instance_tried_halts : (s : Search) (C : Context) (goal : Term) (is : List Path) (x : Path) (e : Option Candidate) (h : Halt) (m n u v w : ℕ)
    → m + 1 ≡ n → n ≤ length is → get_or is m x ≡ x → instance_seen x (see s.check.view.now x) u ≡ done e v → tried s C goal e v ≡ halted h w
    → try_instances s C goal (take n is) u ≡ halted h w
instance_tried_halts s C goal is x e h m n u v w g l i f k =
    instance_tried s C goal is x e m n u v g l i f ∙ halts _ (λ o. or_next o (try_instances s C goal (take m is))) h w k

pub instance_found : (s : Search) (C : Context) (goal : Term) (is : List Path) (x : Path) (e : Option Candidate) (t : Term) (m n u v w : ℕ)
    → m + 1 ≡ n → n ≤ length is → get_or is m x ≡ x → instance_seen x (see s.check.view.now x) u ≡ done e v → tried s C goal e v ≡ done (Some t) w
    → try_instances s C goal (take n is) u ≡ done (Some t) w
instance_found s C goal is x e t m n u v w g l i f k =
    instance_tried s C goal is x e m n u v g l i f ∙ ap (λ o. go_on o (λ o. or_next o (try_instances s C goal (take m is)))) k

pub instance_passed : (s : Search) (C : Context) (goal : Term) (is : List Path) (x : Path) (e : Option Candidate) (m n u v w : ℕ)
    → m + 1 ≡ n → n ≤ length is → get_or is m x ≡ x → instance_seen x (see s.check.view.now x) u ≡ done e v → tried s C goal e v ≡ done None w
    → try_instances s C goal (take n is) u ≡ try_instances s C goal (take m is) w
instance_passed s C goal is x e m n u v w g l i f k =
    instance_tried s C goal is x e m n u v g l i f ∙ ap (λ o. go_on o (λ o. or_next o (try_instances s C goal (take m is)))) k

-- ---- All candidates

next_joined : (V : View) (S : Scope) (f : Unify) (self : Resolve) (C : Context) (goal : Term) (xs ys : List Source)
    (ih : (v : ℕ) → spec.try_all V S f self C goal (xs ++ ys) v
    ≡ go_on (spec.try_all V S f self C goal xs v) (λ o. or_next o (spec.try_all V S f self C goal ys)))
    (o : Answer (Option Term))
    → go_on o (λ p. or_next p (spec.try_all V S f self C goal (xs ++ ys)))
    ≡ go_on (go_on o (λ p. or_next p (spec.try_all V S f self C goal xs))) (λ p. or_next p (spec.try_all V S f self C goal ys))
next_joined V S f self C goal xs ys ih (done (Some t) v) = refl
next_joined V S f self C goal xs ys ih (done None v) = ih v
next_joined V S f self C goal xs ys ih (refused e v) = refl
next_joined V S f self C goal xs ys ih out = refl
next_joined V S f self C goal xs ys ih (need k) = refl

joined : (V : View) (S : Scope) (f : Unify) (self : Resolve) (C : Context) (goal : Term) (xs ys : List Source) (u : ℕ)
    → spec.try_all V S f self C goal (xs ++ ys) u
    ≡ go_on (spec.try_all V S f self C goal xs u) (λ o. or_next o (spec.try_all V S f self C goal ys))
joined V S f self C goal [] ys u = refl
joined V S f self C goal (x ∷ xs) ys u =
    next_joined V S f self C goal xs ys (λ v. joined V S f self C goal xs ys v) (spec.try V S f self C goal x u)

all_is : (s : Search) (C : Context) (goal : Term) (u : ℕ)
    → spec.try_all s.check.view.now (names s) (unify s.check.view.now s.check.depth) (resolves s C) C goal (sources (names s) C) u ≡ try_all s C goal u
unfolding try_all try_locals try_instances
all_is s C goal u =
    let f = unify s.check.view.now s.check.depth in
    joined s.check.view.now (names s) f (resolves s C) C goal (locals_down (length C)) (latest_of s.instances.now) u

pub all_passed : (s : Search) (C : Context) (goal : Term) (u v : ℕ) → try_locals s C goal (length C) u ≡ done None v
    → try_all s C goal u ≡ try_instances s C goal s.instances.now v
unfolding try_all
all_passed s C goal u v e = ap (λ o. go_on o (λ o. or_next o (try_instances s C goal s.instances.now))) e

-- ---- A goal

pub goal_tried : (s : Search) (C : Context) (goal W : Term) (u v w : ℕ) → (calls s.check.view.now s.check.depth).whnf true C goal u ≡ done W v
    → has_class s.check.view.now (names s) W v ≡ done true w → walk_goal s C goal u ≡ try_all s C goal w
unfolding walk_goal
goal_tried s C goal W u v w e f =
    let next : Bool → Run (Option Term) = λ b. choose b (try_all s C goal) (gives None) in
    ap (λ o. go_on o (λ W. has_class s.check.view.now (names s) W >>= next)) e ∙ ap (λ o. go_on o next) f

chosen_is : (s : Search) (C : Context) (goal : Term) (b : Bool) (u : ℕ)
    → choose b (spec.try_all s.check.view.now (names s) (unify s.check.view.now s.check.depth) (resolves s C) C goal (sources (names s) C)) (gives None) u
    ≡ choose b (try_all s C goal) (gives None) u
chosen_is s C goal true u = all_is s C goal u
chosen_is s C goal false u = refl

goal_is : (s : Search) (C : Context) (goal : Term) (u : ℕ)
    → spec.walk_body s.check.view.now (names s) (calls s.check.view.now s.check.depth) (unify s.check.view.now s.check.depth) (resolves s C) C goal u
    ≡ walk_goal s C goal u
unfolding walk_goal
goal_is s C goal u =
    let V = s.check.view.now in
    λ i. go_on ((calls V s.check.depth).whnf true C goal u) (λ W v. go_on (has_class V (names s) W v) (λ b w. chosen_is s C goal b w i))

none_at : (V : View) (S : Scope) (n d : ℕ) (C : Context) (goal : Term) (u : ℕ) → d ≡ 0 → spec.walk V S n d C goal u ≡ done None u
none_at V S n zero C goal u e = refl
none_at V S n (suc d) C goal u e = absurd (omega (arith, e))

out_at : (V : View) (S : Scope) (n d : ℕ) (C : Context) (goal : Term) (u : ℕ) → n ≡ 0 → 0 < d → spec.walk V S n d C goal u ≡ out
out_at V S n zero C goal u e h = absurd (omega (arith, h))
out_at V S zero (suc d) C goal u e h = refl
out_at V S (suc n) (suc d) C goal u e h = absurd (omega (arith, e))

some_at : (V : View) (S : Scope) (n d : ℕ) (C : Context) (goal : Term) (u : ℕ) → 0 < n → 0 < d
    → spec.walk V S n d C goal u ≡ spec.walk_body V S (calls V (n - 1)) (unify V (n - 1)) (spec.walk V S (n - 1) (d - 1) C) C goal u
some_at V S n zero C goal u g h = absurd (omega (arith, h))
some_at V S zero (suc d) C goal u g h = absurd (omega (arith, g))
some_at V S (suc n) (suc d) C goal u g h =
    let e : suc n - 1 ≡ n = omega arith in
    let f : suc d - 1 ≡ d = omega arith in
    rw (e, f) refl

pub resolved_none : (s : Search) (C : Context) (goal : Term) (u : ℕ) → s.trees ≡ 0 → resolves s C goal u ≡ done None u
unfolding resolves
resolved_none s C goal u e = none_at s.check.view.now (names s) s.check.depth s.trees C goal u e

pub resolved_out : (s : Search) (C : Context) (goal : Term) (u : ℕ) → s.check.depth ≡ 0 → 0 < s.trees → resolves s C goal u ≡ out
unfolding resolves
resolved_out s C goal u e h = out_at s.check.view.now (names s) s.check.depth s.trees C goal u e h

body_of : View → List Path → List Path → ℕ → ℕ → Context → Term → ℕ → Answer (Option Term)
body_of V cs is n d C goal u = spec.walk_body V (scope cs is) (calls V n) (unify V n) (spec.walk V (scope cs is) n d C) C goal u

pub resolved_below : (s t : Search) (C : Context) (goal : Term) (u : ℕ) → 0 < s.check.depth → 0 < s.trees → t.check.view.now ≡ s.check.view.now
    → t.check.depth ≡ s.check.depth - 1 → t.classes.now ≡ s.classes.now → t.instances.now ≡ s.instances.now → t.trees ≡ s.trees - 1
    → resolves s C goal u ≡ walk_goal t C goal u
unfolding resolves body_of
resolved_below s t C goal u g h a b c d e =
    some_at s.check.view.now (names s) s.check.depth s.trees C goal u g h
    ∙ sym (λ i. body_of (a i) (c i) (d i) (b i) (e i) C goal u)
    ∙ goal_is t C goal u
