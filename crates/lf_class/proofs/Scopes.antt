-- A walk reads nothing of a scope but its classes and its instances.
use Rattle.std.proofs.Common.{◌≡◌, ℕ, zero, suc, true, List, [], ◌∷◌, refl, sym, ap, ◌∙◌}
use Rattle.std.specs.Prelude.{Option, Some, None, slice_get}
use Rattle.lf_core.specs.Term.{Path, Term}
use Rattle.lf_core.specs.Spine.{head_of}
use Rattle.lf_rules.specs.Environment.{Context}
use Rattle.lf_checker.specs.View.{View}
use Rattle.lf_checker.specs.Calls.{Calls}
use Rattle.lf_checker.specs.Checker.{calls}
use Rattle.lf_checker.specs.Run.{Answer, ◌>>=◌, gives, choose}
use Rattle.lf_elaboration.specs.Scope.{Scope}
use Rattle.lf_elaboration.specs.Forms.{Instance, as_constant}
use Rattle.lf_elaboration.specs.Unifier.{Unify, unify, has_any_metavariable}
use Rattle.lf_resolution.specs.Candidate.{Source, of_local, of_instance, sources, as_local}
use Rattle.lf_resolution.specs.Tree.{greatest_tree}
use Rattle.lf_resolution.specs.Walk.{
  Resolve,
  names_class,
  tried,
  local_at,
  candidate_at,
  on_found,
  by_candidate,
  try,
  or_next,
  try_all,
  walk_body,
  walk,
  resolve,
}
use Rattle.lf_class.specs.declared.search.Search.{Search}
use Rattle.lf_class.specs.Named.{scope}
use Rattle.lf_class.specs.Tower.{resolves}

abbrev named : Scope → Scope
named S = scope S.classes S.instances

class_is : (V : View) (S : Scope) (o : Option Instance) → names_class V S o ≡ names_class V (named S) o
class_is V S None = refl
class_is V S (Some c) = refl

local_is : (V : View) (S : Scope) (k : ℕ) (o : Option Term) → local_at V S k o ≡ local_at V (named S) k o
local_is V S k None = refl
local_is V S k (Some A) =
    ap (λ m. m >>= (λ b. choose b (choose (has_any_metavariable A) (gives None) (tried (as_local k A))) (gives None))) (class_is V S (as_constant (head_of A)))

source_is : (V : View) (S : Scope) (C : Context) (s : Source) → candidate_at V S C s ≡ candidate_at V (named S) C s
source_is V S C (of_local k) = local_is V S k (slice_get C k)
source_is V S C (of_instance n) = refl

try_is : (V : View) (S : Scope) (f : Unify) (self : Resolve) (C : Context) (goal : Term) (s : Source)
    → try V S f self C goal s ≡ try V (named S) f self C goal s
try_is V S f self C goal s = ap (λ m. m >>= (λ e. on_found e (by_candidate f self C goal))) (source_is V S C s)

all_is : (V : View) (S : Scope) (f : Unify) (self : Resolve) (C : Context) (goal : Term) (ss : List Source)
    → try_all V S f self C goal ss ≡ try_all V (named S) f self C goal ss
all_is V S f self C goal [] = refl
all_is V S f self C goal (s ∷ ss) = λ i. (try_is V S f self C goal s i) >>= (λ o. or_next o (all_is V S f self C goal ss i))

body_is : (V : View) (S : Scope) (c : Calls) (f : Unify) (self : Resolve) (C : Context) (goal : Term)
    → walk_body V S c f self C goal ≡ walk_body V (named S) c f self C goal
body_is V S c f self C goal = λ i. c.whnf true C goal >>= (λ W. (class_is V S (as_constant (head_of W)) i) >>=
    (λ b. choose b (all_is V S f self C goal (sources S C) i) (gives None)))

walk_is : (V : View) (S : Scope) (n d : ℕ) (C : Context) (goal : Term) → walk V S n d C goal ≡ walk V (named S) n d C goal
walk_is V S n zero C goal = refl
walk_is V S zero (suc d) C goal = refl
walk_is V S (suc n) (suc d) C goal =
    body_is V S (calls V n) (unify V n) (walk V S n d C) C goal
    ∙ ap (λ self. walk_body V (named S) (calls V n) (unify V n) self C goal) (λ i g. walk_is V S n d C g i)

walk_of : View → ℕ → Context → Term → ℕ → List Path → List Path → ℕ → Answer (Option Term)
walk_of V n C goal u cs is d = walk V (scope cs is) n d C goal u

pub resolved : (s : Search) (V : View) (S : Scope) (n : ℕ) (C : Context) (goal : Term) (u : ℕ) → s.check.view.now ≡ V → s.check.depth ≡ n
    → s.classes.now ≡ S.classes → s.instances.now ≡ S.instances → s.trees ≡ greatest_tree → resolves s C goal u ≡ resolve V S n C goal u
unfolding resolves walk_of
resolved s V S n C goal u a b c d e =
    (λ i. walk_of (a i) (b i) C goal u (c i) (d i) (e i)) ∙ sym (ap (λ m. m u) (walk_is V S n greatest_tree C goal))
