-- Parts of the steps that are functions of their own in the code. A device of the proof.
use Rattle.std.specs.Prelude.{ℕ, Bool, not, ◌||◌, ◌&&◌, nat_eq, if◌then◌else◌, Option, Some, None, List, [], ◌∷◌, ◌++◌}
use Rattle.lf_core.specs.Term.{Path, Universe, Term, meta}
use Rattle.lf_core.specs.Spine.{head_of, arguments_of}
use Rattle.lf_core.specs.Substitution.{instantiate, level_instantiate}
use Rattle.lf_rules.specs.Environment.{Context}
use Rattle.lf_checker.specs.View.{View}
use Rattle.lf_checker.specs.Run.{Run, ◌>>=◌, put, made}
use Rattle.lf_elaboration.specs.Forms.{Instance, as_constant, pi_of}
use Rattle.lf_elaboration.specs.Unifier.{is_one_of}
use Rattle.lf_elaboration.specs.Induction.{
  speaks_of_some,
  none_depends,
  Target,
  Cases,
  lambdas_like,
  abstracted,
  motive_number,
  cases_for,
  recursor_levels,
  codomain_at,
  at_motive,
  target_of,
  by_target,
}
use Rattle.lf_elaboration.specs.Step.{Step}

-- The local of number i is the local x itself, an index, or of a type that speaks of no index.
abbrev pub is_independent : ℕ → List ℕ → ℕ → Term → Bool
is_independent x ks i A = nat_eq i x || (is_one_of i ks || not (speaks_of_some ks A))

abbrev pub target_at : Context → ℕ → Instance → List Term → List ℕ → List Path → Bool → Option Target
target_at C x I params ks ctors large =
    if not (is_one_of x ks) && none_depends x ks 0 C
    then Some (record { local = x; name = I.name; levels = I.levels; params = params; indices = ks; constructors = ctors; large = large })
    else None

-- The motive, of which the recursor has these binders, over the goal.
abbrev pub motive_over : Target → Term → Term → Run Term
motive_over t A goal = do
  G ← abstracted (t.indices ++ t.local ∷ []) goal
  put (lambdas_like A G)

-- The cases of the recursor whose type is this behind the binder of the motive.
abbrev pub cases_behind : View → Bool → Target → Term → Term → Run (Option Cases)
cases_behind V hyps t M B = do
  T ← made (instantiate B (meta motive_number))
  cases_for V hyps M t.constructors T

-- By the recursor of this type.
abbrev pub by_type : View → Term → Universe → Bool → Target → Term → Run (Option Step)
by_type V goal l hyps t ty = do
  R ← made (level_instantiate (recursor_levels t l) ty)
  T ← codomain_at t.params R
  at_motive V goal l hyps t (pi_of T)

-- By the weak head form of the local's type.
abbrev pub by_form : View → Context → Term → Universe → ℕ → Term → Bool → Run (Option Step)
by_form V C goal l x W hyps = do
  t ← target_of V C x (as_constant (head_of W)) (arguments_of W)
  by_target V goal l hyps t
