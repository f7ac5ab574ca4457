-- Injection on an equation of two applications of one constructor: a step of a proof that reads no written term and doesn't unify.
use Rattle.std.specs.Prelude.{ℕ, ◌+◌, Bool, true, false, ◌&&◌, nat_eq, Option, Some, None, List, [], ◌∷◌, ◌++◌, codes, length, take, drop}
use Rattle.lf_core.specs.Term.{Path, Universe, Term, free, const, pi}
use Rattle.lf_core.specs.Same.{same, same_path, same_universes}
use Rattle.lf_core.specs.Spine.{apply, head_of, arguments_of}
use Rattle.lf_core.specs.Substitution.{level_instantiate}
use Rattle.lf_core.specs.declared.constant.Detail.{Detail}
use Rattle.lf_core.specs.declared.constant.Detail.TheVariants.{Plain, Ind, Ctor, Rec}
use Rattle.lf_rules.specs.Environment.{Context}
use Rattle.lf_checker.specs.View.{View}
use Rattle.lf_checker.specs.Run.{Run, ◌>>=◌, gives, needs, choose, put, made}
use Rattle.lf_checker.specs.Calls.{Calls, Seen, known, unknown, missing, see}
use Rattle.lf_elaboration.specs.Forms.{Instance, as_constant}
use Rattle.lf_elaboration.specs.Identifiers.{is_realized}
use Rattle.lf_elaboration.specs.Step.{Step, explicit}
use Rattle.lf_elaboration.specs.Equations.{Equation, as_equation}
use Rattle.lf_elaboration.specs.Induction.{codomain_at}

abbrev pub same_trees : List Term → List Term → Bool
same_trees [] [] = true
same_trees (x ∷ xs) (y ∷ ys) = same x y && same_trees xs ys
same_trees [] (y ∷ ys) = false
same_trees (x ∷ xs) [] = false

-- One constructor at all its arguments on both sides, at one list of levels and the same trees as parameters.
abbrev pub built_alike : Instance → Instance → List Term → List Term → Detail → Bool
built_alike c d xs ys (Ctor ind index params fields) =
    same_path c.name d.name && (same_universes c.levels d.levels && (nat_eq (length xs) (params + fields) && (nat_eq (length ys) (params + fields)
    && same_trees (take params xs) (take params ys))))
built_alike c d xs ys Plain = false
built_alike c d xs ys (Ind params indices ctors large) = false
built_alike c d xs ys (Rec ind params minors indices rules) = false

abbrev pub params_in : Detail → ℕ
params_in (Ctor ind index params fields) = params
params_in Plain = 0
params_in (Ind params indices ctors large) = 0
params_in (Rec ind params minors indices rules) = 0

abbrev pub injected : Path → Term → List Universe → List Term → Option Term → Run (Option Step)
injected n goal ls xs None = gives None
injected n goal ls xs (Some A) = do
  G ← put (pi (explicit (codes "a")) A goal)
  h ← put (apply (const n ls) xs)
  gives (Some (record { head = None; goals = G ∷ []; pads = None ∷ []; tail = h ∷ []; asked = Some n }))

-- The constant that says so, of this type, has to have been made.
abbrev pub when_made : Bool → Term → Path → List Universe → List Term → Term → Run (Option Step)
when_made false goal n ls xs ty = gives None
when_made true goal n ls xs ty = do
  T ← made (level_instantiate ls ty)
  A ← codomain_at xs T
  injected n goal ls xs A

abbrev pub by_injectivity : View → Term → Path → List Universe → List Term → Seen → Run (Option Step)
by_injectivity V goal n ls xs (known k) = when_made (is_realized V n) goal n ls xs k.ty
by_injectivity V goal n ls xs unknown = gives None
by_injectivity V goal n ls xs (missing k) = needs k

abbrev pub injectivity_of : Path → Path
injectivity_of n = n ++ codes "inj" ∷ []

abbrev pub by_constructors : View → Term → ℕ → Instance → Instance → List Term → List Term → Seen → Run (Option Step)
by_constructors V goal x c d xs ys (known k) =
    let all : List Term = xs ++ (drop (params_in k.detail) ys ++ free x ∷ []) in
    choose (built_alike c d xs ys k.detail) (by_injectivity V goal (injectivity_of c.name) c.levels all (see V (injectivity_of c.name))) (gives None)
by_constructors V goal x c d xs ys unknown = gives None
by_constructors V goal x c d xs ys (missing k) = needs k

abbrev pub by_sides : View → Term → ℕ → Option Instance → Option Instance → List Term → List Term → Run (Option Step)
by_sides V goal x (Some c) (Some d) xs ys = by_constructors V goal x c d xs ys (see V c.name)
by_sides V goal x (Some c) None xs ys = gives None
by_sides V goal x None d xs ys = gives None

abbrev pub by_equation : View → Calls → Context → Term → ℕ → Option Equation → Run (Option Step)
by_equation V c C goal x None = gives None
by_equation V c C goal x (Some e) = do
  a ← c.whnf true C e.left
  b ← c.whnf true C e.right
  by_sides V goal x (as_constant (head_of a)) (as_constant (head_of b)) (arguments_of a) (arguments_of b)

-- A is the type of the local x; the goal becomes what the equation's sides say of each other, and then the goal.
abbrev pub inject : View → Calls → Context → Term → ℕ → Term → Run (Option Step)
inject V c C goal x A = do
  W ← c.whnf true C A
  by_equation V c C goal x (as_equation W)
