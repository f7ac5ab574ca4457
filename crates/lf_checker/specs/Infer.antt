-- The type of a term.
use Rattle.std.specs.Prelude.{ℕ, true, ◌&&◌, nat_eq, nat_lt, Option, Some, None, List, [], ◌∷◌, ◌++◌, length, slice_get}
use Rattle.lf_core.specs.Term.{Path, Universe, level_succ, level_imax, Term, bound, free, meta, sort, const, app, lam, pi, letin, lit, proj}
use Rattle.lf_core.specs.Same.{same_path}
use Rattle.lf_core.specs.Spine.{head_of, arguments_of}
use Rattle.lf_rules.specs.Structure.{projections}
use Rattle.lf_core.specs.Substitution.{instantiate, level_instantiate, abstract}
use Rattle.lf_rules.specs.Environment.{Context, with, nat_type}
use Rattle.lf_checker.specs.View.{View}
use Rattle.lf_checker.specs.Run.{Run, ◌>>=◌, gives, refuse, needs, choose, under, put, made, opening}
use Rattle.lf_checker.specs.declared.fault.TypeFault.TheVariants.{Unknown, Levels, NotFunction, Argument, NotType, Value, NotClosed, NotStructure}
use Rattle.lf_checker.specs.Calls.{Mode, checked, unchecked, Calls, Seen, known, unknown, missing, see}
use Rattle.lf_checker.specs.Structures.{Structure, structure_of}

abbrev pub of_context : Option Term → Run Term
of_context (Some A) = gives A
of_context None = refuse NotClosed

-- A metavariable has the type that it was made with; where tests are made it is refused.
abbrev pub of_metavariable : Mode → ℕ → Run Term
of_metavariable checked k = refuse NotClosed
of_metavariable (unchecked types) k = of_context (slice_get types k)

abbrev pub of_constant : Path → List Universe → Seen → Run Term
of_constant n ls (known c) = choose (nat_eq (length ls) (length c.levels)) (made (level_instantiate ls c.ty)) (refuse (Levels n))
of_constant n ls unknown = refuse (Unknown n)
of_constant n ls (missing k) = needs k

-- The level of the sort, and the parts of the pi, that a weak head form is; `has` is the type that it comes from.
abbrev pub on_sort : Term → Term → Run Universe
on_sort has (sort l) = gives l
on_sort has _ = refuse (NotType has)

abbrev pub on_pi : {A : Type 0} → Term → Term → (Term → Term → Run A) → Run A
on_pi has (pi x A B) f = f A B
on_pi has _ f = refuse (NotFunction has)

-- The level of the sort of a type.
abbrev pub sort_of : Calls → Mode → Context → Term → Run Universe
sort_of c m C A = do
  S ← c.infer m C A
  W ← c.whnf true C S
  on_sort S W

abbrev pub is_type : Calls → Mode → Context → Term → Run (Unit {0})
is_type c checked C A = do
  l ← sort_of c checked C A
  gives tt
is_type c (unchecked types) C A = gives tt

abbrev pub argument_fits : Calls → Mode → Context → Term → Term → Run (Unit {0})
argument_fits c checked C a A = do
  X ← c.infer checked C a
  fits ← c.equal C X A
  choose fits (gives tt) (refuse (Argument X A))
argument_fits c (unchecked types) C a A = gives tt

abbrev pub value_fits : Calls → Mode → Context → Term → Term → Run (Unit {0})
value_fits c checked C v A = do
  l ← sort_of c checked C A
  X ← c.infer checked C v
  fits ← c.equal C X A
  choose fits (gives tt) (refuse (Value X A))
value_fits c (unchecked types) C v A = gives tt

-- The domain that is left of a type of pis at these arguments; `has` is the type of the projection's term.
abbrev pub domain_at : Term → Term → List Term → Run Term
domain_at has (pi x A B) [] = gives A
domain_at has (pi x A B) (y ∷ ys) = do
  D ← made (instantiate B y)
  domain_at has D ys
domain_at has T ys = refuse (NotStructure has)

abbrev pub of_structure : Term → Path → ℕ → Term → List Universe → List Term → Option Structure → Run Term
of_structure has S i t ls ps (Some s) = choose (nat_eq (length ls) s.levels && (nat_eq (length ps) s.params && nat_lt i s.fields)) (do
  D ← made (level_instantiate ls s.ty)
  domain_at has D (ps ++ projections S i t)) (refuse (NotStructure has))
of_structure has S i t ls ps None = refuse (NotStructure has)

-- The weak head form of the type is the structure that is named, at its parameters.
abbrev pub on_structure : View → Term → Path → ℕ → Term → Term → List Term → Run Term
on_structure V has S i t (const n ls) ps = choose (same_path n S) (do
  s ← structure_of V S
  of_structure has S i t ls ps s) (refuse (NotStructure has))
on_structure V has S i t h ps = refuse (NotStructure has)

unfoldable pub infer_body : View → Calls → Mode → Context → Term → Run Term
infer_body V c m C (bound i) = refuse NotClosed
infer_body V c m C (free k) = of_context (slice_get C k)
infer_body V c m C (meta k) = of_metavariable m k
infer_body V c m C (sort l) = put (sort (level_succ l))
infer_body V c m C (const n ls) = of_constant n ls (see V n)
infer_body V c m C (lit n) = gives nat_type
infer_body V c m C (app f a) = do
  F ← c.infer m C f
  P ← c.whnf true C F
  on_pi F P λ A B. do
    fits ← argument_fits c m C a A
    made (instantiate B a)
infer_body V c m C (lam x A b) = do
  typed ← is_type c m C A
  o ← opening C b
  B ← under x.name (c.infer m (with C A) o)
  D ← made (abstract B (length C))
  put (pi x A D)
infer_body V c m C (pi x A B) = do
  u ← sort_of c m C A
  o ← opening C B
  v ← under x.name (sort_of c m (with C A) o)
  put (sort (level_imax u v))
infer_body V c m C (letin x A v b) = do
  fits ← value_fits c m C v A
  t ← made (instantiate b v)
  c.infer m C t
infer_body V c m C (proj S i t) = do
  T ← c.infer m C t
  W ← c.whnf true C T
  on_structure V T S i t (head_of W) (arguments_of W)
