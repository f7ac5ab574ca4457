-- The axioms that a constant reaches: those that it names, and that are named by what it names. The walk says in which order a view is read,
-- and so what has to be made first; the relation says which axioms they are.
use Rattle.std.specs.Prelude.{ℕ, zero, suc, ◌&&◌, if◌then◌else◌, List, [], ◌∷◌, ◌++◌, map, flat_map, Contains}
use Rattle.lf_core.specs.Term.{Path, Term, bound, free, meta, sort, const, app, lam, pi, letin, lit, proj}
use Rattle.lf_core.specs.declared.constant.Detail.{Detail}
use Rattle.lf_core.specs.declared.constant.Detail.TheVariants.{Plain, Ind, Ctor, Rec}
use Rattle.lf_core.specs.declared.constant.TaskKey.{TaskKey}
use Rattle.lf_core.specs.declared.constant.TaskKey.TheVariants.{Body, Real}
use Rattle.lf_checker.specs.View.{
  View,
  Entry,
  is_axiom,
  Lookup,
  found,
  absent,
  need_body,
  need_real,
  lookup_of,
  KnownBody,
  value,
  opaque,
  unresolved,
  value_of,
}
use Rattle.lf_checker.specs.Whnf.{turn_limit}
use Rattle.lf_rules.specs.Recursor.{is_among}

-- ---- What a constant names

-- The constants of a term, from the left; a projection names its structure.
abbrev pub names_in : Term → List Path
names_in (const n ls) = n ∷ []
names_in (app f a) = names_in f ++ names_in a
names_in (lam x A b) = names_in A ++ names_in b
names_in (pi x A B) = names_in A ++ names_in B
names_in (letin x A v b) = names_in A ++ (names_in v ++ names_in b)
names_in (proj s i t) = s ∷ names_in t
names_in (bound i) = []
names_in (free k) = []
names_in (meta k) = []
names_in (sort l) = []
names_in (lit n) = []

-- Of its declaration: the rules of a recursor, and the type and the constructors, to which the type leads.
abbrev pub names_of_detail : Detail → List Path
names_of_detail Plain = []
names_of_detail (Ind params indices ctors large) = ctors
names_of_detail (Ctor ind index params fields) = ind ∷ []
names_of_detail (Rec ind params minors indices rules) = flat_map names_in rules ++ ind ∷ []

abbrev pub names_of_value : KnownBody → List Path
names_of_value (value v h) = names_in v
names_of_value opaque = []
names_of_value (unresolved k) = []

abbrev pub names_of_found : View → Path → Lookup → List Path
names_of_found V n (found c) = names_in c.ty ++ (names_of_value (value_of V n) ++ names_of_detail c.detail)
names_of_found V n absent = []
names_of_found V n (need_body p) = []
names_of_found V n need_real = []

abbrev pub names_of : View → Path → List Path
names_of V n = names_of_found V n (lookup_of V n)

-- The first constant leads to the second.
pub data Reaches (V : View) (n : Path) : Path → Type 0 where
  itself : Reaches V n n
  onward : {m k : Path} → Reaches V n m → Contains (names_of V m) k → Reaches V n k

-- ---- The walk, depth first: of each constant its type, its value, and its declaration.

-- What is still to be done: to visit a constant, or to read the value of one that is being visited.
pub data Task : Type 0 where
  visit : Path → Task
  read : Path → Task

abbrev pub visits : List Path → List Task
visits ns = map visit ns

pub data Walk : Type 0 where
  ended : List Path → Walk
  waits : TaskKey → Walk
  -- 2^64 - 1 tasks didn't suffice
  unended : Walk

-- Each constant is visited once; one that isn't there is passed over.
abbrev pub walk_on : (List Path → List Task → Walk) → View → List Path → Path → List Task → Lookup → Walk
walk_on next V seen n ts (found c) = next (n ∷ seen) (visits (names_in c.ty) ++ (read n ∷ visits (names_of_detail c.detail) ++ ts))
walk_on next V seen n ts absent = next seen ts
walk_on next V seen n ts (need_body p) = waits (Body p)
walk_on next V seen n ts need_real = waits (Real n)

abbrev pub read_on : (List Path → List Task → Walk) → List Path → List Task → KnownBody → Walk
read_on next seen ts (value v h) = next seen (visits (names_in v) ++ ts)
read_on next seen ts opaque = next seen ts
read_on next seen ts (unresolved k) = waits k

abbrev pub walk : View → ℕ → List Path → List Task → Walk
walk V zero seen ts = unended
walk V (suc n) seen [] = ended seen
walk V (suc n) seen (visit x ∷ ts) = if is_among x seen then walk V n seen ts else walk_on (walk V n) V seen x ts (lookup_of V x)
walk V (suc n) seen (read x ∷ ts) = read_on (walk V n) seen ts (value_of V x)

-- The axioms among these names, each once, in the order of the environment.
abbrev pub axioms_among : List Path → List Entry → List Path
axioms_among seen [] = []
axioms_among seen (e ∷ es) = if is_axiom e.info.kind && is_among e.info.name seen then e.info.name ∷ axioms_among seen es else axioms_among seen es

abbrev pub axioms_by : View → Walk → Walk
axioms_by V (ended seen) = ended (axioms_among seen V.entries)
axioms_by V (waits k) = waits k
axioms_by V unended = unended

-- The axioms that the constant of this name reaches.
abbrev pub reached : View → Path → Walk
reached V n = axioms_by V (walk V turn_limit [] (visit n ∷ []))
