-- Induction and cases on a local: a step of a proof that reads no written term and doesn't unify.
use Rattle.std.specs.Prelude.{
  ℕ,
  zero,
  suc,
  ◌+◌,
  ◌-◌,
  Bool,
  true,
  false,
  not,
  ◌&&◌,
  ◌||◌,
  nat_eq,
  if◌then◌else◌,
  Option,
  Some,
  None,
  List,
  [],
  ◌∷◌,
  ◌++◌,
  codes,
  length,
  map,
  take,
  drop,
}
use Rattle.lf_core.specs.Term.{
  Path,
  Universe,
  level_zero,
  level_meta,
  Term,
  bound,
  free,
  meta,
  sort,
  const,
  app,
  lam,
  pi,
  letin,
  lit,
  proj,
}
use Rattle.lf_core.specs.Spine.{apply, head_of, arguments_of}
use Rattle.lf_core.specs.Substitution.{instantiate, abstract, level_instantiate}
use Rattle.lf_core.specs.declared.constant.Detail.{Detail}
use Rattle.lf_core.specs.declared.constant.Detail.TheVariants.{Plain, Ind, Ctor, Rec}
use Rattle.lf_rules.specs.Environment.{Context}
use Rattle.lf_rules.specs.Telescope.{pi_count}
use Rattle.lf_checker.specs.View.{View}
use Rattle.lf_checker.specs.LevelTest.{is_same}
use Rattle.lf_checker.specs.Run.{greatest_variable, Run, ◌>>=◌, gives, needs, choose, put, made}
use Rattle.lf_checker.specs.Calls.{Calls, Seen, known, unknown, missing, see}
use Rattle.lf_elaboration.specs.Forms.{Binding, as_pi, pi_of, Instance, as_constant}
use Rattle.lf_elaboration.specs.Metavariables.{Put, as_it_is, with_values, leading_lambdas}
use Rattle.lf_elaboration.specs.Unifier.{distinct_variables, is_one_of}
use Rattle.lf_elaboration.specs.Step.{Step}

-- The lambdas over the pis of a type, with this body.
abbrev pub lambdas_like : Term → Term → Term
lambdas_like (pi x A B) b = lam x A (lambdas_like B b)
lambdas_like (bound i) b = b
lambdas_like (free k) b = b
lambdas_like (meta k) b = b
lambdas_like (sort l) b = b
lambdas_like (const c ls) b = b
lambdas_like (app f a) b = b
lambdas_like (lam x A d) b = b
lambdas_like (letin x A v d) b = b
lambdas_like (lit n) b = b
lambdas_like (proj s i t) b = b

-- The lambdas over the first n pis of a type, with this body.
abbrev pub first_lambdas : ℕ → Term → Term → Term
first_lambdas zero T b = b
first_lambdas (suc n) T b = lambda_before (as_pi T) (first_lambdas n)
  where
    lambda_before : Option Binding → (Term → Term → Term) → Term
    lambda_before None rest = b
    lambda_before (Some p) rest = lam p.binder p.domain (rest p.body b)

-- A variable stands in a term.
abbrev pub speaks_of : ℕ → Term → Bool
speaks_of k (free j) = nat_eq j k
speaks_of k (bound i) = false
speaks_of k (meta j) = false
speaks_of k (sort l) = false
speaks_of k (const c ls) = false
speaks_of k (app f a) = speaks_of k f || speaks_of k a
speaks_of k (lam x A b) = speaks_of k A || speaks_of k b
speaks_of k (pi x A B) = speaks_of k A || speaks_of k B
speaks_of k (letin x A v b) = speaks_of k A || (speaks_of k v || speaks_of k b)
speaks_of k (lit n) = false
speaks_of k (proj s i t) = speaks_of k t

abbrev pub speaks_of_some : List ℕ → Term → Bool
speaks_of_some [] t = false
speaks_of_some (k ∷ ks) t = speaks_of k t || speaks_of_some ks t

-- Of the locals from number i on none depends on the indices, but the indices and the local itself.
abbrev pub none_depends : ℕ → List ℕ → ℕ → List Term → Bool
none_depends x ks i [] = true
none_depends x ks i (A ∷ As) = (nat_eq i x || (is_one_of i ks || not (speaks_of_some ks A))) && none_depends x ks (suc i) As

-- The local x of the type `I ps is`, whose indices are these variables.
pub record Target : Type 0 where
  pub local : ℕ
  pub name : Path
  pub levels : List Universe
  pub params : List Term
  pub indices : List ℕ
  pub constructors : List Path
  pub large : Bool

-- The weak head form of the local's type is an inductive type with all its arguments, the indices distinct locals on which no other depends.
abbrev pub target_by : Context → ℕ → Instance → List Term → ℕ → List Path → Bool → Option (List ℕ) → Option Target
target_by C x I xs params ctors large None = None
target_by C x I xs params ctors large (Some ks) =
    if not (is_one_of x ks) && none_depends x ks 0 C
    then Some (record { local = x; name = I.name; levels = I.levels; params = take params xs; indices = ks; constructors = ctors; large = large })
    else None

abbrev pub target_detail : Context → ℕ → Instance → List Term → ℕ → Detail → Option Target
target_detail C x I xs levels (Ind params indices ctors large) =
    if nat_eq (length I.levels) levels && nat_eq (length xs) (params + indices)
    then target_by C x I xs params ctors large (distinct_variables (drop params xs))
    else None
target_detail C x I xs levels Plain = None
target_detail C x I xs levels (Ctor ind index params fields) = None
target_detail C x I xs levels (Rec ind params minors indices rules) = None

abbrev pub target_seen : Context → ℕ → Instance → List Term → Seen → Run (Option Target)
target_seen C x I xs (known k) = gives (target_detail C x I xs (length k.levels) k.detail)
target_seen C x I xs unknown = gives None
target_seen C x I xs (missing k) = needs k

abbrev pub target_of : View → Context → ℕ → Option Instance → List Term → Run (Option Target)
target_of V C x (Some I) xs = target_seen C x I xs (see V I.name)
target_of V C x None xs = gives None

-- Every sort is allowed, or the goal is a proposition.
abbrev pub allows : Target → Universe → Bool
allows t l = t.large || is_same l level_zero

abbrev pub recursor_levels : Target → Universe → List Universe
recursor_levels t l = if t.large then l ∷ t.levels else t.levels

abbrev pub recursor_path : Path → Path
recursor_path n = n ++ codes "rec" ∷ []

abbrev pub recursor_of : Target → Path
recursor_of t = recursor_path t.name

-- The goal, abstracted over the indices and the local, in this order.
abbrev pub abstracted : List ℕ → Term → Run Term
abstracted [] t = gives t
abstracted (k ∷ ks) t = do
  b ← made (abstract t k)
  abstracted ks b

-- What is left of a type of pis at these arguments.
abbrev pub at_argument : Option Binding → Term → (Term → Run (Option Term)) → Run (Option Term)
at_argument (Some p) x next = do
  B ← made (instantiate p.body x)
  next B
at_argument None x next = gives None

abbrev pub codomain_at : List Term → Term → Run (Option Term)
codomain_at [] T = gives (Some T)
codomain_at (x ∷ xs) T = at_argument (as_pi T) x (codomain_at xs)

-- The motive stands for this metavariable in the types of the minor premises, and is reduced where it is applied. No part has as many.
abbrev pub motive_number : ℕ
motive_number = suc greatest_variable

abbrev pub motive_for : Term → ℕ → Put
motive_for M k = if nat_eq k motive_number then record { term = M; lambdas = leading_lambdas M } else as_it_is (meta k)

abbrev pub with_motive : Term → Term → Term
with_motive M t = (with_values (λ k. level_meta k) (motive_for M) t).term

-- A minor premise without its hypotheses, which nothing speaks of: n fields, and what stands behind m hypotheses.
abbrev pub behind_one : Term → Option Binding → Term
behind_one t (Some p) = instantiate p.body (sort level_zero)
behind_one t None = t

abbrev pub behind_hypotheses : ℕ → Term → Term
behind_hypotheses zero t = t
behind_hypotheses (suc m) t = behind_hypotheses m (behind_one t (as_pi t))

abbrev pub without_hypotheses : ℕ → Term → Term
without_hypotheses (suc n) (pi x A B) = pi x A (without_hypotheses n B)
without_hypotheses n t = behind_hypotheses (pi_count t) t

-- The variables of n fields behind which h hypotheses stand.
abbrev pub field_variables : ℕ → ℕ → List Term
field_variables zero h = []
field_variables (suc n) h = bound (n + h) ∷ field_variables n h

-- `fun xs hs => g xs` over the first n binders of a minor premise, with g loose.
abbrev pub pad : ℕ → Term → ℕ → Term
pad n minor fields = first_lambdas n minor (apply (bound n) (field_variables fields (n - fields)))

-- What a constructor leaves to be proved: its minor premise, for `cases` without hypotheses.
abbrev pub case_goal : Bool → Term → ℕ → Term
case_goal true minor fields = minor
case_goal false minor fields = without_hypotheses fields minor

abbrev pub case_pad : Bool → Term → Term → ℕ → Option Term
case_pad true M minor fields = None
case_pad false M minor fields = if nat_eq (pi_count minor) fields then None else Some (pad (pi_count minor) (with_motive M minor) fields)

pub record Cases : Type 0 where
  pub goals : List Term
  pub pads : List (Option Term)

abbrev pub with_case : Term → Option Term → Option Cases → Option Cases
with_case g p None = None
with_case g p (Some cs) = Some (record { goals = g ∷ cs.goals; pads = p ∷ cs.pads })

abbrev pub fields_by : Detail → Option ℕ
fields_by (Ctor ind index params fields) = Some fields
fields_by Plain = None
fields_by (Ind params indices ctors large) = None
fields_by (Rec ind params minors indices rules) = None

abbrev pub fields_seen : Seen → Run (Option ℕ)
fields_seen (known k) = gives (fields_by k.detail)
fields_seen unknown = gives None
fields_seen (missing k) = needs k

abbrev pub case_at : Bool → Term → Option ℕ → Option Binding → (Term → Run (Option Cases)) → Run (Option Cases)
case_at hyps M (Some fields) (Some p) rest = do
  g ← made (with_motive M (case_goal hyps p.domain fields))
  cs ← rest p.body
  gives (with_case g (case_pad hyps M p.domain fields) cs)
case_at hyps M (Some fields) None rest = gives None
case_at hyps M None p rest = gives None

-- For these constructors, whose minor premises the type of the recursor still has.
abbrev pub cases_for : View → Bool → Term → List Path → Term → Run (Option Cases)
cases_for V hyps M [] T = gives (Some (record { goals = []; pads = [] }))
cases_for V hyps M (n ∷ ns) T = do
  fields ← fields_seen (see V n)
  case_at hyps M fields (as_pi T) (cases_for V hyps M ns)

abbrev pub eliminated : Target → Term → Cases → Step
eliminated t head cs = record {
  head = Some head;
  goals = cs.goals;
  pads = cs.pads;
  tail = map (λ k. free k) t.indices ++ free t.local ∷ [];
  asked = None;
}

abbrev pub by_cases : Target → Universe → Term → Option Cases → Run (Option Step)
by_cases t l M None = gives None
by_cases t l M (Some cs) = do
  head ← put (apply (const (recursor_of t) (recursor_levels t l)) (t.params ++ M ∷ []))
  gives (Some (eliminated t head cs))

-- The motive is lambdas over the binders of the recursor's own, over the goal.
abbrev pub at_motive : View → Term → Universe → Bool → Target → Option Binding → Run (Option Step)
at_motive V goal l hyps t None = gives None
at_motive V goal l hyps t (Some p) = do
  G ← abstracted (t.indices ++ t.local ∷ []) goal
  M ← put (lambdas_like p.domain G)
  T ← made (instantiate p.body (meta motive_number))
  cs ← cases_for V hyps M t.constructors T
  by_cases t l M cs

abbrev pub by_recursor : View → Term → Universe → Bool → Target → Seen → Run (Option Step)
by_recursor V goal l hyps t (known r) = do
  R ← made (level_instantiate (recursor_levels t l) r.ty)
  T ← codomain_at t.params R
  at_motive V goal l hyps t (pi_of T)
by_recursor V goal l hyps t unknown = gives None
by_recursor V goal l hyps t (missing k) = needs k

abbrev pub by_target : View → Term → Universe → Bool → Option Target → Run (Option Step)
by_target V goal l hyps None = gives None
by_target V goal l hyps (Some t) = choose (allows t l) (by_recursor V goal l hyps t (see V (recursor_of t))) (gives None)

-- The goal's sort has this level, and A is the type of the local x; `cases` leaves no hypotheses.
abbrev pub induct : View → Calls → Context → Term → Universe → ℕ → Term → Bool → Run (Option Step)
induct V c C goal l x A hyps = do
  W ← c.whnf true C A
  t ← target_of V C x (as_constant (head_of W)) (arguments_of W)
  by_target V goal l hyps t
