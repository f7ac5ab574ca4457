-- Injectivity of a constructor, as a statement with its proof: where two applications of it at one list of parameters are equal, so are their
-- fields.
use Rattle.std.specs.Prelude.{
  ℕ,
  zero,
  suc,
  ◌+◌,
  ◌-◌,
  Bool,
  true,
  false,
  ◌&&◌,
  nat_eq,
  nat_lt,
  if◌then◌else◌,
  Option,
  Some,
  None,
  is_none,
  List,
  [],
  ◌∷◌,
  ◌++◌,
  codes,
  length,
  drop,
}
use Rattle.lf_core.specs.Term.{Path, Universe, Term, bound, free, const}
use Rattle.lf_core.specs.Spine.{apply, arguments_of}
use Rattle.lf_core.specs.Substitution.{instantiate, level_instantiate}
use Rattle.lf_core.specs.declared.constant.Detail.{Detail}
use Rattle.lf_core.specs.declared.constant.Detail.TheVariants.{Plain, Ind, Ctor, Rec}
use Rattle.lf_rules.specs.Environment.{Context}
use Rattle.lf_rules.specs.Telescope.{Local, Telescope, types, variables, Opened, implicit, pi_count}
use Rattle.lf_rules.specs.Recursor.{named, parameters_from}
use Rattle.lf_checker.specs.View.{View}
use Rattle.lf_checker.specs.Extends.{Shape}
use Rattle.lf_checker.specs.Run.{Run, ◌>>=◌, gives, needs, choose, put, made}
use Rattle.lf_checker.specs.Calls.{checked, Calls, Seen, known, unknown, missing, see}
use Rattle.lf_checker.specs.Infer.{sort_of}
use Rattle.lf_elaboration.specs.Forms.{Binding, as_pi, pi_of}
use Rattle.lf_elaboration.specs.Metavariables.{outside}
use Rattle.lf_elaboration.specs.Step.{explicit}
use Rattle.lf_elaboration.specs.Equations.{eq_name}
use Rattle.lf_elaboration.specs.Induction.{lambdas_like, codomain_at, recursor_path}
use Rattle.lf_elaboration.specs.Statement.{Statement, open_pis, pis_closed, lambdas_closed}

-- ---- A constructor with fields, none of which depends on an earlier one

-- A field of the two sides, with its type and the level of that.
pub record Field : Type 0 where
  pub ty : Term
  pub level : Universe
  pub left : Term
  pub right : Term

-- A constructor opened twice: parameters, fields, and fields again.
pub record Sides : Type 0 where
  pub constructor : Path
  pub index : ℕ
  pub levels : List Universe
  pub ind : Path
  pub all : Telescope
  pub params : List Term
  pub indices : List Term
  pub ty : Term
  pub level : Universe
  pub fields : List Field
  -- the fields alone, of the first side
  pub telescope : Telescope

abbrev pub primed : Path → Path
primed [] = []
primed (word ∷ []) = (word ++ codes "'") ∷ []
primed (word ∷ next ∷ words) = word ∷ primed (next ∷ words)

abbrev pub with_primes : Telescope → Telescope
with_primes [] = []
with_primes (x ∷ xs) = record { binder = record { name = primed x.binder.name; kind = x.binder.kind }; ty = x.ty } ∷ with_primes xs

-- No type speaks of a variable behind the parameters.
abbrev pub are_independent : ℕ → Telescope → Bool
are_independent p [] = true
are_independent p (x ∷ xs) = is_none (outside p x.ty) && are_independent p xs

abbrev pub fields_at : Calls → Context → ℕ → ℕ → Telescope → Run (List Field)
fields_at c C j k [] = gives []
fields_at c C j k (x ∷ xs) = do
  l ← sort_of c checked C x.ty
  fs ← fields_at c C (suc j) (suc k) xs
  gives (record { ty = x.ty; level = l; left = free j; right = free k } ∷ fs)

abbrev pub sides_by : Calls → Path → List Path → Path → ℕ → ℕ → Telescope → Opened → Run Sides
sides_by c n levels ind index params ps o = do
  let p = length ps
  let q = length ps + length o.locals
  let all = implicit ps ++ (implicit o.locals ++ implicit (with_primes o.locals))
  l ← sort_of c checked (types all) o.rest
  fs ← fields_at c (types all) p q o.locals
  gives (record {
    constructor = n;
    index = index;
    levels = parameters_from 0 (length levels);
    ind = ind;
    all = all;
    params = variables 0 ps;
    indices = drop params (arguments_of o.rest);
    ty = o.rest;
    level = l;
    fields = fs;
    telescope = o.locals;
  })

abbrev pub sides_of : Calls → Path → List Path → Term → Path → ℕ → ℕ → ℕ → Run (Option Sides)
sides_of c n levels ty ind index params fields = do
  o ← open_pis params [] ty
  r ← open_pis fields (types o.locals) o.rest
  choose (nat_lt 0 fields && are_independent (length o.locals) r.locals) (do
    s ← sides_by c n levels ind index params o.locals r
    gives (Some s)) (gives None)

abbrev pub lefts : List Field → List Term
lefts [] = []
lefts (f ∷ fs) = f.left ∷ lefts fs

abbrev pub rights : List Field → List Term
rights [] = []
rights (f ∷ fs) = f.right ∷ rights fs

abbrev pub equation : Universe → Term → Term → Term → Term
equation l A s t = apply (const eq_name (l ∷ [])) (A ∷ s ∷ t ∷ [])

abbrev pub left_of : Sides → Term
left_of s = apply (const s.constructor s.levels) (s.params ++ lefts s.fields)

abbrev pub right_of : Sides → Term
right_of s = apply (const s.constructor s.levels) (s.params ++ rights s.fields)

-- c ps xs = c ps ys
abbrev pub whole_equation : Sides → Term
whole_equation s = equation s.level s.ty (left_of s) (right_of s)

abbrev pub field_equation : Field → Term
field_equation f = equation f.level f.ty f.left f.right

-- x1 = y1 ∧ .. ∧ xn = yn
abbrev pub conjunction : List Field → Term
conjunction [] = const (named (codes "True")) []
conjunction (f ∷ []) = field_equation f
conjunction (f ∷ g ∷ fs) = apply (const (named (codes "And")) []) (field_equation f ∷ conjunction (g ∷ fs) ∷ [])

abbrev pub and_part : List ℕ → Path
and_part word = codes "And" ∷ word ∷ []

-- Its proof, by one of each equation.
abbrev pub conjoined : List Field → List Term → Term
conjoined (f ∷ g ∷ fs) (p ∷ ps) =
    apply (const (and_part (codes "intro")) []) (field_equation f ∷ conjunction (g ∷ fs) ∷ p ∷ conjoined (g ∷ fs) ps ∷ [])
conjoined (f ∷ []) (p ∷ ps) = p
conjoined [] ps = const (codes "True" ∷ codes "intro" ∷ []) []
conjoined (f ∷ fs) [] = const (codes "True" ∷ codes "intro" ∷ []) []

-- The minor premises of the function that gives field i of the constructor of this index, and else a fixed term.
abbrev pub minor_for : Bool → ℕ → Term → Term → Term
minor_for true i t minor = lambdas_like minor (bound (pi_count minor - suc i))
minor_for false i t minor = lambdas_like minor t

abbrev pub next_minor : ℕ → ℕ → ℕ → Term → Option Binding → (Term → List Term) → List Term
next_minor j index i t None rest = []
next_minor j index i t (Some p) rest = minor_for (nat_eq j index) i t p.domain ∷ rest p.body

abbrev pub minors_for : ℕ → ℕ → ℕ → Term → ℕ → Term → List Term
minors_for zero index i t j T = []
minors_for (suc n) index i t j T = next_minor j index i t (as_pi T) (minors_for n index i t (suc j))

pub record RecursorSeen : Type 0 where
  pub levels : List Universe
  pub ty : Term
  pub minors : ℕ

-- The recursor at the level of a field, where it has one for its motive.
abbrev pub recursor_by : Sides → Universe → Shape → Detail → Option RecursorSeen
recursor_by s l k (Rec ind params minors indices rules) = Some (record {
  levels = if nat_eq (length k.levels) (length s.levels) then s.levels else l ∷ s.levels;
  ty = k.ty;
  minors = minors;
})
recursor_by s l k Plain = None
recursor_by s l k (Ind params indices ctors large) = None
recursor_by s l k (Ctor ind index params fields) = None

abbrev pub recursor_seen : Sides → Universe → Seen → Run (Option RecursorSeen)
recursor_seen s l (known k) = gives (recursor_by s l k k.detail)
recursor_seen s l unknown = gives None
recursor_seen s l (missing k) = needs k

abbrev pub at_constant_motive : Sides → ℕ → Field → RecursorSeen → Option Binding → Run (Option Term)
at_constant_motive s i f r None = gives None
at_constant_motive s i f r (Some m) = do
  M ← put (lambdas_like m.domain f.ty)
  T ← made (instantiate m.body M)
  gives (Some (apply (const (recursor_path s.ind) r.levels) (s.params ++ (M ∷ minors_for r.minors s.index i f.left 0 T ++ s.indices))))

abbrev pub selector_by : Sides → ℕ → Field → Option RecursorSeen → Run (Option Term)
selector_by s i f None = gives None
selector_by s i f (Some r) = do
  R ← made (level_instantiate r.levels r.ty)
  T ← codomain_at s.params R
  at_constant_motive s i f r (pi_of T)

-- The function that gives field i: the recursor with a constant motive, whose other minor premises give the first side's field.
abbrev pub selector : View → Sides → ℕ → Field → Run (Option Term)
selector V s i f = do
  r ← recursor_seen s f.level (see V (recursor_path s.ind))
  selector_by s i f r

-- `congrArg` at two types with their levels.
abbrev pub congruence : Universe → Universe → Term → Term → Term → Term → Term → Term → Term
congruence l m A B a b f h = apply (const (named (codes "congrArg")) (l ∷ m ∷ [])) (A ∷ B ∷ a ∷ b ∷ f ∷ h ∷ [])

abbrev pub with_proof : Option Term → Sides → Field → Term → Option (List Term) → Option (List Term)
with_proof (Some g) s f h (Some ps) = Some (congruence s.level f.level s.ty f.ty (left_of s) (right_of s) g h ∷ ps)
with_proof (Some g) s f h None = None
with_proof None s f h ps = None

-- A proof of each field's equation, by one of the whole.
abbrev pub field_proofs : View → Sides → Term → ℕ → List Field → Run (Option (List Term))
field_proofs V s h i [] = gives (Some [])
field_proofs V s h i (f ∷ fs) = do
  g ← selector V s i f
  ps ← field_proofs V s h (suc i) fs
  gives (with_proof g s f h ps)

abbrev pub hypothesis : Term → Local
hypothesis A = record { binder = explicit (codes "h"); ty = A }

abbrev pub injectivity_by : Sides → Option (List Term) → Run (Option Statement)
injectivity_by s None = gives None
injectivity_by s (Some ps) = do
  let all = s.all ++ hypothesis (whole_equation s) ∷ []
  T ← pis_closed 0 all (conjunction s.fields)
  p ← lambdas_closed 0 all (conjoined s.fields ps)
  gives (Some (record { ty = T; proof = p }))

abbrev pub injectivity : View → Option Sides → Run (Option Statement)
injectivity V None = gives None
injectivity V (Some s) = do
  ps ← field_proofs V s (free (length s.all)) 0 s.fields
  injectivity_by s ps
