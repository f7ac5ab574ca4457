-- The equation of a definition by recursion on its last argument, for one constructor, as a statement with its proof.
use Rattle.std.specs.Prelude.{
  ℕ,
  zero,
  suc,
  ◌+◌,
  ◌-◌,
  Bool,
  true,
  false,
  not,
  ◌&&◌,
  nat_eq,
  nat_lt,
  if◌then◌else◌,
  Option,
  Some,
  None,
  List,
  [],
  ◌∷◌,
  ◌++◌,
  length,
  take,
  drop,
  slice_get,
  unwrap_or,
}
use Rattle.lf_core.specs.Term.{
  Path,
  Universe,
  Term,
  bound,
  free,
  meta,
  sort,
  const,
  app,
  lam,
  pi,
  letin,
  lit,
  proj,
}
use Rattle.lf_core.specs.Same.{same, same_path}
use Rattle.lf_core.specs.Spine.{apply, head_of, arguments_of}
use Rattle.lf_core.specs.Substitution.{level_instantiate}
use Rattle.lf_core.specs.declared.constant.Detail.{Detail}
use Rattle.lf_core.specs.declared.constant.Detail.TheVariants.{Plain, Ind, Ctor, Rec}
use Rattle.lf_rules.specs.Telescope.{Telescope, types, variables, pi_count}
use Rattle.lf_rules.specs.Recursor.{innermost}
use Rattle.lf_checker.specs.View.{View}
use Rattle.lf_checker.specs.Run.{Run, ◌>>=◌, gives, needs, made}
use Rattle.lf_checker.specs.Calls.{Calls, Seen, known, unknown, missing, see}
use Rattle.lf_elaboration.specs.Forms.{Instance, as_constant}
use Rattle.lf_elaboration.specs.Metavariables.{leading_lambdas, Put, put_before}
use Rattle.lf_elaboration.specs.Induction.{lambdas_like, codomain_at, speaks_of}
use Rattle.lf_elaboration.specs.Statement.{Statement, by_reflexivity, self, open_lambdas, open_pis}

-- `fun bs x => I.rec ps M minors x`, where x stands nowhere else.
pub record Recursion : Type 0 where
  pub binders : Telescope
  pub ind : Path
  pub levels : List Universe
  pub params : List Term
  pub minors : List Term

abbrev pub all_but_last : Telescope → Telescope
all_but_last [] = []
all_but_last (x ∷ []) = []
all_but_last (x ∷ y ∷ xs) = x ∷ all_but_last (y ∷ xs)

abbrev pub none_speaks : ℕ → List Term → Bool
none_speaks k [] = true
none_speaks k (t ∷ ts) = not (speaks_of k t) && none_speaks k ts

abbrev pub recursion_by : Telescope → Instance → List Term → ℕ → Detail → Option Recursion
recursion_by xs r args extra (Rec ind params minors zero rules) =
    let n : ℕ = params + 1 + minors in
    let x : ℕ = length xs - 1 in
    if nat_lt 0 (length xs) && (nat_eq (length args) (suc n) && (same (unwrap_or (slice_get args n) (bound 0)) (free x) && none_speaks x (take n args)))
    then Some (record {
      binders = all_but_last xs;
      ind = ind;
      levels = drop extra r.levels;
      params = take params args;
      minors = take minors (drop (suc params) args);
    }) else None
recursion_by xs r args extra (Rec ind params minors (suc i) rules) = None
recursion_by xs r args extra Plain = None
recursion_by xs r args extra (Ind params indices ctors large) = None
recursion_by xs r args extra (Ctor ind index params fields) = None

abbrev pub is_large : Detail → Bool
is_large (Ind params indices ctors large) = large
is_large Plain = false
is_large (Ctor ind index params fields) = false
is_large (Rec ind params minors indices rules) = false

abbrev pub ind_of : Detail → Path
ind_of (Rec ind params minors indices rules) = ind
ind_of Plain = []
ind_of (Ind params indices ctors large) = []
ind_of (Ctor ind index params fields) = []

abbrev pub ctors_of : Detail → List Path
ctors_of (Ind params indices ctors large) = ctors
ctors_of Plain = []
ctors_of (Ctor ind index params fields) = []
ctors_of (Rec ind params minors indices rules) = []

-- A recursive field: its type is pis that end in the inductive type.
abbrev pub ends_in : Path → Term → Bool
ends_in I (pi x A B) = ends_in I B
ends_in I (bound i) = false
ends_in I (free k) = false
ends_in I (meta k) = false
ends_in I (sort l) = false
ends_in I (const n ls) = same_path n I
ends_in I (app f a) = by_head (as_constant (head_of (app f a)))
  where
    by_head : Option Instance → Bool
    by_head None = false
    by_head (Some c) = same_path c.name I
ends_in I (lam x A b) = false
ends_in I (letin x A v b) = false
ends_in I (lit n) = false
ends_in I (proj s i t) = false

-- Of the fields of a constructor's own type, before its parameters are put in: a parameter that is the type again makes no field recursive.
abbrev pub recursive_fields : Path → ℕ → Term → List Bool
recursive_fields I (suc n) (pi x A B) = recursive_fields I n B
recursive_fields I zero (pi x A B) = ends_in I A ∷ recursive_fields I zero B
recursive_fields I n (bound i) = []
recursive_fields I n (free k) = []
recursive_fields I n (meta k) = []
recursive_fields I n (sort l) = []
recursive_fields I n (const c ls) = []
recursive_fields I n (app f a) = []
recursive_fields I n (lam x A b) = []
recursive_fields I n (letin x A v b) = []
recursive_fields I n (lit i) = []
recursive_fields I n (proj s i t) = []

-- The hypothesis for a field whose type is pis is `fun zs => f bs (x zs)`.
abbrev pub hypothesis : Term → ℕ → Term → Term
hypothesis f k A = lambdas_like A (app f (apply (free k) (innermost (pi_count A))))

abbrev pub hypotheses : Term → ℕ → List Bool → Telescope → List Term
hypotheses f k (true ∷ rs) (x ∷ xs) = hypothesis f k x.ty ∷ hypotheses f (suc k) rs xs
hypotheses f k (false ∷ rs) (x ∷ xs) = hypotheses f (suc k) rs xs
hypotheses f k [] (x ∷ xs) = []
hypotheses f k rs [] = []

-- A term at arguments that are put for its leading lambdas.
abbrev pub put_all : Put → List Term → Term
put_all t [] = t.term
put_all t (x ∷ xs) = put_all (put_before t x) xs

abbrev pub case_at : Calls → Path → List Path → Recursion → Path → List Bool → Term → Option Term → Run (Option Statement)
case_at c f levels r n rs ty None = gives None
case_at c f levels r n rs ty (Some minor) = do
  let k = length r.binders
  let g = self f levels r.binders
  o ← open_pis (pi_count ty) (types r.binders) ty
  let xs = variables k o.locals
  e ← made (put_all (record { term = minor; lambdas = leading_lambdas minor }) (xs ++ hypotheses g k rs o.locals))
  by_reflexivity c (r.binders ++ o.locals) (app g (apply (const n r.levels) (r.params ++ xs))) e

abbrev pub case_typed : Calls → Path → List Path → Recursion → Path → ℕ → List Bool → Option Term → Run (Option Statement)
case_typed c f levels r n i rs None = gives None
case_typed c f levels r n i rs (Some T) = case_at c f levels r n rs T (slice_get r.minors i)

abbrev pub case_seen : Calls → Path → List Path → Recursion → ℕ → Path → Seen → Run (Option Statement)
case_seen c f levels r i n (known k) = do
  T ← made (level_instantiate r.levels k.ty)
  B ← codomain_at r.params T
  case_typed c f levels r n i (recursive_fields r.ind (length r.params) k.ty) B
case_seen c f levels r i n unknown = gives None
case_seen c f levels r i n (missing k) = needs k

abbrev pub case_named : View → Calls → Path → List Path → ℕ → Recursion → Option Path → Run (Option Statement)
case_named V c f levels i r None = gives None
case_named V c f levels i r (Some n) = case_seen c f levels r i n (see V n)

abbrev pub case_of_recursion : View → Calls → Path → List Path → ℕ → List Path → Option Recursion → Run (Option Statement)
case_of_recursion V c f levels i ctors None = gives None
case_of_recursion V c f levels i ctors (Some q) = case_named V c f levels i q (slice_get ctors i)

abbrev pub case_of_type : View → Calls → Path → List Path → ℕ → Telescope → Instance → List Term → Detail → Seen → Run (Option Statement)
case_of_type V c f levels i xs r args d (known k) =
    case_of_recursion V c f levels i (ctors_of k.detail) (recursion_by xs r args (length r.levels - length k.levels) d)
case_of_type V c f levels i xs r args d unknown = gives None
case_of_type V c f levels i xs r args d (missing k) = needs k

abbrev pub case_of_recursor : View → Calls → Path → List Path → ℕ → Telescope → Instance → List Term → Seen → Run (Option Statement)
case_of_recursor V c f levels i xs r args (known k) = case_of_type V c f levels i xs r args k.detail (see V (ind_of k.detail))
case_of_recursor V c f levels i xs r args unknown = gives None
case_of_recursor V c f levels i xs r args (missing k) = needs k

abbrev pub case_of_head : View → Calls → Path → List Path → ℕ → Telescope → Option Instance → List Term → Run (Option Statement)
case_of_head V c f levels i xs None args = gives None
case_of_head V c f levels i xs (Some r) args = case_of_recursor V c f levels i xs r args (see V r.name)

abbrev pub case_equation : View → Calls → Path → List Path → ℕ → Term → Run (Option Statement)
case_equation V c f levels i v = do
  o ← open_lambdas (leading_lambdas v) [] v
  case_of_head V c f levels i o.locals (as_constant (head_of o.rest)) (arguments_of o.rest)
