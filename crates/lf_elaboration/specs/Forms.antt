-- Terms asked for one form: a device of the rules.
use Rattle.std.specs.Prelude.{ℕ, Bool, true, false, Option, Some, None, List}
use Rattle.lf_core.specs.Term.{
  Path,
  Universe,
  level_zero,
  level_succ,
  level_max,
  level_imax,
  level_param,
  level_meta,
  Term,
  bound,
  free,
  meta,
  sort,
  const,
  app,
  lam,
  pi,
  letin,
  lit,
  proj,
}
use Rattle.lf_name.specs.declared.binder.Binder.{Binder}

-- The binder, the domain and the body or codomain of a lambda or a pi.
pub record Binding : Type 0 where
  pub binder : Binder
  pub domain : Term
  pub body : Term

-- A constant at its levels.
pub record Instance : Type 0 where
  pub name : Path
  pub levels : List Universe

abbrev pub as_pi : Term → Option Binding
as_pi (pi x A B) = Some (record { binder = x; domain = A; body = B })
as_pi (bound i) = None
as_pi (free k) = None
as_pi (meta k) = None
as_pi (sort l) = None
as_pi (const n ls) = None
as_pi (app f a) = None
as_pi (lam x A b) = None
as_pi (letin x A v b) = None
as_pi (lit n) = None
as_pi (proj s i t) = None

abbrev pub as_sort : Term → Option Universe
as_sort (sort l) = Some l
as_sort (bound i) = None
as_sort (free k) = None
as_sort (meta k) = None
as_sort (const n ls) = None
as_sort (app f a) = None
as_sort (lam x A b) = None
as_sort (pi x A B) = None
as_sort (letin x A v b) = None
as_sort (lit n) = None
as_sort (proj s i t) = None

abbrev pub as_constant : Term → Option Instance
as_constant (const n ls) = Some (record { name = n; levels = ls })
as_constant (bound i) = None
as_constant (free k) = None
as_constant (meta k) = None
as_constant (sort l) = None
as_constant (app f a) = None
as_constant (lam x A b) = None
as_constant (pi x A B) = None
as_constant (letin x A v b) = None
as_constant (lit n) = None
as_constant (proj s i t) = None

abbrev pub as_variable : Term → Option ℕ
as_variable (free k) = Some k
as_variable (bound i) = None
as_variable (meta k) = None
as_variable (sort l) = None
as_variable (const n ls) = None
as_variable (app f a) = None
as_variable (lam x A b) = None
as_variable (pi x A B) = None
as_variable (letin x A v b) = None
as_variable (lit n) = None
as_variable (proj s i t) = None

abbrev pub as_metavariable : Term → Option ℕ
as_metavariable (meta k) = Some k
as_metavariable (bound i) = None
as_metavariable (free k) = None
as_metavariable (sort l) = None
as_metavariable (const n ls) = None
as_metavariable (app f a) = None
as_metavariable (lam x A b) = None
as_metavariable (pi x A B) = None
as_metavariable (letin x A v b) = None
as_metavariable (lit n) = None
as_metavariable (proj s i t) = None

abbrev pub as_lambda : Term → Option Binding
as_lambda (lam x A b) = Some (record { binder = x; domain = A; body = b })
as_lambda (bound i) = None
as_lambda (free k) = None
as_lambda (meta k) = None
as_lambda (sort l) = None
as_lambda (const n ls) = None
as_lambda (app f a) = None
as_lambda (pi x A B) = None
as_lambda (letin x A v b) = None
as_lambda (lit n) = None
as_lambda (proj s i t) = None

-- A function and its argument.
pub record Applied : Type 0 where
  pub function : Term
  pub argument : Term

abbrev pub as_application : Term → Option Applied
as_application (app f a) = Some (record { function = f; argument = a })
as_application (bound i) = None
as_application (free k) = None
as_application (meta k) = None
as_application (sort l) = None
as_application (const n ls) = None
as_application (lam x A b) = None
as_application (pi x A B) = None
as_application (letin x A v b) = None
as_application (lit n) = None
as_application (proj s i t) = None

abbrev pub as_literal : Term → Option ℕ
as_literal (lit n) = Some n
as_literal (bound i) = None
as_literal (free k) = None
as_literal (meta k) = None
as_literal (sort l) = None
as_literal (const n ls) = None
as_literal (app f a) = None
as_literal (lam x A b) = None
as_literal (pi x A B) = None
as_literal (letin x A v b) = None
as_literal (proj s i t) = None

-- A field of a structure, of this term.
pub record Projection : Type 0 where
  pub structure : Path
  pub field : ℕ
  pub term : Term

abbrev pub as_projection : Term → Option Projection
as_projection (proj s i t) = Some (record { structure = s; field = i; term = t })
as_projection (bound i) = None
as_projection (free k) = None
as_projection (meta k) = None
as_projection (sort l) = None
as_projection (const n ls) = None
as_projection (app f a) = None
as_projection (lam x A b) = None
as_projection (pi x A B) = None
as_projection (letin x A v b) = None
as_projection (lit n) = None

abbrev pub is_bound : Term → Bool
is_bound (bound i) = true
is_bound (free k) = false
is_bound (meta k) = false
is_bound (sort l) = false
is_bound (const n ls) = false
is_bound (app f a) = false
is_bound (lam x A b) = false
is_bound (pi x A B) = false
is_bound (letin x A v b) = false
is_bound (lit n) = false
is_bound (proj s i t) = false

abbrev pub is_let : Term → Bool
is_let (bound i) = false
is_let (free k) = false
is_let (meta k) = false
is_let (sort l) = false
is_let (const n ls) = false
is_let (app f a) = false
is_let (lam x A b) = false
is_let (pi x A B) = false
is_let (letin x A v b) = true
is_let (lit n) = false
is_let (proj s i t) = false

-- The pi that a term is, where there is one.
abbrev pub pi_of : Option Term → Option Binding
pi_of None = None
pi_of (Some T) = as_pi T

-- ---- Levels

-- The two parts of a maximum.
pub record Sides : Type 0 where
  pub left : Universe
  pub right : Universe

abbrev pub as_successor : Universe → Option Universe
as_successor (level_succ l) = Some l
as_successor level_zero = None
as_successor (level_max l m) = None
as_successor (level_imax l m) = None
as_successor (level_param k) = None
as_successor (level_meta k) = None

abbrev pub as_maximum : Universe → Option Sides
as_maximum (level_max l m) = Some (record { left = l; right = m })
as_maximum level_zero = None
as_maximum (level_succ l) = None
as_maximum (level_imax l m) = None
as_maximum (level_param k) = None
as_maximum (level_meta k) = None

abbrev pub as_impredicative_maximum : Universe → Option Sides
as_impredicative_maximum (level_imax l m) = Some (record { left = l; right = m })
as_impredicative_maximum level_zero = None
as_impredicative_maximum (level_succ l) = None
as_impredicative_maximum (level_max l m) = None
as_impredicative_maximum (level_param k) = None
as_impredicative_maximum (level_meta k) = None

abbrev pub as_level_metavariable : Universe → Option ℕ
as_level_metavariable (level_meta k) = Some k
as_level_metavariable level_zero = None
as_level_metavariable (level_succ l) = None
as_level_metavariable (level_max l m) = None
as_level_metavariable (level_imax l m) = None
as_level_metavariable (level_param k) = None
