-- Names, levels and terms as plain trees.
use Rattle.std.specs.Prelude.{ℕ, List}
use Rattle.lf_name.specs.declared.binder.Binder.{Binder}
pub use Rattle.lf_name.specs.Name.{Path}

pub data Universe : Type 0 where
  level_zero : Universe
  level_succ : Universe → Universe
  level_max : Universe → Universe → Universe
  level_imax : Universe → Universe → Universe
  level_param : ℕ → Universe
  level_meta : ℕ → Universe

pub data Term : Type 0 where
  bound : ℕ → Term
  free : ℕ → Term
  meta : ℕ → Term
  sort : Universe → Term
  const : Path → List Universe → Term
  app : Term → Term → Term
  lam : Binder → Term → Term → Term
  pi : Binder → Term → Term → Term
  letin : Binder → Term → Term → Term → Term
  lit : ℕ → Term
  proj : Path → ℕ → Term → Term
