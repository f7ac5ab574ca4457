-- What a step of compiling gives, at the costs of the checker's runs: a value, or a fault, which ends it.
use Rattle.lf_checker.specs.Run as checker
use Rattle.lf_checker.specs.Run.{Run}
use Rattle.std.specs.Prelude.{Option, Some, None}
use Rattle.lf_equations.specs.declared.fault.EquationFault.{EquationFault}

pub data Outcome (A : Type 0) : Type 0 where
  gets : A → Outcome A
  fault : EquationFault → Outcome A

abbrev pub Compiling : Type 0 → Type 0
Compiling A = Run (Outcome A)

abbrev pub go_on : {A B : Type 0} → (A → Compiling B) → Outcome A → Compiling B
go_on f (gets x) = f x
go_on f (fault e) = checker.gives (fault e)

infixl 20 ◌>>=◌
abbrev pub ◌>>=◌ : {A B : Type 0} → Compiling A → (A → Compiling B) → Compiling B
◌>>=◌ m f = checker.◌>>=◌ m (go_on f)

infixl 20 ◌>>◌
abbrev pub ◌>>◌ : {A B : Type 0} → Compiling A → Compiling B → Compiling B
◌>>◌ m n = checker.◌>>=◌ m (go_on (λ x. n))

abbrev pub gives : {A : Type 0} → A → Compiling A
gives x = checker.gives (gets x)

abbrev pub faults : {A : Type 0} → EquationFault → Compiling A
faults e = checker.gives (fault e)

-- A run that has no fault of this kind.
abbrev pub runs : {A : Type 0} → Run A → Compiling A
runs m = checker.◌>>=◌ m gives

-- The value, or else this fault.
abbrev pub or_fault : {A : Type 0} → EquationFault → Option A → Compiling A
or_fault e None = faults e
or_fault e (Some x) = gives x

abbrev pub unless_fault : Option EquationFault → Compiling (Unit {0})
unless_fault None = gives tt
unless_fault (Some e) = faults e
