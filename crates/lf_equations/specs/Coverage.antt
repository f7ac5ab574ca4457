-- The alternatives name each constructor once, with as many fields as it has.
use Rattle.std.specs.Prelude.{ℕ, Bool, true, false, nat_eq, if◌then◌else◌, Option, Some, None, List, [], ◌∷◌, length, map}
use Rattle.lf_core.specs.Term.{Path}
use Rattle.lf_rules.specs.Recursor.{is_among}
use Rattle.lf_checker.specs.View.{View}
use Rattle.lf_checker.specs.Run as checker
use Rattle.lf_checker.specs.Run.{Run, choose}
use Rattle.lf_checker.specs.Calls.{see}
use Rattle.lf_elaboration.specs.Induction.{fields_seen}
use Rattle.lf_equations.specs.declared.alternative.Case.{Case}
use Rattle.lf_equations.specs.declared.fault.EquationFault.{EquationFault}
use Rattle.lf_equations.specs.declared.fault.EquationFault.TheVariants.{NotACase, Twice, Missing}
use Rattle.lf_equations.specs.Outcome.{Compiling, ◌>>=◌, ◌>>◌, gives, runs, unless_fault}

-- The first that is no constructor of the type, or has another number of fields.
abbrev pub has_fields : Case → Option ℕ → Bool
has_fields a None = false
has_fields a (Some n) = nat_eq (length a.fields) n

abbrev pub is_case : View → List Path → Case → Run Bool
is_case V ctors a = choose (is_among a.constructor ctors) (checker.◌>>=◌ (fields_seen (see V a.constructor)) (λ o. checker.gives (has_fields a o)))
    (checker.gives false)

abbrev pub not_a_case : Path → Bool → Option EquationFault
not_a_case n true = None
not_a_case n false = Some (NotACase n)

abbrev pub all_cases : View → List Path → List Case → Compiling (Unit {0})
all_cases V ctors [] = gives tt
all_cases V ctors (a ∷ alts) = do
  b ← runs (is_case V ctors a)
  unless_fault (not_a_case a.constructor b)
  all_cases V ctors alts

-- The first whose constructor stands before.
abbrev pub twice_behind : List Path → List Case → Option EquationFault
twice_behind before [] = None
twice_behind before (a ∷ alts) = if is_among a.constructor before then Some (Twice a.constructor) else twice_behind (a.constructor ∷ before) alts

abbrev pub twice : List Case → Option EquationFault
twice alts = twice_behind [] alts

-- The first constructor that has none.
abbrev pub missing : List Path → List Case → Option EquationFault
missing [] alts = None
missing (n ∷ ns) alts = if is_among n (map (λ a. a.constructor) alts) then missing ns alts else Some (Missing n)
