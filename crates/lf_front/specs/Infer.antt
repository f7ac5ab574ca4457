-- The type of a term, by the nesting that is left, for sorts, constants, variables and pis.
-- The rules are those of our docs/language.md, "The checker".
use Rattle.std.specs.Prelude.{ℕ, zero, suc, ◌==◌, nat_lt, if◌then◌else◌, Option, Some, None, Result, Ok, Err, List, [], ◌∷◌, length, slice_get, find}
use Rattle.lf_core.specs.Term.{Path, Universe, level_succ, level_imax, Term, bound, free, meta, sort, const, app, lam, pi, letin, lit, proj}
use Rattle.lf_core.specs.Same.{same_path}
use Rattle.lf_core.specs.Size.{depth}
use Rattle.lf_core.specs.Substitution.{level_instantiate}
use Rattle.lf_rules.specs.Environment.{Environment, Context, with, opened}
use Rattle.lf_core.specs.declared.constant.ConstInfo.{ConstInfo}
use Rattle.lf_front.specs.declared.fault.TypeFault.{TypeFault}
use Rattle.lf_front.specs.declared.fault.TypeFault.TheVariants as fault
use Rattle.lf_front.specs.declared.fault.Halt.{Halt}
use Rattle.lf_front.specs.declared.fault.Halt.TheVariants.{Refused, Out}

-- A term, or why there is none.
abbrev pub Inferred : Type 0
Inferred = Result Term Halt

abbrev pub refuse : {A : Type 0} → TypeFault → Result A Halt
refuse f = Err (Refused f)

-- A term that is made: one deeper than 1,024 is too deep.
abbrev pub made : Term → Inferred
made t = if nat_lt 1024 (depth t) then Err Out else Ok t

abbrev pub variable_type : Option Term → Inferred
variable_type (Some A) = Ok A
variable_type None = refuse fault.NotClosed

-- The first constant of this name.
abbrev pub find_constant : Environment → Path → Option ConstInfo
find_constant E n = find (λ c. same_path n c.name) E

-- A constant has its type at its levels.
abbrev pub constant_type : Path → List Universe → Option ConstInfo → Inferred
constant_type n ls None = refuse (fault.Unknown n)
constant_type n ls (Some c) = if length ls == length c.levels then made (level_instantiate ls c.ty) else refuse (fault.Levels n)

-- The level of the sort that a term's type is; a type that is no sort is refused.
abbrev pub sort_level : Inferred → Result Universe Halt
sort_level (Ok (sort l)) = Ok l
sort_level (Ok A) = refuse (fault.NotType A)
sort_level (Err h) = Err h

abbrev pub imax_sort : Universe → Result Universe Halt → Inferred
imax_sort u (Ok v) = Ok (sort (level_imax u v))
imax_sort u (Err h) = Err h

abbrev pub inside : (Context → Term → Inferred) → Context → Term → Inferred → Inferred
inside inner C A (Ok b) = inner (with C A) b
inside inner C A (Err h) = Err h

-- A pi is in the sort of `imax` of the levels of its domain and its codomain.
abbrev pub pi_type : (Context → Term → Inferred) → Context → Term → Term → Result Universe Halt → Inferred
pi_type inner C A B (Ok u) = imax_sort u (sort_level (inside inner C A (made (opened C B))))
pi_type inner C A B (Err h) = Err h

abbrev pub form_type : (Context → Term → Inferred) → Environment → Context → Term → Inferred
form_type inner E C (free k) = variable_type (slice_get C k)
form_type inner E C (sort l) = Ok (sort (level_succ l))
form_type inner E C (const n ls) = constant_type n ls (find_constant E n)
form_type inner E C (pi x A B) = pi_type inner C A B (sort_level (inner C A))
form_type inner E C (bound i) = refuse fault.NotClosed
form_type inner E C (meta k) = refuse fault.NotClosed
form_type inner E C (app f a) = refuse fault.NotBuilt
form_type inner E C (lam x A b) = refuse fault.NotBuilt
form_type inner E C (letin x A v b) = refuse fault.NotBuilt
form_type inner E C (lit n) = refuse fault.NotBuilt
form_type inner E C (proj s i t) = refuse fault.NotBuilt

unfoldable pub type_at : ℕ → Environment → Context → Term → Inferred
type_at zero E C t = Err Out
type_at (suc n) E C t = form_type (type_at n E) E C t

-- The type of a term, with at most 512 nested calls.
abbrev pub type_of : Environment → Context → Term → Inferred
type_of E C t = type_at 512 E C t
