-- Headers: the stated type of an axiom, a definition or a theorem, over the binders of its declaration; and commands that make all their
-- constants in one part.
use Rattle.std.specs.Prelude.{ℕ, Bool, not, ◌&&◌, Option, Some, None, List, [], ◌∷◌}
use Rattle.lf_core.specs.Term.{Path, Universe, level_zero, level_succ, Term, sort}
use Rattle.lf_core.specs.declared.constant.ConstInfo.{ConstInfo}
use Rattle.lf_core.specs.declared.constant.ConstKind.{ConstKind}
use Rattle.lf_core.specs.declared.constant.ConstKind.TheVariants.{Axiom}
use Rattle.lf_syntax.specs.Tree.{TermTree}
use Rattle.lf_checker.specs.Checker.{add_header}
use Rattle.lf_elaboration.specs.Run.{◌>>=◌, ◌>>◌, gives, put}
use Rattle.lf_elaboration.specs.Part.{Part, Locals, Run, Calls, instantiated}
use Rattle.lf_elaboration.specs.Closing.{close, sorry_of}
use Rattle.lf_elaboration.specs.Terms.{OneBinder, as_type}
use Rattle.lf_msg.specs.declared.diagnostic.Diagnostic.TheVariants.{UsesSorry}
use Rattle.lf_document.specs.Task as task
use Rattle.lf_document.specs.Task.{Task, Judged, right, judged, in_part, tells_if}
use Rattle.lf_document.specs.Setting.{Setting, Declaration, nesting, most_levels, part, calls_of, no_locals, by_kernel}
use Rattle.lf_document.specs.Naming.{if_named}
use Rattle.lf_document.specs.Binders.{pi_over, under_binders}
use Rattle.lf_document.specs.Constants.{without_value, Header, Made, nothing_made, entries_made, is_one_marked}

-- ---- Types

-- The written type; where none is written, `Type`, which only an inductive type leaves out.
abbrev pub type_or_default : Part → Calls → Option TermTree → Locals → Run Term
type_or_default P c (Some s) L = do
  A ← as_type P c L s
  gives A.term
type_or_default P c None L = gives (sort (level_succ level_zero))

-- Pis over the binders, at the end of the part.
abbrev pub whole_type : Part → List OneBinder → Option TermTree → Run Term
whole_type P bs s = do
  T ← under_binders P (calls_of P) pi_over (type_or_default P (calls_of P) s) no_locals bs
  close P (calls_of P) no_locals 0 (Some 0)
  instantiated T

-- A type that the kernel accepts for a name, with the level of its sort.
pub record Stated : Type 0 where
  pub ty : Term
  pub sort : Universe

abbrev pub stated : Part → Path → List OneBinder → Option TermTree → Run Stated
stated P n bs s = do
  T ← whole_type P bs s
  l ← by_kernel P (add_header P.view nesting n T)
  gives (record { ty = T; sort = l })

-- Of which `sorryAx` may stand for a value: it isn't too deep for that.
abbrev pub stated_for_value : Part → Path → List OneBinder → Option TermTree → Run Stated
stated_for_value P n bs s = do
  h ← stated P n bs s
  put (sorry_of h.sort h.ty)
  gives h

-- ---- The header of a definition or theorem

abbrev pub header_part : Setting → Declaration → Part
header_part X D = part X X.view D.levels None D.at

abbrev pub header_of : Path → ConstKind → List Path → Bool → Option Stated → Option Header
header_of n kind levels erred None = None
header_of n kind levels erred (Some h) = Some (record { info = without_value n kind levels h.ty; sort = h.sort; erred = erred })

abbrev pub definition_head : Setting → ConstKind → Declaration → Task Made
definition_head X kind D = task.◌>>=◌
    (if_named X.view most_levels D (in_part X.budget D.at (judged (stated_for_value (header_part X D) D.name D.binders D.ty))))
    (λ r. task.gives (record { header = header_of D.name kind D.levels r.erred r.value; entries = []; value = None }))

-- ---- Constants that a command makes in one part

-- The warning is given once, where one of them rests on `sorryAx` and no error came from the part.
abbrev pub constants_made : ℕ → Bool → Option (List ConstInfo) → Task Made
constants_made at erred (Some cs) = task.◌>>◌ (tells_if (is_one_marked cs && not erred) at UsesSorry) (task.gives (entries_made cs))
constants_made at erred None = task.gives nothing_made

abbrev pub in_one_part : Setting → ℕ → Declaration → Run (Judged (List ConstInfo)) → Task Made
in_one_part X limit D m = task.◌>>=◌ (if_named X.view limit D (in_part X.budget D.at m)) (λ r. constants_made D.at r.erred r.value)

abbrev pub axiom_constants : Part → Declaration → Run (Judged (List ConstInfo))
axiom_constants P D = do
  h ← stated P D.name D.binders D.ty
  gives (right (without_value D.name Axiom D.levels h.ty ∷ []))

abbrev pub axiom_head : Setting → Declaration → Task Made
axiom_head X D = in_one_part X most_levels D (axiom_constants (header_part X D) D)
