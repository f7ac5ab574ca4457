-- A part of a command as elaboration sees it: what is fixed for it, what it changes, and what one of its calls may call.
use Rattle.std.specs.Prelude.{ℕ, Bool, true, if◌then◌else◌, Option, Some, None, List, [], ◌∷◌, ◌++◌, length}
use Rattle.lf_core.specs.Term.{Path, Universe, Term, sort}
use Rattle.lf_core.specs.Substitution.{abstract}
use Rattle.lf_rules.specs.Environment.{Context, with}
use Rattle.lf_syntax.specs.Tree.{TermTree, ItemTree}
use Rattle.lf_print.specs.Printed.{print_text}
use Rattle.lf_checker.specs.View.{View}
use Rattle.lf_checker.specs.Run as checker
use Rattle.lf_checker.specs.Run.{Refusal}
use Rattle.lf_checker.specs.Calls as checking
use Rattle.lf_checker.specs.declared.fault.TypeFault.{TypeFault}
use Rattle.lf_checker.specs.declared.fault.TypeFault.TheVariants as fault
use Rattle.lf_elaboration.specs.declared.hole.Hole.{Hole}
use Rattle.lf_elaboration.specs.Scope.{Scope}
use Rattle.lf_rules.specs.Recursor.{is_among}
use Rattle.lf_elaboration.specs.Forms.{as_sort}
use Rattle.lf_elaboration.specs.Metavariables.{Changes, types_of}
use Rattle.lf_elaboration.specs.Messages as says
use Rattle.lf_elaboration.specs.Messages.{Node, Diagnostic, error_at}
use Rattle.lf_elaboration.specs.Run as run
use Rattle.lf_elaboration.specs.Run.{Answer, done, failed, out, need, ◌>>=◌, ◌>>◌, gives, fails, reading, choose, checks, checks_or, put, made}
use Rattle.lf_elaboration.specs.Unifier.{Unify}

-- What is fixed for a part.
pub record Part : Type 0 where
  pub view : View
  pub scope : Scope
  -- its level names; a parameter is the place of its name
  pub levels : List Path
  -- in a value the declared name, which is then the first prefix of candidates
  pub inside : Option Path
  -- in an inductive command the type's own name, which is found there
  pub own : Option Path
  -- the place of the declared name, or of the command's first token where there is none
  pub place : ℕ
  -- the instance of a type in a context, where so many nested calls are still allowed
  pub synthesize : ℕ → Context → Term → checker.Run (Option Term)

-- The locals of a place: their types, and a name for each.
pub record Locals : Type 0 where
  pub types : Context
  pub names : List Path

abbrev pub with_local : Locals → Path → Term → Locals
with_local L x A = record { types = with L.types A; names = L.names ++ x ∷ [] }

-- What a part changes: the metavariables; the holes that wait, in the order in which they were made; the realized names that were asked for,
-- each once; and the nodes of the blocks that have run in the innermost block that is running, or else in the part.
pub record State : Type 0 where
  pub changes : Changes
  pub pending : List Hole
  pub asked : List Path
  pub nodes : List Node

abbrev pub Run : Type 0 → Type 0
Run A = run.Run State A

pub record Typed : Type 0 where
  pub term : Term
  pub ty : Term

-- A type, with the level of its sort.
pub record Sorted : Type 0 where
  pub term : Term
  pub level : Universe

-- Whether implicit arguments behind the last written one are given.
pub data Trailing : Type 0 where
  given : Trailing
  left_open : Trailing

-- What one call of elaboration may call: itself, proofs, the unifier, the checker and the resolution of instances, one call deeper.
pub record Calls : Type 0 where
  pub elaborate : Trailing → Locals → TermTree → Option Term → Run Typed
  pub prove : Locals → Term → List ItemTree → Run Term
  pub unify : Unify
  pub check : checking.Calls
  pub synthesize : Context → Term → checker.Run (Option Term)

-- ---- Runs over the metavariables alone

abbrev pub back : {A : Type 0} → State → Answer Changes A → Answer State A
back s (done x u cs) = done x u (record s { changes = cs })
back s (failed m u cs) = failed m u (record s { changes = cs })
back s (out cs) = out (record s { changes = cs })
back s (need k) = need k

abbrev pub on_changes : {A : Type 0} → run.Run Changes A → Run A
on_changes m = λ u s. back s (m u s.changes)

abbrev pub instantiated : Term → Run Term
instantiated t = on_changes (run.instantiated t)

abbrev pub instantiated_all : List Term → Run (List Term)
instantiated_all [] = gives []
instantiated_all (t ∷ ts) = do
  t' ← instantiated t
  ts' ← instantiated_all ts
  gives (t' ∷ ts')

abbrev pub unify : Calls → Locals → Term → Term → Run Bool
unify c L a b = on_changes (c.unify L.types a b)

abbrev pub whnf : Calls → Locals → Term → Run Term
whnf c L t = checks (c.check.whnf true L.types t)

-- A metavariable for these locals, made by the node at this place.
abbrev pub placeholder : Locals → ℕ → Term → Run Term
placeholder L at A = on_changes (run.fresh A (length L.types) at)

abbrev pub fresh_level : Run Universe
fresh_level = on_changes run.fresh_level

-- A type that isn't known yet, in a sort that isn't either.
abbrev pub fresh_type : Locals → ℕ → Run Sorted
fresh_type L at = do
  l ← fresh_level
  A ← placeholder L at (sort l)
  gives (record { term = A; level = l })

abbrev pub changed : (State → State) → Run (Unit {0})
changed f = λ u s. done tt u (f s)

-- A realized name that is used is asked for, each once.
abbrev pub ask : Path → Run (Unit {0})
ask n = changed (λ s. if is_among n s.asked then s else record s { asked = s.asked ++ n ∷ [] })

-- ---- Errors

abbrev pub error : {A : Type 0} → ℕ → Diagnostic → Run A
error p d = fails (error_at p d)

-- A term as a message prints it, with its assigned metavariables put in.
abbrev pub shown_under : Part → List Path → Term → Run (List ℕ)
shown_under P names t = do
  t' ← instantiated t
  gives (print_text names P.levels t')

abbrev pub shown : Part → Locals → Term → Run (List ℕ)
shown P L t = shown_under P L.names t

-- An error that speaks of one term, or of two.
abbrev pub error_on : {A : Type 0} → Part → List Path → ℕ → (List ℕ → Diagnostic) → Term → Run A
error_on P names at d t = do
  x ← shown_under P names t
  error at (d x)

abbrev pub error_on_both : {A : Type 0} → Part → List Path → ℕ → (List ℕ → List ℕ → Diagnostic) → Term → Term → Run A
error_on_both P names at d s t = do
  x ← shown_under P names s
  y ← shown_under P names t
  error at (d x y)

abbrev pub mismatch : {A : Type 0} → Part → Locals → ℕ → Term → Term → Run A
mismatch P L at has expected = error_on_both P L.names at says.type_mismatch has expected

-- A fault of the checker, whose terms stand under these names.
abbrev pub fault_at : {A : Type 0} → Part → List Path → ℕ → TypeFault → Run A
fault_at P names at (fault.Unknown n) = error at (says.unknown_constant n)
fault_at P names at (fault.Levels n) = error at (says.wrong_levels n)
fault_at P names at (fault.NotFunction A) = error_on P names at says.function_wanted A
fault_at P names at (fault.Argument A B) = error_on_both P names at says.argument_has A B
fault_at P names at (fault.NotType A) = error_on P names at says.type_wanted A
fault_at P names at (fault.Value A B) = error_on_both P names at says.value_has A B
fault_at P names at fault.NotClosed = error at says.not_closed
fault_at P names at (fault.NotStructure A) = error_on P names at says.structure_wanted A
fault_at P names at (fault.NotPositive n k) = error at (says.not_positive n k)
fault_at P names at (fault.BadResult n) = error at (says.bad_result n)
fault_at P names at (fault.LevelTooHigh n k) = error at (says.level_too_high n k)
fault_at P names at fault.BadType = error at says.bad_type
fault_at P names at (fault.Duplicate n p) = error at (says.duplicate_declaration n)

abbrev pub refusal_at : {A : Type 0} → Part → Locals → ℕ → Refusal → Run A
refusal_at P L at e = fault_at P (L.names ++ e.opened) at e.fault

-- ---- Types that weren't given, computed without tests

abbrev pub type_of : Part → Calls → Locals → ℕ → Term → Run Term
type_of P c L at t = reading λ s. checks_or (refusal_at P L at) (c.check.infer (checking.unchecked (types_of s.changes)) L.types t)

abbrev pub level_in : Part → Locals → ℕ → Term → Option Universe → Run Universe
level_in P L at S (Some l) = gives l
level_in P L at S None = fault_at P L.names at (fault.NotType S)

-- The level of a type's sort; a refusal is the error of the form or item at this place.
abbrev pub sort_of : Part → Calls → Locals → ℕ → Term → Run Universe
sort_of P c L at A = do
  S ← type_of P c L at A
  S' ← instantiated S
  W ← whnf c L S'
  level_in P L at S' (as_sort W)

-- ---- Terms closed again

-- A term with its assigned metavariables put in, as the body of a binder over the local of number k.
abbrev pub closed_over : ℕ → Term → Run Term
closed_over k t = do
  t' ← instantiated t
  made (abstract t' k)
