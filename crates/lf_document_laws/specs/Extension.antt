-- The extension law of tasks: over a view that tells more, the value of a task is the same; only a need may become a value.
use Rattle.std.specs.Prelude.{◌≡◌, ℕ, false, Option, List}
use Rattle.lf_core.specs.Term.{Path}
use Rattle.lf_core.specs.declared.constant.ConstKind.{ConstKind}
use Rattle.lf_name.specs.declared.binder.BinderKind.{BinderKind}
use Rattle.lf_syntax.specs.Tree.{TermTree}
use Rattle.lf_syntax.specs.declared.leaf.Ident.{Ident}
use Rattle.lf_syntax.specs.declared.term.Binders.{Binders}
use Rattle.lf_syntax.specs.declared.command.CtorDecl.{CtorDecl}
use Rattle.lf_syntax.specs.declared.command.FieldDecl.{FieldDecl}
use Rattle.lf_syntax.specs.declared.command.Command.{Command}
use Rattle.lf_checker.specs.View.{View, stands_before}
use Rattle.lf_checker.specs.Extends.{Tells, Extends}
use Rattle.lf_elaboration_laws.specs.Extension.{AreDistinct}
use Rattle.lf_document.specs.Task.{Log, Attempt, done, need, Task}
use Rattle.lf_document.specs.Setting.{Setting, Declaration}
use Rattle.lf_document.specs.Constants.{Header, Made}
use Rattle.lf_document.specs.Headers.{axiom_head, definition_head}
use Rattle.lf_document.specs.Inductives.{inductive_head}
use Rattle.lf_document.specs.StructureCommand.{structure_head}
use Rattle.lf_document.specs.Queries.{variable_head, check_head, reduce_head, axioms_head}
use Rattle.lf_document.specs.TaskValue.{Outcome, has, waits_for, real_value, untyped_head, task_value, head_value, body, body_value}

-- A value is the other value, with what was told.
abbrev pub Kept : {A : Type 0} → Attempt A → Attempt A → Type 0
Kept (need k) p = Unit {0}
Kept (done x g) p = done x g ≡ p

abbrev pub KeptOutcome : Outcome → Outcome → Type 0
KeptOutcome (waits_for k) o = Unit {0}
KeptOutcome (has v) o = has v ≡ o

abbrev pub RealValuesExtend : Type 0
RealValuesExtend = (U V : View) → Tells V U → (units : ℕ) (n : Path) → KeptOutcome (real_value U units n) (real_value V units n)

-- The command over another view.
abbrev pub on_view : Setting → View → Setting
on_view X V = record X { view = V }

-- What the task gives over the setting's view it gives over the other.
abbrev pub TaskKept : (Setting → Task Made) → Setting → View → Type 0
TaskKept f X V = (g : Log) → Kept (f X g) (f (on_view X V) g)

abbrev pub TaskExtends : (Setting → Task Made) → Type 0
TaskExtends f = (X : Setting) (V : View) → Tells V X.view → TaskKept f X V

-- Where a command adds to its own view what it makes: this isn't of an earlier command there.
abbrev pub IsOwn : Setting → Type 0
IsOwn X = stands_before X.view.position X.position ≡ false

abbrev pub OwnTaskExtends : (Setting → Task Made) → Type 0
OwnTaskExtends f = (X : Setting) (V : View) → Tells V X.view → IsOwn X → TaskKept f X V

-- ---- Heads, by the forms of commands

pub record HeadsExtend : Type 0 where
  pub axioms : (D : Declaration) → TaskExtends (λ X. axiom_head X D)
  -- of definitions and theorems with a stated type, by alternatives too, and of instances
  pub headers : (kind : ConstKind) (D : Declaration) → TaskExtends (λ X. definition_head X kind D)
  pub definitions : (D : Declaration) (v : TermTree) → TaskExtends (λ X. untyped_head X D v)
  pub inductives : (D : Declaration) (ks : List CtorDecl) → TaskExtends (λ X. inductive_head X D ks)
  -- of structures, and of classes
  pub structures : (kind : BinderKind) (D : Declaration) (fs : List FieldDecl) → OwnTaskExtends (λ X. structure_head X kind D fs)
  pub variables : (c : Command) (at : ℕ) (bs : List Binders) → TaskExtends (λ X. variable_head X c at bs)
  pub checks : (c : Command) (at : ℕ) (t : TermTree) → TaskExtends (λ X. check_head X c at t)
  pub reductions : (c : Command) (at : ℕ) (t : TermTree) → TaskExtends (λ X. reduce_head X c at t)

-- `#print axioms` reads values and the order of the axioms too, where no two entries have one name.
abbrev pub AxiomsReachedExtend : Type 0
AxiomsReachedExtend = (X : Setting) (V : View) → Extends V X.view → AreDistinct X.view.entries → AreDistinct V.entries → (at : ℕ) (n : Ident) (g : Log)
    → Kept (axioms_head X at n g) (axioms_head (on_view X V) at n g)

-- ---- Bodies, of a header that is the same

abbrev pub BodiesExtend : Type 0
BodiesExtend = (c : Command) (h : Option Header) → OwnTaskExtends (λ X. body X c h)

-- ---- Values

-- With the names that stand in what is made, a task that is kept has the same value.
abbrev pub ValuesExtend : Type 0
ValuesExtend = (f : Setting → Task Made) (X : Setting) (V : View) → Tells V X.view → TaskKept f X V
    → KeptOutcome (task_value X.view (f X)) (task_value V (f (on_view X V)))

-- Of each command: only `#print axioms` needs more than that the view tells all.
pub record CommandsExtend : Type 0 where
  pub heads : (X : Setting) (V : View) → Extends V X.view → AreDistinct X.view.entries → AreDistinct V.entries → IsOwn X → (c : Command)
      → KeptOutcome (head_value X c) (head_value (on_view X V) c)
  pub bodies : (X : Setting) (V : View) → Tells V X.view → IsOwn X → (c : Command) (h : Option Header)
      → KeptOutcome (body_value X c h) (body_value (on_view X V) c h)
