-- The values of tasks: of the head and of the body of each command, and of a realized constant.
use Rattle.std.specs.Prelude.{ℕ, Option, Some, None, List, [], ◌++◌, length, map, suc}
use Rattle.lf_core.specs.Term.{Path}
use Rattle.lf_core.specs.declared.constant.ConstInfo.{ConstInfo}
use Rattle.lf_core.specs.declared.constant.ConstKind.TheVariants.{Def as DefKind, Theorem as TheoremKind}
use Rattle.lf_core.specs.declared.constant.TaskKey.{TaskKey}
use Rattle.lf_name.specs.declared.binder.BinderKind.TheVariants.{Explicit, Inst}
use Rattle.lf_syntax.specs.Tree.{TermTree}
use Rattle.lf_syntax.specs.declared.command.Helper.{Helper}
use Rattle.lf_syntax.specs.declared.pattern.Alternative.{Alternative}
use Rattle.lf_syntax.specs.declared.command.Command.{Command}
use Rattle.lf_syntax.specs.declared.command.Command.TheVariants.{
  Axiom,
  Def,
  Equations,
  Theorem,
  Inductive,
  Structure,
  Class,
  Instance,
  Namespace,
  Section,
  End,
  OpenNames,
  Universe,
  Variable,
  Check,
  Reduce,
  PrintAxioms,
  Bad,
}
use Rattle.lf_checker.specs.View.{View}
use Rattle.lf_branch.specs.Branch.{Branch}
use Rattle.lf_elaboration.specs.Scope.{is_mismatched_end}
use Rattle.lf_elaboration.specs.Messages.{Node}
use Rattle.lf_elaboration.specs.Part.{Part, Run}
use Rattle.lf_elaboration.specs.Realizers.{Realized, makes, makes_none, waits, realize}
use Rattle.lf_msg.specs.declared.naming.NamingError.TheVariants.{MismatchedEnd}
use Rattle.lf_msg.specs.declared.diagnostic.Diagnostic.TheVariants.{Syntax, Naming}
use Rattle.lf_msg.specs.declared.message.Message.{Message}
use Rattle.lf_msg.specs.Trees.{Flat, flat_all, nodes_all}
use Rattle.lf_document.specs.Diagnoses.{block_node, syntax_error}
use Rattle.lf_document.specs.Task.{Log, nothing_told, Attempt, done, need, Task, Judged, ◌>>=◌, ◌>>◌, gives, tells, tells_if}
use Rattle.lf_document.specs.Setting.{Setting, Declaration, declaration, most_levels, nesting, part}
use Rattle.lf_document.specs.Constants.{Valued, Header, Made, nothing_made}
use Rattle.lf_document.specs.Headers.{header_part, in_one_part, axiom_head, definition_head}
use Rattle.lf_document.specs.Values.{written_value, whole_definition, completed}
use Rattle.lf_document.specs.Helpers.{helpers}
use Rattle.lf_document.specs.Inductives.{inductive_head}
use Rattle.lf_document.specs.StructureCommand.{structure_head}
use Rattle.lf_document.specs.EquationsBody.{equations_value}
use Rattle.lf_document.specs.Queries.{variable_head, check_head, reduce_head, axioms_head}
use Rattle.lf_document.specs.Asking.{ask_for}

-- A header, for a definition or theorem with a stated type; the whole constants, and the value of the header's constant, with its height; the
-- messages of the tree, in order, and how many nodes it has (which block ran in which isn't said); the realized names that were asked for; and
-- the constant that a realized name stands for.
pub record TaskValue : Type 0 where
  pub header : Option Header
  pub entries : List ConstInfo
  pub value : Option Valued
  pub messages : Flat
  pub asked : List Path
  pub made : Option ConstInfo

-- The task's own messages come before those of its blocks, each of which has a node of its own.
abbrev pub tree : List Message → List Node → Flat
tree ms ns = record { messages = ms ++ flat_all (map block_node ns); nodes = suc (nodes_all (map block_node ns)) }

abbrev pub made_and_told : Made → Log → TaskValue
made_and_told m g = record { header = m.header; entries = m.entries; value = m.value; messages = tree g.messages g.nodes; asked = g.asked; made = None }

-- The value of a task, or the task that has to be done first.
pub data Outcome : Type 0 where
  has : TaskValue → Outcome
  waits_for : TaskKey → Outcome

abbrev pub outcome : Attempt Made → Outcome
outcome (done m g) = has (made_and_told m g)
outcome (need k) = waits_for k

-- With the names that stand in what is made.
abbrev pub with_asked : View → Task Made → Task Made
with_asked V t = t >>= (λ m. ask_for V m >> gives m)

abbrev pub task_value : View → Task Made → Outcome
task_value V t = outcome (with_asked V t nothing_told)

-- ---- Heads: the whole of each command but the bodies of definitions and theorems with a stated type

abbrev pub value_part : Setting → Declaration → Part
value_part X D = part X X.view D.levels (Some D.name) D.at

abbrev pub untyped_head : Setting → Declaration → TermTree → Task Made
untyped_head X D v = in_one_part X most_levels D (whole_definition (header_part X D) (value_part X D) D v)

abbrev pub def_head : Setting → Declaration → TermTree → Option TermTree → Task Made
def_head X D v (Some t) = definition_head X DefKind D
def_head X D v None = untyped_head X D v

abbrev pub says_only : Task (Unit {0}) → Task Made
says_only m = m >> gives nothing_made

abbrev pub head : Setting → Command → Task Made
head X (Axiom d) = axiom_head X (declaration X.scope (Axiom d) d)
head X (Def d v hs) = def_head X (declaration X.scope (Def d v hs) d) v d.ty
head X (Equations d alts) = definition_head X DefKind (declaration X.scope (Equations d alts) d)
head X (Theorem d v hs) = definition_head X TheoremKind (declaration X.scope (Theorem d v hs) d)
head X (Inductive d ks) = inductive_head X (declaration X.scope (Inductive d ks) d) ks
head X (Structure d fs) = structure_head X Explicit (declaration X.scope (Structure d fs) d) fs
head X (Class d fs) = structure_head X Inst (declaration X.scope (Class d fs) d) fs
head X (Instance d v) = definition_head X DefKind (declaration X.scope (Instance d v) d)
head X (Namespace at n) = gives nothing_made
head X (Section at n) = gives nothing_made
head X (End at n) = says_only (tells_if (is_mismatched_end X.scope (End at n)) at (Naming MismatchedEnd))
head X (OpenNames at ns) = gives nothing_made
head X (Universe at ns) = gives nothing_made
head X (Variable at bs) = variable_head X (Variable at bs) at bs
head X (Check at t) = check_head X (Check at t) at t
head X (Reduce at t) = reduce_head X (Reduce at t) at t
head X (PrintAxioms at n) = axioms_head X at n
head X (Bad at f) = says_only (tells at (Syntax (syntax_error f)))

abbrev pub head_value : Setting → Command → Outcome
head_value X c = task_value X.view (head X c)

-- ---- Bodies: the helpers, and then the value of the header's constant

abbrev pub body_made : Branch → Valued → Made
body_made b v = record { header = None; entries = b.added; value = Some v }

-- A branch of this header, before its helpers.
abbrev pub branch_of : Setting → Header → Branch
branch_of X h = record { view = X.view; prefix = h.info.name; position = X.position; added = [] }

-- In what the helpers leave.
abbrev pub value_in : Setting → Header → ℕ → Branch → (Part → Run (Judged Valued)) → Task Made
value_in X h at b m = completed X b.view at h (m (part X b.view h.info.levels (Some h.info.name) at)) >>= (λ v. gives (body_made b v))

abbrev pub with_helpers : Setting → Header → ℕ → List Helper → (Part → Run (Judged Valued)) → Task Made
with_helpers X h at hs m = helpers X h (branch_of X h) hs >>= (λ b. value_in X h at b m)

abbrev pub written_body : Setting → Header → Declaration → TermTree → List Helper → Task Made
written_body X h D v hs = with_helpers X h D.at hs (λ P. written_value P h.info (length D.binders) v)

abbrev pub equations_body : Setting → Header → Declaration → Path → List Alternative → Task Made
equations_body X h D own alts = with_helpers X h D.at [] (λ P. equations_value P h.info own (length D.binders) alts)

abbrev pub body_of : Setting → Header → Command → Task Made
body_of X h (Def d v hs) = written_body X h (declaration X.scope (Def d v hs) d) v hs
body_of X h (Equations d alts) = equations_body X h (declaration X.scope (Equations d alts) d) d.name.name alts
body_of X h (Theorem d v hs) = written_body X h (declaration X.scope (Theorem d v hs) d) v hs
body_of X h (Instance d v) = written_body X h (declaration X.scope (Instance d v) d) v []
body_of X h (Axiom d) = gives nothing_made
body_of X h (Inductive d ks) = gives nothing_made
body_of X h (Structure d fs) = gives nothing_made
body_of X h (Class d fs) = gives nothing_made
body_of X h (Namespace at n) = gives nothing_made
body_of X h (Section at n) = gives nothing_made
body_of X h (End at n) = gives nothing_made
body_of X h (OpenNames at ns) = gives nothing_made
body_of X h (Universe at ns) = gives nothing_made
body_of X h (Variable at bs) = gives nothing_made
body_of X h (Check at t) = gives nothing_made
body_of X h (Reduce at t) = gives nothing_made
body_of X h (PrintAxioms at n) = gives nothing_made
body_of X h (Bad at f) = gives nothing_made

-- Without a header there is nothing to do.
abbrev pub body : Setting → Command → Option Header → Task Made
body X c (Some h) = body_of X h c
body X c None = gives nothing_made

abbrev pub body_value : Setting → Command → Option Header → Outcome
body_value X c h = task_value X.view (body X c h)

-- ---- Realized constants: made in units of their own, and nothing is told.

abbrev pub real_made : Option ConstInfo → TaskValue
real_made c = record { header = None; entries = []; value = None; messages = tree [] []; asked = []; made = c }

abbrev pub real_outcome : Realized → Outcome
real_outcome (makes c) = has (real_made (Some c))
real_outcome makes_none = has (real_made None)
real_outcome (waits k) = waits_for k

abbrev pub real_value : View → ℕ → Path → Outcome
real_value V units n = real_outcome (realize V units nesting n)
