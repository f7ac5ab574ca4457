-- The commands that declare nothing and elaborate something: `variable`, `#check`, `#reduce` and `#print axioms`. They take variables, as locals,
-- and level names as declarations do, but for the last. Their messages for the whole stand at the command's first token.
use Rattle.std.specs.Prelude.{ℕ, Option, Some, None, List, [], ◌++◌, length}
use Rattle.lf_core.specs.Term.{Path, Term}
use Rattle.lf_print.specs.Printed.{print_text}
use Rattle.lf_syntax.specs.Tree.{TermTree}
use Rattle.lf_syntax.specs.declared.leaf.Ident.{Ident}
use Rattle.lf_syntax.specs.declared.term.Binders.{Binders}
use Rattle.lf_syntax.specs.declared.command.Command.{Command}
use Rattle.lf_checker.specs.Checker.{normalize}
use Rattle.lf_elaboration.specs.Axioms as axioms
use Rattle.lf_elaboration.specs.Messages as says
use Rattle.lf_elaboration.specs.Variables.{level_names}
use Rattle.lf_elaboration.specs.Run.{◌>>=◌, ◌>>◌, gives, gives_up, needs, checks}
use Rattle.lf_elaboration.specs.Part.{Part, Locals, Run, Typed, given, instantiated, error}
use Rattle.lf_elaboration.specs.Closing.{close, locals_put_in}
use Rattle.lf_elaboration.specs.Identifiers.{Meaning, constant, own_type, nothing, waits, meaning_of, ask_if_realized}
use Rattle.lf_elaboration.specs.Terms.{OneBinder}
use Rattle.lf_msg.specs.declared.info.Info.TheVariants.{Checked, Reduced, Axioms}
use Rattle.lf_msg.specs.declared.diagnostic.Diagnostic.{Diagnostic}
use Rattle.lf_msg.specs.declared.diagnostic.Diagnostic.TheVariants.{Info}
use Rattle.lf_document.specs.Task as task
use Rattle.lf_document.specs.Task.{Task, judged, in_part, tells}
use Rattle.lf_document.specs.Setting.{Setting, nesting, most_levels, part, calls_of, no_locals, of_groups, taken_binders}
use Rattle.lf_document.specs.Naming.{at_most}
use Rattle.lf_document.specs.Binders.{nothing_over, under_binders}
use Rattle.lf_document.specs.Constants.{Made, nothing_made}

-- ---- What they have in common: a part, which may have something to tell.

abbrev pub told : ℕ → Option (Option Diagnostic) → Task Made
told at (Some (Some d)) = task.◌>>◌ (tells at d) (task.gives nothing_made)
told at (Some None) = task.gives nothing_made
told at None = task.gives nothing_made

abbrev pub query : Setting → ℕ → List Path → (Part → Run (Option Diagnostic)) → Task Made
query X at levels m = task.◌>>=◌
    (at_most most_levels at (length levels) (in_part X.budget at (judged (m (part X X.view levels None at)))))
    (λ r. told at r.value)

-- ---- variable: each type, behind the binders before it.

abbrev pub nothing_under : Locals → Run (Unit {0})
nothing_under L = gives tt

abbrev pub variable_types : List OneBinder → Part → Run (Option Diagnostic)
variable_types bs P = do
  under_binders P (calls_of P) nothing_over nothing_under no_locals bs
  close P (calls_of P) no_locals 0 (Some 0)
  gives None

abbrev pub variable_head : Setting → Command → ℕ → List Binders → Task Made
variable_head X c at bs = query X at (level_names X.scope [] c) (variable_types (taken_binders X.scope c ++ of_groups bs))

-- ---- #check and #reduce: a term without expected type, under the variables.

pub record Under : Type 0 where
  pub locals : Locals
  pub typed : Typed

abbrev pub term_under : Part → TermTree → Locals → Run Under
term_under P s L = do
  r ← (calls_of P).elaborate given L s None
  gives (record { locals = L; typed = r })

abbrev pub whole_term : Part → List OneBinder → TermTree → Run Under
whole_term P bs s = do
  r ← under_binders P (calls_of P) nothing_over (term_under P s) no_locals bs
  close P (calls_of P) no_locals 0 (Some 0)
  gives r

-- Term and type are printed with the variables' names.
abbrev pub printed : Part → Locals → Term → List ℕ
printed P L t = print_text L.names P.levels t

abbrev pub checked_term : List OneBinder → TermTree → Part → Run (Option Diagnostic)
checked_term bs s P = do
  r ← whole_term P bs s
  t ← instantiated r.typed.term
  T ← instantiated r.typed.ty
  gives (Some (Info (Checked (printed P r.locals t) (printed P r.locals T))))

abbrev pub check_head : Setting → Command → ℕ → TermTree → Task Made
check_head X c at s = query X at (level_names X.scope [] c) (checked_term (taken_binders X.scope c) s)

abbrev pub reduced_term : List OneBinder → TermTree → Part → Run (Option Diagnostic)
reduced_term bs s P = do
  r ← whole_term P bs s
  L ← locals_put_in r.locals
  t ← instantiated r.typed.term
  n ← checks (normalize P.view nesting L.types t)
  gives (Some (Info (Reduced (printed P L n))))

abbrev pub reduce_head : Setting → Command → ℕ → TermTree → Task Made
reduce_head X c at s = query X at (level_names X.scope [] c) (reduced_term (taken_binders X.scope c) s)

-- ---- #print axioms: the identifier stands for a constant, as in a term without locals.

abbrev pub constant_by : Part → Ident → Meaning → Run Path
constant_by P x (constant n c) = ask_if_realized P.view n >> gives n
constant_by P x (own_type n) = gives n
constant_by P x nothing = error x.at (says.unknown_identifier x.name)
constant_by P x (waits k) = needs k

abbrev pub constant_of : Part → Ident → Run Path
constant_of P x = constant_by P x (meaning_of P x.name)

abbrev pub axioms_walked : axioms.Walk → Run (List Path)
axioms_walked (axioms.ended ns) = gives ns
axioms_walked (axioms.waits k) = needs k
axioms_walked axioms.unended = gives_up

abbrev pub axioms_of : Ident → Part → Run (Option Diagnostic)
axioms_of x P = do
  n ← constant_of P x
  ns ← axioms_walked (axioms.reached P.view n)
  gives (Some (Info (Axioms n ns)))

abbrev pub axioms_head : Setting → ℕ → Ident → Task Made
axioms_head X at x = query X at [] (axioms_of x)
