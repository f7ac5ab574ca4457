-- Scopes: what the commands before a place have opened and declared for it, as a fold over the commands' trees; and the names that an
-- identifier may stand for there. A scope is a function of the syntax alone. This project's own.
use Rattle.std.specs.Prelude.{ℕ, suc, Bool, true, false, if◌then◌else◌, Option, Some, None, List, [], ◌∷◌, ◌++◌, map, reverse, take, fold}
use Rattle.lf_name.specs.Name.{Path}
use Rattle.lf_name.specs.Same.{same_path}
use Rattle.lf_syntax.specs.Tree.{BindersTree}
use Rattle.lf_syntax.specs.TermNode.{binders_tree}
use Rattle.lf_syntax.specs.declared.leaf.Ident.{Ident}
use Rattle.lf_syntax.specs.declared.command.Command.{Command}
use Rattle.lf_syntax.specs.declared.command.Command.TheVariants.{
  Axiom,
  Def,
  Equations,
  Theorem,
  Inductive,
  Structure,
  Class,
  Instance,
  Namespace,
  Section,
  End,
  OpenNames,
  Universe,
  Variable,
  Check,
  Reduce,
  PrintAxioms,
  Bad,
}

-- What holds in a scope: its namespace, which may be empty, the names that it has opened, and its universe names and variables, in order.
pub record Holding : Type 0 where
  pub namespace : Path
  pub opened : List Path
  pub universes : List Path
  pub variables : List BindersTree

-- A `namespace` or a `section` that isn't closed yet: the name with which an `end` closes it, and what held before it.
pub record Enclosing : Type 0 where
  pub closed_by : Option Path
  pub before : Holding

pub record Scope : Type 0 where
  pub holding : Holding
  -- the innermost first
  pub enclosing : List Enclosing
  -- the declared names of classes and of instances, in order, which no `end` gives up
  pub classes : List Path
  pub instances : List Path

-- Before the first command.
abbrev pub start : Scope
start = record { holding = record { namespace = []; opened = []; universes = []; variables = [] }; enclosing = []; classes = []; instances = [] }

abbrev pub names_of : List Ident → List Path
names_of xs = map (λ x. x.name) xs

-- The namespace followed by the written name.
abbrev pub declared_name : Scope → Path → Path
declared_name s n = s.holding.namespace ++ n

-- A scope within this one.
abbrev pub entered : Option Path → Scope → Scope
entered n s = record s { enclosing = record { closed_by = n; before = s.holding } ∷ s.enclosing }

abbrev pub with_namespace : Path → Scope → Scope
with_namespace n s = record s { holding = record s.holding { namespace = declared_name s n } }

abbrev pub same_ending : Option Path → Option Path → Bool
same_ending None None = true
same_ending (Some m) (Some n) = same_path m n
same_ending None (Some n) = false
same_ending (Some m) None = false

abbrev pub closes : Option Path → List Enclosing → Bool
closes n [] = false
closes n (e ∷ es) = same_ending e.closed_by n

-- What held before the innermost scope holds again.
abbrev pub left : Scope → List Enclosing → Scope
left s [] = s
left s (e ∷ es) = record s { holding = e.before; enclosing = es }

abbrev pub name_of : Option Ident → Option Path
name_of None = None
name_of (Some x) = Some x.name

-- An `end` that closes nothing: another name than that of the innermost scope, or no scope.
abbrev pub is_mismatched_end : Scope → Command → Bool
is_mismatched_end s (End at n) = if closes (name_of n) s.enclosing then false else true
is_mismatched_end s (Axiom d) = false
is_mismatched_end s (Def d v hs) = false
is_mismatched_end s (Equations d alts) = false
is_mismatched_end s (Theorem d v hs) = false
is_mismatched_end s (Inductive d cs) = false
is_mismatched_end s (Structure d fs) = false
is_mismatched_end s (Class d fs) = false
is_mismatched_end s (Instance d v) = false
is_mismatched_end s (Namespace at n) = false
is_mismatched_end s (Section at n) = false
is_mismatched_end s (OpenNames at ns) = false
is_mismatched_end s (Universe at ns) = false
is_mismatched_end s (Variable at bs) = false
is_mismatched_end s (Check at t) = false
is_mismatched_end s (Reduce at t) = false
is_mismatched_end s (PrintAxioms at n) = false
is_mismatched_end s (Bad at f) = false

-- The scope after a command. A mismatched `end` and a bad command change nothing.
abbrev pub scope_after : Scope → Command → Scope
scope_after s (Namespace at n) = with_namespace n.name (entered (Some n.name) s)
scope_after s (Section at n) = entered (name_of n) s
scope_after s (End at n) = if closes (name_of n) s.enclosing then left s s.enclosing else s
scope_after s (OpenNames at ns) = record s { holding = record s.holding { opened = s.holding.opened ++ names_of ns } }
scope_after s (Universe at ns) = record s { holding = record s.holding { universes = s.holding.universes ++ names_of ns } }
scope_after s (Variable at bs) = record s { holding = record s.holding { variables = s.holding.variables ++ map binders_tree bs } }
scope_after s (Class d fs) = record s { classes = s.classes ++ declared_name s d.name.name ∷ [] }
scope_after s (Instance d v) = record s { instances = s.instances ++ declared_name s d.name.name ∷ [] }
scope_after s (Axiom d) = s
scope_after s (Def d v hs) = s
scope_after s (Equations d alts) = s
scope_after s (Theorem d v hs) = s
scope_after s (Inductive d cs) = s
scope_after s (Structure d fs) = s
scope_after s (Check at t) = s
scope_after s (Reduce at t) = s
scope_after s (PrintAxioms at n) = s
scope_after s (Bad at f) = s

-- The scope before the command at this place of a text.
abbrev pub scope_before : List Command → ℕ → Scope
scope_before cs i = fold scope_after start (take i cs)

-- ---- Candidates

-- The prefixes of a name, the longest first, the empty one last.
abbrev pub prefixes : Path → List Path
prefixes [] = [] ∷ []
prefixes (part ∷ parts) = map (λ p. part ∷ p) (prefixes parts) ++ [] ∷ []

-- In a value the declared name is the first prefix; in a header, and for a command without a name, the namespace is.
abbrev pub first_prefix : Scope → Option Path → Path
first_prefix s None = s.holding.namespace
first_prefix s (Some n) = n

-- The constants that an identifier may stand for, in the order in which they are tried: behind each prefix, and then behind each opened name,
-- the latest first.
abbrev pub candidates_of : Scope → Option Path → Path → List Path
candidates_of s inside x = map (λ p. p ++ x) (prefixes (first_prefix s inside) ++ reverse s.holding.opened)

-- The innermost local of a name, by its place in the context; these are the names of the locals from number k on.
abbrev pub local_from : ℕ → List Path → Path → Option ℕ
local_from k [] x = None
local_from k (n ∷ ns) x = or_this (local_from (suc k) ns x)
  where
    or_this : Option ℕ → Option ℕ
    or_this (Some j) = Some j
    or_this None = if same_path n x then Some k else None

abbrev pub local_named : List Path → Path → Option ℕ
local_named ns x = local_from 0 ns x
