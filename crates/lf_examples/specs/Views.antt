-- The views over which declarations are admitted here.
use Rattle.std.specs.Prelude.{true, false, None, Some, List, [], ◌∷◌, ◌++◌}
use Rattle.lf_core.specs.Term.{Path, level_succ, Term, sort}
use Rattle.lf_rules.specs.Inductive.{declared_constants}
use Rattle.lf_core.specs.declared.constant.ConstInfo.{ConstInfo}
use Rattle.lf_core.specs.declared.constant.ConstKind.TheVariants.{Axiom, Def}
use Rattle.lf_core.specs.declared.constant.Detail.TheVariants.{Plain}
use Rattle.lf_core.specs.declared.constant.IndDecl.{IndDecl}
use Rattle.lf_checker.specs.View.{View, base_entries, base_view}
use Rattle.lf_examples.specs.Words.{word, dotted, one, at}
use Rattle.lf_examples.specs.Declarations.{nat, nat_zero, nat_declaration, list_declaration, eq_declaration}

abbrev pub nothing : View
nothing = base_view []

abbrev pub numbers : List ConstInfo
numbers = declared_constants nat_declaration true

abbrev pub with_numbers : View
with_numbers = base_view numbers

abbrev pub with_equality : View
with_equality = base_view (numbers ++ declared_constants eq_declaration true)

abbrev pub with_lists : View
with_lists = base_view (numbers ++ declared_constants list_declaration true)

-- The numbers, and what a declaration adds, eliminating into every sort.
abbrev pub with : IndDecl → View
with d = base_view (numbers ++ declared_constants d true)

-- The numbers and equality, and the same.
abbrev pub with_equality_and : IndDecl → View
with_equality_and d = base_view (numbers ++ (declared_constants eq_declaration true ++ declared_constants d true))

-- ---- A place in a document, at the position 7.

-- def f : Type 1, whose body isn't known yet
abbrev pub f_info : ConstInfo
f_info = record { name = word "f"; kind = Def; levels = []; ty = sort (level_succ one); value = None; height = 0; detail = Plain }

abbrev pub axiom_info : Path → Term → ConstInfo
axiom_info n A = record { name = n; kind = Axiom; levels = []; ty = A; value = None; height = 0; detail = Plain }

-- def h : Nat := Nat.zero
abbrev pub h_info : ConstInfo
h_info = record { name = word "h"; kind = Def; levels = []; ty = nat; value = Some nat_zero; height = 1; detail = Plain }

-- with axiom g : f and axiom S.rec : Nat
abbrev pub document : View
document = record {
  entries = base_entries numbers ++ record { info = f_info; position = 3 } ∷ record { info = axiom_info (word "g") (at "f"); position = 4 } ∷ record
      { info = axiom_info (dotted "S" "rec") nat; position = 5 } ∷ record { info = h_info; position = 6 } ∷ [];
  branches = record { prefix = word "f"; position = 3 } ∷ [];
  realized = [];
  failed = [];
  position = 7;
  for_base = false;
}
