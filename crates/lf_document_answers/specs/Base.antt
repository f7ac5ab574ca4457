-- A small base, and what texts are elaborated over it.
use Rattle.std.specs.Prelude.{◌≡◌, ℕ, true, Some, None, List, [], ◌∷◌, ◌++◌, flat_map}
use Prim.Native.String.{String}
use Rattle.lf_core.specs.Term.{Path, Term, bound, sort, pi, lit}
use Rattle.lf_core.specs.declared.constant.ConstInfo.{ConstInfo}
use Rattle.lf_core.specs.declared.constant.ConstKind.TheVariants.{Axiom, Def}
use Rattle.lf_core.specs.declared.constant.Detail.TheVariants.{Plain}
use Rattle.lf_core.specs.declared.constant.IndDecl.{IndDecl}
use Rattle.lf_syntax.specs.declared.command.Command.{Command}
use Rattle.lf_rules.specs.Inductive.{declared_constants}
use Rattle.lf_examples.specs.Words.{word, dotted, explicit, implicit, three, u, type, at, at_u, inductive_type, constructor}
use Rattle.lf_examples.specs.Declarations.{nat, nat_declaration, eq_declaration, and_declaration, true_declaration}
use Rattle.lf_document.specs.Prelude.{line}
use Rattle.lf_document.specs.Joined.{joined_document}
use Rattle.lf_document.specs.Report.{report_of}
use Rattle.lf_document.specs.Sequential.{Ground, none_realized, over_base}

-- inductive Bool : Type where | false : Bool | true : Bool
abbrev pub bool_declaration : IndDecl
bool_declaration = inductive_type "Bool" 0 type (constructor "Bool" "false" (at "Bool") ∷ constructor "Bool" "true" (at "Bool") ∷ [])

-- An axiom with the one level parameter `u`.
abbrev pub axiom_u : Path → Term → ConstInfo
axiom_u n A = record { name = n; kind = Axiom; levels = word "u" ∷ []; ty = A; value = None; height = 0; detail = Plain }

-- sorryAx (α : Sort u) : α
abbrev pub sorry_info : ConstInfo
sorry_info = axiom_u (word "sorryAx") (pi (explicit "α") (sort u) (bound 0))

-- rfl {α : Sort u} {a : α} : a = a
abbrev pub rfl_info : ConstInfo
rfl_info = axiom_u (word "rfl") (pi (implicit "α") (sort u) (pi (implicit "a") (bound 0) (three (at_u "Eq") (bound 1) (bound 0) (bound 0))))

-- Eq.symm {α : Sort u} {a b : α} (h : a = b) : b = a
abbrev pub symm_info : ConstInfo
symm_info = axiom_u (dotted "Eq" "symm") (pi (implicit "α") (sort u) (pi (implicit "a") (bound 0) (pi (implicit "b") (bound 1)
    (pi (explicit "h") (three (at_u "Eq") (bound 2) (bound 1) (bound 0)) (three (at_u "Eq") (bound 3) (bound 1) (bound 2))))))

abbrev pub base : List ConstInfo
base = declared_constants nat_declaration true ++ (declared_constants bool_declaration true ++ (declared_constants eq_declaration true
    ++ (declared_constants and_declaration true ++ (declared_constants true_declaration true ++ sorry_info ∷ rfl_info ∷ symm_info ∷ []))))

-- Nothing is realized.
abbrev pub ground : Ground
ground = record { base = base; realizes = none_realized; budget = 100000 }

-- All names are, by the rules.
abbrev pub realizing : Ground
realizing = over_base base 100000

-- With so many units for each part.
abbrev pub with_units : ℕ → Ground
with_units n = record ground { budget = n }

abbrev pub poor : Ground
poor = with_units 2

-- With a definition more: def k : Nat := 1
abbrev pub k_info : ConstInfo
k_info = record { name = word "k"; kind = Def; levels = []; ty = nat; value = Some (lit 1); height = 1; detail = Plain }

abbrev pub base_with_k : List ConstInfo
base_with_k = base ++ k_info ∷ []

abbrev pub realizing_with_k : Ground
realizing_with_k = over_base base_with_k 100000

-- The report of a text of these lines, which has these commands.
abbrev pub reports : Ground → List String → List Command → List String → Type 0
reports G ls cs report = report_of (joined_document G (flat_map line ls) cs) ≡ flat_map line report
