-- Scopes, candidates, and what declarations take, on commands as they are written.
use Rattle.std.specs.Prelude.{◌≡◌, ℕ, true, false, Some, None, List, [], ◌∷◌, ◌++◌, map}
use Prim.Native.String.{String}
use Rattle.lf_core.specs.Term.{Path}
use Rattle.lf_name.specs.declared.binder.BinderKind.{BinderKind}
use Rattle.lf_name.specs.declared.binder.BinderKind.TheVariants.{Explicit, Implicit, Inst}
use Rattle.lf_syntax.specs.declared.leaf.Ident.{Ident}
use Rattle.lf_syntax.specs.declared.term.Binders.{Binders}
use Rattle.lf_syntax.specs.declared.command.Command.{Command}
use Rattle.lf_syntax.specs.declared.command.Command.TheVariants.{Axiom, Namespace, Section, End, OpenNames, Universe, Variable}
use Rattle.lf_syntax.specs.Tree as tree
use Rattle.lf_syntax.specs.Tree.{TermTree}
use Rattle.lf_elaboration.specs.Scope.{Scope, start, scope_before, is_mismatched_end, declared_name, candidates_of, local_named}
use Rattle.lf_elaboration.specs.Variables.{variables_taken, level_names}
use Rattle.lf_examples.specs.Words.{word, dotted}
use Rattle.lf_elaboration_answers.specs.Written.{ident, named, name, applied}

abbrev pub group_at : ℕ → BinderKind → String → TermTree → Binders
group_at p k x t = record { at = p; kind = k; names = ident p x ∷ []; ty = t }

abbrev pub group : BinderKind → String → TermTree → Binders
group k x t = group_at 0 k x t

abbrev pub declares : List Ident → List Binders → TermTree → Command
declares ls bs t = Axiom (record { at = 0; name = ident 6 "A"; levels = ls; binders = bs; ty = Some t })

abbrev pub stating : TermTree → Command
stating t = declares [] [] t

-- Sort u
abbrev pub sort_u : TermTree
sort_u = tree.sort_u 0 (Some (tree.level_name (ident 0 "u")))

abbrev pub prop : TermTree
prop = tree.prop 0

abbrev pub after : List Command → Scope
after cs = scope_before cs 100

abbrev pub taken : List Command → Command → List Path
taken cs c = map (λ v. v.name.name) (variables_taken (after cs) c)

abbrev pub levels : List Command → List Path → Command → List Path
levels cs written c = level_names (after cs) written c

abbrev pub n_and_open : List Command
n_and_open = Namespace 0 (ident 0 "N") ∷ OpenNames 0 (ident 0 "K" ∷ ident 0 "L" ∷ []) ∷ []

abbrev pub u_command : Command
u_command = Universe 0 (ident 0 "u" ∷ [])

-- variable (x : Nat)
abbrev pub x_variable : Command
x_variable = Variable 0 (group Explicit "x" (name 0 "Nat") ∷ [])

-- variable {α : Type} [i : C α] (y : D)
abbrev pub class_variables : Command
class_variables =
    Variable 0 (group_at 1 Implicit "α" prop ∷ group_at 2 Inst "i" (applied (name 0 "C") (name 0 "α" ∷ [])) ∷ group_at 3 Explicit "y" (name 0 "D") ∷ [])

-- variable (α : Type) (β : Type) [C α] [C β] [D inst], where the first two in brackets have one name
abbrev pub namesakes : Command
namesakes = Variable 0 (group_at 1 Explicit "α" prop ∷ group_at 2 Explicit "β" prop ∷ group_at 3 Inst "inst" (applied (name 0 "C") (name 0 "α" ∷ []))
    ∷ group_at 4 Inst "inst" (applied (name 0 "C") (name 0 "β" ∷ [])) ∷ group_at 5 Inst "d" (applied (name 0 "D") (name 0 "inst" ∷ [])) ∷ [])

-- variable (y : x) (x : Nat)
abbrev pub later_variable : Command
later_variable = Variable 0 (group Explicit "y" (name 0 "x") ∷ group Explicit "x" (name 0 "Nat") ∷ [])

abbrev pub in_namespace : Path → Command
in_namespace n = Namespace 0 (named 0 n)

abbrev pub ends : Path → Command
ends n = End 0 (Some (named 0 n))

pub record ScopeAnswers : Type 0 where
  -- x in a header within N, and in the value of N.f, with K and then L opened
  pub in_header : candidates_of (after n_and_open) None (word "x") ≡ dotted "N" "x" ∷ word "x" ∷ dotted "L" "x" ∷ dotted "K" "x" ∷ []
  pub in_value : candidates_of (after n_and_open) (Some (dotted "N" "f")) (word "x")
      ≡ (dotted "N" "f" ++ word "x") ∷ dotted "N" "x" ∷ word "x" ∷ dotted "L" "x" ∷ dotted "K" "x" ∷ []
  pub innermost : local_named (word "x" ∷ word "y" ∷ word "x" ∷ []) (word "x") ≡ Some 2
  pub no_local : local_named (word "x" ∷ []) (dotted "x" "y") ≡ None
  -- namespace A.B is closed by end A.B alone, and gives up what was opened in it
  pub part_of_a_name : is_mismatched_end (after (in_namespace (dotted "A" "B") ∷ [])) (ends (word "B")) ≡ true
  pub whole_name : is_mismatched_end (after (in_namespace (dotted "A" "B") ∷ [])) (ends (dotted "A" "B")) ≡ false
  pub nothing_open : is_mismatched_end start (End 0 None) ≡ true
  pub given_up : after (Section 0 None ∷ x_variable ∷ u_command ∷ End 0 None ∷ []) ≡ start
  pub namespace_within : declared_name (after (in_namespace (word "A") ∷ in_namespace (word "B") ∷ [])) (word "f") ≡ dotted "A" "B" ++ word "f"
  -- a name that is bound doesn't refer
  pub bound_name : taken (x_variable ∷ []) (declares [] (group Explicit "x" (name 0 "Bool") ∷ []) prop) ≡ []
  pub used_name : taken (x_variable ∷ []) (stating (applied (name 0 "P") (name 0 "x" ∷ []))) ≡ word "x" ∷ []
  -- one in brackets goes along with all that it names
  pub instance_along : taken (class_variables ∷ []) (stating (name 0 "α")) ≡ word "α" ∷ word "i" ∷ []
  pub no_instance : taken (class_variables ∷ []) (stating (name 0 "y")) ≡ word "y" ∷ []
  -- one of two of the same name isn't taken, and so neither is what names both
  pub namesake_left : taken (namesakes ∷ []) (stating (name 0 "α")) ≡ word "α" ∷ word "inst" ∷ []
  pub namesakes_taken : taken (namesakes ∷ []) (stating (applied (name 0 "α") (name 0 "β" ∷ [])))
      ≡ word "α" ∷ word "β" ∷ word "inst" ∷ word "inst" ∷ word "d" ∷ []
  pub by_type : taken (later_variable ∷ []) (stating (name 0 "y")) ≡ word "y" ∷ word "x" ∷ []
  -- level names: none for a binder, one for a level, and a written one once
  pub no_level : levels (u_command ∷ []) [] (declares [] (group Explicit "u" (name 0 "Nat") ∷ []) prop) ≡ []
  pub named_level : levels (u_command ∷ []) [] (stating sort_u) ≡ word "u" ∷ []
  pub written_level : levels (u_command ∷ []) (word "u" ∷ []) (declares (ident 0 "u" ∷ []) [] sort_u) ≡ word "u" ∷ []
