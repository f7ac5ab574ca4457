-- A header and its body as tasks of their own, and the ranks of tasks.
use Rattle.std.specs.Prelude.{◌≡◌, true, false, Some, None, List, [], ◌∷◌, codes, map}
use Rattle.lf_core.specs.Term.{app, const, lit}
use Rattle.lf_core.specs.declared.constant.ConstInfo.{ConstInfo}
use Rattle.lf_core.specs.declared.constant.ConstKind.TheVariants.{Def as DefKind, Theorem as TheoremKind}
use Rattle.lf_core.specs.declared.constant.Detail.TheVariants.{Plain}
use Rattle.lf_core.specs.declared.constant.TaskKey.TheVariants.{Head, Body, Real}
use Rattle.lf_syntax.specs.declared.command.Command.{Command}
use Rattle.lf_syntax.specs.declared.command.Command.TheVariants.{Axiom, Def, Check}
use Rattle.lf_checker.specs.View.{View, found, lookup_of, unresolved, value_of, base_view, base_position, pushed, opened_branch, view_at}
use Rattle.lf_msg.specs.declared.message.Severity.TheVariants.{Error}
use Rattle.lf_msg.specs.declared.message.Message.{Message}
use Rattle.lf_msg.specs.Trees.{Flat}
use Rattle.lf_elaboration.specs.Scope.{start}
use Rattle.lf_examples.specs.Words.{word, dotted, one, three, at}
use Rattle.lf_examples.specs.Declarations.{nat}
use Rattle.lf_document.specs.Setting.{Setting}
use Rattle.lf_document.specs.Constants.{Header, Valued, without_value}
use Rattle.lf_document.specs.TaskValue.{has, waits_for, head_value, body_value}
use Rattle.lf_document.specs.Sequential.{value_for}
use Rattle.lf_document.specs.Rank.{rank_of, is_lower}
use Rattle.lf_document_answers.specs.Written.{ident, name, name_of_two, number, equals, decl}
use Rattle.lf_document_answers.specs.Base.{base, realizing}

-- def a : Nat := 1
abbrev pub definition : Command
definition = Def (decl 0 (ident 4 "a") [] (Some (name 8 "Nat"))) (number 15 1) []

abbrev pub at_start : Setting
at_start = record { view = base_view base; scope = start; position = 0; budget = 1000 }

abbrev pub info : ConstInfo
info = without_value (word "a") DefKind [] nat

abbrev pub header : Header
header = record { info = info; sort = one; erred = false }

abbrev pub silent : Flat
silent = record { messages = []; nodes = 1 }

-- What others see of the command before its body is there.
abbrev pub with_header : View
with_header = view_at (opened_branch (pushed (base_view base) info 0) (word "a") 0) 1

abbrev pub behind_it : Setting
behind_it = record { view = with_header; scope = start; position = 1; budget = 1000 }

-- def a : Nat := x
abbrev pub failing : Command
failing = Def (decl 0 (ident 4 "a") [] (Some (name 8 "Nat"))) (name 15 "x") []

-- sorryAx Nat
abbrev pub failed : Valued
failed = record { term = app (const (word "sorryAx") (one ∷ [])) nat; height = 1 }

abbrev pub complaint : Message
complaint = record { at = 15; severity = Error; text = codes "unknown identifier x" }

-- def f : Nat := 1
-- axiom h : f.eq_1 = f.eq_1
-- def g := h
abbrev pub asking : List Command
asking =
    Def (decl 0 (ident 4 "f") [] (Some (name 8 "Nat"))) (number 15 1) []
    ∷ Axiom (decl 17 (ident 23 "h") [] (Some (equals (name_of_two 27 "f" "eq_1") (name_of_two 36 "f" "eq_1"))))
    ∷ Def (decl 43 (ident 47 "g") [] None) (name 52 "h") [] ∷ []

-- f = 1, by Eq.refl f
abbrev pub equation : ConstInfo
equation = record {
  name = dotted "f" "eq_1";
  kind = TheoremKind;
  levels = [];
  ty = three (const (word "Eq") (one ∷ [])) nat (at "f") (lit 1);
  value = Some (app (app (const (dotted "Eq" "refl") (one ∷ [])) nat) (at "f"));
  height = 2;
  detail = Plain;
}

pub record PartAnswers : Type 0 where
  -- the head gives the header alone
  pub head : head_value at_start definition
      ≡ has (record { header = Some header; entries = []; value = None; messages = silent; asked = []; made = None })
  -- the body gives its value
  pub body : body_value at_start definition (Some header)
      ≡ has (record { header = None; entries = []; value = Some (record { term = lit 1; height = 1 }); messages = silent; asked = []; made = None })
  -- without a header there is nothing
  pub no_body : body_value at_start definition None
      ≡ has (record { header = None; entries = []; value = None; messages = silent; asked = []; made = None })
  -- a body that fails: its message, and `sorryAx` at the level of the type's sort
  pub failing_body : body_value at_start failing (Some header) ≡ has (record {
    header = None;
    entries = [];
    value = Some failed;
    messages = record { messages = complaint ∷ []; nodes = 1 };
    asked = [];
    made = None;
  })
  -- the tasks of a text: a name in the type of what a head makes is asked for; the value of a body; a realized constant
  pub head_asks : (value_for realizing asking (Head 2)).asked ≡ dotted "f" "eq_1" ∷ []
  pub body_gives : (value_for realizing asking (Body 0)).value ≡ Some (record { term = lit 1; height = 1 })
  pub real_makes : (value_for realizing asking (Real (dotted "f" "eq_1"))).made ≡ Some equation
  -- the header is found before its body is there; its value and its children are waited for
  pub published : lookup_of with_header (word "a") ≡ found info
  pub no_value : value_of with_header (word "a") ≡ unresolved (Body 0)
  pub child : head_value behind_it (Check 0 (name_of_two 7 "a" "b")) ≡ waits_for (Body 0)
  -- ranks rise: the base's realized constants, then head, body and realized constants of each command
  pub ranks : map (λ r. r.0) (rank_of (Real (dotted "f" "eq_1")) base_position ∷ rank_of (Head 0) 0 ∷ rank_of (Body 0) 0
      ∷ rank_of (Real (dotted "f" "eq_1")) 0 ∷ rank_of (Head 1) 0 ∷ []) ≡ 0 ∷ 1 ∷ 1 ∷ 1 ∷ 2 ∷ []
  pub head_first : is_lower (rank_of (Head 0) 0) (rank_of (Body 0) 0) ≡ true
  pub then_body : is_lower (rank_of (Body 0) 0) (rank_of (Real (dotted "f" "eq_1")) 0) ≡ true
  pub then_next : is_lower (rank_of (Real (dotted "f" "eq_1")) 0) (rank_of (Head 1) 0) ≡ true
  pub not_back : is_lower (rank_of (Head 1) 0) (rank_of (Body 0) 0) ≡ false
