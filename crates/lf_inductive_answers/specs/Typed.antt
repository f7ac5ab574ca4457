-- The checker's own word on recursors: their types are types, and each rule has the type that its constructor asks for.
use Rattle.std.specs.Prelude.{◌≡◌, ℕ, Bool, true, Option, Some, None, is_some, List, []}
use Rattle.lf_core.specs.Term.{Path, Term}
use Rattle.lf_rules.specs.Recursor.{recursor_of}
use Rattle.lf_core.specs.declared.constant.IndDecl.{IndDecl}
use Rattle.lf_checker.specs.View.{View}
use Rattle.lf_checker.specs.Checker.{infer, add_header}
use Rattle.lf_examples.specs.Words.{text, word}
use Rattle.lf_print.specs.Printed.{term_text}
use Rattle.lf_examples.specs.Declarations.{nat_declaration, list_declaration, eq_declaration, acc_declaration, w_declaration, vec_declaration, tree_declaration}
use Rattle.lf_inductive_answers.specs.Recursors.{rule_of}
use Rattle.lf_inductive_answers.specs.Admissions.{given}
use Rattle.lf_examples.specs.Views.{with}

-- Over the numbers and the declaration's own constants.

abbrev pub is_header : IndDecl → Bool
is_header d = is_some (given (add_header (with d) 512 (word "another") (recursor_of d true).ty 1000000))

abbrev pub type_text : View → List Path → Option Term → List ℕ
type_text V ls (Some t) = text_of (given (infer V 512 [] t 1000000))
  where
    text_of : Option Term → List ℕ
    text_of (Some A) = term_text ls A
    text_of None = []
type_text V ls None = []

-- The type of the rule of the n-th constructor.
abbrev pub rule_type : IndDecl → ℕ → List ℕ
rule_type d n = type_text (with d) (recursor_of d true).levels (rule_of (recursor_of d true) n)

pub record Typed : Type 0 where
  pub nat_header : is_header nat_declaration ≡ true
  pub list_header : is_header list_declaration ≡ true
  pub eq_header : is_header eq_declaration ≡ true
  pub acc_header : is_header acc_declaration ≡ true
  pub w_header : is_header w_declaration ≡ true
  pub vec_header : is_header vec_declaration ≡ true
  pub tree_header : is_header tree_declaration ≡ true
  pub zero_rule : rule_type nat_declaration 0 ≡ text
      "∀ {motive : Nat → Sort u}, motive Nat.zero → (∀ (n : Nat), motive n → motive (Nat.succ n)) → motive Nat.zero"
  pub succ_rule : rule_type nat_declaration 1 ≡ text
      "∀ {motive : Nat → Sort u}, motive Nat.zero → (∀ (n : Nat), motive n → motive (Nat.succ n)) → ∀ (n : Nat), motive (Nat.succ n)"
  pub cons_rule : rule_type list_declaration 1 ≡ text
      "∀ {α : Type u}, ∀ {motive : Demo.List α → Sort u_1}, motive (Demo.List.nil α) → (∀ (head : α), ∀ (tail : Demo.List α), motive tail → motive (Demo.List.cons α head tail)) → ∀ (head : α), ∀ (tail : Demo.List α), motive (Demo.List.cons α head tail)"
  pub refl_rule : rule_type eq_declaration 0 ≡ text
      "∀ {α : Sort u}, ∀ {a : α}, ∀ {motive : ∀ (a : α), a = a → Sort u_1}, motive a (Eq.refl α a) → motive a (Eq.refl α a)"
  pub acc_rule : rule_type acc_declaration 0 ≡ text
      "∀ {α : Sort u}, ∀ {r : α → α → Prop}, ∀ {motive : ∀ (a : α), Acc α r a → Sort u_1}, (∀ (x : α), ∀ (h : ∀ (y : α), r y x → Acc α r y), (∀ (y : α), ∀ (a : r y x), motive y (h y a)) → motive x (Acc.intro α r x h)) → ∀ (x : α), ∀ (h : ∀ (y : α), r y x → Acc α r y), motive x (Acc.intro α r x h)"
  pub w_rule : rule_type w_declaration 0 ≡ text
      "∀ {A : Type}, ∀ {B : A → Type}, ∀ {motive : W A B → Sort u}, (∀ (a : A), ∀ (f : B a → W A B), (∀ (a : B a), motive (f a)) → motive (W.sup A B a f)) → ∀ (a : A), ∀ (f : B a → W A B), motive (W.sup A B a f)"
  pub vec_rule : rule_type vec_declaration 1 ≡ text
      "∀ {α : Type}, ∀ {motive : ∀ (a : Nat), Vec α a → Sort u}, motive Nat.zero (Vec.nil α) → (∀ {n : Nat}, ∀ (head : α), ∀ (tail : Vec α n), motive n tail → motive (Nat.succ n) (Vec.cons α n head tail)) → ∀ {n : Nat}, ∀ (head : α), ∀ (tail : Vec α n), motive (Nat.succ n) (Vec.cons α n head tail)"
  pub node_rule : rule_type tree_declaration 1 ≡ text
      "∀ {motive : Tree → Sort u}, motive Tree.leaf → (∀ (l : Tree), ∀ (n : Nat), ∀ (r : Tree), motive l → motive r → motive (Tree.node l n r)) → ∀ (l : Tree), ∀ (n : Nat), ∀ (r : Tree), motive (Tree.node l n r)"
