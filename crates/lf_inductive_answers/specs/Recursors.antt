-- Recursors of known declarations: their types as text, and their rules.
use Rattle.std.specs.Prelude.{◌≡◌, ℕ, zero, suc, true, false, Option, Some, None, List, [], ◌∷◌, length, slice_get}
use Rattle.lf_core.specs.Term.{Path, Term, bound, sort, const, app, lam, pi}
use Rattle.lf_rules.specs.Recursor.{motive_level_name, recursor_of}
use Rattle.lf_core.specs.declared.constant.ConstInfo.{ConstInfo}
use Rattle.lf_core.specs.declared.constant.ConstKind.TheVariants.{Recursor}
use Rattle.lf_core.specs.declared.constant.Detail.{Detail}
use Rattle.lf_core.specs.declared.constant.Detail.TheVariants.{Rec}
use Rattle.lf_examples.specs.Words.{text, word, dotted, explicit, implicit, ◌⟶◌, two, u, type, at}
use Rattle.lf_print.specs.Printed.{term_text}
use Rattle.lf_examples.specs.Declarations.{
  nat,
  nat_zero,
  nat_succ,
  nat_declaration,
  list_declaration,
  eq_declaration,
  false_declaration,
  and_declaration,
  or_declaration,
  d_declaration,
  acc_declaration,
  w_declaration,
  vec_declaration,
  tree_declaration,
  fan_declaration,
  sigma_declaration,
}

abbrev pub type_text : ConstInfo → List ℕ
type_text c = term_text c.levels c.ty

abbrev pub rules_of : Detail → List Term
rules_of (Rec ind params minors indices rules) = rules
rules_of _ = []

-- The n-th rule; each has one for each constructor.
abbrev pub rule_of : ConstInfo → ℕ → Option Term
rule_of c n = slice_get (rules_of c.detail) n

abbrev pub text_at : List Path → Option Term → List ℕ
text_at ls (Some t) = term_text ls t
text_at ls None = []

abbrev pub rule_text : ConstInfo → ℕ → List ℕ
rule_text c n = text_at c.levels (rule_of c n)

-- What a recursor's detail counts.
pub record Counts : Type 0 where
  pub params : ℕ
  pub minors : ℕ
  pub indices : ℕ
  pub rules : ℕ

abbrev pub counted : Detail → Option Counts
counted (Rec ind params minors indices rules) = Some (record { params = params; minors = minors; indices = indices; rules = length rules })
counted _ = None

abbrev pub counts_of : ConstInfo → Option Counts
counts_of c = counted c.detail

-- ---- The recursor of the numbers, written out.

abbrev pub nat_motive : Term
nat_motive = pi (explicit "t") nat (sort u)

abbrev pub zero_case : Term
zero_case = app (bound 0) nat_zero

abbrev pub succ_case : Term
succ_case = pi (explicit "n") nat (pi (explicit "n_ih") (app (bound 2) (bound 0)) (app (bound 3) (app nat_succ (bound 1))))

abbrev pub zero_rule : Term
zero_rule = lam (implicit "motive") nat_motive (lam (explicit "zero") zero_case (lam (explicit "succ") succ_case (bound 1)))

abbrev pub succ_rule : Term
succ_rule =
    lam (implicit "motive") nat_motive (lam (explicit "zero") zero_case (lam (explicit "succ") succ_case (lam (explicit "n") nat
    (two (bound 1) (bound 0) (two (two (const (dotted "Nat" "rec") (u ∷ [])) (bound 3) (bound 2)) (bound 1) (bound 0))))))

abbrev pub nat_recursor : ConstInfo
nat_recursor = record {
  name = dotted "Nat" "rec";
  kind = Recursor;
  levels = word "u" ∷ [];
  ty = pi (implicit "motive") nat_motive (pi (explicit "zero") zero_case (pi (explicit "succ") succ_case (pi (explicit "t") nat (app (bound 3) (bound 0)))));
  value = None;
  height = 0;
  detail = Rec (word "Nat") 0 2 0 (zero_rule ∷ succ_rule ∷ []);
}

-- ---- The rule of a constructor with a field that is a function into the type: the recursive call stands under `fun`.

-- fun {A} {B} {motive} (sup) (a) (f) => sup a f (fun (a : B a) => W.rec A B motive sup (f a))
abbrev pub w_at : Term → Term → Term
w_at A B = two (const (word "W") []) A B

abbrev pub sup_case : Term
sup_case =
    pi (explicit "a") (bound 2) (pi (explicit "f") (app (bound 2) (bound 0) ⟶ w_at (bound 4) (bound 3))
    (pi (explicit "f_ih") (pi (explicit "a") (app (bound 3) (bound 1)) (app (bound 3) (app (bound 1) (bound 0))))
    (app (bound 3) (two (two (const (dotted "W" "sup") []) (bound 5) (bound 4)) (bound 2) (bound 1)))))

abbrev pub sup_rule : Term
sup_rule =
    lam (implicit "A") type (lam (implicit "B") (bound 0 ⟶ type)
    (lam (implicit "motive") (pi (explicit "t") (w_at (bound 1) (bound 0)) (sort u)) (lam (explicit "sup") sup_case
    (lam (explicit "a") (bound 3) (lam (explicit "f") (app (bound 3) (bound 0) ⟶ w_at (bound 5) (bound 4))
    (app (two (bound 2) (bound 1) (bound 0)) (lam (explicit "a") (app (bound 4) (bound 1))
    (app (two (two (const (dotted "W" "rec") (u ∷ [])) (bound 6) (bound 5)) (bound 4) (bound 3)) (app (bound 1) (bound 0))))))))))

-- ---- A minor premise with two hypotheses behind its fields.

-- The domain of the n-th pi.
abbrev pub domain_of : ℕ → Term → Option Term
domain_of zero (pi x A B) = Some A
domain_of (suc n) (pi x A B) = domain_of n B
domain_of n t = None

abbrev pub node_case : Term
node_case =
    pi (explicit "l") (at "Tree") (pi (explicit "n") nat (pi (explicit "r") (at "Tree")
    (pi (explicit "l_ih") (app (bound 4) (bound 2))
    (pi (explicit "r_ih") (app (bound 5) (bound 1)) (app (bound 6) (app (two (const (dotted "Tree" "node") []) (bound 4) (bound 3)) (bound 2)))))))

-- ---- The answers.

pub record Recursors : Type 0 where
  -- the numbers: the whole constant, and its type as text
  pub nat_constant : recursor_of nat_declaration true ≡ nat_recursor
  pub nat_type : type_text (recursor_of nat_declaration true) ≡ text
      "∀ {motive : Nat → Sort u}, motive Nat.zero → (∀ (n : Nat), motive n → motive (Nat.succ n)) → ∀ (t : Nat), motive t"
  -- a parameter and a level, whose name moves the motive's on
  pub list_type : type_text (recursor_of list_declaration true) ≡ text
      "∀ {α : Type u}, ∀ {motive : Demo.List α → Sort u_1}, motive (Demo.List.nil α) → (∀ (head : α), ∀ (tail : Demo.List α), motive tail → motive (Demo.List.cons α head tail)) → ∀ (t : Demo.List α), motive t"
  pub list_name : (recursor_of list_declaration true).name ≡ text "Demo" ∷ text "List" ∷ text "rec" ∷ []
  pub list_levels : (recursor_of list_declaration true).levels ≡ word "u_1" ∷ word "u" ∷ []
  pub list_counts : counts_of (recursor_of list_declaration true) ≡ Some (record { params = 1; minors = 2; indices = 0; rules = 2 })
  pub cons_rule : rule_text (recursor_of list_declaration true) 1 ≡ text
      "fun {α : Type u} => fun {motive : Demo.List α → Sort u_1} => fun (nil : motive (Demo.List.nil α)) => fun (cons : ∀ (head : α), ∀ (tail : Demo.List α), motive tail → motive (Demo.List.cons α head tail)) => fun (head : α) => fun (tail : Demo.List α) => cons head tail (Demo.List.rec α motive nil cons tail)"
  -- an index
  pub eq_type : type_text (recursor_of eq_declaration true) ≡ text
      "∀ {α : Sort u}, ∀ {a : α}, ∀ {motive : ∀ (a : α), a = a → Sort u_1}, motive a (Eq.refl α a) → ∀ {a : α}, ∀ (t : a = a), motive a t"
  pub eq_levels : (recursor_of eq_declaration true).levels ≡ word "u_1" ∷ word "u" ∷ []
  pub eq_counts : counts_of (recursor_of eq_declaration true) ≡ Some (record { params = 2; minors = 1; indices = 1; rules = 1 })
  pub refl_rule : rule_text (recursor_of eq_declaration true) 0 ≡ text
      "fun {α : Sort u} => fun {a : α} => fun {motive : ∀ (a : α), a = a → Sort u_1} => fun (refl : motive a (Eq.refl α a)) => refl"
  -- no constructor
  pub false_type : type_text (recursor_of false_declaration true) ≡ text "∀ {motive : False → Sort u}, ∀ (t : False), motive t"
  pub false_counts : counts_of (recursor_of false_declaration true) ≡ Some (record { params = 0; minors = 0; indices = 0; rules = 0 })
  -- a proposition into every sort, and one into `Prop` alone
  pub and_type : type_text (recursor_of and_declaration true) ≡ text
      "∀ {a : Prop}, ∀ {b : Prop}, ∀ {motive : a ∧ b → Sort u}, (∀ (left : a), ∀ (right : b), motive (And.intro a b left right)) → ∀ (t : a ∧ b), motive t"
  pub and_counts : counts_of (recursor_of and_declaration true) ≡ Some (record { params = 2; minors = 1; indices = 0; rules = 1 })
  pub or_type : type_text (recursor_of or_declaration false) ≡ text
      "∀ {a : Prop}, ∀ {b : Prop}, ∀ {motive : a ∨ b → Prop}, (∀ (h : a), motive (Or.inl a b h)) → (∀ (h : b), motive (Or.inr a b h)) → ∀ (t : a ∨ b), motive t"
  pub or_levels : (recursor_of or_declaration false).levels ≡ []
  -- a field whose type depends on an earlier field
  pub d_type : type_text (recursor_of d_declaration true) ≡ text
      "∀ {motive : D → Sort u}, (∀ (n : Nat), ∀ (p : n = n), motive (D.mk n p)) → ∀ (t : D), motive t"
  pub sigma_type : type_text (recursor_of sigma_declaration true) ≡ text
      "∀ {α : Type u}, ∀ {β : α → Type v}, ∀ {motive : Sigma α β → Sort u_1}, (∀ (fst : α), ∀ (snd : β fst), motive (Sigma.mk α β fst snd)) → ∀ (t : Sigma α β), motive t"
  pub sigma_levels : (recursor_of sigma_declaration true).levels ≡ word "u_1" ∷ word "u" ∷ word "v" ∷ []
  -- a recursive field under pis, at an index
  pub acc_type : type_text (recursor_of acc_declaration true) ≡ text
      "∀ {α : Sort u}, ∀ {r : α → α → Prop}, ∀ {motive : ∀ (a : α), Acc α r a → Sort u_1}, (∀ (x : α), ∀ (h : ∀ (y : α), r y x → Acc α r y), (∀ (y : α), ∀ (a : r y x), motive y (h y a)) → motive x (Acc.intro α r x h)) → ∀ {a : α}, ∀ (t : Acc α r a), motive a t"
  pub acc_counts : counts_of (recursor_of acc_declaration true) ≡ Some (record { params = 2; minors = 1; indices = 1; rules = 1 })
  pub acc_rule : rule_text (recursor_of acc_declaration true) 0 ≡ text
      "fun {α : Sort u} => fun {r : α → α → Prop} => fun {motive : ∀ (a : α), Acc α r a → Sort u_1} => fun (intro : ∀ (x : α), ∀ (h : ∀ (y : α), r y x → Acc α r y), (∀ (y : α), ∀ (a : r y x), motive y (h y a)) → motive x (Acc.intro α r x h)) => fun (x : α) => fun (h : ∀ (y : α), r y x → Acc α r y) => intro x h (fun (y : α) => fun (a : r y x) => Acc.rec α r motive intro y (h y a))"
  -- a field that is a function into the type
  pub w_type : type_text (recursor_of w_declaration true) ≡ text
      "∀ {A : Type}, ∀ {B : A → Type}, ∀ {motive : W A B → Sort u}, (∀ (a : A), ∀ (f : B a → W A B), (∀ (a : B a), motive (f a)) → motive (W.sup A B a f)) → ∀ (t : W A B), motive t"
  pub w_rule : rule_of (recursor_of w_declaration true) 0 ≡ Some sup_rule
  pub w_rule_text : rule_text (recursor_of w_declaration true) 0 ≡ text
      "fun {A : Type} => fun {B : A → Type} => fun {motive : W A B → Sort u} => fun (sup : ∀ (a : A), ∀ (f : B a → W A B), (∀ (a : B a), motive (f a)) → motive (W.sup A B a f)) => fun (a : A) => fun (f : B a → W A B) => sup a f (fun (a : B a) => W.rec A B motive sup (f a))"
  -- two recursive fields: their hypotheses come behind all fields, in order
  pub tree_type : type_text (recursor_of tree_declaration true) ≡ text
      "∀ {motive : Tree → Sort u}, motive Tree.leaf → (∀ (l : Tree), ∀ (n : Nat), ∀ (r : Tree), motive l → motive r → motive (Tree.node l n r)) → ∀ (t : Tree), motive t"
  pub node_minor : domain_of 2 (recursor_of tree_declaration true).ty ≡ Some node_case
  pub node_rule : rule_text (recursor_of tree_declaration true) 1 ≡ text
      "fun {motive : Tree → Sort u} => fun (leaf : motive Tree.leaf) => fun (node : ∀ (l : Tree), ∀ (n : Nat), ∀ (r : Tree), motive l → motive r → motive (Tree.node l n r)) => fun (l : Tree) => fun (n : Nat) => fun (r : Tree) => node l n r (Tree.rec motive leaf node l) (Tree.rec motive leaf node r)"
  -- the binders of a field keep their kinds, in the hypothesis and in the rule
  pub fan_type : type_text (recursor_of fan_declaration true) ≡ text
      "∀ {motive : Fan → Sort u}, (∀ (f : ∀ {n : Nat}, Fan), (∀ {n : Nat}, motive (f n)) → motive (Fan.fan f)) → ∀ (t : Fan), motive t"
  pub fan_rule : rule_text (recursor_of fan_declaration true) 0 ≡ text
      "fun {motive : Fan → Sort u} => fun (fan : ∀ (f : ∀ {n : Nat}, Fan), (∀ {n : Nat}, motive (f n)) → motive (Fan.fan f)) => fun (f : ∀ {n : Nat}, Fan) => fan f (fun {n : Nat} => Fan.rec motive fan (f n))"
  -- a field in braces keeps them, and so does an index
  pub vec_type : type_text (recursor_of vec_declaration true) ≡ text
      "∀ {α : Type}, ∀ {motive : ∀ (a : Nat), Vec α a → Sort u}, motive Nat.zero (Vec.nil α) → (∀ {n : Nat}, ∀ (head : α), ∀ (tail : Vec α n), motive n tail → motive (Nat.succ n) (Vec.cons α n head tail)) → ∀ {a : Nat}, ∀ (t : Vec α a), motive a t"
  -- the motive's level is the first name that isn't taken
  pub level_free : motive_level_name (word "v" ∷ word "u_1" ∷ []) ≡ word "u"
  pub level_taken : motive_level_name (word "u" ∷ []) ≡ word "u_1"
  pub levels_taken : motive_level_name (word "u_1" ∷ word "u" ∷ word "u_3" ∷ []) ≡ word "u_2"
  pub two_taken : motive_level_name (word "u" ∷ word "u_1" ∷ word "u_2" ∷ []) ≡ word "u_3"
  pub six_taken : motive_level_name (word "u_6" ∷ word "u_5" ∷ word "u_4" ∷ word "u_3" ∷ word "u_2" ∷ word "u_1" ∷ word "u" ∷ []) ≡ word "u_7"
