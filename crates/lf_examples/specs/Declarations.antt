-- Declarations that are admitted, and what stands in their terms.
use Rattle.std.specs.Prelude.{[], ◌∷◌}
use Rattle.lf_core.specs.Term.{level_succ, level_max, level_param, Term, bound, sort, const, app, pi}
use Rattle.lf_core.specs.declared.constant.IndDecl.{IndDecl}
use Rattle.lf_examples.specs.Words.{
  text,
  word,
  dotted,
  explicit,
  implicit,
  ◌⟶◌,
  two,
  three,
  u,
  one,
  prop,
  type,
  at,
  at_u,
  inductive_type,
  inductive_type_u,
  constructor,
}

-- inductive Nat : Type where | zero : Nat | succ (n : Nat) : Nat
abbrev pub nat : Term
nat = at "Nat"

abbrev pub nat_zero : Term
nat_zero = const (dotted "Nat" "zero") []

abbrev pub nat_succ : Term
nat_succ = const (dotted "Nat" "succ") []

abbrev pub nat_declaration : IndDecl
nat_declaration = inductive_type "Nat" 0 type (constructor "Nat" "zero" nat ∷ constructor "Nat" "succ" (pi (explicit "n") nat nat) ∷ [])

-- namespace Demo
-- inductive List (α : Type u) : Type u where | nil : List α | cons (head : α) (tail : List α) : List α
abbrev pub type_u : Term
type_u = sort (level_succ u)

abbrev pub list : Term → Term
list A = app (const (dotted "Demo" "List") (u ∷ [])) A

abbrev pub list_declaration : IndDecl
list_declaration = record {
  name = dotted "Demo" "List";
  levels = word "u" ∷ [];
  params = 1;
  ty = pi (explicit "α") type_u type_u;
  ctors = record { name = text "Demo" ∷ text "List" ∷ text "nil" ∷ []; ty = pi (implicit "α") type_u (list (bound 0)) }
      ∷ record {
        name = text "Demo" ∷ text "List" ∷ text "cons" ∷ [];
        ty = pi (implicit "α") type_u
            (pi (explicit "head") (bound 0) (pi (explicit "tail") (list (bound 1)) (list (bound 2))));
      } ∷ [];
}

-- inductive Eq {α : Sort u} (a : α) : α → Prop where | refl : Eq a a
abbrev pub eq_declaration : IndDecl
eq_declaration = inductive_type_u "Eq" 2 (pi (implicit "α") (sort u) (pi (explicit "a") (bound 0) (bound 1 ⟶ prop)))
    (constructor "Eq" "refl" (pi (implicit "α") (sort u) (pi (implicit "a") (bound 0) (three (at_u "Eq") (bound 1) (bound 0) (bound 0)))) ∷ [])

-- inductive False : Prop
abbrev pub false_declaration : IndDecl
false_declaration = inductive_type "False" 0 prop []

-- inductive True : Prop where | intro : True
abbrev pub true_declaration : IndDecl
true_declaration = inductive_type "True" 0 prop (constructor "True" "intro" (at "True") ∷ [])

-- inductive And (a b : Prop) : Prop where | intro (left : a) (right : b) : And a b
abbrev pub and_declaration : IndDecl
and_declaration = inductive_type "And" 2 (pi (explicit "a") prop (pi (explicit "b") prop prop))
    (constructor "And" "intro" (pi (implicit "a") prop
    (pi (implicit "b") prop (pi (explicit "left") (bound 1) (pi (explicit "right") (bound 1) (two (at "And") (bound 3) (bound 2)))))) ∷ [])

-- inductive Or (a b : Prop) : Prop where | inl (h : a) : Or a b | inr (h : b) : Or a b
abbrev pub or_declaration : IndDecl
or_declaration = inductive_type "Or" 2 (pi (explicit "a") prop (pi (explicit "b") prop prop))
    (constructor "Or" "inl" (pi (implicit "a") prop (pi (implicit "b") prop (pi (explicit "h") (bound 1) (two (at "Or") (bound 2) (bound 1)))))
    ∷ constructor "Or" "inr" (pi (implicit "a") prop (pi (implicit "b") prop (pi (explicit "h") (bound 0) (two (at "Or") (bound 2) (bound 1))))) ∷ [])

-- inductive D where | mk (n : Nat) (p : n = n)
abbrev pub d_declaration : IndDecl
d_declaration = inductive_type "D" 0 type
    (constructor "D" "mk" (pi (explicit "n") nat (pi (explicit "p") (three (const (word "Eq") (one ∷ [])) nat (bound 0) (bound 0)) (at "D"))) ∷ [])

-- inductive Acc {α : Sort u} (r : α → α → Prop) : α → Prop where
-- | intro (x : α) (h : ∀ (y : α), r y x → Acc r y) : Acc r x
abbrev pub relation : Term
relation = bound 0 ⟶ bound 1 ⟶ prop

abbrev pub acc_declaration : IndDecl
acc_declaration = inductive_type_u "Acc" 2 (pi (implicit "α") (sort u) (pi (explicit "r") relation (bound 1 ⟶ prop)))
    (constructor "Acc" "intro" (pi (implicit "α") (sort u) (pi (implicit "r") relation
    (pi (explicit "x") (bound 1) (pi (explicit "h")
    (pi (explicit "y") (bound 2) (two (bound 2) (bound 0) (bound 1) ⟶ three (at_u "Acc") (bound 4) (bound 3) (bound 1)))
    (three (at_u "Acc") (bound 3) (bound 2) (bound 1)))))) ∷ [])

-- inductive W (A : Type) (B : A → Type) : Type where | sup (a : A) (f : B a → W A B) : W A B
abbrev pub w_declaration : IndDecl
w_declaration = inductive_type "W" 2 (pi (explicit "A") type (pi (explicit "B") (bound 0 ⟶ type) type))
    (constructor "W" "sup" (pi (implicit "A") type (pi (implicit "B") (bound 0 ⟶ type)
    (pi (explicit "a") (bound 1) (pi (explicit "f") (app (bound 1) (bound 0) ⟶ two (at "W") (bound 3) (bound 2)) (two (at "W") (bound 3) (bound 2)))))) ∷ [])

-- inductive Vec (α : Type) : Nat → Type where
-- | nil : Vec α Nat.zero | cons {n : Nat} (head : α) (tail : Vec α n) : Vec α (Nat.succ n)
abbrev pub vec_declaration : IndDecl
vec_declaration = inductive_type "Vec" 1 (pi (explicit "α") type (nat ⟶ type))
    (constructor "Vec" "nil" (pi (implicit "α") type (two (at "Vec") (bound 0) nat_zero))
    ∷ constructor "Vec" "cons" (pi (implicit "α") type
    (pi (implicit "n") nat (pi (explicit "head") (bound 1)
    (pi (explicit "tail") (two (at "Vec") (bound 2) (bound 1)) (two (at "Vec") (bound 3) (app nat_succ (bound 2))))))) ∷ [])

-- inductive Exists {α : Sort u} (p : α → Prop) : Prop where | intro (w : α) (h : p w) : Exists p
abbrev pub exists_declaration : IndDecl
exists_declaration = inductive_type_u "Exists" 2 (pi (implicit "α") (sort u) (pi (explicit "p") (bound 0 ⟶ prop) prop))
    (constructor "Exists" "intro" (pi (implicit "α") (sort u) (pi (implicit "p") (bound 0 ⟶ prop)
    (pi (explicit "w") (bound 1) (pi (explicit "h") (app (bound 1) (bound 0)) (two (at_u "Exists") (bound 3) (bound 2)))))) ∷ [])

-- inductive Tree : Type where | leaf : Tree | node (l : Tree) (n : Nat) (r : Tree) : Tree
abbrev pub tree_declaration : IndDecl
tree_declaration = inductive_type "Tree" 0 type
    (constructor "Tree" "leaf" (at "Tree") ∷ constructor "Tree" "node"
    (pi (explicit "l") (at "Tree") (pi (explicit "n") nat (pi (explicit "r") (at "Tree") (at "Tree")))) ∷ [])

-- inductive Fan : Type where | fan (f : ∀ {n : Nat}, Fan) : Fan
abbrev pub fan_declaration : IndDecl
fan_declaration = inductive_type "Fan" 0 type (constructor "Fan" "fan" (pi (explicit "f") (pi (implicit "n") nat (at "Fan")) (at "Fan")) ∷ [])

-- inductive Sigma {α : Type u} (β : α → Type v) : Type (max u v) where | mk (fst : α) (snd : β fst) : Sigma β
abbrev pub sigma : Term → Term → Term
sigma A B = two (const (word "Sigma") (u ∷ level_param 1 ∷ [])) A B

abbrev pub type_v : Term
type_v = sort (level_succ (level_param 1))

abbrev pub sigma_declaration : IndDecl
sigma_declaration = record {
  name = word "Sigma";
  levels = word "u" ∷ word "v" ∷ [];
  params = 2;
  ty = pi (implicit "α") type_u (pi (explicit "β") (bound 0 ⟶ type_v) (sort (level_succ (level_max u (level_param 1)))));
  ctors = constructor "Sigma" "mk" (pi (implicit "α") type_u
      (pi (implicit "β") (bound 0 ⟶ type_v) (pi (explicit "fst") (bound 1) (pi (explicit "snd") (app (bound 1) (bound 0)) (sigma (bound 3) (bound 2)))))) ∷ [];
}
