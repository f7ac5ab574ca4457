-- Definitions by equations over numbers, trees, lists and propositions.
use Rattle.std.specs.Prelude.{◌≡◌, ℕ, true, false, Bool, Option, Some, None, List, [], ◌∷◌, ◌++◌}
use Rattle.lf_core.specs.Term.{Path, level_zero, Term, bound, free, const, app, lam, pi, lit}
use Rattle.lf_core.specs.Spine.{apply}
use Rattle.lf_core.specs.declared.constant.ConstInfo.{ConstInfo}
use Rattle.lf_core.specs.declared.constant.ConstKind.TheVariants.{Def}
use Rattle.lf_core.specs.declared.constant.Detail.TheVariants.{Plain}
use Rattle.lf_rules.specs.Inductive.{declared_constants}
use Rattle.lf_rules.specs.Ordinary as ordinary
use Rattle.lf_checker.specs.View.{View, base_view}
use Rattle.lf_checker.specs.Run.{Answer, done, refused, out, need}
use Rattle.lf_checker.specs.Checker.{add_decl, normalize}
use Rattle.lf_equations.specs.declared.alternative.Case.{Case}
use Rattle.lf_equations.specs.declared.fault.EquationFault.{EquationFault}
use Rattle.lf_equations.specs.declared.fault.EquationFault.TheVariants.{NotInductive, NotACase, Twice, Missing, NotStructural}
use Rattle.lf_equations.specs.Outcome.{Outcome, gets, fault}
use Rattle.lf_equations.specs.Compile.{compile}
use Rattle.lf_examples.specs.Words.{text, word, dotted, explicit, two, three, one, prop, type, at, ◌⟶◌}
use Rattle.lf_examples.specs.Declarations.{
  nat,
  nat_zero,
  nat_succ,
  nat_declaration,
  list_declaration,
  or_declaration,
  vec_declaration,
  tree_declaration,
  fan_declaration,
}

abbrev pub V : View
V = base_view (declared_constants nat_declaration true ++ ordinary.sum ∷ declared_constants list_declaration true ++ (declared_constants or_declaration false
    ++ (declared_constants vec_declaration true ++ (declared_constants tree_declaration true ++ declared_constants fan_declaration true))))

abbrev pub case : Path → List Path → Term → Case
case n xs t = record { constructor = n; fields = xs; body = t }

-- ---- What is made

abbrev pub outcome_of : Answer (Outcome Term) → Option (Outcome Term)
outcome_of (done o u) = Some o
outcome_of (refused e u) = None
outcome_of out = None
outcome_of (need k) = None

abbrev pub compiled : Term → ℕ → List Case → Option (Outcome Term)
compiled ty n cs = outcome_of (compile V 512 ty n cs 100000)

abbrev pub fault_of : Option (Outcome Term) → Option EquationFault
fault_of (Some (fault e)) = Some e
fault_of (Some (gets t)) = None
fault_of None = None

abbrev pub faulty : Term → ℕ → List Case → Option EquationFault
faulty ty n cs = fault_of (compiled ty n cs)

-- The kernel accepts the term at the stated type.
abbrev pub definition : Term → Term → ConstInfo
definition A t = record { name = word "f"; kind = Def; levels = []; ty = A; value = Some t; height = 0; detail = Plain }

abbrev pub is_done : {A : Type 0} → Answer A → Bool
is_done (done x u) = true
is_done (refused e u) = false
is_done out = false
is_done (need k) = false

abbrev pub accepted_at : Term → Option (Outcome Term) → Bool
accepted_at A (Some (gets t)) = is_done (add_decl V 512 (definition A t) 100000)
accepted_at A (Some (fault e)) = false
accepted_at A None = false

abbrev pub accepted : Term → ℕ → List Case → Bool
accepted ty n cs = accepted_at ty (compiled ty n cs)

-- The normal form of the term at these arguments.
abbrev pub value_of : Answer Term → Option Term
value_of (done t u) = Some t
value_of (refused e u) = None
value_of out = None
value_of (need k) = None

abbrev pub computed : Option (Outcome Term) → List Term → Option Term
computed (Some (gets t)) xs = value_of (normalize V 512 [] (apply t xs) 100000)
computed (Some (fault e)) xs = None
computed None xs = None

-- ---- Definitions

abbrev pub to_nat : Term
to_nat = nat ⟶ nat

abbrev pub zero_case : Term → Case
zero_case t = case (dotted "Nat" "zero") [] t

abbrev pub successor_case : Term → Case
successor_case t = case (dotted "Nat" "succ") (word "k" ∷ []) t

-- def dbl : Nat → Nat | 0 => 0 | k + 1 => Nat.succ (Nat.succ (dbl k))
abbrev pub dbl : List Case
dbl = zero_case (lit 0) ∷ successor_case (app nat_succ (app nat_succ (app (free 0) (free 1)))) ∷ []

abbrev pub number_motive : Term
number_motive = lam (explicit "a") nat nat

-- def plus (n : Nat) : Nat → Nat | k + 1 => Nat.succ (plus n k) | 0 => n
abbrev pub plus_type : Term
plus_type = pi (explicit "n") nat (nat ⟶ nat)

abbrev pub plus : List Case
plus = successor_case (app nat_succ (two (free 1) (free 0) (free 2))) ∷ zero_case (free 0) ∷ []

-- def size : Tree → Nat | leaf => 1 | node l n r => Nat.add (size l) (size r)
abbrev pub leaf_case : Case
leaf_case = case (dotted "Tree" "leaf") [] (lit 1)

abbrev pub node_case : Term → Case
node_case t = case (dotted "Tree" "node") (word "l" ∷ word "n" ∷ word "r" ∷ []) t

abbrev pub sum_of : Term → Term → Term
sum_of s t = two (const (dotted "Nat" "add") []) s t

-- def len : List (List Nat) → Nat | nil => 0 | cons h t => Nat.succ (len t)
abbrev pub list : Term → Term
list A = app (const (dotted "Demo" "List") (level_zero ∷ [])) A

abbrev pub list_case : List Term → Term → List Case
list_case [] t = []
list_case (s ∷ ss) t = case (text "Demo" ∷ text "List" ∷ text "nil" ∷ []) [] s
    ∷ case (text "Demo" ∷ text "List" ∷ text "cons" ∷ []) (word "h" ∷ word "t" ∷ []) t ∷ []

abbrev pub of_lists : Term
of_lists = list (list nat) ⟶ nat

-- def swap (A B : Prop) : Or A B → Or B A | Or.inl x => Or.inr x | Or.inr x => Or.inl x
abbrev pub swap_type : Term
swap_type = pi (explicit "A") prop (pi (explicit "B") prop (two (at "Or") (bound 1) (bound 0) ⟶ two (at "Or") (bound 1) (bound 2)))

abbrev pub swap : List Case
swap = case (dotted "Or" "inl") (word "x" ∷ []) (three (const (dotted "Or" "inr") []) (free 1) (free 0) (free 3))
    ∷ case (dotted "Or" "inr") (word "x" ∷ []) (three (const (dotted "Or" "inl") []) (free 1) (free 0) (free 3)) ∷ []

pub record CompiledAnswers : Type 0 where
  pub term : compiled to_nat 0 dbl ≡ Some (gets (lam (explicit "a") nat (apply (const (dotted "Nat" "rec") (one ∷ []))
      (number_motive ∷ lit 0 ∷ lam (explicit "k") nat (lam (explicit "n_ih") (app number_motive (bound 0)) (app nat_succ (app nat_succ (bound 0)))) ∷ bound 0
      ∷ []))))
  pub is_accepted : accepted to_nat 0 dbl ≡ true
  pub doubled : computed (compiled to_nat 0 dbl) (lit 3 ∷ []) ≡ Some (lit 6)
  -- with a binder, and in another order than the constructors
  pub plus_accepted : accepted plus_type 1 plus ≡ true
  pub added : computed (compiled plus_type 1 plus) (lit 2 ∷ lit 3 ∷ []) ≡ Some (lit 5)
  pub tree_accepted : accepted (at "Tree" ⟶ nat) 0 (leaf_case ∷ node_case (sum_of (app (free 0) (free 1)) (app (free 0) (free 3))) ∷ []) ≡ true
  -- the head of a list of lists is of type `List Nat`, but no recursive field
  pub lists_accepted : accepted of_lists 0 (list_case (lit 0 ∷ []) (app nat_succ (app (free 0) (free 2)))) ≡ true
  pub head_of_lists : faulty of_lists 0 (list_case (lit 0 ∷ []) (app (free 0) (free 1))) ≡ Some (NotStructural (text "Demo" ∷ text "List" ∷ text "cons" ∷ []))
  -- a type that eliminates into `Prop` alone
  pub swap_accepted : accepted swap_type 2 swap ≡ true
  -- a sort, a type with indices, no type
  pub of_sort : faulty (type ⟶ nat) 0 [] ≡ Some NotInductive
  pub of_indices : faulty (two (at "Vec") nat nat_zero ⟶ nat) 0 [] ≡ Some NotInductive
  pub no_pi : faulty nat 0 dbl ≡ Some NotInductive
  pub not_a_case : faulty to_nat 0 (zero_case (lit 0) ∷ leaf_case ∷ []) ≡ Some (NotACase (dotted "Tree" "leaf"))
  pub other_fields : faulty to_nat 0 (case (dotted "Nat" "zero") (word "k" ∷ []) (lit 0) ∷ []) ≡ Some (NotACase (dotted "Nat" "zero"))
  -- that one comes twice is found before that one is missing
  pub comes_twice : faulty to_nat 0 (zero_case (lit 0) ∷ zero_case (lit 1) ∷ []) ≡ Some (Twice (dotted "Nat" "zero"))
  pub is_missing : faulty to_nat 0 (zero_case (lit 0) ∷ []) ≡ Some (Missing (dotted "Nat" "succ"))
  -- the definition alone, at a number, at itself, at a field that isn't recursive, at one that is a function
  pub alone : faulty to_nat 0 (zero_case (lit 0) ∷ successor_case (app nat_succ (app (lam (explicit "x") to_nat (lit 0)) (free 0))) ∷ [])
      ≡ Some (NotStructural (dotted "Nat" "succ"))
  pub at_number : faulty to_nat 0 (zero_case (lit 0) ∷ successor_case (app (free 0) (lit 3)) ∷ []) ≡ Some (NotStructural (dotted "Nat" "succ"))
  pub of_zero : faulty to_nat 0 (zero_case (app (free 0) (lit 0)) ∷ successor_case (free 0) ∷ []) ≡ Some (NotStructural (dotted "Nat" "zero"))
  pub at_label : faulty (at "Tree" ⟶ nat) 0 (leaf_case ∷ node_case (app (free 0) (free 2)) ∷ []) ≡ Some (NotStructural (dotted "Tree" "node"))
  pub at_function : faulty (at "Fan" ⟶ nat) 0 (case (dotted "Fan" "fan") (word "f" ∷ []) (app (free 0) (free 1)) ∷ [])
      ≡ Some (NotStructural (dotted "Fan" "fan"))
  -- the first fault in the order of the alternatives
  pub first_fault : faulty to_nat 0 (successor_case (free 0) ∷ zero_case (free 0) ∷ []) ≡ Some (NotStructural (dotted "Nat" "succ"))
  -- the call: 1; forms of type and domain: 2; the codomain opened: 1; its type: 1 and 3; the form of that: 1
  pub costs : compile V 512 to_nat 0 (zero_case (lit 0) ∷ []) 9 ≡ done (fault (Missing (dotted "Nat" "succ"))) 0
  pub too_few : compile V 512 to_nat 0 (zero_case (lit 0) ∷ []) 8 ≡ out
