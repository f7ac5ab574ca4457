-- The constants of ordinary numbers are accepted one after another, and compute as numbers by their own values.
use Rattle.std.specs.Prelude.{◌≡◌, ℕ, zero, suc, true, Option, Some, None, List, [], ◌∷◌, ◌++◌, codes}
use Rattle.lf_core.specs.Term.{Term, const, app, lit}
use Rattle.lf_rules.specs.Environment.{nat_zero, nat_succ}
use Rattle.lf_rules.specs.Inductive.{declared_constants}
use Rattle.lf_rules.specs.Ordinary.{
  bool_declaration,
  nat_declaration,
  predecessor,
  sum,
  difference,
  product,
  is_equal,
  is_at_most,
  is_true,
  is_false,
  ordinary_constants,
  of_nat,
  of_two,
}
use Rattle.lf_core.specs.declared.constant.ConstInfo.{ConstInfo}
use Rattle.lf_core.specs.declared.constant.ConstKind.TheVariants.{Axiom}
use Rattle.lf_core.specs.declared.constant.Detail.TheVariants.{Plain}
use Rattle.lf_checker.specs.View.{View, base_view}
use Rattle.lf_checker.specs.Checker.{whnf, normalize, add_decl}
use Rattle.lf_checker.specs.Run.{Answer, done}
use Rattle.lf_checker.specs.Admission.{add_inductive}
use Rattle.lf_checker_answers.specs.Worked.{given}

abbrev pub types : List ConstInfo
types = declared_constants bool_declaration true ++ declared_constants nat_declaration true

-- The height that is found over these constants before it.
abbrev pub accepted : List ConstInfo → ConstInfo → Option ℕ
accepted before c = given (add_decl (base_view (types ++ before)) 512 c 100000)

-- Nat.succ (.. (Nat.succ Nat.zero))
abbrev pub unary : ℕ → Term
unary zero = nat_zero
unary (suc n) = app nat_succ (unary n)

abbrev pub computed : ConstInfo → ℕ → ℕ → Option Term
computed op m n = given (normalize (base_view ordinary_constants) 512 [] (app (app (const op.name []) (unary m)) (unary n)) 100000)

-- ---- The ten operations on literals, half of which are axioms.

abbrev pub axiom_of : List ℕ → ConstInfo
axiom_of word = record { name = of_nat word; kind = Axiom; levels = []; ty = of_two; value = None; height = 0; detail = Plain }

abbrev pub with_axioms : View
with_axioms = base_view (ordinary_constants ++ axiom_of (codes "div") ∷ axiom_of (codes "mod") ∷ axiom_of (codes "land") ∷ axiom_of (codes "lor")
    ∷ axiom_of (codes "xor") ∷ [])

-- The operation of this name, in a call and one for each operand.
abbrev pub on_literals : List ℕ → ℕ → ℕ → Answer Term
on_literals word m n = whnf with_axioms 512 [] (app (app (const (of_nat word) []) (lit m)) (lit n)) 3

pub record OrdinaryAnswers : Type 0 where
  pub truth_values : given (add_inductive (base_view []) 512 bool_declaration 100000) ≡ Some (declared_constants bool_declaration true)
  pub numbers : given (add_inductive (base_view (declared_constants bool_declaration true)) 512 nat_declaration 100000) ≡ Some
      (declared_constants nat_declaration true)
  pub predecessor_height : accepted [] predecessor ≡ Some predecessor.height
  pub sum_height : accepted (predecessor ∷ []) sum ≡ Some sum.height
  pub difference_height : accepted (predecessor ∷ sum ∷ []) difference ≡ Some difference.height
  pub product_height : accepted (predecessor ∷ sum ∷ difference ∷ []) product ≡ Some product.height
  pub equal_height : accepted (predecessor ∷ sum ∷ difference ∷ product ∷ []) is_equal ≡ Some is_equal.height
  pub at_most_height : accepted (predecessor ∷ sum ∷ difference ∷ product ∷ is_equal ∷ []) is_at_most ≡ Some is_at_most.height
  pub three_and_four : computed sum 3 4 ≡ Some (lit 7)
  pub three_less_five : computed difference 3 5 ≡ Some (lit 0)
  pub five_less_three : computed difference 5 3 ≡ Some (lit 2)
  pub three_times_four : computed product 3 4 ≡ Some (lit 12)
  pub three_is_three : computed is_equal 3 3 ≡ Some is_true
  pub three_is_not_two : computed is_equal 3 2 ≡ Some is_false
  pub two_is_not_three : computed is_equal 2 3 ≡ Some is_false
  pub two_at_most_three : computed is_at_most 2 3 ≡ Some is_true
  pub three_at_most_three : computed is_at_most 3 3 ≡ Some is_true
  pub not_three_at_most_two : computed is_at_most 3 2 ≡ Some is_false
  -- on literals, with the truth values by their names
  pub literal_sum : on_literals (codes "add") 12 10 ≡ done (lit 22) 0
  pub literal_difference : on_literals (codes "sub") 12 10 ≡ done (lit 2) 0
  pub literal_difference_stops : on_literals (codes "sub") 10 12 ≡ done (lit 0) 0
  pub literal_product : on_literals (codes "mul") 12 10 ≡ done (lit 120) 0
  pub literal_quotient : on_literals (codes "div") 12 5 ≡ done (lit 2) 0
  pub literal_quotient_by_zero : on_literals (codes "div") 12 0 ≡ done (lit 0) 0
  pub literal_remainder : on_literals (codes "mod") 12 5 ≡ done (lit 2) 0
  pub literal_remainder_by_zero : on_literals (codes "mod") 12 0 ≡ done (lit 12) 0
  pub literal_and : on_literals (codes "land") 12 10 ≡ done (lit 8) 0
  pub literal_or : on_literals (codes "lor") 12 10 ≡ done (lit 14) 0
  pub literal_xor : on_literals (codes "xor") 12 10 ≡ done (lit 6) 0
  pub literal_same : on_literals (codes "beq") 12 12 ≡ done (const (codes "Bool" ∷ codes "true" ∷ []) []) 0
  pub literal_not_same : on_literals (codes "beq") 12 10 ≡ done (const (codes "Bool" ∷ codes "false" ∷ []) []) 0
  pub literal_at_most : on_literals (codes "ble") 10 12 ≡ done (const (codes "Bool" ∷ codes "true" ∷ []) []) 0
  pub literal_not_at_most : on_literals (codes "ble") 12 10 ≡ done (const (codes "Bool" ∷ codes "false" ∷ []) []) 0
