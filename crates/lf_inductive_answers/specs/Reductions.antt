-- Weak head and normal forms by the rules that declarations give, and by those alone.
use Rattle.std.specs.Prelude.{◌≡◌, true, Option, Some, [], ◌∷◌, ◌++◌}
use Rattle.lf_core.specs.Term.{level_zero, Term, bound, free, const, app, lam, lit}
use Rattle.lf_rules.specs.Environment.{Context}
use Rattle.lf_rules.specs.Inductive.{declared_constants}
use Rattle.lf_checker.specs.View.{View, base_view}
use Rattle.lf_checker.specs.Run.{done, out}
use Rattle.lf_checker.specs.Checker.{whnf, normalize}
use Prim.Native.String.{String}
use Rattle.lf_examples.specs.Words.{text, word, dotted, explicit, two, three, one, prop, type, at}
use Rattle.lf_examples.specs.Declarations.{
  nat,
  nat_zero,
  nat_succ,
  nat_declaration,
  list_declaration,
  eq_declaration,
  true_declaration,
  and_declaration,
  acc_declaration,
  w_declaration,
}
use Rattle.lf_examples.specs.Elimination.{unit_in_any_sort}
use Rattle.lf_inductive_answers.specs.Admissions.{given}

abbrev pub V : View
V = base_view (declared_constants nat_declaration true ++
    (declared_constants eq_declaration true ++
    (declared_constants list_declaration true ++
    (declared_constants true_declaration true ++
    (declared_constants and_declaration true ++
    (declared_constants acc_declaration true ++ (declared_constants w_declaration true ++ declared_constants unit_in_any_sort true)))))))

abbrev pub reduced : Context → Term → Option Term
reduced C t = given (whnf V 512 C t 100000)

abbrev pub normal : Term → Option Term
normal t = given (normalize V 512 [] t 100000)

-- ---- The numbers. Variables that no context has stand for the other arguments.

abbrev pub nat_rec : Term → Term → Term → Term → Term
nat_rec M z s n = two (two (const (dotted "Nat" "rec") (one ∷ [])) M z) s n

abbrev pub on : Term → Term
on n = nat_rec (free 0) (free 1) (free 2) n

-- at no level, where one is wanted
abbrev pub without_level : Term → Term
without_level n = two (two (const (dotted "Nat" "rec") []) (free 0) (free 1)) (free 2) n

-- Nat.rec (fun x => Nat) 0 (fun x ih => Nat.succ ih) n
abbrev pub counted_again : Term → Term
counted_again n = nat_rec (lam (explicit "x") nat nat) (lit 0) (lam (explicit "x") nat (lam (explicit "ih") nat (app nat_succ (bound 0)))) n

-- ---- Equality: Eq.rec α a M m b h, at the level 1.

abbrev pub refl_at : Term → Term → Term
refl_at A a = two (const (dotted "Eq" "refl") (one ∷ [])) A a

abbrev pub equation : Term → Term → Term → Term
equation A a b = three (const (word "Eq") (one ∷ [])) A a b

abbrev pub transport : Term → Term → Term → Term → Term → Term → Term
transport A a M m b h = three (three (const (dotted "Eq" "rec") (one ∷ one ∷ [])) A a M) m b h

-- α : Type, a : α, b : α, and h of this type
abbrev pub with_proof : Term → Context
with_proof P = type ∷ free 0 ∷ free 0 ∷ P ∷ []

-- along the proof h to this index, of the minor premise, the variable 8
abbrev pub along : Term → Term
along b = transport (free 0) (free 1) (free 7) (free 8) b (free 3)

-- n : Nat and h of this type; from 1 along h
abbrev pub with_number_proof : Term → Context
with_number_proof P = nat ∷ P ∷ []

abbrev pub from_one : Term → Term
from_one b = transport nat (lit 1) (free 7) (free 8) b (free 1)

-- ---- Lists of numbers.

abbrev pub list_word : String → Term
list_word last = const (text "Demo" ∷ text "List" ∷ text last ∷ []) (level_zero ∷ [])

abbrev pub cons : Term → Term → Term
cons x xs = three (list_word "cons") nat x xs

abbrev pub length_of : Term → Term
length_of xs =
    let nil_case : Term = lit 0 in
    let cons_case : Term = lam (explicit "x") nat
    (lam (explicit "xs") (app (const (dotted "Demo" "List") (level_zero ∷ [])) nat) (lam (explicit "n") nat (app nat_succ (bound 0)))) in
    app (two (two (const (text "Demo" ∷ text "List" ∷ text "rec" ∷ []) (one ∷ level_zero ∷ [])) nat
    (lam (explicit "xs") (app (const (dotted "Demo" "List") (level_zero ∷ [])) nat) nat)) nil_case cons_case) xs

-- ---- Others.

abbrev pub acc_rec : Term → Term → Term
acc_rec i t = two (two (two (const (dotted "Acc" "rec") (one ∷ level_zero ∷ [])) (free 0) (free 1)) (free 2) (free 3)) i t

abbrev pub acc_intro : Term → Term → Term
acc_intro x h = two (two (const (dotted "Acc" "intro") (level_zero ∷ [])) (free 0) (free 1)) x h

abbrev pub w_rec : Term → Term
w_rec t = app (two (two (const (dotted "W" "rec") (one ∷ [])) (free 0) (free 1)) (free 2) (free 3)) t

abbrev pub w_sup : Term → Term → Term
w_sup a f = two (two (const (dotted "W" "sup") []) (free 0) (free 1)) a f

-- of `True`, and of a unit type in any sort, here in `Prop`
abbrev pub true_rec : Term → Term
true_rec t = three (const (dotted "True" "rec") (one ∷ [])) (free 7) (free 8) t

abbrev pub unit_rec : Term → Term
unit_rec t = three (const (dotted "Unit" "rec") (one ∷ level_zero ∷ [])) (free 7) (free 8) t

abbrev pub unit : Term
unit = const (word "Unit") (level_zero ∷ [])

-- And.rec.{0} p q (fun t => p) (fun l r => l) t
abbrev pub left_of : Term → Term → Term → Term
left_of p q t =
    let M : Term = lam (explicit "t") (two (at "And") p q) p in
    let m : Term = lam (explicit "l") p (lam (explicit "r") q (bound 1)) in
    app (two (two (const (dotted "And" "rec") (level_zero ∷ [])) p q) M m) t

pub record Reductions : Type 0 where
  -- numbers, by their rules and as literals, in normal form
  pub counts_literal : normal (counted_again (lit 2)) ≡ Some (lit 2)
  pub counts_successors : normal (counted_again (app nat_succ (app nat_succ nat_zero))) ≡ Some (lit 2)
  -- the call, one for the number, the nodes of the rule at its level with its arguments, and those that each of its lambdas leaves:
  -- 2 + 49 + 33 + 29 + 17 + 19 and 2 + 47 + 33 + 29 + 17 + 15 for a successor, 2 + 29 + 17 + 13 + 1 for 0
  pub at_successor : whnf V 512 [] (on (app nat_succ (app nat_succ nat_zero))) 149 ≡ done (two (free 2) (app nat_succ nat_zero) (on (app nat_succ nat_zero))) 0
  pub at_successor_too_few : whnf V 512 [] (on (app nat_succ (app nat_succ nat_zero))) 148 ≡ out
  pub at_literal : whnf V 512 [] (on (lit 2)) 143 ≡ done (two (free 2) (lit 1) (on (lit 1))) 0
  pub at_zero : whnf V 512 [] (on nat_zero) 62 ≡ done (free 1) 0
  pub at_zero_literal : whnf V 512 [] (on (lit 0)) 62 ≡ done (free 1) 0
  -- stuck: a variable, a successor of nothing, the constructor of another type, all arguments at no level
  pub at_variable : reduced (nat ∷ []) (on (free 0)) ≡ Some (on (free 0))
  pub no_argument : reduced [] (on nat_succ) ≡ Some (on nat_succ)
  pub another_type : reduced [] (on (app (list_word "nil") nat)) ≡ Some (on (app (list_word "nil") nat))
  pub no_level : reduced [] (without_level nat_zero) ≡ Some (without_level nat_zero)
  -- equality by its rule
  pub along_refl : reduced [] (transport (free 0) (free 1) (free 2) (free 3) (free 1) (refl_at (free 0) (free 1))) ≡ Some (free 3)
  -- a variable proof of a = a gives way to `Eq.refl`, and one of a = b doesn't
  pub along_loop : reduced (with_proof (equation (free 0) (free 1) (free 1))) (along (free 1)) ≡ Some (free 8)
  pub along_path : reduced (with_proof (equation (free 0) (free 1) (free 2))) (along (free 2)) ≡ Some (along (free 2))
  -- one of 1 = Nat.succ 0 does, and one of 1 = 0 doesn't
  pub along_number : reduced (with_number_proof (equation nat (lit 1) (app nat_succ nat_zero))) (from_one (app nat_succ nat_zero)) ≡ Some (free 8)
  pub along_wrong_number : reduced (with_number_proof (equation nat (lit 1) nat_zero)) (from_one nat_zero) ≡ Some (from_one nat_zero)
  -- a variable proof of `True` gives way, and a member of a type that isn't declared in `Prop` doesn't
  pub any_truth : reduced (at "True" ∷ []) (true_rec (free 0)) ≡ Some (free 8)
  pub any_unit : reduced (unit ∷ []) (unit_rec (free 0)) ≡ Some (unit_rec (free 0))
  pub the_unit : reduced [] (unit_rec (const (dotted "Unit" "unit") (level_zero ∷ []))) ≡ Some (free 8)
  -- the length of a list of two numbers
  pub list_length : normal (length_of (cons (lit 5) (cons (lit 6) (app (list_word "nil") nat)))) ≡ Some (lit 2)
  -- the left of two proofs
  pub left_proof : reduced (prop ∷ prop ∷ free 0 ∷ free 1 ∷ [])
      (left_of (free 0) (free 1) (two (two (const (dotted "And" "intro") []) (free 0) (free 1)) (free 2) (free 3))) ≡ Some (free 2)
  -- recursive calls under `fun`
  pub access : reduced [] (acc_rec (free 4) (acc_intro (free 4) (free 5)))
      ≡ Some (three (free 3) (free 4) (free 5) (lam (explicit "y") (free 0)
      (lam (explicit "a") (two (free 1) (bound 0) (free 4)) (acc_rec (bound 1) (two (free 5) (bound 1) (bound 0))))))
  pub tree : reduced [] (w_rec (w_sup (free 4) (free 5))) ≡ Some
      (three (free 3) (free 4) (free 5) (lam (explicit "a") (app (free 1) (free 4)) (w_rec (app (free 5) (bound 0)))))
  -- the greatest literal is a successor
  pub at_greatest_literal : whnf V 512 [] (on (lit 340282366920938463463374607431768211455)) 143
      ≡ done (two (free 2) (lit 340282366920938463463374607431768211454) (on (lit 340282366920938463463374607431768211454))) 0
  -- the call and one for the proof, 4 for the two types and one to compare them, and 15 + 5 + 1 for the rule
  pub any_truth_units : whnf V 512 (at "True" ∷ []) (true_rec (free 0)) 27 ≡ done (free 8) 0
  -- where the constructor has fields no type is asked for
  pub any_conjunction : whnf V 512 (prop ∷ prop ∷ two (at "And") (free 0) (free 1) ∷ []) (left_of (free 0) (free 1) (free 2)) 2
      ≡ done (left_of (free 0) (free 1) (free 2)) 0
