-- What makes the numbers ordinary: the constants that literals and their operations name are those of the base, each with its value. What a
-- derivation over other constants of these names is worth is another matter (crate lf_judgment_laws, `numbers_must_be_ordinary`).
use Rattle.std.specs.Prelude.{ℕ, true, Some, None, List, [], ◌∷◌, ◌++◌, Contains, codes}
use Rattle.lf_core.specs.Term.{Path, level_zero, level_succ, Term, bound, sort, const, app, lam, pi, lit}
use Rattle.lf_name.specs.declared.binder.Binder.{Binder}
use Rattle.lf_name.specs.declared.binder.BinderKind.TheVariants.{Explicit}
use Rattle.lf_core.specs.declared.constant.ConstInfo.{ConstInfo}
use Rattle.lf_core.specs.declared.constant.ConstKind.TheVariants.{Def}
use Rattle.lf_core.specs.declared.constant.Detail.TheVariants.{Plain}
use Rattle.lf_core.specs.declared.constant.IndDecl.{IndDecl}
use Rattle.lf_rules.specs.Environment.{Environment, nat, nat_type, nat_zero, nat_succ}
use Rattle.lf_rules.specs.Inductive.{declared_constants}

-- inductive Bool : Type where | false : Bool | true : Bool
abbrev pub bool_type : Term
bool_type = const (codes "Bool" ∷ []) []

abbrev pub truth : List ℕ → Path
truth word = codes "Bool" ∷ word ∷ []

abbrev pub bool_declaration : IndDecl
bool_declaration = record {
  name = codes "Bool" ∷ [];
  levels = [];
  params = 0;
  ty = sort (level_succ level_zero);
  ctors = record { name = truth (codes "false"); ty = bool_type } ∷ record { name = truth (codes "true"); ty = bool_type } ∷ [];
}

abbrev pub binder : List ℕ → Binder
binder word = record { name = word ∷ []; kind = Explicit }

-- inductive Nat : Type where | zero : Nat | succ (n : Nat) : Nat
abbrev pub of_nat : List ℕ → Path
of_nat word = codes "Nat" ∷ word ∷ []

abbrev pub nat_declaration : IndDecl
nat_declaration = record {
  name = nat;
  levels = [];
  params = 0;
  ty = sort (level_succ level_zero);
  ctors = record { name = of_nat (codes "zero"); ty = nat_type } ∷ record { name = of_nat (codes "succ"); ty = pi (binder (codes "n")) nat_type nat_type } ∷ [];
}

-- fun (word : Nat) => t, and fun (_ : A) => t
abbrev pub number : List ℕ → Term → Term
number word t = lam (binder word) nat_type t

abbrev pub any : Term → Term → Term
any A t = lam (binder (codes "_")) A t

-- @Nat.rec.{1} (fun _ => A) z s n
abbrev pub by_recursion : Term → Term → Term → Term → Term
by_recursion A z s n = app (app (app (app (const (of_nat (codes "rec")) (level_succ level_zero ∷ [])) (any nat_type A)) z) s) n

abbrev pub defined : List ℕ → Term → Term → ℕ → ConstInfo
defined word A v height = record { name = of_nat word; kind = Def; levels = []; ty = A; value = Some v; height = height; detail = Plain }

abbrev pub to_number : Term
to_number = pi (binder (codes "n")) nat_type nat_type

abbrev pub of_two : Term
of_two = pi (binder (codes "n")) nat_type (pi (binder (codes "m")) nat_type nat_type)

abbrev pub test : Term
test = pi (binder (codes "a")) nat_type bool_type

-- def Nat.pred (n : Nat) : Nat := @Nat.rec.{1} (fun _ => Nat) 0 (fun m _ => m) n
abbrev pub predecessor : ConstInfo
predecessor = defined (codes "pred") to_number (number (codes "n") (by_recursion nat_type (lit 0) (number (codes "m") (any nat_type (bound 1))) (bound 0))) 1

-- def Nat.add (n m : Nat) : Nat := @Nat.rec.{1} (fun _ => Nat) n (fun _ ih => Nat.succ ih) m
abbrev pub sum : ConstInfo
sum = defined (codes "add") of_two (number (codes "n")
    (number (codes "m") (by_recursion nat_type (bound 1) (any nat_type (number (codes "ih") (app nat_succ (bound 0)))) (bound 0)))) 1

-- def Nat.sub (n m : Nat) : Nat := @Nat.rec.{1} (fun _ => Nat) n (fun _ ih => Nat.pred ih) m
abbrev pub difference : ConstInfo
difference =
    defined (codes "sub") of_two (number (codes "n")
    (number (codes "m") (by_recursion nat_type (bound 1) (any nat_type (number (codes "ih") (app (const (of_nat (codes "pred")) []) (bound 0))))
    (bound 0)))) 2

-- def Nat.mul (n m : Nat) : Nat := @Nat.rec.{1} (fun _ => Nat) 0 (fun _ ih => Nat.add ih n) m
abbrev pub product : ConstInfo
product =
    defined (codes "mul") of_two (number (codes "n")
    (number (codes "m") (by_recursion nat_type (lit 0)
    (any nat_type (number (codes "ih") (app (app (const (of_nat (codes "add")) []) (bound 0)) (bound 3)))) (bound 0)))) 2

-- fun m => @Nat.rec.{1} (fun _ => Bool) z (fun k _ => s) m
abbrev pub by_cases : Term → Term → Term
by_cases z s = number (codes "m") (by_recursion bool_type z s (bound 0))

abbrev pub is_false : Term
is_false = const (truth (codes "false")) []

abbrev pub is_true : Term
is_true = const (truth (codes "true")) []

-- fun _ ih m => @Nat.rec.{1} (fun _ => Bool) Bool.false (fun k _ => ih k) m
abbrev pub below : Term
below = any nat_type (lam (binder (codes "ih")) test (by_cases is_false (number (codes "k") (any bool_type (app (bound 3) (bound 1))))))

abbrev pub tests : List ℕ → Term → ConstInfo
tests word z = defined word (pi (binder (codes "n")) nat_type test) (number (codes "n") (by_recursion test z below (bound 0))) 1

-- def Nat.beq (n : Nat) : Nat → Bool := @Nat.rec.{1} (fun _ => Nat → Bool)
--   (fun m => @Nat.rec.{1} (fun _ => Bool) Bool.true (fun _ _ => Bool.false) m) (fun _ ih m => ..) n
abbrev pub is_equal : ConstInfo
is_equal = tests (codes "beq") (by_cases is_true (any nat_type (any bool_type is_false)))

-- def Nat.ble (n : Nat) : Nat → Bool := @Nat.rec.{1} (fun _ => Nat → Bool) (fun _ => Bool.true) (fun _ ih m => ..) n
abbrev pub is_at_most : ConstInfo
is_at_most = tests (codes "ble") (any nat_type is_true)

-- The truth values and the numbers, with what is computed on them. Division, remainder and the operations on bits are axioms.
abbrev pub ordinary_constants : List ConstInfo
ordinary_constants = declared_constants bool_declaration true ++ declared_constants nat_declaration true ++ predecessor ∷ sum ∷ difference ∷ product ∷ is_equal
    ∷ is_at_most ∷ []

-- The numbers of the environment are ordinary: it has each of these constants.
abbrev pub Ordinary : Environment → Type 0
Ordinary E = (c : ConstInfo) → Contains ordinary_constants c → Contains E c
