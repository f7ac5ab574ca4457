-- Answers of the checker that are known from elsewhere: of the document, and of a small base of numbers and of equality.
use Rattle.std.specs.Prelude.{◌≡◌, ◌-◌, ◌+◌, ℕ, zero, suc, true, false, Option, Some, None, List, [], ◌∷◌, ◌++◌, codes}
use Rattle.lf_core.specs.Term.{
  Path,
  Universe,
  level_zero,
  level_succ,
  level_max,
  level_imax,
  level_param,
  level_meta,
  Term,
  bound,
  free,
  meta,
  sort,
  const,
  app,
  lam,
  pi,
  letin,
  lit,
  proj,
}
use Rattle.lf_rules.specs.Environment.{nat, nat_type, nat_zero, nat_succ}
use Rattle.lf_name.specs.declared.binder.Binder.{Binder}
use Rattle.lf_name.specs.declared.binder.BinderKind.TheVariants.{Explicit}
use Rattle.lf_core.specs.declared.constant.ConstInfo.{ConstInfo}
use Rattle.lf_core.specs.declared.constant.ConstKind.TheVariants.{Def, Inductive, Constructor, Recursor}
use Rattle.lf_core.specs.declared.constant.Detail.TheVariants.{Plain, Ind, Ctor, Rec}
use Rattle.lf_core.specs.declared.constant.TaskKey.TheVariants.{Body}
use Rattle.lf_checker.specs.View.{View, base_position, base_entries, base_view}
use Rattle.lf_checker.specs.Run.{Answer, done, refused, out, need, Refusal}
use Rattle.lf_checker.specs.declared.fault.TypeFault.{TypeFault}
use Rattle.lf_checker.specs.declared.fault.TypeFault.TheVariants.{NotFunction, NotClosed, NotType, Value, Levels, Duplicate}
use Rattle.lf_checker.specs.Calls.{unchecked}
use Rattle.lf_checker.specs.Checker.{calls, whnf, equal, infer, normalize, height_of, add_header, add_decl}

abbrev pub x : Binder
x = record { name = codes "x" ∷ []; kind = Explicit }

abbrev pub prop : Term
prop = sort level_zero

abbrev pub one : Universe
one = level_succ level_zero

abbrev pub named : List ℕ → List ℕ → Path
named a b = a ∷ b ∷ []

-- ---- The numbers: type, constructors, recursor and addition.

abbrev pub nat_info : ConstInfo
nat_info = record {
  name = nat;
  kind = Inductive;
  levels = [];
  ty = sort one;
  value = None;
  height = 0;
  detail = Ind 0 0
      (named (codes "Nat") (codes "zero") ∷ named (codes "Nat") (codes "succ") ∷ []) true;
}

abbrev pub zero_info : ConstInfo
zero_info = record {
  name = named (codes "Nat") (codes "zero");
  kind = Constructor;
  levels = [];
  ty = nat_type;
  value = None;
  height = 0;
  detail = Ctor nat 0 0
      0;
}

abbrev pub succ_info : ConstInfo
succ_info = record {
  name = named (codes "Nat") (codes "succ");
  kind = Constructor;
  levels = [];
  ty = pi x nat_type nat_type;
  value = None;
  height = 0;
  detail =
      Ctor nat 1 0 1;
}

abbrev pub rec_name : Path
rec_name = named (codes "Nat") (codes "rec")

abbrev pub motive_type : Term
motive_type = pi x nat_type (sort (level_param 0))

abbrev pub zero_case : Term
zero_case = app (bound 0) nat_zero

abbrev pub succ_case : Term
succ_case = pi x nat_type (pi x (app (bound 2) (bound 0)) (app (bound 3) (app nat_succ (bound 1))))

abbrev pub rec_at : Universe → Term → Term → Term → Term → Term
rec_at l m z s n = app (app (app (app (const rec_name (l ∷ [])) m) z) s) n

abbrev pub zero_rule : Term
zero_rule = lam x motive_type (lam x zero_case (lam x succ_case (bound 1)))

abbrev pub succ_rule : Term
succ_rule = lam x motive_type (lam x zero_case
    (lam x succ_case (lam x nat_type (app (app (bound 1) (bound 0)) (rec_at (level_param 0) (bound 3) (bound 2) (bound 1) (bound 0))))))

abbrev pub rec_info : ConstInfo
rec_info = record {
  name = rec_name;
  kind = Recursor;
  levels = (codes "u" ∷ []) ∷ [];
  ty = pi x motive_type (pi x zero_case (pi x succ_case (pi x nat_type (app (bound 3) (bound 0)))));
  value = None;
  height = 0;
  detail = Rec nat 0 2 0 (zero_rule ∷ succ_rule ∷ []);
}

abbrev pub add_name : Path
add_name = named (codes "Nat") (codes "add")

abbrev pub add_value : Term
add_value = lam x nat_type (lam x nat_type
    (rec_at one (lam x nat_type nat_type) (bound 1) (lam x nat_type (lam x nat_type (app nat_succ (bound 0)))) (bound 0)))

abbrev pub add_info : ConstInfo
add_info = record { name = add_name; kind = Def; levels = []; ty = pi x nat_type (pi x nat_type nat_type); value = Some add_value; height = 1; detail = Plain }

-- ---- Equality, with its recursor; and two definitions, the second by the first.

abbrev pub eq : Path
eq = codes "Eq" ∷ []

abbrev pub u : Universe
u = level_param 0

abbrev pub eq_info : ConstInfo
eq_info = record {
  name = eq;
  kind = Inductive;
  levels = (codes "u" ∷ []) ∷ [];
  ty = pi x (sort u) (pi x (bound 0) (pi x (bound 1) prop));
  value = None;
  height = 0;
  detail = Ind 2 1 (named (codes "Eq") (codes "refl") ∷ []) true;
}

abbrev pub refl_info : ConstInfo
refl_info = record {
  name = named (codes "Eq") (codes "refl");
  kind = Constructor;
  levels = (codes "u" ∷ []) ∷ [];
  ty = pi x (sort u) (pi x (bound 0) (app (app (app (const eq (u ∷ [])) (bound 1)) (bound 0)) (bound 0)));
  value = None;
  height = 0;
  detail = Ctor eq 0 2 0;
}

abbrev pub eq_rec_name : Path
eq_rec_name = named (codes "Eq") (codes "rec")

abbrev pub eq_at : Term → Term → Term
eq_at a b = app (app (app (const eq (one ∷ [])) nat_type) a) b

-- the motive's level comes first; the rule gives the one minor premise
abbrev pub eq_rec_info : ConstInfo
eq_rec_info = record {
  name = eq_rec_name;
  kind = Recursor;
  levels = (codes "v" ∷ []) ∷ (codes "u" ∷ []) ∷ [];
  ty = prop;
  value = None;
  height = 0;
  detail = Rec eq 2 1 1 (lam x prop (lam x prop (lam x prop (lam x prop (bound 0)))) ∷ []);
}

abbrev pub next : Path
next = codes "next" ∷ []

abbrev pub next_info : ConstInfo
next_info = record {
  name = next;
  kind = Def;
  levels = [];
  ty = pi x nat_type nat_type;
  value = Some (lam x nat_type (app nat_succ (bound 0)));
  height = 1;
  detail = Plain;
}

abbrev pub once_more : Path
once_more = codes "again" ∷ []

abbrev pub again_info : ConstInfo
again_info = record {
  name = once_more;
  kind = Def;
  levels = [];
  ty = pi x nat_type nat_type;
  value = Some (lam x nat_type (app (const next []) (bound 0)));
  height = 2;
  detail = Plain;
}

abbrev pub numbers : List ConstInfo
numbers = nat_info ∷ zero_info ∷ succ_info ∷ rec_info ∷ add_info ∷ eq_info ∷ refl_info ∷ eq_rec_info ∷ next_info ∷ again_info ∷ []

abbrev pub V : View
V = base_view numbers

abbrev pub sum : Term → Term → Term
sum a b = app (app (const add_name []) a) b

-- ---- A view in which the bodies of two definitions aren't known yet.

abbrev pub stated : List ℕ → ConstInfo
stated n = record { name = n ∷ []; kind = Def; levels = []; ty = nat_type; value = None; height = 0; detail = Plain }

abbrev pub W : View
W = record {
  entries = base_entries numbers ++ record { info = stated (codes "f"); position = 3 } ∷ record { info = stated (codes "g"); position = 5 } ∷ [];
  branches = record { prefix = codes "f" ∷ []; position = 3 } ∷ record { prefix = codes "g" ∷ []; position = 5 } ∷ [];
  realized = [];
  failed = [];
  position = 7;
  for_base = false;
}

-- ---- What an answer tells.

abbrev pub given : {A : Type 0} → Answer A → Option A
given (done a n) = Some a
given _ = None

abbrev pub refusal_of : {A : Type 0} → Answer A → Option Refusal
refusal_of (refused r n) = Some r
refusal_of _ = None

-- ((0 + 1) + 1) .. + 1
abbrev pub tower : ℕ → Term
tower zero = lit 0
tower (suc n) = sum (tower n) (lit 1)

abbrev pub count_down : Term → Term
count_down n = rec_at one (lam x nat_type nat_type) (lit 0) (lam x nat_type (lam x nat_type (app nat_succ (bound 0)))) n

-- The units that counting down from k takes.
abbrev pub left_of : {A : Type 0} → Answer A → ℕ
left_of (done a n) = n
left_of _ = 0

abbrev pub units_of : ℕ → ℕ
units_of k = 100000 - left_of (normalize V 512 [] (count_down (lit k)) 100000)

abbrev pub transported : Term → Term
transported h = app (app (app (app (app (app (const eq_rec_name (one ∷ one ∷ [])) nat_type) (lit 0)) (lam x nat_type (lam x prop nat_type))) (lit 7)) (lit 0)) h

abbrev pub y : Binder
y = record { name = codes "y" ∷ []; kind = Explicit }

-- ---- A proposition with two constructors without fields, and its recursor.

abbrev pub either : Path
either = codes "Either" ∷ []

abbrev pub side : List ℕ → ℕ → ConstInfo
side n index = record {
  name = named (codes "Either") n;
  kind = Constructor;
  levels = [];
  ty = const either [];
  value = None;
  height = 0;
  detail = Ctor either
      index 0 0;
}

abbrev pub either_rec : ConstInfo
either_rec = record {
  name = named (codes "Either") (codes "rec");
  kind = Recursor;
  levels = [];
  ty = prop;
  value = None;
  height = 0;
  detail = Rec either 0 2 0 (lam x prop (lam x prop (lam x prop (bound 1))) ∷ lam x prop (lam x prop (lam x prop (bound 0))) ∷ []);
}

abbrev pub with_either : View
with_either = base_view (numbers ++ record {
  name = either;
  kind = Inductive;
  levels = [];
  ty = prop;
  value = None;
  height = 0;
  detail = Ind 0 0
      (named (codes "Either") (codes "a") ∷ named (codes "Either") (codes "b") ∷ []) false;
}
    ∷ side (codes "a") 0 ∷ side (codes "b") 1 ∷ either_rec ∷ [])

abbrev pub chosen : Term
chosen = app (app (app (app (const (named (codes "Either") (codes "rec")) []) (lam x (const either []) prop)) (free 1)) (free 2)) (free 0)

-- let x : Nat := next 0; x
abbrev pub put_in : ConstInfo
put_in = record {
  name = codes "k" ∷ [];
  kind = Def;
  levels = [];
  ty = nat_type;
  value = Some (letin x nat_type (app (const next []) (lit 0)) (bound 0));
  height = 0;
  detail = Plain;
}

-- ---- Definitions that name others: a and b are f, of which the body isn't known, and c is a.

abbrev pub by_name : List ℕ → List ℕ → ℕ → ConstInfo
by_name n m h = record { name = n ∷ []; kind = Def; levels = []; ty = nat_type; value = Some (const (m ∷ []) []); height = h; detail = Plain }

abbrev pub with_named : View
with_named = record W {
  entries = W.entries ++ record { info = by_name (codes "a") (codes "f") 1; position = 6 } ∷ record { info = by_name (codes "b") (codes "f") 1; position = 6 }
      ∷ record { info = by_name (codes "c") (codes "a") 2; position = 6 } ∷ [];
}

abbrev pub word : List ℕ → Term
word n = const (n ∷ []) []

-- fun (x : A) => x at a
abbrev pub same_as : Term → Term → Term
same_as A a = app (lam x A (bound 0)) a

abbrev pub next_of : Term → Term
next_of n = app (const next []) n

-- fun (x : Nat) => Nat.succ x
abbrev pub successor : Term
successor = lam x nat_type (app nat_succ (bound 0))

abbrev pub declared : Path → Term → Option Term → ConstInfo
declared n A v = record { name = n; kind = Def; levels = []; ty = A; value = v; height = 0; detail = Plain }

abbrev pub k : Path
k = codes "k" ∷ []

abbrev pub level_of : ℕ → Universe
level_of zero = level_zero
level_of (suc n) = level_succ (level_of n)

-- A sort of this depth, 2 at least.
abbrev pub sort_of_depth : ℕ → Term
sort_of_depth n = sort (level_of (n - 2))

-- This fault, with no binder opened.
abbrev pub for : TypeFault → Option Refusal
for e = Some (record { fault = e; opened = [] })

-- ---- Types by definition: Prop, and Nat → Nat.

abbrev pub with_types : View
with_types = base_view (numbers ++ declared (codes "proposition" ∷ []) (sort one) (Some prop)
    ∷ declared (codes "function" ∷ []) (sort one) (Some (pi x nat_type nat_type)) ∷ by_name (codes "high") (codes "f") 4294967295 ∷ [])

abbrev pub low : Term
low = const next []

abbrev pub high : Term
high = const once_more []

pub record Answers : Type 0 where
  -- `infer` of Prop with 1 unit and with none
  pub infer_prop : infer V 512 [] prop 1 ≡ done (sort one) 0
  pub infer_without_units : infer V 512 [] prop 0 ≡ out
  -- `whnf` of (fun (x : Prop) => x) Prop with 3 units and with 2
  pub whnf_beta : whnf V 512 [] (app (lam x prop (bound 0)) prop) 3 ≡ done prop 0
  pub whnf_too_few : whnf V 512 [] (app (lam x prop (bound 0)) prop) 2 ≡ out
  -- 2 + 2 by literals: the call and one for each operand
  pub sum_of_literals : whnf V 512 [] (sum (lit 2) (lit 2)) 3 ≡ done (lit 4) 0
  -- the greatest literal and 1 is no literal, and unfolds
  pub sum_too_great : given (normalize V 512 [] (sum (lit 340282366920938463463374607431768211455) (lit 1)) 1000) ≡ Some
      (app nat_succ (lit 340282366920938463463374607431768211455))
  -- 512 nested calls, and 513
  pub nested : given (whnf V 512 [] (tower 511) 10000) ≡ Some (lit 511)
  pub nested_too_deep : whnf V 512 [] (tower 512) 10000 ≡ out
  -- the definition of greater height is unfolded
  pub by_height : given (equal V 512 [] (app (const once_more []) (lit 4)) (app (const next []) (lit 4)) 1000) ≡ Some true
  pub another_number : given (equal V 512 [] (app (const once_more []) (lit 4)) (app (const next []) (lit 5)) 1000) ≡ Some false
  -- fun (x : Nat) => Nat.succ x is Nat.succ
  pub eta : given (equal V 512 [] (lam x nat_type (app nat_succ (bound 0))) nat_succ 1000) ≡ Some true
  -- two proofs of a proposition, and two members of a type
  pub proofs : given (equal V 512 (prop ∷ free 0 ∷ free 0 ∷ []) (free 1) (free 2) 100) ≡ Some true
  pub members : given (equal V 512 (sort one ∷ free 0 ∷ free 0 ∷ []) (free 1) (free 2) 100) ≡ Some false
  -- each further number costs 220 units
  pub units_per_number : units_of 20 ≡ units_of 10 + 2200
  -- a recursor on 3, and one on a variable, which is stuck after a call for the variable
  pub recursor : given (normalize V 512 [] (count_down (lit 3)) 1000) ≡ Some (lit 3)
  pub stuck : whnf V 512 (nat_type ∷ []) (count_down (free 0)) 2 ≡ done (count_down (free 0)) 0
  -- a proof of 0 = 0 gives way to `Eq.refl`, and one of 0 = 1 doesn't
  pub like_k : given (whnf V 512 (eq_at (lit 0) (lit 0) ∷ []) (transported (free 0)) 1000) ≡ Some (lit 7)
  pub not_like_k : given (whnf V 512 (eq_at (lit 0) (lit 1) ∷ []) (transported (free 0)) 1000) ≡ Some (transported (free 0))
  -- fun (x : Prop) (y : x) => y y
  pub under_binders : refusal_of (infer V 512 [] (lam x prop (lam y (bound 0) (app (bound 0) (bound 0)))) 100) ≡ Some
      (record { fault = NotFunction (free 0); opened = (codes "x" ∷ []) ∷ (codes "y" ∷ []) ∷ [] })
  -- the first of two bodies that are read
  pub first_need : equal W 512 [] (const (codes "f" ∷ []) []) (const (codes "g" ∷ []) []) 100 ≡ need (Body 3)
  -- without tests an argument of another type passes
  pub tested : given (infer V 512 [] (app nat_succ prop) 100) ≡ None
  pub untested : given ((calls V 512).infer (unchecked []) [] (app nat_succ prop) 100) ≡ Some nat_type
  -- a proof doesn't give way to one of several constructors
  pub not_like_several : given (whnf with_either 512 (const either [] ∷ prop ∷ prop ∷ []) chosen 1000) ≡ Some chosen
  -- two functions of propositions are equal as proofs, before eta is tried: a call for each of `equal`, two `whnf`, the types of the first side and of its
  -- type, of the
  -- second side, and one to compare the types; 4 for opened and closed bodies
  pub proofs_before_eta : equal V 512 (prop ∷ pi x (free 0) (free 0) ∷ []) (lam x (free 0) (bound 0)) (free 1) 18 ≡ done true 0
  pub proofs_before_eta_too_few : equal V 512 (prop ∷ pi x (free 0) (free 0) ∷ []) (lam x (free 0) (bound 0)) (free 1) 17 ≡ out
  -- the domain of a pi is normalized
  pub normal_domain : given (normalize V 512 [] (pi x (app (lam x (sort one) (bound 0)) nat_type) nat_type) 100) ≡ Some (pi x nat_type nat_type)
  -- a height is above that of what a let binds
  pub height_of_bound : given (add_decl V 512 put_in 1000) ≡ Some 2
  -- a metavariable of levels: `infer` gives its sort a type, and no declaration has it
  pub sort_of_metavariable : infer V 512 [] (sort (level_meta 0)) 1 ≡ done (sort (level_succ (level_meta 0))) 0
  pub metavariable_is_not_closed : refusal_of (add_header V 512 (codes "k" ∷ []) (sort (level_meta 0)) 100) ≡ Some (record { fault = NotClosed; opened = [] })
  -- let x : Type := Prop; x: the call, and the nodes of `Prop`
  pub whnf_let : whnf V 512 [] (letin x (sort one) prop (bound 0)) 3 ≡ done prop 0
  -- operations on literals, also where definitions aren't unfolded; operands and major premises are, and `Nat.zero` is 0
  pub sum_without_definitions : (calls V 512).whnf false [] (sum (lit 2) (lit 2)) 3 ≡ done (lit 4) 0
  pub operand_unfolds : given (whnf V 512 [] (sum (next_of (lit 1)) (lit 2)) 100) ≡ Some (lit 4)
  pub operands_in_order : whnf W 512 [] (sum (word (codes "f")) (word (codes "g"))) 100 ≡ need (Body 3)
  pub zero_operand : whnf V 512 [] (sum nat_zero (lit 2)) 3 ≡ done (lit 2) 0
  pub major_unfolds : given (whnf V 512 [] (count_down (next_of (lit 0))) 1000) ≡ Some (app nat_succ (count_down (lit 0)))
  -- the greatest literal is a successor
  pub greatest_successor : whnf V 512 [] (app nat_succ (lit 340282366920938463463374607431768211454)) 1 ≡ done (lit 340282366920938463463374607431768211455) 0
  pub greatest_normal : given (normalize V 512 [] (app nat_succ (next_of (lit 340282366920938463463374607431768211453))) 100) ≡ Some
      (lit 340282366920938463463374607431768211455)
  pub greatest_left : given (equal V 512 [] (lit 340282366920938463463374607431768211455)
      (app nat_succ (next_of (lit 340282366920938463463374607431768211453))) 1000)
      ≡ Some true
  pub greatest_right : given (equal V 512 [] (app nat_succ (next_of (lit 340282366920938463463374607431768211453)))
      (lit 340282366920938463463374607431768211455) 1000)
      ≡ Some true
  -- 0 and `Nat.zero`, both ways; a literal and a definition, both ways
  pub zero_left : given (equal V 512 [] (lit 0) nat_zero 100) ≡ Some true
  pub zero_right : given (equal V 512 [] nat_zero (lit 0) 100) ≡ Some true
  pub definition_left : given (equal V 512 [] (next_of (lit 4)) (lit 5) 100) ≡ Some true
  pub definition_right : given (equal V 512 [] (lit 5) (next_of (lit 4)) 100) ≡ Some true
  -- levels are compared by their values
  pub same_sorts : given (equal V 512 [] (sort (level_max one one)) (sort one) 100) ≡ Some true
  pub same_constants : given (equal V 512 [] (const eq (level_max one one ∷ [])) (const eq (one ∷ [])) 100) ≡ Some true
  -- the definition of greater height alone is unfolded, at equal heights both: the body of f isn't asked for
  pub higher_left : given (equal with_named 512 [] (word (codes "c")) (word (codes "a")) 100) ≡ Some true
  pub higher_right : given (equal with_named 512 [] (word (codes "a")) (word (codes "c")) 100) ≡ Some true
  pub as_high : given (equal with_named 512 [] (word (codes "a")) (word (codes "b")) 100) ≡ Some true
  -- arguments are compared before a definition is unfolded; where they differ it is
  pub arguments_first : given (equal W 512 [] (app (word (codes "f")) (same_as nat_type (lit 4))) (app (word (codes "f")) (lit 4)) 100) ≡ Some true
  pub other_arguments : given (equal V 512 (nat_type ∷ []) (sum (app nat_succ (free 0)) (lit 0)) (sum (free 0) (lit 1)) 10000) ≡ Some true
  -- eta both ways: 3 units for `equal` and two `whnf`; 32 for the type of the function and its sort, or 17 for those of `Nat.succ`; 5 for the other's
  -- type and its whnf, the 5 nodes of the expansion, and a unit to compare
  pub eta_units : equal V 512 [] successor nat_succ 46 ≡ done true 0
  pub eta_right_units : equal V 512 [] nat_succ successor 31 ≡ done true 0
  -- what `infer` refuses
  pub no_level : refusal_of (infer V 512 [] (const eq []) 100) ≡ for (Levels eq)
  pub no_variable : refusal_of (infer V 512 [] (free 0) 100) ≡ for NotClosed
  pub loose : refusal_of (infer V 512 [] (bound 0) 100) ≡ for NotClosed
  pub no_metavariable : refusal_of (infer V 512 [] (meta 0) 100) ≡ for NotClosed
  -- a fault has the type as it was inferred, not reduced
  pub no_function : refusal_of (infer V 512 (same_as (sort one) nat_type ∷ []) (app (free 0) prop) 100) ≡ for (NotFunction (same_as (sort one) nat_type))
  pub no_type : refusal_of (infer V 512 (same_as (sort one) nat_type ∷ []) (lam x (free 0) prop) 100) ≡ for (NotType (same_as (sort one) nat_type))
  -- of a `let` the type is tested first; then the value, whose type stands first in the fault
  pub let_no_type : refusal_of (infer V 512 [] (letin x (lit 0) (word (codes "nowhere")) prop) 100) ≡ for (NotType nat_type)
  pub let_value : refusal_of (infer V 512 [] (letin x nat_type prop (bound 0)) 100) ≡ for (Value (sort one) nat_type)
  -- without tests: metavariables have the types that are given, a domain need be no type, a value need not fit, and so inside
  pub type_of_metavariable : given ((calls V 512).infer (unchecked (nat_type ∷ prop ∷ [])) [] (meta 1) 100) ≡ Some prop
  pub untested_lambda : given ((calls V 512).infer (unchecked []) [] (lam x (lit 0) (app nat_succ prop)) 100) ≡ Some (pi x (lit 0) nat_type)
  pub untested_pi : given ((calls V 512).infer (unchecked []) [] (pi x (same_as prop nat_type) (same_as prop nat_type)) 100)
      ≡ Some (sort (level_imax level_zero level_zero))
  pub untested_let : given ((calls V 512).infer (unchecked []) [] (letin x (lit 0) prop (app nat_succ (bound 0))) 100) ≡ Some nat_type
  -- normal forms of domains and bodies
  pub normal_lambda : given (normalize V 512 [] (lam x (same_as (sort one) nat_type) (same_as nat_type (bound 0))) 100) ≡ Some (lam x nat_type (bound 0))
  pub normal_codomain : given (normalize V 512 [] (pi x nat_type (same_as (sort one) nat_type)) 100) ≡ Some (pi x nat_type nat_type)
  -- headers: closed, then new, then typed
  pub header : add_header V 1 k prop 2 ≡ done one 0
  pub header_nested : add_header V 0 k prop 2 ≡ out
  pub header_open : refusal_of (add_header V 512 nat (free 0) 100) ≡ for NotClosed
  pub header_there : refusal_of (add_header V 512 nat (app prop prop) 100) ≡ for (Duplicate nat base_position)
  pub constant_at_metavariable : refusal_of (add_header V 512 k (const eq (level_meta 0 ∷ [])) 100) ≡ for NotClosed
  -- declarations: closed, then new, then the value, whose type stands first in the fault; two calls for Prop : Type, and none without a value
  pub declaration : add_decl V 1 (declared k (sort one) (Some prop)) 2 ≡ done 1 0
  pub declaration_too_few : add_decl V 1 (declared k (sort one) (Some prop)) 1 ≡ out
  pub no_value : add_decl V 0 (declared k nat_type None) 0 ≡ done 0 0
  pub declaration_open : refusal_of (add_decl V 512 (declared nat (free 0) None) 100) ≡ for NotClosed
  pub declaration_there : refusal_of (add_decl V 512 (declared nat nat_type (Some prop)) 100) ≡ for (Duplicate nat base_position)
  pub other_value : refusal_of (add_decl V 512 (declared k nat_type (Some prop)) 100) ≡ for (Value (sort one) nat_type)
  -- terms of depth 1,025, which are put together: sorts of sorts, of pis, types of lambdas, whnf, normal forms
  pub sort_as_deep : given (infer V 512 [] (sort_of_depth 1023) 10) ≡ Some (sort_of_depth 1024)
  pub sort_too_deep : infer V 512 [] (sort_of_depth 1024) 10 ≡ out
  pub pi_too_deep : infer V 512 [] (pi x (sort_of_depth 1023) prop) 10000 ≡ out
  pub lambda_too_deep : infer V 512 [] (lam x prop (sort_of_depth 1023)) 10000 ≡ out
  pub before_arguments_too_deep : whnf V 512 [] (app (app (lam x prop (bound 0)) (free 0)) (sort_of_depth 1024)) 10000 ≡ out
  pub normal_lambda_too_deep : normalize V 512 [] (lam x prop (sort_of_depth 1024)) 10000 ≡ out
  pub normal_pi_too_deep : normalize V 512 [] (pi x prop (sort_of_depth 1024)) 10000 ≡ out
  pub normal_application_too_deep : normalize V 512 [] (app (free 0) (sort_of_depth 1024)) 10000 ≡ out
  -- types are reduced by definitions too: of a proof, of a function, of a function where eta is tried
  pub proofs_by_definition : given (equal with_types 512 (word (codes "proposition") ∷ free 0 ∷ free 0 ∷ []) (free 1) (free 2) 100) ≡ Some true
  pub function_by_definition : given (infer with_types 512 (word (codes "function") ∷ []) (app (free 0) (lit 0)) 100) ≡ Some nat_type
  pub eta_by_definition : given (equal with_types 512 (word (codes "function") ∷ []) (lam x nat_type (app (free 0) (bound 0))) (free 0) 100) ≡ Some true
  -- sorts, pis and lambdas decide; domains come before bodies. 9 units for `Nat` and `Prop`: the call, two `whnf`, and 6 for the type of `Nat` and its sort
  pub other_sorts : equal V 512 [] prop (sort one) 1 ≡ done false 0
  pub other_domain : equal V 512 [] (pi x nat_type nat_type) (pi x prop nat_type) 10 ≡ done false 0
  pub other_lambda_domain : equal V 512 [] (lam x nat_type prop) (lam x prop prop) 10 ≡ done false 0
  -- the call, one for the domains, 2 and 2 nodes for the bodies that are opened, and one to compare them
  pub other_binder : equal V 512 [] (pi x nat_type prop) (pi y nat_type prop) 7 ≡ done true 0
  -- the call, 5 for `Nat` as a type, 2 for the value and its type, a node and a call for the body
  pub let_units : infer V 512 [] (letin x nat_type (lit 1) (bound 0)) 10 ≡ done nat_type 0
  -- heights are read of each part of a term, from the left, and have a bound
  pub heights : (height_of V (app high low) 0 ∷ height_of V (app low high) 0 ∷ height_of V (lam x high low) 0 ∷ height_of V (lam x low high) 0
      ∷ height_of V (pi x high low) 0 ∷ height_of V (pi x low high) 0 ∷ height_of V (letin x high low low) 0 ∷ height_of V (letin x low high low) 0
      ∷ height_of V (letin x low low high) 0 ∷ height_of V (proj nat 0 high) 0 ∷ [])
      ≡ (done 3 0 ∷ done 3 0 ∷ done 3 0 ∷ done 3 0 ∷ done 3 0 ∷ done 3 0 ∷ done 3 0 ∷ done 3 0 ∷ done 3 0 ∷ done 3 0 ∷ [])
  pub height_of_unknown : height_of W (app (word (codes "f")) (word (codes "g"))) 0 ≡ need (Body 3)
  pub height_of_axiom : height_of V nat_succ 0 ≡ done 1 0
  pub greatest_height : height_of with_types (word (codes "high")) 0 ≡ done 4294967295 0
  -- the first of two types that are compared: 6 units for `Type` and `Nat`, of which 3 go to the type of the first and its sort; a unit for the value,
  -- and for the `let` one and 5 for `Nat` as a type
  pub other_value_units : add_decl V 512 (declared k nat_type (Some prop)) 7 ≡ refused (record { fault = Value (sort one) nat_type; opened = [] }) 0
  pub let_value_units : infer V 512 [] (letin x nat_type prop (bound 0)) 13 ≡ refused (record { fault = Value (sort one) nat_type; opened = [] }) 0
  -- 3 for `equal` and two `whnf`, 3 for the proposition, one for the type of 0, and 6 to compare the two
  pub other_proposition : equal V 512 (prop ∷ free 0 ∷ []) (free 1) (lit 0) 13 ≡ done false 0
