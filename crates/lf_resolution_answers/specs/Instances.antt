-- Instances over a small base: a class of inhabited types, and instances of it.
use Rattle.std.specs.Prelude.{◌≡◌, ℕ, true, Option, Some, None, List, [], ◌∷◌, ◌++◌}
use Prim.Native.String.{String}
use Rattle.lf_core.specs.Term.{Path, Term, bound, free, app, pi}
use Rattle.lf_core.specs.declared.constant.ConstInfo.{ConstInfo}
use Rattle.lf_core.specs.declared.constant.ConstKind.TheVariants.{Axiom}
use Rattle.lf_core.specs.declared.constant.Detail.TheVariants.{Plain}
use Rattle.lf_core.specs.declared.constant.IndDecl.{IndDecl}
use Rattle.lf_core.specs.declared.constant.TaskKey.TheVariants.{Body}
use Rattle.lf_name.specs.declared.binder.Binder.{Binder}
use Rattle.lf_name.specs.declared.binder.BinderKind.TheVariants.{Inst}
use Rattle.lf_rules.specs.Inductive.{declared_constants}
use Rattle.lf_rules.specs.Environment.{Context}
use Rattle.lf_checker.specs.View.{View, base_view, opened_branch}
use Rattle.lf_checker.specs.Run.{Answer, done, refused, out, need}
use Rattle.lf_elaboration.specs.Scope.{Scope, start}
use Rattle.lf_resolution.specs.Walk.{resolve}
use Rattle.lf_examples.specs.Words.{word, dotted, explicit, implicit, two, type, at, inductive_type, constructor, ◌⟶◌}
use Rattle.lf_examples.specs.Declarations.{nat, nat_declaration}

-- [x : A]
abbrev pub bracketed : String → Binder
bracketed x = record { name = word x; kind = Inst }

-- class Inh (α : Type) where val : α
abbrev pub inh : Term → Term
inh A = app (at "Inh") A

abbrev pub inh_declaration : IndDecl
inh_declaration = inductive_type "Inh" 1 (pi (explicit "α") type type)
    (constructor "Inh" "mk" (pi (implicit "α") type (pi (explicit "val") (bound 0) (inh (bound 1)))) ∷ [])

abbrev pub constant : String → Term → ConstInfo
constant n A = record { name = word n; kind = Axiom; levels = []; ty = A; value = None; height = 0; detail = Plain }

-- Pair : Type → Type → Type
abbrev pub pair : Term → Term → Term
pair A B = two (at "Pair") A B

abbrev pub base : List ConstInfo
base = declared_constants nat_declaration true ++ (declared_constants inh_declaration true
    ++ constant "Bool" type ∷ constant "Pair" (type ⟶ type ⟶ type)
    -- instance i : Inh Nat, instance j : Inh Nat
    ∷ constant "i" (inh nat) ∷ constant "j" (inh nat)
    -- instance p {α β : Type} [s : Inh α] [t : Inh β] : Inh (Pair α β)
    ∷ constant "p" (pi (implicit "α") type (pi (implicit "β") type
    (pi (bracketed "s") (inh (bound 1)) (pi (bracketed "t") (inh (bound 1)) (inh (pair (bound 3) (bound 2)))))))
    -- instance b [s : Inh Bool] : Inh Nat, instance l [s : Inh Nat] : Inh Nat, instance o {n : Nat} : Inh Nat
    ∷ constant "b" (pi (bracketed "s") (inh (at "Bool")) (inh nat))
    ∷ constant "l" (pi (bracketed "s") (inh nat) (inh nat))
    ∷ constant "o" (pi (implicit "n") nat (inh nat))
    -- instance q.{u} : Inh Nat
    ∷ record (constant "q" (inh nat)) { levels = word "u" ∷ [] }
    -- C : Inh Nat → Type, instance f [s : Inh Nat] : C s
    ∷ constant "C" (inh nat ⟶ type) ∷ constant "f" (pi (bracketed "s") (inh nat) (app (at "C") (bound 0))) ∷ [])

abbrev pub V : View
V = base_view base

-- Two classes, and these instances in the order in which they were declared.
abbrev pub with : List Path → Scope
with ns = record start { classes = word "Inh" ∷ word "C" ∷ []; instances = ns }

abbrev pub found_in : View → List Path → Context → Term → ℕ → Answer (Option Term)
found_in W ns C goal units = resolve W (with ns) 512 C goal units

abbrev pub value_of : Answer (Option Term) → Option (Option Term)
value_of (done o u) = Some o
value_of (refused e u) = None
value_of out = None
value_of (need k) = None

abbrev pub found : List Path → Context → Term → Option (Option Term)
found ns C goal = value_of (found_in V ns C goal 1000000)

abbrev pub is : Term → Option (Option Term)
is t = Some (Some t)

abbrev pub is_none : Option (Option Term)
is_none = Some None

-- A view in which `T.k` may still be added by the body of the command at the position 3.
abbrev pub W : View
W = opened_branch V (word "T") 3

pub record InstanceAnswers : Type 0 where
  pub one : found (word "i" ∷ []) [] (inh nat) ≡ is (at "i")
  -- of two instances the later
  pub the_later : found (word "i" ∷ word "j" ∷ []) [] (inh nat) ≡ is (at "j")
  -- locals before instances, the latest first
  pub local_first : found (word "i" ∷ []) (inh nat ∷ inh nat ∷ nat ∷ []) (inh nat) ≡ is (free 1)
  pub other_type : found (word "i" ∷ []) [] (inh (at "Bool")) ≡ is_none
  pub no_class : found (word "i" ∷ []) (nat ∷ []) nat ≡ is_none
  -- p leaves two goals, in order
  pub of_pair : found (word "i" ∷ word "p" ∷ []) (inh (at "Bool") ∷ []) (inh (pair nat (at "Bool")))
      ≡ is (app (app (app (app (at "p") nat) (at "Bool")) (at "i")) (free 0))
  pub of_pair_of_pairs : found (word "i" ∷ word "p" ∷ []) [] (inh (pair nat (pair nat nat)))
      ≡ is (app (app (app (app (at "p") nat) (pair nat nat)) (at "i")) (app (app (app (app (at "p") nat) nat) (at "i")) (at "i")))
  -- b is later, and given up for want of `Inh Bool`; o leaves its argument open
  pub given_up : found (word "i" ∷ word "b" ∷ []) [] (inh nat) ≡ is (at "i")
  pub left_open : found (word "i" ∷ word "o" ∷ []) [] (inh nat) ≡ is (at "i")
  pub level_left_open : found (word "i" ∷ word "q" ∷ []) [] (inh nat) ≡ is (at "i")
  -- unification says which instance stands in brackets, though j is later
  pub by_unification : found (word "i" ∷ word "j" ∷ word "f" ∷ []) [] (app (at "C") (at "i")) ≡ is (app (at "f") (at "i"))
  -- l alone leads from goal to goal, and has no tree
  pub endless : found (word "l" ∷ []) [] (inh nat) ≡ is_none
  -- the form of the goal: 1; the candidate: 1, and its type: 3; to unify: 1, to compare: 1
  pub costs : found_in V (word "i" ∷ []) [] (inh nat) 7 ≡ done (Some (at "i")) 0
  pub too_few : found_in V (word "i" ∷ []) [] (inh nat) 6 ≡ out
  -- an instance that the view doesn't know counts not; one that may still come is waited for
  pub unknown : found (word "i" ∷ word "x" ∷ []) [] (inh nat) ≡ is (at "i")
  pub waited_for : found_in W (word "i" ∷ dotted "T" "k" ∷ []) [] (inh nat) 1000 ≡ need (Body 3)
  pub not_waited_for : found_in W (dotted "T" "k" ∷ word "i" ∷ []) [] (inh nat) 1000 ≡ done (Some (at "i")) 993
