-- Answers of elaboration that are known from elsewhere.
use Rattle.std.specs.Prelude.{◌≡◌, Bool, true, false, Option, Some, None, List, [], ◌∷◌, ◌++◌, codes}
use Rattle.lf_core.specs.Term.{Path, level_zero, Term, bound, free, meta, const, app, lam, lit}
use Rattle.lf_rules.specs.Environment.{Context}
use Rattle.lf_syntax.specs.Tree as tree
use Rattle.lf_syntax.specs.Tree.{TermTree, ItemTree}
use Rattle.lf_checker.specs.Run as checker
use Rattle.lf_checker.specs.Checker as checking
use Rattle.lf_elaboration.specs.declared.change.Change.TheVariants.{Made}
use Rattle.lf_elaboration.specs.Metavariables.{Changes, circular, out_of_scope, refused, put_in}
use Rattle.lf_elaboration.specs.Messages as says
use Rattle.lf_elaboration.specs.Messages.{Message, error_at}
use Rattle.lf_elaboration.specs.Motive.{motive}
use Rattle.lf_elaboration.specs.Run.{Answer, done, failed, out, need, ◌>>=◌, ◌>>◌}
use Rattle.lf_elaboration.specs.Unifier.{unify}
use Rattle.lf_elaboration.specs.Part.{Locals, State, Run, instantiated}
use Rattle.lf_elaboration.specs.Elaboration.{elaborate, prove, close}
use Rattle.lf_examples.specs.Words.{word, dotted, explicit, two, prop, type, at, ◌⟶◌}
use Rattle.lf_examples.specs.Declarations.{nat, nat_succ}
use Rattle.lf_elaboration_answers.specs.Base.{V, P, no_locals, fresh, nat_equation}
use Rattle.lf_elaboration_answers.specs.Written.{ident, name, name_of_two, number, equals, applied, hole, typed, by_items, fun_of, rw, block}

-- ---- What an answer tells

abbrev pub value_of : {S A : Type 0} → Answer S A → Option A
value_of (done x u s) = Some x
value_of (failed m u s) = None
value_of (out s) = None
value_of (need k) = None

abbrev pub error_of : {S A : Type 0} → Answer S A → Option Message
error_of (failed m u s) = Some m
error_of (done x u s) = None
error_of (out s) = None
error_of (need k) = None

abbrev pub state_of : {S A : Type 0} → S → Answer S A → S
state_of t (done x u s) = s
state_of t (failed m u s) = s
state_of t (out s) = s
state_of t (need k) = t

abbrev pub messages_of : {A : Type 0} → Answer State A → List Message
messages_of o = says.messages_of (state_of fresh o).nodes

-- A term against a type, as a whole part: closed at its end, with assigned metavariables put in.
abbrev pub whole : Locals → TermTree → Option Term → Run Term
whole L s E = do
  r ← elaborate P 512 L s E
  close P 512 L 0 (Some 0)
  instantiated r.term

abbrev pub elaborated : Locals → TermTree → Option Term → Answer State Term
elaborated L s E = whole L s E 10000 fresh

abbrev pub proved : Locals → Term → List ItemTree → Answer State Term
proved L goal is = prove P 512 L goal is 10000 fresh

-- ---- What the checker says of a proof

abbrev pub checked : checker.Answer Bool → Bool
checked (checker.done b u) = b
checked (checker.refused e u) = false
checked checker.out = false
checked (checker.need k) = false

abbrev pub has_type : Context → Term → Term → checker.Run Bool
has_type C A t = checker.◌>>=◌ (checking.infer V 512 C t) (λ B. checking.equal V 512 C B A)

abbrev pub proves : Context → Term → Option Term → Bool
proves C A None = false
proves C A (Some t) = checked (has_type C A t 100000)

-- ---- Locals

-- A : Prop
abbrev pub proposition : Locals
proposition = record { types = prop ∷ []; names = word "A" ∷ [] }

-- a b : Nat, h : a = b
abbrev pub equal_numbers : Locals
equal_numbers = record { types = nat ∷ nat ∷ nat_equation (free 0) (free 1) ∷ []; names = word "a" ∷ word "b" ∷ word "h" ∷ [] }

-- n : Nat
abbrev pub a_number : Locals
a_number = record { types = nat ∷ []; names = word "n" ∷ [] }

-- m n : Nat, h : Nat.succ m = Nat.succ n
abbrev pub successors : Locals
successors = record {
  types = nat ∷ nat ∷ nat_equation (app nat_succ (free 0)) (app nat_succ (free 1)) ∷ [];
  names = word "m" ∷ word "n" ∷ word "h" ∷ [];
}

-- A B : Prop, h : A → B, a : A
abbrev pub implication : Locals
implication = record {
  types = prop ∷ prop ∷ (free 0 ⟶ free 1) ∷ free 0 ∷ [];
  names = word "A" ∷ word "B" ∷ word "h" ∷ word "a" ∷ [];
}

-- ---- Metavariables

-- ?0 : Nat, for two locals
abbrev pub for_two_locals : Changes
for_two_locals = Made nat 2 0 ∷ []

-- ?0 : Type
abbrev pub a_type : Changes
a_type = Made type 0 0 ∷ []

abbrev pub then_is : Answer Changes Bool → Option (Bool × Option Term)
then_is (done b u cs) = Some (b, Some (put_in cs (meta 0)))
then_is (failed m u cs) = None
then_is (out cs) = None
then_is (need k) = None

abbrev pub conjunction : Term
conjunction = two (at "And") (nat_equation (lit 1) (lit 3)) (nat_equation (lit 1) (lit 2))

abbrev pub sorry_at : Term → Term
sorry_at A = app (const (word "sorryAx") (level_zero ∷ [])) A

-- And.intro (by rfl) (by rfl)
abbrev pub two_blocks : TermTree
two_blocks = applied (name_of_two 29 "And" "intro") (by_items 40 (tree.rfl 43 ∷ []) ∷ by_items 49 (tree.rfl 52 ∷ []) ∷ [])

-- A proof that the checker takes.
abbrev pub is_proof : Locals → Term → List ItemTree → Bool
is_proof L goal is = proves L.types goal (value_of (proved L goal is))

-- f.eq_1 and Nat.succ.inj were asked for
abbrev pub asked_of : {A : Type 0} → Answer State A → List Path
asked_of o = (state_of fresh o).asked

abbrev pub sums : Term
sums = nat_equation (free 0) (free 0)

pub record Answers : Type 0 where
  -- a value with the metavariable in it, and one with a third local
  pub occurs : refused for_two_locals 0 (app (at "g") (meta 0)) ≡ Some circular
  pub scope : refused for_two_locals 0 (free 3) ≡ Some (out_of_scope 3)
  -- Nat → ?0 with Nat → Bool
  pub arrow : then_is (unify V 512 [] (nat ⟶ meta 0) (nat ⟶ at "Bool") 100 a_type) ≡ Some (true, Some (at "Bool"))
  -- after false the metavariable has no value
  pub undone : then_is (unify V 512 [] (meta 0 ⟶ nat) (nat ⟶ at "Bool") 100 a_type) ≡ Some (false, Some (meta 0))
  -- a = a, and b
  pub motive_twice : motive (nat_equation (free 0) (free 0)) (free 0) ≡ Some (nat_equation (bound 0) (bound 0))
  pub motive_nowhere : motive (free 1) (free 0) ≡ None
  -- A → A
  pub by_exact : value_of (proved proposition (free 0 ⟶ free 0) (tree.intro 1 (ident 2 "h" ∷ []) ∷ tree.exact 3 (name 4 "h") ∷ []))
      ≡ Some (lam (explicit "h") (free 0) (bound 0))
  pub by_assumption : value_of (proved proposition (free 0 ⟶ free 0) (tree.intro 1 (ident 2 "h" ∷ []) ∷ tree.assumption_item 3 ∷ []))
      ≡ Some (lam (explicit "h") (free 0) (bound 0))
  pub no_goals : error_of
      (proved proposition (free 0 ⟶ free 0) (tree.intro 1 (ident 2 "h" ∷ []) ∷ tree.exact 3 (name 4 "h") ∷ tree.rfl 5 ∷ []))
      ≡ Some (error_at 5 says.no_goals)
  -- two blocks that fail: a message each, and a term with a `sorryAx` for each
  pub two_messages : messages_of (elaborated no_locals two_blocks (Some conjunction))
      ≡ error_at 43 (says.type_mismatch (codes "? = ?") (codes "1 = 3")) ∷ error_at 52 (says.type_mismatch (codes "? = ?") (codes "1 = 2")) ∷ []
  pub two_sorries : value_of (elaborated no_locals two_blocks (Some conjunction))
      ≡ Some (two (two (const (dotted "And" "intro") []) (nat_equation (lit 1) (lit 3)) (nat_equation (lit 1) (lit 2)))
      (sorry_at (nat_equation (lit 1) (lit 3))) (sorry_at (nat_equation (lit 1) (lit 2))))
  -- items whose proofs the checker takes: on a = b, rw [h] leaves b = b, which is closed
  pub by_rw : is_proof equal_numbers (nat_equation (free 0) (free 1)) (rw 1 (name 2 "h") ∷ []) ≡ true
  pub rw_nowhere : error_of (proved equal_numbers (at "True") (rw 1 (name 2 "h") ∷ [])) ≡ Some (error_at 1 (says.item_fails says.Rw))
  -- n = n by induction and by cases, whose second goal has a pi less
  pub by_induction : is_proof a_number sums (tree.induction 1 (ident 2 "n") ∷ block 3 (tree.rfl 4 ∷ [])
      ∷ block 5 (tree.intro 6 (ident 7 "m" ∷ ident 8 "ih" ∷ []) ∷ tree.rfl 9 ∷ []) ∷ []) ≡ true
  pub by_cases : is_proof a_number sums (tree.cases 1 (ident 2 "n") ∷ block 3 (tree.rfl 4 ∷ [])
      ∷ block 5 (tree.intro 6 (ident 7 "m" ∷ []) ∷ tree.rfl 9 ∷ []) ∷ []) ≡ true
  pub two_blocks_expected : error_of (proved a_number sums (tree.induction 1 (ident 2 "n") ∷ tree.rfl 3 ∷ []))
      ≡ Some (error_at 1 (says.blocks_expected 2))
  -- m = n by injection h, intro e, exact e
  pub by_injection : is_proof successors (nat_equation (free 0) (free 1))
      (tree.injection 1 (ident 2 "h") ∷ tree.intro 3 (ident 4 "e" ∷ []) ∷ tree.exact 5 (name 6 "e") ∷ []) ≡ true
  pub injection_asks : asked_of (proved successors (nat_equation (free 0) (free 1)) (tree.injection 1 (ident 2 "h") ∷ tree.sorry_item 3 ∷ []))
      ≡ (dotted "Nat" "succ" ++ word "inj") ∷ []
  -- a literal is no application of Nat.succ
  pub injection_on_literal : error_of
      (proved (record successors { types = nat ∷ nat ∷ nat_equation (lit 1) (lit 2) ∷ [] }) (at "True") (tree.injection 1 (ident 2 "h") ∷ []))
      ≡ Some (error_at 1 (says.item_fails says.Injection))
  -- f = 1 by unfold f, rfl; on a goal without f it fails, and its equation was asked for
  pub by_unfold : is_proof no_locals (nat_equation (at "f") (lit 1)) (tree.unfold_item 1 (ident 2 "f") ∷ tree.rfl 3 ∷ []) ≡ true
  pub unfold_nowhere : error_of (proved no_locals (at "True") (tree.unfold_item 1 (ident 2 "f") ∷ [])) ≡ Some (error_at 1 (says.item_fails says.Unfold))
  pub unfold_asks : asked_of (proved no_locals (at "True") (tree.unfold_item 1 (ident 2 "f") ∷ [])) ≡ dotted "f" "eq_1" ∷ []
  -- B by apply h, exact a
  pub by_apply : is_proof implication (free 1) (tree.apply 1 (name 2 "h") ∷ tree.exact 3 (name 4 "a") ∷ []) ≡ true
  -- A by have x : A := a, exact x
  pub by_have : is_proof implication (free 0) (tree.have_item 1 (ident 2 "x") (name 3 "A") (name 4 "a") ∷ tree.exact 5 (name 6 "x") ∷ []) ≡ true
  pub unsolved : error_of (proved implication (free 0 ⟶ free 0) (tree.intro 1 (ident 2 "x" ∷ []) ∷ []))
      ≡ Some (error_at 1 (says.unsolved_goal (codes "A")))
  pub no_pi : error_of (proved implication (free 0) (tree.intro 1 (ident 2 "x" ∷ []) ∷ [])) ≡ Some (error_at 1 (says.item_fails says.Intro))
  pub no_assumption : error_of (proved implication (free 1) (tree.assumption_item 1 ∷ [])) ≡ Some (error_at 1 (says.item_fails says.Assumption))
  -- fun x => 1 can't tell the type of x, at the binder
  pub untyped_binder : error_of (elaborated no_locals (fun_of 7 (ident 11 "x") (number 16 1)) None) ≡ Some (error_at 11 says.undetermined_placeholder)
  pub binder_by_expected : value_of (elaborated no_locals (fun_of 7 (ident 11 "x") (name 16 "x")) (Some (nat ⟶ nat)))
      ≡ Some (lam (explicit "x") nat (bound 0))
  -- a value that speaks of a local that closes: r _ (fun y => (rfl : Nat.succ _ = Nat.succ _))
  pub no_variable_escapes : error_of (elaborated no_locals (applied (name 7 "r") (hole 9 ∷ fun_of 12 (ident 16 "y")
      (typed (name 22 "rfl") (equals (applied (name_of_two 28 "Nat" "succ") (hole 37 ∷ [])) (applied (name_of_two 41 "Nat" "succ") (hole 50 ∷ [])))) ∷ []))
      None) ≡ Some (error_at 7 says.undetermined_placeholder)
  pub no_identifier : error_of (elaborated no_locals (name 3 "x") None) ≡ Some (error_at 3 (says.unknown_identifier (word "x")))
  pub no_function : error_of (elaborated no_locals (applied (number 3 1) (number 5 2 ∷ [])) None)
      ≡ Some (error_at 3 (says.function_expected (codes "Nat")))
  pub by_without_type : error_of (elaborated no_locals (by_items 3 (tree.rfl 6 ∷ [])) None) ≡ Some (error_at 3 says.undetermined_placeholder)
