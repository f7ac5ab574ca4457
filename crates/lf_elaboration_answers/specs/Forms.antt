-- Answers of each written form of a term: which types it takes and gives, where its errors stand, and what it costs.
use Rattle.std.specs.Prelude.{◌≡◌, ℕ, Bool, true, false, Option, Some, None, [], ◌∷◌, codes}
use Rattle.lf_core.specs.Term.{level_zero, level_imax, bound, free, meta, sort, const, app, lam, pi, lit}
use Rattle.lf_text.specs.declared.operator.Op.TheVariants as op
use Rattle.lf_syntax.specs.Tree as tree
use Rattle.lf_syntax.specs.Tree.{TermTree, binders_of}
use Rattle.lf_elaboration.specs.declared.change.Change.TheVariants.{Made, Assigned}
use Rattle.lf_elaboration.specs.Metavariables.{Changes}
use Rattle.lf_elaboration.specs.Identifiers.{successors}
use Rattle.lf_elaboration.specs.Messages as says
use Rattle.lf_elaboration.specs.Messages.{error_at}
use Rattle.lf_elaboration.specs.Run.{Answer, done, failed, out, need}
use Rattle.lf_elaboration.specs.Unifier.{unify}
use Rattle.lf_elaboration.specs.Part.{Locals}
use Rattle.lf_elaboration.specs.Elaboration.{elaborate}
use Rattle.lf_examples.specs.Words.{text, word, explicit, implicit, two, three, prop, type, one, at, ◌⟶◌}
use Rattle.lf_examples.specs.Declarations.{nat}
use Rattle.lf_elaboration_answers.specs.Base.{V, no_locals, fresh, nat_equation}
use Rattle.lf_elaboration_answers.specs.Written.{
  ident,
  name,
  number,
  equals,
  plus,
  applied,
  hole,
  bracketed,
  typed,
  by_items,
  let_of,
  fun_of,
  fun_of_two,
  fun_implicit,
  fun_typed,
  all_of,
  type_above,
}
use Rattle.lf_elaboration_answers.specs.Worked.{value_of, error_of, messages_of, elaborated}
use Rattle.lf_elaboration_answers.specs.Larger.{add, Q, in_n, elaborated_in, type_of}

-- ---- Changes, locals and what is left

-- ?0 : Type, which is Nat → Nat; ?1 : ?0; ?2 : Nat
abbrev pub of_assigned_type : Changes
of_assigned_type = Made type 0 0 ∷ Made (meta 0) 0 0 ∷ Made nat 0 0 ∷ Assigned 0 (nat ⟶ nat) ∷ []

-- ?0 : Nat and ?1 : Nat → Nat, for no locals
abbrev pub number_and_function : Changes
number_and_function = Made nat 0 0 ∷ Made (nat ⟶ nat) 0 0 ∷ []

abbrev pub truth : Answer Changes Bool → Option Bool
truth (done b u cs) = Some b
truth (failed m u cs) = None
truth (out cs) = None
truth (need k) = None

abbrev pub units_left : {S A : Type 0} → Answer S A → Option ℕ
units_left (done x u s) = Some u
units_left (failed m u s) = Some u
units_left (out s) = None
units_left (need k) = None

-- x : Nat
abbrev pub a_local : Locals
a_local = record { types = nat ∷ []; names = word "x" ∷ [] }

-- h : ∀ (R : Nat → Type), R 0
abbrev pub of_any_family : Locals
of_any_family = record { types = pi (explicit "R") (nat ⟶ type) (app (bound 0) (lit 0)) ∷ []; names = word "h" ∷ [] }

-- i : ∀ {α : Type}, α → α
abbrev pub identity : Locals
identity = record { types = pi (implicit "α") type (bound 0 ⟶ bound 1) ∷ []; names = word "i" ∷ [] }

-- d : D
abbrev pub by_definition : Locals
by_definition = record { types = at "D" ∷ []; names = word "d" ∷ [] }

-- R : Nat → Prop, k : ∀ {n : Nat}, R n → True
abbrev pub of_unknown : Locals
of_unknown = record {
  types = (nat ⟶ prop) ∷ pi (implicit "n") nat (app (free 0) (bound 0) ⟶ at "True") ∷ [];
  names = word "R" ∷ word "k" ∷ [];
}

-- A : Prop, a : A
abbrev pub a_proof : Locals
a_proof = record { types = prop ∷ free 0 ∷ []; names = word "A" ∷ word "a" ∷ [] }

-- h : ∀ (n : Nat), 0 + n = n
abbrev pub of_sum : Locals
of_sum = record { types = pi (explicit "n") nat (nat_equation (add (lit 0) (bound 0)) (bound 0)) ∷ []; names = word "h" ∷ [] }

-- A : Prop, a : A, q : Nat → A
abbrev pub proof_and_function : Locals
proof_and_function = record { types = prop ∷ free 0 ∷ (nat ⟶ free 0) ∷ []; names = word "A" ∷ word "a" ∷ word "q" ∷ [] }

pub record FormAnswers : Type 0 where
  -- ---- Unification: ?2 with ?1 0, whose type isn't looked at through what is assigned; a side that is refused isn't tried the other way
  pub type_as_made : truth (unify V 512 [] (meta 2) (app (meta 1) (lit 0)) 1000 of_assigned_type) ≡ Some false
  pub left_first : truth (unify V 512 (nat ∷ []) (meta 0) (app (meta 1) (free 0)) 1000 number_and_function) ≡ Some false
  pub right_pattern : truth (unify V 512 (nat ∷ []) (lit 3) (app (meta 1) (free 0)) 1000 number_and_function) ≡ Some true
  -- units: the call, the other side's type, and the types' unification with its test of equality; for ?1 x also the type of it, and the abstraction
  pub alone_costs : units_left (unify V 512 [] (meta 0) (lit 1) 10 number_and_function) ≡ Some 6
  pub pattern_costs : units_left (unify V 512 (nat ∷ []) (app (meta 1) (free 0)) (lit 3) 10 number_and_function) ≡ Some 1
  -- literals are no heads
  pub literal_heads : truth (unify V 512 [] (app (lit 3) (meta 0)) (app (lit 3) (lit 1)) 1000 number_and_function) ≡ Some false
  -- ---- Types: (1 : h _), whose type is an application of a metavariable
  pub no_sort : error_of (elaborated of_any_family (typed (number 4 1) (applied (name 8 "h") (hole 10 ∷ []))) None)
      ≡ Some (error_at 8 (says.type_expected (text "? 0")))
  -- ∀ (n : Nat), n = 0 is in Sort (imax 1 0), which isn't simplified
  pub sort_of_pi : type_of no_locals (all_of 3 (ident 6 "n" ∷ []) (name 10 "Nat") (equals (name 16 "n") (number 20 0))) None
      ≡ Some (sort (level_imax one level_zero))
  -- ∀ (x y : _), x = 1 asks for the type of each name
  pub type_of_each : error_of (elaborated no_locals (all_of 3 (ident 6 "x" ∷ ident 8 "y" ∷ []) (hole 12) (equals (name 16 "x") (number 20 1))) None)
      ≡ Some (error_at 12 says.undetermined_placeholder)
  -- ∀ x y, x = 1 gives each its own type
  pub type_for_each : error_of
      (elaborated no_locals (tree.forall_term 3 (binders_of (tree.plain (ident 5 "x") ∷ tree.plain (ident 7 "y") ∷ [])) (equals (name 10 "x") (number 14 1))) None)
      ≡ Some (error_at 7 says.undetermined_placeholder)
  -- Type 32 and Type 33
  pub greatest_level : value_of (elaborated no_locals (type_above 3 8 32) None) ≡ Some (sort (successors 33 level_zero))
  pub level_above : error_of (elaborated no_locals (type_above 3 8 33) None) ≡ Some (error_at 8 says.level_above_32)
  -- Sort (32 + 1): each numeral by itself
  pub levels_added : value_of
      (elaborated no_locals (tree.sort_u 3 (Some (tree.level_plus 9 (tree.level_number (record { at = 9; value = 32 })) (record { at = 14; value = 1 })))) None)
      ≡ Some (sort (successors 33 level_zero))
  -- ---- `fun`: the type that is written stays; kinds aren't compared; the type given has the lambda's own binder
  pub written_stays : value_of (elaborated_in Q no_locals (fun_typed 3 (ident 8 "x") (name 12 "T") (name 18 "x")) (Some (nat ⟶ nat)))
      ≡ Some (lam (explicit "x") (at "T") (bound 0))
  pub any_kind : value_of (elaborated no_locals (fun_implicit 3 (ident 8 "x") (name 14 "x")) (Some (nat ⟶ nat))) ≡ Some (lam (implicit "x") nat (bound 0))
  pub own_binder : type_of no_locals (fun_typed 3 (ident 8 "y") (name 12 "Nat") (name 20 "y")) (Some (pi (explicit "x") nat nat))
      ≡ Some (pi (explicit "y") nat nat)
  -- fun x y => 1 is one call: two weak head forms and two codomains of 3 and 1, 3 for the numeral, and closed again 1 and 1, 3 and 3
  pub binders_cost : units_left (elaborate Q 512 no_locals (fun_of_two 3 (ident 7 "x") (ident 9 "y") (number 14 1)) (Some (nat ⟶ (nat ⟶ nat))) 100 fresh)
      ≡ Some 82
  -- ---- `let`: the body has the expected type, and the local no value
  pub let_body : type_of no_locals (let_of 3 (ident 7 "x") (number 12 2) (name 15 "rfl")) (Some (nat_equation (lit 2) (lit 2)))
      ≡ Some (nat_equation (lit 2) (lit 2))
  pub let_without_value : error_of
      (elaborated no_locals (let_of 3 (ident 7 "x") (number 12 2) (typed (name 16 "rfl") (equals (name 22 "x") (number 26 2)))) None)
      ≡ Some (error_at 16 (says.type_mismatch (codes "? = ?") (codes "x = 2")))
  -- in the type of the whole the value stands for the local
  pub let_type : type_of no_locals (let_of 3 (ident 7 "x") (number 12 2) (typed (name 16 "rfl") (equals (name 22 "x") (name 26 "x")))) None
      ≡ Some (nat_equation (lit 2) (lit 2))
  -- ---- Parentheses: (e : T) has the type T; a pair is a call
  pub stated_type : type_of no_locals (typed (name 4 "rfl") (equals (plus (number 10 2) (number 14 2)) (number 18 4))) None
      ≡ Some (nat_equation (add (lit 2) (lit 2)) (lit 4))
  pub numeral_costs : units_left (elaborate Q 512 no_locals (number 5 1) None 10 fresh) ≡ Some 9
  pub parentheses_cost : units_left (elaborate Q 512 no_locals (bracketed 3 (bracketed 4 (number 5 1))) None 10 fresh) ≡ Some 7
  -- ---- Applications: i f 1, where the pi for 1 is seen once f is elaborated
  pub walk_goes_on : value_of (elaborated identity (applied (name 3 "i") (name 5 "g" ∷ number 7 1 ∷ [])) None)
      ≡ Some (app (two (free 0) (nat ⟶ nat) (at "g")) (lit 1))
  -- g 1 2: what the term's type is behind the arguments so far
  pub no_function_behind : error_of (elaborated no_locals (applied (name 3 "g") (number 5 1 ∷ number 7 2 ∷ [])) None)
      ≡ Some (error_at 3 (says.function_expected (codes "Nat")))
  -- h 3 against 0 + 3 = 3: 0 + ?n isn't 3, which is passed over until the argument is there
  pub passed_over : value_of (elaborated_in Q of_sum (applied (name 3 "h") (number 5 3 ∷ [])) (Some (nat_equation (add (lit 0) (lit 3)) (lit 3))))
      ≡ Some (app (free 0) (lit 3))
  -- g _: the placeholder becomes the argument, so what is left open is the hole
  pub hole_left : error_of (elaborated no_locals (applied (name 3 "g") (hole 5 ∷ [])) None) ≡ Some (error_at 5 says.undetermined_placeholder)
  -- x against Nat: the call, its type's weak head form, and twice the unification with its test of equality
  pub unified_twice : units_left (elaborate Q 512 a_local (name 3 "x") (Some nat) 10 fresh) ≡ Some 4
  -- implicit pis behind a definition are taken
  pub behind_definition : value_of (elaborated_in Q by_definition (typed (name 4 "d") (equals (number 8 1) (number 12 1))) None)
      ≡ Some (app (free 0) (lit 1))
  -- 1 + 2 in a namespace with an addition of its own; its errors stand at the left operand
  pub operator_itself : value_of (elaborated_in in_n no_locals (plus (number 3 1) (number 7 2)) None) ≡ Some (add (lit 1) (lit 2))
  pub at_left_operand : error_of (elaborated_in in_n no_locals (plus (number 3 1) (number 7 2)) (Some prop))
      ≡ Some (error_at 3 (says.type_mismatch (codes "Nat") (codes "Prop")))
  -- a → a, where the arrow's own binder is called so too
  pub arrow_opens_nothing : value_of (elaborated a_proof (tree.oper 3 op.Arrow (name 3 "A") (name 7 "A")) None) ≡ Some (free 0 ⟶ free 0)
  -- ---- Holes: k (by exact sorry), whose goal has a metavariable; blocks run before metavariables are tested
  pub unknown_goal : error_of (elaborated of_unknown (applied (name 3 "k") (by_items 6 (tree.sorry_item 9 ∷ []) ∷ [])) None)
      ≡ Some (error_at 6 says.undetermined_placeholder)
  pub context_untested : error_of
      (elaborated a_proof (fun_of 3 (ident 7 "x") (typed (by_items 13 (tree.exact 16 (name 22 "a") ∷ [])) (name 26 "A"))) None)
      ≡ Some (error_at 7 says.undetermined_placeholder)
  pub blocks_first : messages_of
      (elaborated a_proof (fun_of 3 (ident 7 "x") (typed (by_items 13 (tree.exact 16 (number 22 1) ∷ [])) (name 26 "A"))) None)
      ≡ error_at 22 (says.type_mismatch (codes "Nat") (codes "A")) ∷ []
  -- a level that nothing tells, at the part's place
  pub unknown_level : error_of (elaborated_in Q no_locals (name 3 "c") None) ≡ Some (error_at 0 says.undetermined_level)
  -- (fun x => (by exact a : A)) = q: what tells the level of the type of x is behind the block
  pub level_around_block : value_of (elaborated proof_and_function
      (equals (bracketed 3 (fun_of 4 (ident 8 "x") (typed (by_items 14 (tree.exact 17 (name 23 "a") ∷ [])) (name 27 "A")))) (name 33 "q")) None)
      ≡ Some (three (const (word "Eq") (level_imax one level_zero ∷ [])) (pi (explicit "x") nat (free 0)) (lam (explicit "x") nat (free 1)) (free 2))
  -- (by exact c : Nat): a level of an item's own term has to be told at the term's end, so the block fails, and the part doesn't
  pub level_in_block : messages_of (elaborated_in Q no_locals (typed (by_items 4 (tree.exact 7 (name 13 "c") ∷ [])) (name 17 "Nat")) None)
      ≡ error_at 0 says.undetermined_level ∷ []
  pub level_in_block_alone : value_of (elaborated_in Q no_locals (typed (by_items 4 (tree.exact 7 (name 13 "c") ∷ [])) (name 17 "Nat")) None)
      ≡ Some (app (const (word "sorryAx") (one ∷ [])) nat)
