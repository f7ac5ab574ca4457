-- Answers of each proof item: what it looks at, what it leaves, and where its errors stand.
use Rattle.std.specs.Prelude.{◌≡◌, ℕ, ◌+◌, Bool, true, false, Option, Some, None, List, [], ◌∷◌, codes}
use Rattle.lf_core.specs.Term.{level_zero, level_imax, Term, bound, free, const, app, lam, pi, lit}
use Rattle.lf_rules.specs.Environment.{nat_zero}
use Rattle.lf_text.specs.declared.operator.Op.TheVariants as op
use Rattle.lf_syntax.specs.Tree as tree
use Rattle.lf_elaboration.specs.Messages as says
use Rattle.lf_elaboration.specs.Messages.{error_at}
use Rattle.lf_syntax.specs.Tree.{TermTree, ItemTree}
use Rattle.lf_elaboration.specs.Run.{Answer, done, failed, out, need}
use Rattle.lf_elaboration.specs.Part.{Locals, State}
use Rattle.lf_elaboration.specs.Elaboration.{prove}
use Rattle.lf_examples.specs.Words.{word, explicit, implicit, two, three, prop, one, at, ◌⟶◌}
use Rattle.lf_examples.specs.Declarations.{nat}
use Rattle.lf_elaboration_answers.specs.Base.{P, no_locals, fresh, nat_equation, inj_name}
use Rattle.lf_elaboration_answers.specs.Written.{ident, name, number, equals, applied, hole, typed, by_items, fun_of, fun_typed, rw, rw_back, block}
use Rattle.lf_elaboration_answers.specs.Worked.{value_of, error_of, messages_of, elaborated, proved, is_proof, a_number, equal_numbers, implication, proposition, successors}
use Rattle.lf_elaboration_answers.specs.Forms.{units_left}
use Rattle.lf_elaboration_answers.specs.Larger.{is_proof_in}

-- ---- Locals

-- p : Prop, h : No p, k : p
abbrev pub refutation : Locals
refutation = record { types = prop ∷ app (at "No") (free 0) ∷ free 0 ∷ []; names = word "p" ∷ word "h" ∷ word "k" ∷ [] }

-- R : Nat → Prop, k : ∀ {n : Nat}, R n → True
abbrev pub of_unknown : Locals
of_unknown = record {
  types = (nat ⟶ prop) ∷ pi (implicit "n") nat (app (free 0) (bound 0) ⟶ at "True") ∷ [];
  names = word "R" ∷ word "k" ∷ [];
}

-- c : ∀ {a : Nat} (f : Nat → Nat), f a = f a
abbrev pub with_inner : Locals
with_inner = record {
  types = pi (implicit "a") nat (pi (explicit "f") (nat ⟶ nat) (nat_equation (app (bound 0) (bound 1)) (app (bound 0) (bound 1)))) ∷ [];
  names = word "c" ∷ [];
}

-- h : ∀ (x y : Nat), g x = x
abbrev pub with_unused : Locals
with_unused = record {
  types = pi (explicit "x") nat (pi (explicit "y") nat (nat_equation (app (at "g") (bound 1)) (bound 1))) ∷ [];
  names = word "h" ∷ [];
}

-- h : ∀ (x : Nat), x = 0
abbrev pub of_any : Locals
of_any = record { types = pi (explicit "x") nat (nat_equation (bound 0) (lit 0)) ∷ []; names = word "h" ∷ [] }

-- h : g 1 = g 0
abbrev pub of_second : Locals
of_second = record { types = nat_equation (app (at "g") (lit 1)) (app (at "g") (lit 0)) ∷ []; names = word "h" ∷ [] }

-- A : Prop, rfl : A
abbrev pub own_rfl : Locals
own_rfl = record { types = prop ∷ free 0 ∷ []; names = word "A" ∷ word "rfl" ∷ [] }

-- f : Nat
abbrev pub hiding : Locals
hiding = record { types = nat ∷ []; names = word "f" ∷ [] }

-- n : Nat, h : n = n
abbrev pub spoken_of : Locals
spoken_of = record { types = nat ∷ nat_equation (free 0) (free 0) ∷ []; names = word "n" ∷ word "h" ∷ [] }

-- x : T
abbrev pub of_other_name : Locals
of_other_name = record { types = at "T" ∷ []; names = word "x" ∷ [] }

-- A : Prop, p q : A
abbrev pub two_proofs : Locals
two_proofs = record { types = prop ∷ free 0 ∷ free 0 ∷ []; names = word "A" ∷ word "p" ∷ word "q" ∷ [] }

-- R : Nat → Prop, a b : ∀ (n : Nat), R n
abbrev pub all_of_r : Term
all_of_r = pi (explicit "n") nat (app (free 0) (bound 0))

abbrev pub two_families : Locals
two_families = record { types = (nat ⟶ prop) ∷ all_of_r ∷ all_of_r ∷ []; names = word "R" ∷ word "a" ∷ word "b" ∷ [] }

-- c : Nat → Nat → Nat, h : ∀ (n : Nat), c n Nat.zero = n
abbrev pub with_zero : Locals
with_zero = record {
  types = (nat ⟶ (nat ⟶ nat)) ∷ pi (explicit "n") nat (nat_equation (two (free 0) (bound 0) nat_zero) (bound 0)) ∷ [];
  names = word "c" ∷ word "h" ∷ [];
}

-- a b : Nat, h : a = b, k : b = b
abbrev pub on_index : Locals
on_index = record {
  types = nat ∷ nat ∷ nat_equation (free 0) (free 1) ∷ nat_equation (free 1) (free 1) ∷ [];
  names = word "a" ∷ word "b" ∷ word "h" ∷ word "k" ∷ [];
}

-- A : Prop, q : ∀ (z : Nat), z = z → z = z → A
abbrev pub of_twice : Locals
of_twice = record {
  types = prop ∷ pi (explicit "z") nat (nat_equation (bound 0) (bound 0) ⟶ (nat_equation (bound 1) (bound 1) ⟶ free 0)) ∷ [];
  names = word "A" ∷ word "q" ∷ [];
}

-- q _ (h : _ = _) (rfl : y = y) at this place
abbrev pub of_outer : ℕ → TermTree
of_outer p = applied (name p "q")
    (hole (p + 2) ∷ typed (name (p + 5) "h") (equals (hole (p + 9)) (hole (p + 13)))
    ∷ typed (name (p + 17) "rfl") (equals (name (p + 23) "y") (name (p + 27) "y")) ∷ [])

-- h : G
abbrev pub by_definition : Locals
by_definition = record { types = at "G" ∷ []; names = word "h" ∷ [] }

-- ---- What runs out

-- Where so many nested calls are allowed.
abbrev pub proved_within : ℕ → Locals → Term → List ItemTree → Answer State Term
proved_within depth L goal is = prove P depth L goal is 10000 fresh

-- The units that 100 leave.
abbrev pub left_of_hundred : Locals → Term → List ItemTree → Option ℕ
left_of_hundred L goal is = units_left (prove P 512 L goal is 100 fresh)

abbrev pub gave_up : {S A : Type 0} → Answer S A → Bool
gave_up (out s) = true
gave_up (done x u s) = false
gave_up (failed m u s) = false
gave_up (need k) = false

-- Nat.succ.inj {m} {n} h
abbrev pub injected : Term
injected = three (const inj_name []) (free 0) (free 1) (free 2)

pub record ItemAnswers : Type 0 where
  -- ---- intro: the pi's kind and the written name
  pub kind_of_pi : value_of (proved proposition (pi (implicit "x") (free 0) (free 0)) (tree.intro 1 (ident 2 "h" ∷ []) ∷ tree.exact 3 (name 4 "h") ∷ []))
      ≡ Some (lam (implicit "h") (free 0) (bound 0))
  -- fun h => (by intro y; exact q _ (h : _ = _) (rfl : y = y) : Nat → A): the type of h would speak of y, which closes
  pub variable_stays : messages_of (elaborated of_twice
      (fun_of 3 (ident 7 "h") (typed (by_items 13 (tree.intro 16 (ident 22 "y" ∷ []) ∷ tree.exact 25 (of_outer 31) ∷ [])) (tree.oper 63 op.Arrow (name 63 "Nat") (name 69 "A"))))
      None) ≡ error_at 7 says.undetermined_placeholder ∷ []
  -- the same with have y : Nat := 1, against A
  pub had_variable_stays : messages_of (elaborated of_twice
      (fun_of 3 (ident 7 "h") (typed (by_items 13 (tree.have_item 16 (ident 21 "y") (name 25 "Nat") (number 32 1) ∷ tree.exact 35 (of_outer 41) ∷ [])) (name 73 "A")))
      None) ≡ error_at 7 says.undetermined_placeholder ∷ []
  -- ---- apply: pis are counted along weak head forms
  pub apply_refutation : is_proof_in refutation (at "C") (tree.apply 1 (name 2 "h") ∷ tree.exact 3 (name 4 "k") ∷ []) ≡ true
  -- what is left of the term's type, at the term
  pub apply_mismatch : error_of (proved implication (at "True") (tree.apply 1 (name 2 "h") ∷ []))
      ≡ Some (error_at 2 (says.type_mismatch (codes "B") (codes "True")))
  -- an implicit one that isn't assigned, and a metavariable of the term itself, which the goal would tell
  pub apply_implicit : error_of (proved of_unknown (at "True") (tree.apply 1 (name 2 "k") ∷ [])) ≡ Some (error_at 2 says.undetermined_placeholder)
  pub apply_inner : error_of
      (proved with_inner (nat_equation (app (at "g") (lit 1)) (app (at "g") (lit 1))) (tree.apply 1 (applied (name 2 "c") (name 4 "g" ∷ [])) ∷ []))
      ≡ Some (error_at 2 says.undetermined_placeholder)
  -- fun (h : _ → A) => (by apply h; sorry : A): a goal with a metavariable, at the item that would prove it
  pub apply_unknown : messages_of (elaborated proposition
      (fun_typed 3 (ident 8 "h") (tree.oper 12 op.Arrow (hole 12) (name 16 "A")) (typed (by_items 24 (tree.apply 27 (name 33 "h") ∷ tree.sorry_item 36 ∷ []))
      (name 44 "A"))) None) ≡ error_at 36 says.undetermined_placeholder ∷ []
  -- ---- rw: the goal is tested first; in `Prop` by its level; what nothing fixes; a metavariable has no place; a later place that unifies
  pub rw_no_proposition : error_of (proved no_locals nat (rw 1 (name 2 "unknown") ∷ [])) ≡ Some (error_at 1 (says.item_fails says.Rw))
  pub rw_under_pi : is_proof equal_numbers (pi (explicit "m") nat (nat_equation (free 0) (free 1)))
      (rw 1 (name 2 "h") ∷ tree.intro 3 (ident 4 "m" ∷ []) ∷ tree.rfl 5 ∷ []) ≡ true
  pub rw_unfixed : error_of (proved with_unused (nat_equation (app (at "g") (lit 1)) (lit 1)) (rw 1 (name 2 "h") ∷ []))
      ≡ Some (error_at 2 says.undetermined_placeholder)
  pub rw_anywhere : error_of (proved of_any (nat_equation (lit 1) (lit 0)) (rw 1 (name 2 "h") ∷ [])) ≡ Some (error_at 1 (says.item_fails says.Rw))
  pub rw_later : is_proof of_second (nat_equation (app (at "g") (lit 0)) (app (at "g") (lit 1))) (rw 1 (name 2 "h") ∷ []) ≡ true
  -- on c 1 0 = c 2 Nat.zero: the first that unifies fixes the left side, which as c 1 Nat.zero stands nowhere
  pub rw_first_alone : error_of (proved with_zero (nat_equation (two (free 0) (lit 1) (lit 0)) (two (free 0) (lit 2) nat_zero)) (rw 1 (name 2 "h") ∷ []))
      ≡ Some (error_at 1 (says.item_fails says.Rw))
  -- a definition that stands for a pi
  pub rw_by_definition : is_proof_in by_definition (nat_equation (app (at "g") (lit 1)) (lit 1)) (rw 1 (name 2 "h") ∷ []) ≡ true
  -- turned: b = a by ← h
  pub rw_turned : is_proof equal_numbers (nat_equation (free 1) (free 0)) (rw_back 1 (name 2 "h") ∷ []) ≡ true
  -- ---- unfold: no definition of the name, and a local that hides it
  pub unfold_unknown : error_of (proved no_locals (at "True") (tree.unfold_item 1 (ident 2 "unknown") ∷ [])) ≡ Some (error_at 1 (says.item_fails says.Unfold))
  pub unfold_hidden : error_of (proved hiding (nat_equation (at "f") (lit 1)) (tree.unfold_item 1 (ident 2 "f") ∷ []))
      ≡ Some (error_at 1 (says.item_fails says.Unfold))
  -- ---- induction: another local may speak of the number; its type is taken in weak head form
  pub spoken_of_stays : is_proof spoken_of (nat_equation (free 0) (free 0)) (tree.induction 1 (ident 2 "n") ∷ block 3 (tree.rfl 4 ∷ [])
      ∷ block 5 (tree.intro 6 (ident 7 "m" ∷ ident 8 "ih" ∷ []) ∷ tree.rfl 9 ∷ []) ∷ []) ≡ true
  pub by_other_name : is_proof_in of_other_name nat (tree.cases 1 (ident 2 "x") ∷ block 3 (tree.exact 4 (number 5 0) ∷ [])
      ∷ block 6 (tree.intro 7 (ident 8 "m" ∷ []) ∷ tree.exact 9 (name 10 "m") ∷ []) ∷ []) ≡ true
  -- on an equation, whose right side is an index: no other local may speak of that
  pub cases_on_equation : is_proof equal_numbers (nat_equation (free 0) (free 1)) (tree.cases 1 (ident 2 "h") ∷ tree.rfl 3 ∷ []) ≡ true
  pub index_spoken_of : error_of (proved on_index (nat_equation (free 0) (free 1)) (tree.cases 1 (ident 2 "h") ∷ tree.rfl 3 ∷ []))
      ≡ Some (error_at 1 (says.item_fails says.Cases))
  -- ---- rfl: proofs of one proposition are equal, which is in `Prop` by its level; rfl goes by its name; assumption takes the latest
  pub proofs_equal : is_proof two_families (three (const (word "Eq") (level_imax one level_zero ∷ [])) all_of_r (free 1) (free 2)) (tree.rfl 1 ∷ []) ≡ true
  pub own_rfl_taken : value_of (proved own_rfl (free 0) (tree.rfl 1 ∷ [])) ≡ Some (free 1)
  pub latest : value_of (proved two_proofs (free 0) (tree.assumption_item 1 ∷ [])) ≡ Some (free 2)
  -- ---- Blocks: nothing may follow the one that proves the goal; what is left unsolved stands at the block's first item
  pub behind_block : error_of (proved no_locals (nat_equation (lit 1) (lit 1)) (block 1 (tree.rfl 2 ∷ []) ∷ tree.rfl 3 ∷ [])) ≡ Some (error_at 3 says.no_goals)
  pub unsolved_in_block : error_of (proved implication (free 0 ⟶ free 0) (block 1 (tree.intro 2 (ident 3 "x" ∷ []) ∷ []) ∷ []))
      ≡ Some (error_at 2 (says.unsolved_goal (codes "A")))
  -- ---- Nesting: what is behind an item isn't in it, and a block is
  pub rest_beside : value_of (proved_within 2 proposition (free 0 ⟶ (free 0 ⟶ free 0))
      (tree.intro 1 (ident 2 "h" ∷ []) ∷ tree.intro 3 (ident 4 "k" ∷ []) ∷ tree.assumption_item 5 ∷ []))
      ≡ Some (lam (explicit "h") (free 0) (lam (explicit "k") (free 0) (bound 0)))
  pub block_within : gave_up (proved_within 2 two_proofs (free 0) (block 1 (tree.assumption_item 2 ∷ []) ∷ [])) ≡ true
  pub block_one_deeper : value_of (proved_within 3 two_proofs (free 0) (block 1 (tree.assumption_item 2 ∷ []) ∷ [])) ≡ Some (free 2)
  -- ---- Units. The item 1, the goal's sort 5, the number's type 1, the recursor's 27, the goal over the number 1, what is behind the motive 21;
  -- then 1 for the first goal, and for the second 5 with the hypothesis and 3 without
  pub induction_costs : left_of_hundred a_number nat (tree.induction 1 (ident 2 "n") ∷ []) ≡ Some 38
  pub cases_cost : left_of_hundred a_number nat (tree.cases 1 (ident 2 "n") ∷ []) ≡ Some 40
  -- the item 1, weak head forms of the hypothesis and its sides 3, the type of Nat.succ.inj 27, and at three arguments 25, 23 and 9
  pub injection_costs : left_of_hundred successors (nat_equation (free 0) (free 1)) (tree.injection 1 (ident 2 "h") ∷ []) ≡ Some 12
  -- ---- injection: the new goal's binder is called `a`
  pub injection_binder : value_of
      (proved successors (nat_equation (free 0) (free 1)) (tree.injection 1 (ident 2 "h") ∷ tree.sorry_item 3 ∷ []))
      ≡ Some (app (app (const (word "sorryAx") (level_imax level_zero level_zero ∷ [])) (nat_equation (free 0) (free 1) ⟶ nat_equation (free 0) (free 1)))
      injected)
