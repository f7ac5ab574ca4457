-- Answers where the rules leave little room: what is assigned, what an error says and where, and the terms that items make.
use Rattle.std.specs.Prelude.{◌≡◌, Bool, true, false, Option, Some, None, [], ◌∷◌, ◌++◌, codes}
use Rattle.lf_core.specs.Term.{Universe, level_zero, level_max, level_imax, level_meta, Term, bound, free, meta, sort, const, app, lam, pi, lit}
use Rattle.lf_core.specs.Spine.{apply}
use Rattle.lf_core.specs.declared.constant.ConstInfo.{ConstInfo}
use Rattle.lf_core.specs.declared.constant.ConstKind.TheVariants.{Def}
use Rattle.lf_core.specs.declared.constant.Detail.TheVariants.{Plain}
use Rattle.lf_rules.specs.Environment.{nat_zero}
use Rattle.lf_syntax.specs.Tree as tree
use Rattle.lf_syntax.specs.Tree.{TermTree}
use Rattle.lf_checker.specs.View.{View, base_view}
use Rattle.lf_elaboration.specs.declared.change.Change.TheVariants.{Made, LevelMade}
use Rattle.lf_elaboration.specs.Metavariables.{Changes, put_in}
use Rattle.lf_elaboration.specs.Messages as says
use Rattle.lf_elaboration.specs.Messages.{Message, error_at}
use Rattle.lf_elaboration.specs.Run.{Answer, done, failed, out, need}
use Rattle.lf_elaboration.specs.Unifier.{unify}
use Rattle.lf_elaboration.specs.Part.{Part, Locals}
use Rattle.lf_elaboration.specs.Elaboration.{elaborate}
use Rattle.lf_examples.specs.Words.{text, word, dotted, explicit, two, prop, type, one, at, ◌⟶◌}
use Rattle.lf_examples.specs.Declarations.{nat}
use Rattle.lf_elaboration_answers.specs.Base.{base, constant, V, P, no_locals, fresh, nat_equation}
use Rattle.lf_elaboration_answers.specs.Written.{ident, name, number, applied, typed, by_items, fun_of_two, fun_typed, rw, block}
use Rattle.lf_elaboration_answers.specs.Worked.{value_of, error_of, then_is, elaborated, proved, is_proof, a_number, sorry_at}

-- ---- A base with a type by another name, and with addition

-- def T : Type := Nat
abbrev pub t_info : ConstInfo
t_info = record { name = word "T"; kind = Def; levels = []; ty = type; value = Some nat; height = 1; detail = Plain }

abbrev pub W : View
W = base_view (base ++ t_info ∷ constant (dotted "Nat" "add") (nat ⟶ (nat ⟶ nat)) ∷ [])

abbrev pub Q : Part
Q = record P { view = W }

abbrev pub add : Term → Term → Term
add m n = two (const (dotted "Nat" "add") []) m n

-- ---- Metavariables

-- ?0 : (x : Nat) → Nat, for no locals
abbrev pub a_function : Changes
a_function = Made (pi (explicit "x") nat nat) 0 0 ∷ []

-- ?0 : Nat
abbrev pub a_term : Changes
a_term = Made nat 0 0 ∷ []

-- two metavariables of levels
abbrev pub two_levels : Changes
two_levels = LevelMade ∷ LevelMade ∷ []

-- Whether they unify, and what the first metavariable of levels then is.
abbrev pub level_is : Answer Changes Bool → Option (Bool × Term)
level_is (done b u cs) = Some (b, put_in cs (sort (level_meta 0)))
level_is (failed m u cs) = None
level_is (out cs) = None
level_is (need k) = None

abbrev pub levels_unify : Universe → Universe → Option (Bool × Term)
levels_unify l m = level_is (unify V 512 [] (sort l) (sort m) 100 two_levels)

-- ---- Locals

-- h : g Nat.zero = 1
abbrev pub zero_spelled : Locals
zero_spelled = record { types = nat_equation (app (at "g") nat_zero) (lit 1) ∷ []; names = word "h" ∷ [] }

-- x : T
abbrev pub of_other_name : Locals
of_other_name = record { types = at "T" ∷ []; names = word "x" ∷ [] }

-- R : Nat → Prop, q : ∀ (n : Nat), R n
abbrev pub predicate : Locals
predicate = record { types = (nat ⟶ prop) ∷ pi (explicit "n") nat (app (free 0) (bound 0)) ∷ []; names = word "R" ∷ word "q" ∷ [] }

-- A : Prop, h : ∀ (x : Nat), x = 1 → A
abbrev pub dependent : Locals
dependent = record { types = prop ∷ pi (explicit "x") nat (nat_equation (bound 0) (lit 1) ⟶ free 0) ∷ []; names = word "A" ∷ word "h" ∷ [] }

pub record SettledAnswers : Type 0 where
  -- ?0 x with g x: the abstraction has the binder of the metavariable's type
  pub abstraction : then_is (unify V 512 (nat ∷ []) (app (meta 0) (free 0)) (app (at "g") (free 0)) 1000 a_function)
      ≡ Some (true, Some (lam (explicit "x") nat (app (at "g") (bound 0))))
  -- a lambda with another term, which is applied to the variable
  pub lambda : then_is (unify V 512 [] (lam (explicit "y") nat (app (meta 0) (bound 0))) (at "g") 1000 a_function)
      ≡ Some (true, Some (lam (explicit "x") nat (app (at "g") (bound 0))))
  -- 0 + 3 is a literal before the arguments are compared, so it isn't 0 + ?0
  pub literals_first : then_is (unify W 512 [] (add (lit 0) (lit 3)) (add (lit 0) (meta 0)) 1000 a_term) ≡ Some (false, Some (meta 0))
  -- levels: the left one is assigned; the tree as it is; maxima by their parts alone
  pub left_level : levels_unify (level_meta 0) (level_meta 1) ≡ Some (true, sort (level_meta 1))
  pub same_level : levels_unify (level_meta 0) (level_meta 0) ≡ Some (true, sort (level_meta 0))
  pub level_tree : levels_unify (level_meta 0) (level_imax one level_zero) ≡ Some (true, sort (level_imax one level_zero))
  pub maximum : levels_unify (level_max (level_meta 0) one) one ≡ Some (false, sort (level_meta 0))
  -- rw: g Nat.zero unifies with g 0, but no subterm is the same tree
  pub rw_by_tree : error_of (proved zero_spelled (nat_equation (app (at "g") (lit 0)) (lit 1)) (rw 1 (name 2 "h") ∷ []))
      ≡ Some (error_at 1 (says.item_fails says.Rw))
  -- the term that cases makes
  pub cases_term : value_of (proved a_number nat (tree.cases 1 (ident 2 "n") ∷ block 3 (tree.exact 4 (number 5 0) ∷ [])
      ∷ block 6 (tree.intro 7 (ident 8 "m" ∷ []) ∷ tree.exact 9 (name 10 "m") ∷ []) ∷ []))
      ≡ Some (apply (const (dotted "Nat" "rec") (one ∷ [])) (lam (explicit "t") nat nat ∷ lit 0
      ∷ lam (explicit "n") nat (lam (explicit "n_ih") nat (app (lam (explicit "m") nat (bound 0)) (bound 1))) ∷ free 0 ∷ []))
  -- ∀ (m : Nat), m = m by cases on another number: the goal's own pi is none of the constructor's binders
  pub cases_on_pi : is_proof a_number (pi (explicit "m") nat (nat_equation (bound 0) (bound 0)))
      (tree.cases 1 (ident 2 "n") ∷ block 3 (tree.intro 4 (ident 5 "m" ∷ []) ∷ tree.rfl 6 ∷ [])
      ∷ block 7 (tree.intro 8 (ident 9 "k" ∷ ident 10 "m" ∷ []) ∷ tree.rfl 11 ∷ []) ∷ []) ≡ true
  -- apply h, whose second goal speaks of what proves the first
  pub goals_in_order : is_proof dependent (free 0) (tree.apply 1 (name 2 "h") ∷ block 3 (tree.exact 4 (number 5 1) ∷ []) ∷ block 6 (tree.rfl 7 ∷ []) ∷ [])
      ≡ true
  -- (fun (x : Bool) => x) against Nat → Nat
  pub written_type : error_of (elaborated no_locals (fun_typed 8 (ident 13 "x") (name 17 "Bool") (name 26 "x")) (Some (nat ⟶ nat)))
      ≡ Some (error_at 8 (says.type_mismatch (codes "Bool") (codes "Nat")))
  -- fun x y => 1 against Nat → Nat
  pub one_binder_more : error_of (elaborated no_locals (fun_of_two 7 (ident 11 "x") (ident 13 "y") (number 18 1)) (Some (nat ⟶ nat)))
      ≡ Some (error_at 7 (says.type_mismatch (text "? → Nat") (codes "Nat")))
  -- x 1, and x as a type, where x : T
  pub no_function_by_name : error_of (elaborate Q 512 of_other_name (applied (name 3 "x") (number 5 1 ∷ [])) None 10000 fresh)
      ≡ Some (error_at 3 (says.function_expected (codes "T")))
  pub no_type_by_name : error_of (elaborate Q 512 of_other_name (typed (number 4 1) (name 8 "x")) None 10000 fresh)
      ≡ Some (error_at 8 (says.type_expected (codes "T")))
  -- sorry is at the level of its type's sort
  pub sorry_proof : value_of (elaborated no_locals (tree.sorry_term 3) (Some (at "True"))) ≡ Some (sorry_at (at "True"))
  pub sorry_number : value_of (elaborated no_locals (tree.sorry_term 3) (Some nat)) ≡ Some (app (const (word "sorryAx") (one ∷ [])) nat)
  -- q (by exact 4) against R 3, which is known before the block runs
  pub block_too_late : error_of
      (elaborated predicate (applied (name 20 "q") (by_items 23 (tree.exact 26 (number 32 4) ∷ []) ∷ [])) (Some (app (free 0) (lit 3))))
      ≡ Some (error_at 23 (says.type_mismatch (codes "Nat") (codes "Nat")))
