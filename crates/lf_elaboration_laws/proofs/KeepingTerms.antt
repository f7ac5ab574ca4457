-- Applications and each written form: what they do to the state, and what they wait for.
use Rattle.std.proofs.Common.{ℕ, zero, suc, length, Bool, List, [], ◌∷◌, Option, Some, None}
use Rattle.lf_core.specs.Term.{Path, Universe, level_zero, level_succ, Term, letin}
use Rattle.lf_core.specs.Substitution.{instantiate}
use Rattle.lf_name.specs.declared.binder.Binder.{Binder}
use Rattle.lf_rules.specs.Environment.{Context}
use Rattle.lf_text.specs.declared.operator.Op.{Op}
use Rattle.lf_text.specs.declared.operator.Op.TheVariants as op
use Rattle.lf_syntax.specs.declared.leaf.Ident.{Ident}
use Rattle.lf_syntax.specs.Tree as written
use Rattle.lf_syntax.specs.Tree.{TermTree, TermOption, LevelTree, ItemTree}
use Rattle.lf_checker.specs.Whnf.{turn_limit}
use Rattle.lf_elaboration.specs.Forms.{Binding}
use Rattle.lf_elaboration.specs.Part.{Part, Locals, with_local, State, Run, Calls, Typed, Sorted, Trailing, given, closed_over}
use Rattle.lf_elaboration.specs.Run.{◌>>=◌, ◌>>◌, gives, put, made, room}
use Rattle.lf_elaboration.specs.Application.{
  agreed,
  tried,
  Placed,
  Walked,
  Giving,
  to_unify,
  to_resolve,
  to_elaborate,
  giving,
  give_written,
  give,
  step,
  walk,
  argument,
  arguments,
  further,
  after_walk,
  rounds,
  application,
}
use Rattle.lf_elaboration.specs.Terms.{
  OneBinder,
  sort_at,
  as_type,
  expected_pi,
  fits_domain,
  binder_type,
  binder_of,
  explicit,
  lambda_over,
  pi_over,
  opened_codomain,
  hole_term,
  by_block,
  agreed_unless,
  function,
  domain_type,
  pis,
  arrow,
  against,
  in_sort,
  let_value,
  let_in,
  level_or_zero,
  sort_term,
  type_term,
  sort_term_at,
  sorry_term,
  parenthesized,
  Named,
  head,
  applied,
  operator,
  operation,
  elaborate_body,
  all_binders,
}
use Rattle.lf_core.specs.declared.constant.TaskKey.{TaskKey}
use Rattle.lf_extension_laws.proofs.Only.{Reads, only_then, only_spend, only_caught, only_choose, only_put, only_made, only_opening}
use Rattle.lf_elaboration_laws.proofs.Keeping.{
  Leaving,
  Held,
  keeps_then,
  keeps_choose,
  keeps_or_fail,
  keeps_spend,
  keeps_checks,
  keeps_instantiated,
  keeps_instantiated_all,
  keeps_placeholder,
  keeps_fresh_level,
  keeps_ask,
  keeps_hole,
}
use Rattle.lf_elaboration_laws.proofs.KeepingParts.{keeps_level_of, keeps_identifier, keeps_named, KeepingCalls, keeps_unify, keeps_sort_of, keeps_bracket}

ruleset keeps = (
  keeps_then,
  keeps_choose,
  keeps_or_fail,
  keeps_spend,
  keeps_checks,
  keeps_instantiated,
  keeps_instantiated_all,
  keeps_placeholder,
  keeps_fresh_level,
  keeps_ask,
)

-- What is asked of the checker.
ruleset only = (only_then, only_spend, only_caught, only_choose, only_put, only_made, only_opening)

-- What is done behind the body of a `let`.
abbrev let_over : ℕ → Ident → Typed → Typed → Run Typed
let_over n x r b = do
  d ← closed_over n b.term
  B ← closed_over n b.ty
  T ← made (instantiate B r.term)
  t ← put (letin (explicit x.name) r.ty r.term d)
  gives (record { term = t; ty = T })

module _ (Terms Proofs End : State → State → Type 0) (law : Leaving Terms Proofs End) (Key : TaskKey → Type 0) (P : Part) (reads : Reads P.view Key)
    (c : Calls) (k : KeepingCalls Terms Proofs End Key c) where
  -- ---- Applications

  keeps_agreed : (L : Locals) (at : ℕ) (A : Term) (E : Option Term) (u : ℕ) (w : State)
      → Held Terms End Key w (agreed P c L at A E u w)
  keeps_agreed L at A None u w = law.terms.same w
  keeps_agreed L at A (Some E) u w =
      search (keeps, only, law.terms, law.terms.same, law.terms.ends, keeps_unify Terms End law.terms Key P c k.check k.unify) depth 12

  keeps_tried : (L : Locals) (A : Term) (E : Option Term) (u : ℕ) (w : State) → Held Terms End Key w (tried c L A E u w)
  keeps_tried L A None u w = law.terms.same w
  keeps_tried L A (Some E) u w =
      search (keeps, only, law.terms, law.terms.same, law.terms.ends, keeps_unify Terms End law.terms Key P c k.check k.unify) depth 12

  keeps_give : (L : Locals) (at : ℕ) (f : Walked → Run Walked) → ((v : Walked) (u : ℕ) (w : State) → Held Terms End Key w (f v u w))
      → (v : Walked) (p : Binding)
      (k : Giving) (u : ℕ) (w : State) → Held Terms End Key w (give L at f v p k u w)
  keeps_give L at f h v p to_unify u w = search (keeps, only, law.terms, law.terms.same, law.terms.ends, keeps_hole Terms Proofs End law Key, h) depth 16
  keeps_give L at f h v p to_resolve u w = search (keeps, only, law.terms, law.terms.same, law.terms.ends, keeps_hole Terms Proofs End law Key, h) depth 16
  keeps_give L at f h v p to_elaborate u w = by v.unplaced
    where
      by : (ss : List TermTree) → Held Terms End Key w (give_written L at f v p ss u w)
      by [] = law.terms.same w
      by (s ∷ ss) = search (keeps, only, law.terms, law.terms.same, law.terms.ends, keeps_hole Terms Proofs End law Key, h) depth 16

  keeps_step : (L : Locals) (at : ℕ) (s : Bool) (f : Walked → Run Walked) → ((v : Walked) (u : ℕ) (w : State) → Held Terms End Key w (f v u w)) → (v : Walked)
      (p : Option Binding) (u : ℕ) (w : State) → Held Terms End Key w (step L at s f v p u w)
  keeps_step L at s f h v None u w = law.terms.same w
  keeps_step L at s f h v (Some p) u w = keeps_give L at f h v p (giving s p.binder.kind) u w

  keeps_walk : (L : Locals) (at : ℕ) (s : Bool) (t : Trailing) (n : ℕ) (v : Walked) (u : ℕ) (w : State)
      → Held Terms End Key w (walk c L at s t n v u w)
  keeps_walk L at s t zero v u w = law.terms.ends w w (law.terms.same w)
  keeps_walk L at s t (suc n) v u w =
      search (keeps, only, law.terms, law.terms.same, law.terms.ends, k.check.whnf, keeps_step L at s (walk c L at s t n) (keeps_walk L at s t n)) depth 18

  keeps_argument : (L : Locals) (x : Placed) (u : ℕ) (w : State) → Held Terms End Key w (argument P c L x u w)
  keeps_argument L x u w =
      search (keeps, only, law.terms, law.terms.same, law.terms.ends, keeps_unify Terms End law.terms Key P c k.check k.unify, k.elaborate) depth 18

  keeps_arguments : (L : Locals) (xs : List Placed) (u : ℕ) (w : State) → Held Terms End Key w (arguments P c L xs u w)
  keeps_arguments L [] u w = law.terms.same w
  keeps_arguments L (x ∷ xs) u w = search (keeps, only, law.terms, law.terms.same, law.terms.ends, keeps_argument, keeps_arguments L xs) depth 14

  keeps_further : (L : Locals) (at : ℕ) (f : Walked → Run Walked) → ((v : Walked) (u : ℕ) (w : State) → Held Terms End Key w (f v u w)) → (v : Walked)
      (xs : List Placed) (u : ℕ) (w : State) → Held Terms End Key w (further P c L at f v xs u w)
  keeps_further L at f h v [] u w = search (keeps, only, law.terms, law.terms.same, law.terms.ends) depth 12
  keeps_further L at f h v (x ∷ xs) u w = search (keeps, only, law.terms, law.terms.same, law.terms.ends, keeps_arguments, h) depth 14

  keeps_after_walk : (L : Locals) (at : ℕ) (E : Option Term) (f : Walked → Run Walked) → ((v : Walked) (u : ℕ) (w : State) → Held Terms End Key w (f v u w))
      → (v : Walked) (ss : List TermTree) (u : ℕ) (w : State)
      → Held Terms End Key w (after_walk P c L at E f v ss u w)
  keeps_after_walk L at E f h v [] u w = search (keeps, only, law.terms, law.terms.same, law.terms.ends, keeps_tried, keeps_arguments) depth 16
  keeps_after_walk L at E f h v (s ∷ ss) u w = keeps_further L at f h v v.placed u w

  keeps_rounds : (L : Locals) (at : ℕ) (s : Bool) (t : Trailing) (E : Option Term) (n : ℕ) (v : Walked) (u : ℕ) (w : State)
      → Held Terms End Key w (rounds P c L at s t E n v u w)
  keeps_rounds L at s t E zero v u w = law.terms.ends w w (law.terms.same w)
  keeps_rounds L at s t E (suc n) v u w =
      keeps_then Terms End Key law.terms w (walk c L at s t turn_limit v u w) _ (keeps_walk L at s t turn_limit v u w)
      (λ x y z. keeps_after_walk L at E (rounds P c L at s t E n) (keeps_rounds L at s t E n) x x.unplaced y z)

  pub keeps_application : (L : Locals) (at : ℕ) (s : Bool) (t : Trailing) (h : Typed) (ss : List TermTree) (E : Option Term) (u : ℕ) (w : State)
      → Held Terms End Key w (application P c L at s t h ss E u w)
  keeps_application L at s t h ss E u w = search (keeps, only, law.terms, law.terms.same, law.terms.ends, keeps_rounds, keeps_agreed) depth 16

  -- ---- Types

  keeps_sort_at : (L : Locals) (at : ℕ) (T W : Term) (o : Option Universe) (m : Option ℕ) (u : ℕ) (w : State)
      → Held Terms End Key w (sort_at P c L at T W o m u w)
  keeps_sort_at L at T W (Some l) m u w = law.terms.same w
  keeps_sort_at L at T W None (Some m) u w =
      search (keeps, only, law.terms, law.terms.same, law.terms.ends, keeps_unify Terms End law.terms Key P c k.check k.unify) depth 16
  keeps_sort_at L at T W None None u w = search (keeps, only, law.terms, law.terms.same, law.terms.ends) depth 12

  pub keeps_as_type : (L : Locals) (s : TermTree) (u : ℕ) (w : State) → Held Terms End Key w (as_type P c L s u w)
  keeps_as_type L s u w = search (keeps, only, law.terms, law.terms.same, law.terms.ends, k.check.whnf, keeps_sort_at, k.elaborate) depth 20

  -- ---- Binders

  keeps_expected : (L : Locals) (E : Option Term) (u : ℕ) (w : State) → Held Terms End Key w (expected_pi c L E u w)
  keeps_expected L None u w = law.terms.same w
  keeps_expected L (Some E) u w = search (keeps, only, law.terms, law.terms.same, law.terms.ends, k.check.whnf) depth 14

  keeps_fits_domain : (L : Locals) (at : ℕ) (A : Term) (p : Option Binding) (u : ℕ) (w : State)
      → Held Terms End Key w (fits_domain P c L at A p u w)
  keeps_fits_domain L at A None u w = law.terms.same w
  keeps_fits_domain L at A (Some p) u w =
      search (keeps, only, law.terms, law.terms.same, law.terms.ends, keeps_unify Terms End law.terms Key P c k.check k.unify) depth 14

  keeps_binder_type : (L : Locals) (at : ℕ) (b : OneBinder) (o : Option TermTree) (p : Option Binding) (u : ℕ) (w : State)
      → Held Terms End Key w (binder_type P c L at b o p u w)
  keeps_binder_type L at b (Some s) p u w = search (keeps, only, law.terms, law.terms.same, law.terms.ends, keeps_as_type, keeps_fits_domain) depth 14
  keeps_binder_type L at b None (Some p) u w = law.terms.same w
  keeps_binder_type L at b None None u w = search (keeps, only, law.terms, law.terms.same, law.terms.ends) depth 14

  keeps_unless : (p : Option Binding) (m : Run (Unit {0})) (u : ℕ) (w : State) → Held Terms End Key w (m u w) → Held Terms End Key w (agreed_unless p m u w)
  keeps_unless None m u w h = h
  keeps_unless (Some p) m u w h = law.terms.same w

  keeps_opened : (C : Context) (p : Option Binding) (u : ℕ) (w : State) → Held Terms End Key w (opened_codomain C p u w)
  keeps_opened C None u w = search (keeps, only, law.terms, law.terms.same, law.terms.ends) depth 12
  keeps_opened C (Some p) u w = search (keeps, only, law.terms, law.terms.same, law.terms.ends) depth 12

  keeps_lambda : (L : Locals) (at : ℕ) (b : OneBinder) (A : Term) (p : Option Binding) (E : Option Term) (r : Typed) (u : ℕ) (w : State)
      → Held Terms End Key w ((lambda_over (length L.types) (binder_of b) A r >>= (λ f. agreed_unless p (agreed P c L at f.ty E) >> gives f)) u w)
  keeps_lambda L at b A p E r u w = search (keeps, only, law.terms, law.terms.same, law.terms.ends, keeps_unless, keeps_agreed) depth 24

  keeps_room : (C : Context) (u : ℕ) (w : State) → Held Terms End Key w (room C u w)
  keeps_room C u w = search (keeps, only, law.terms, law.terms.same, law.terms.ends) depth 8

  keeps_function : (at : ℕ) (s : TermTree) (L : Locals) (bs : List OneBinder) (E : Option Term) (u : ℕ) (w : State)
      → Held Terms End Key w (function P c at s L bs E u w)
  keeps_function at s L [] E u w = search (k.elaborate)
  keeps_function at s L (b ∷ bs) E u w =
      keeps_then Terms End Key law.terms w (expected_pi c L E u w) _ (keeps_expected L E u w) λ p u1 w1.
      keeps_then Terms End Key law.terms w1 (binder_type P c L at b b.ty p u1 w1) _ (keeps_binder_type L at b b.ty p u1 w1) λ A u2 w2.
      keeps_then Terms End Key law.terms w2 (opened_codomain L.types p u2 w2) _ (keeps_opened L.types p u2 w2) λ B u3 w3.
      keeps_bracket Terms Proofs End law Key P c k (with_local L b.name.name A) (length L.types) w3
      (function P c at s (with_local L b.name.name A) bs B u3 w3)
      (λ r. lambda_over (length L.types) (binder_of b) A r >>= (λ f. agreed_unless p (agreed P c L at f.ty E) >> gives f))
      (keeps_function at s (with_local L b.name.name A) bs B u3 w3) (λ r v z. keeps_lambda L at b A p E r v z)

  keeps_domain_type : (L : Locals) (b : OneBinder) (o : Option TermTree) (u : ℕ) (w : State)
      → Held Terms End Key w (domain_type P c L b o u w)
  keeps_domain_type L b (Some s) u w = keeps_as_type L s u w
  keeps_domain_type L b None u w = search (keeps, only, law.terms, law.terms.same, law.terms.ends) depth 14

  keeps_pi_over : (n : ℕ) (x : Binder) (A B : Sorted) (u : ℕ) (w : State) → Held Terms End Key w (pi_over n x A B u w)
  keeps_pi_over n x A B u w = search (keeps, only, law.terms, law.terms.same, law.terms.ends) depth 14

  keeps_pis : (s : TermTree) (L : Locals) (bs : List OneBinder) (u : ℕ) (w : State)
      → Held Terms End Key w (pis P c s L bs u w)
  keeps_pis s L [] u w = keeps_as_type L s u w
  keeps_pis s L (b ∷ bs) u w =
      keeps_then Terms End Key law.terms w (domain_type P c L b b.ty u w) _ (keeps_domain_type L b b.ty u w) λ A u1 w1.
      keeps_then Terms End Key law.terms w1 (room L.types u1 w1) _ (keeps_room L.types u1 w1) λ x u2 w2.
      keeps_bracket Terms Proofs End law Key P c k (with_local L b.name.name A.term) (length L.types) w2
      (pis P c s (with_local L b.name.name A.term) bs u2 w2) (λ B. pi_over (length L.types) (binder_of b) A B)
      (keeps_pis s (with_local L b.name.name A.term) bs u2 w2) (λ B v z. keeps_pi_over (length L.types) (binder_of b) A B v z)

  keeps_arrow : (L : Locals) (l r : TermTree) (u : ℕ) (w : State) → Held Terms End Key w (arrow P c L l r u w)
  keeps_arrow L l r u w = search (keeps, only, law.terms, law.terms.same, law.terms.ends, keeps_as_type) depth 18

  keeps_against : (L : Locals) (at : ℕ) (E : Option Term) (t A : Term) (u : ℕ) (w : State)
      → Held Terms End Key w (against P c L at E t A u w)
  keeps_against L at E t A u w = search (keeps, only, law.terms, law.terms.same, law.terms.ends, keeps_agreed) depth 12

  keeps_in_sort : (L : Locals) (at : ℕ) (E : Option Term) (m : Run Sorted) (u : ℕ) (w : State) → Held Terms End Key w (m u w)
      → Held Terms End Key w (in_sort P c L at E m u w)
  keeps_in_sort L at E m u w h = search (keeps, only, law.terms, law.terms.same, law.terms.ends, h, keeps_against) depth 14

  -- ---- `let`

  keeps_let_value : (L : Locals) (o : TermOption) (v : TermTree) (u : ℕ) (w : State)
      → Held Terms End Key w (let_value P c L o v u w)
  keeps_let_value L written.no_term v u w = search (k.elaborate)
  keeps_let_value L (written.some_term s) v u w = search (keeps, only, law.terms, law.terms.same, law.terms.ends, keeps_as_type, k.elaborate) depth 16

  keeps_let_over : (n : ℕ) (x : Ident) (r b : Typed) (u : ℕ) (w : State) → Held Terms End Key w (let_over n x r b u w)
  keeps_let_over n x r b u w = search (keeps, only, law.terms, law.terms.same, law.terms.ends) depth 20

  keeps_let : (L : Locals) (x : Ident) (o : TermOption) (v s : TermTree) (E : Option Term) (u : ℕ) (w : State)
      → Held Terms End Key w (let_in P c L x o v s E u w)
  keeps_let L x o v s E u w =
      keeps_then Terms End Key law.terms w (let_value P c L o v u w) _ (keeps_let_value L o v u w) λ r u1 w1.
      keeps_then Terms End Key law.terms w1 (room L.types u1 w1) _ (keeps_room L.types u1 w1) λ y u2 w2.
      keeps_bracket Terms Proofs End law Key P c k (with_local L x.name r.ty) (length L.types) w2
      (c.elaborate given (with_local L x.name r.ty) s E u2 w2) (let_over (length L.types) x r) (k.elaborate given (with_local L x.name r.ty) s E u2 w2)
      (λ b q z. keeps_let_over (length L.types) x r b q z)

  -- ---- Sorts, `sorry`, parentheses

  keeps_sort_term : (L : Locals) (at : ℕ) (E : Option Term) (l : Universe) (u : ℕ) (w : State)
      → Held Terms End Key w (sort_term P c L at E l u w)
  keeps_sort_term L at E l u w = search (keeps, only, law.terms, law.terms.same, law.terms.ends, keeps_in_sort) depth 12

  keeps_level_or_zero : (names : List Path) (l : Option LevelTree) (u : ℕ) (w : State) → Held Terms End Key w (level_or_zero names l u w)
  keeps_level_or_zero names None u w = law.terms.same w
  keeps_level_or_zero names (Some l) u w = keeps_level_of Terms End law.terms Key names l u w

  keeps_type_term : (L : Locals) (at : ℕ) (E : Option Term) (l : Option LevelTree) (u : ℕ) (w : State)
      → Held Terms End Key w (type_term P c L at E l u w)
  keeps_type_term L at E l u w =
      keeps_then Terms End Key law.terms w (level_or_zero P.levels l u w) _ (keeps_level_or_zero P.levels l u w)
      (λ k v z. keeps_sort_term L at E (level_succ k) v z)

  keeps_sort_term_at : (L : Locals) (at : ℕ) (E : Option Term) (l : Option LevelTree) (u : ℕ) (w : State)
      → Held Terms End Key w (sort_term_at P c L at E l u w)
  keeps_sort_term_at L at E l u w =
      keeps_then Terms End Key law.terms w (level_or_zero P.levels l u w) _ (keeps_level_or_zero P.levels l u w)
      (λ k v z. keeps_sort_term L at E k v z)

  keeps_sorry : (L : Locals) (at : ℕ) (E : Option Term) (u : ℕ) (w : State)
      → Held Terms End Key w (sorry_term P c L at E u w)
  keeps_sorry L at (Some E) u w =
      search (keeps, only, law.terms, law.terms.same, law.terms.ends, keeps_sort_of Terms End law.terms Key P c k.check k.unify) depth 16
  keeps_sorry L at None u w = search (keeps, only, law.terms, law.terms.same, law.terms.ends) depth 16

  keeps_parenthesized : (t : Trailing) (L : Locals) (at : ℕ) (s : TermTree) (o : TermOption) (E : Option Term) (u : ℕ) (w : State)
      → Held Terms End Key w (parenthesized P c t L at s o E u w)
  keeps_parenthesized t L at s written.no_term E u w = search (k.elaborate)
  keeps_parenthesized t L at s (written.some_term y) E u w =
      search (keeps, only, law.terms, law.terms.same, law.terms.ends, keeps_as_type, k.elaborate, keeps_against) depth 18

  -- ---- Identifiers and operators

  keeps_head : (L : Locals) (h : TermTree) (o : Option Named) (u : ℕ) (w : State) → Held Terms End Key w (head P c L h o u w)
  keeps_head L h (Some f) u w = keeps_identifier Terms End law.terms Key P reads L f.name f.levels u w
  keeps_head L h None u w = search (k.elaborate)

  keeps_applied : (t : Trailing) (L : Locals) (at : ℕ) (h : TermTree) (ss : List TermTree) (E : Option Term) (u : ℕ) (w : State)
      → Held Terms End Key w (applied P c t L at h ss E u w)
  keeps_applied t L at h ss E u w = search (keeps, only, law.terms, law.terms.same, law.terms.ends, keeps_head, keeps_application) depth 14

  keeps_operator : (t : Trailing) (L : Locals) (at : ℕ) (n : Path) (ss : List TermTree) (E : Option Term) (u : ℕ) (w : State)
      → Held Terms End Key w (operator P c t L at n ss E u w)
  keeps_operator t L at n ss E u w =
      search (keeps, only, law.terms, law.terms.same, law.terms.ends, keeps_named Terms End law.terms Key P reads, keeps_application) depth 14

  keeps_operation : (t : Trailing) (L : Locals) (at : ℕ) (o : Op) (l r : TermTree) (E : Option Term) (u : ℕ) (w : State)
      → Held Terms End Key w (operation P c t L at o l r E u w)
  keeps_operation t L at op.Arrow l r E u w = search (keeps_in_sort, keeps_arrow)
  keeps_operation t L at op.Iff l r E u w = search (keeps_operator)
  keeps_operation t L at op.Or l r E u w = search (keeps_operator)
  keeps_operation t L at op.And l r E u w = search (keeps_operator)
  keeps_operation t L at op.Eq l r E u w = search (keeps_operator)
  keeps_operation t L at op.Ne l r E u w = search (keeps_operator)
  keeps_operation t L at op.Add l r E u w = search (keeps_operator)
  keeps_operation t L at op.Sub l r E u w = search (keeps_operator)
  keeps_operation t L at op.Mul l r E u w = search (keeps_operator)
  keeps_operation t L at op.Div l r E u w = search (keeps_operator)
  keeps_operation t L at op.Mod l r E u w = search (keeps_operator)

  keeps_hole_term : (L : Locals) (at : ℕ) (E : Option Term) (u : ℕ) (w : State) → Held Terms End Key w (hole_term L at E u w)
  keeps_hole_term L at (Some E) u w = search (keeps, only, law.terms, law.terms.same, law.terms.ends, keeps_hole Terms Proofs End law Key) depth 14
  keeps_hole_term L at None u w = search (keeps, only, law.terms, law.terms.same, law.terms.ends, keeps_hole Terms Proofs End law Key) depth 18

  keeps_by_block : (L : Locals) (at : ℕ) (is : List ItemTree) (E : Option Term) (u : ℕ) (w : State) → Held Terms End Key w (by_block L at is E u w)
  keeps_by_block L at is (Some E) u w = search (keeps, only, law.terms, law.terms.same, law.terms.ends, keeps_hole Terms Proofs End law Key) depth 14
  keeps_by_block L at is None u w = law.terms.ends w w (law.terms.same w)

  pub keeps_elaborate : (t : Trailing) (L : Locals) (s : TermTree) (E : Option Term) (u : ℕ) (w : State)
      → Held Terms End Key w (elaborate_body P c t L s E u w)
  unfolding elaborate_body
  keeps_elaborate t L (written.ident at x y ls) E u w = keeps_applied t L at (written.ident at x y ls) [] E u w
  keeps_elaborate t L (written.app at h ss) E u w = keeps_applied t L at h _ E u w
  keeps_elaborate t L (written.oper at o l r) E u w = keeps_operation t L at o l r E u w
  keeps_elaborate t L (written.not_term at s) E u w = keeps_operator t L at _ (s ∷ []) E u w
  keeps_elaborate t L (written.fun_term at bs s) E u w = keeps_function at s L (all_binders bs) E u w
  keeps_elaborate t L (written.forall_term at bs s) E u w = search (keeps_in_sort, keeps_pis)
  keeps_elaborate t L (written.arrow at b s) E u w = search (keeps_in_sort, keeps_pis)
  keeps_elaborate t L (written.let_term at x y v s) E u w = keeps_let L x y v s E u w
  keeps_elaborate t L (written.hole at) E u w = keeps_hole_term L at E u w
  keeps_elaborate t L (written.by_term at is) E u w = keeps_by_block L at _ E u w
  keeps_elaborate t L (written.sorry_term at) E u w = keeps_sorry L at E u w
  keeps_elaborate t L (written.numeral n) E u w = keeps_against L n.at E _ _ u w
  keeps_elaborate t L (written.paren at s y) E u w = keeps_parenthesized t L at s y E u w
  keeps_elaborate t L (written.prop at) E u w = keeps_sort_term L at E level_zero u w
  keeps_elaborate t L (written.type_u at l) E u w = keeps_type_term L at E l u w
  keeps_elaborate t L (written.sort_u at l) E u w = keeps_sort_term_at L at E l u w
