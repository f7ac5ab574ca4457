-- The extension law of applications and of each written form.
use Rattle.std.proofs.Common.{ℕ, zero, suc, Bool, List, [], ◌∷◌, Option, Some, None, refl}
use Rattle.lf_core.specs.Term.{Path, Universe, level_zero, level_succ, Term}
use Rattle.lf_text.specs.declared.operator.Op.{Op}
use Rattle.lf_text.specs.declared.operator.Op.TheVariants as op
use Rattle.lf_syntax.specs.declared.leaf.Ident.{Ident}
use Rattle.lf_syntax.specs.Tree as written
use Rattle.lf_syntax.specs.Tree.{TermTree, TermOption, LevelTree, place}
use Rattle.lf_checker.specs.Whnf.{turn_limit}
use Rattle.lf_elaboration.specs.Forms.{Binding}
use Rattle.lf_elaboration.specs.Part.{Locals, State, Run, Typed, Sorted, Trailing}
use Rattle.lf_elaboration.specs.Application.{
  agreed,
  tried,
  Placed,
  Walked,
  Giving,
  to_unify,
  to_resolve,
  to_elaborate,
  giving,
  give_written,
  give,
  step,
  walk,
  argument,
  arguments,
  further,
  after_walk,
  rounds,
  application,
}
use Rattle.lf_elaboration.specs.Terms.{
  OneBinder,
  sort_at,
  as_type,
  expected_pi,
  fits_domain,
  binder_type,
  agreed_unless,
  function,
  domain_type,
  pis,
  arrow,
  against,
  in_sort,
  let_value,
  let_in,
  level_or_zero,
  sort_term,
  type_term,
  sort_term_at,
  sorry_term,
  parenthesized,
  Named,
  head,
  applied,
  operator,
  operation,
  elaborate_body,
  all_binders,
}
use Rattle.lf_elaboration_laws.specs.Extension.{Kept}
use Rattle.lf_elaboration_laws.proofs.Kept.{kept_self, kept_then, kept_choose, kept_or_fail, kept_spend}
use Rattle.lf_elaboration_laws.proofs.Parts.{
  Setting,
  larger,
  kept_unify,
  kept_whnf,
  kept_sort_of,
  kept_identifier,
  kept_named,
  kept_close_binder,
}

ruleset kept = (kept_self, kept_then, kept_choose, kept_or_fail, kept_spend)

module _ (e : Setting) where
  -- ---- Applications

  kept_agreed : (L : Locals) (at : ℕ) (A : Term) (E : Option Term) (u : ℕ) (w : State)
      → Kept (agreed e.part e.left L at A E u w) (agreed (larger e) e.right L at A E u w)
  kept_agreed L at A None u w = refl
  kept_agreed L at A (Some E) u w = search (kept, kept_unify e) depth 8

  kept_tried : (L : Locals) (A : Term) (E : Option Term) (u : ℕ) (w : State) → Kept (tried e.left L A E u w) (tried e.right L A E u w)
  kept_tried L A None u w = refl
  kept_tried L A (Some E) u w = search (kept, kept_unify e) depth 8

  kept_give : (L : Locals) (at : ℕ) (f g : Walked → Run Walked) → ((v : Walked) (u : ℕ) (w : State) → Kept (f v u w) (g v u w)) → (v : Walked) (p : Binding)
      (k : Giving) (u : ℕ) (w : State) → Kept (give L at f v p k u w) (give L at g v p k u w)
  kept_give L at f g h v p to_unify u w = search (kept, h) depth 12
  kept_give L at f g h v p to_resolve u w = search (kept, h) depth 12
  kept_give L at f g h v p to_elaborate u w = by v.unplaced
    where
      by : (ss : List TermTree) → Kept (give_written L at f v p ss u w) (give_written L at g v p ss u w)
      by [] = refl
      by (s ∷ ss) = search (kept, h) depth 12

  kept_step : (L : Locals) (at : ℕ) (s : Bool) (f g : Walked → Run Walked) → ((v : Walked) (u : ℕ) (w : State) → Kept (f v u w) (g v u w)) → (v : Walked)
      (p : Option Binding) (u : ℕ) (w : State) → Kept (step L at s f v p u w) (step L at s g v p u w)
  kept_step L at s f g h v None u w = refl
  kept_step L at s f g h v (Some p) u w = kept_give L at f g h v p (giving s p.binder.kind) u w

  kept_walk : (L : Locals) (at : ℕ) (s : Bool) (t : Trailing) (n : ℕ) (v : Walked) (u : ℕ) (w : State)
      → Kept (walk e.left L at s t n v u w) (walk e.right L at s t n v u w)
  kept_walk L at s t zero v u w = refl
  kept_walk L at s t (suc n) v u w =
      search (kept, kept_whnf e, kept_step L at s (walk e.left L at s t n) (walk e.right L at s t n) (kept_walk L at s t n)) depth 14

  kept_argument : (L : Locals) (x : Placed) (u : ℕ) (w : State) → Kept (argument e.part e.left L x u w) (argument (larger e) e.right L x u w)
  kept_argument L x u w = search (kept, kept_unify e, e.agree.elaborate) depth 14

  kept_arguments : (L : Locals) (xs : List Placed) (u : ℕ) (w : State) → Kept (arguments e.part e.left L xs u w) (arguments (larger e) e.right L xs u w)
  kept_arguments L [] u w = refl
  kept_arguments L (x ∷ xs) u w = search (kept, kept_argument, kept_arguments L xs) depth 10

  kept_further : (L : Locals) (at : ℕ) (f g : Walked → Run Walked) → ((v : Walked) (u : ℕ) (w : State) → Kept (f v u w) (g v u w)) → (v : Walked)
      (xs : List Placed) (u : ℕ) (w : State) → Kept (further e.part e.left L at f v xs u w) (further (larger e) e.right L at g v xs u w)
  kept_further L at f g h v [] u w = kept_self (further e.part e.left L at f v [] u w)
  kept_further L at f g h v (x ∷ xs) u w = search (kept, kept_arguments, h) depth 10

  kept_after_walk : (L : Locals) (at : ℕ) (E : Option Term) (f g : Walked → Run Walked) → ((v : Walked) (u : ℕ) (w : State) → Kept (f v u w) (g v u w))
      → (v : Walked) (ss : List TermTree) (u : ℕ) (w : State)
      → Kept (after_walk e.part e.left L at E f v ss u w) (after_walk (larger e) e.right L at E g v ss u w)
  kept_after_walk L at E f g h v [] u w = search (kept, kept_tried, kept_arguments) depth 12
  kept_after_walk L at E f g h v (s ∷ ss) u w = kept_further L at f g h v v.placed u w

  kept_rounds : (L : Locals) (at : ℕ) (s : Bool) (t : Trailing) (E : Option Term) (n : ℕ) (v : Walked) (u : ℕ) (w : State)
      → Kept (rounds e.part e.left L at s t E n v u w) (rounds (larger e) e.right L at s t E n v u w)
  kept_rounds L at s t E zero v u w = refl
  kept_rounds L at s t E (suc n) v u w =
      kept_then (walk e.left L at s t turn_limit v u w) (walk e.right L at s t turn_limit v u w) _ _ (kept_walk L at s t turn_limit v u w)
      (λ x y z. kept_after_walk L at E (rounds e.part e.left L at s t E n) (rounds (larger e) e.right L at s t E n) (kept_rounds L at s t E n) x x.unplaced y z)

  pub kept_application : (L : Locals) (at : ℕ) (s : Bool) (t : Trailing) (h : Typed) (ss : List TermTree) (E : Option Term) (u : ℕ) (w : State)
      → Kept (application e.part e.left L at s t h ss E u w) (application (larger e) e.right L at s t h ss E u w)
  kept_application L at s t h ss E u w = search (kept, kept_rounds, kept_agreed) depth 12

  -- ---- Types

  kept_sort_at : (L : Locals) (at : ℕ) (T W : Term) (o : Option Universe) (m : Option ℕ) (u : ℕ) (w : State)
      → Kept (sort_at e.part e.left L at T W o m u w) (sort_at (larger e) e.right L at T W o m u w)
  kept_sort_at L at T W (Some l) m u w = refl
  kept_sort_at L at T W None (Some m) u w = search (kept, kept_unify e) depth 12
  kept_sort_at L at T W None None u w = kept_self (sort_at e.part e.left L at T W None None u w)

  pub kept_as_type : (L : Locals) (s : TermTree) (u : ℕ) (w : State) → Kept (as_type e.part e.left L s u w) (as_type (larger e) e.right L s u w)
  kept_as_type L s u w = search (kept, kept_whnf e, kept_sort_at, e.agree.elaborate) depth 16

  -- ---- Binders

  kept_expected : (L : Locals) (E : Option Term) (u : ℕ) (w : State) → Kept (expected_pi e.left L E u w) (expected_pi e.right L E u w)
  kept_expected L None u w = refl
  kept_expected L (Some E) u w = search (kept, kept_whnf e) depth 10

  kept_fits_domain : (L : Locals) (at : ℕ) (A : Term) (p : Option Binding) (u : ℕ) (w : State)
      → Kept (fits_domain e.part e.left L at A p u w) (fits_domain (larger e) e.right L at A p u w)
  kept_fits_domain L at A None u w = refl
  kept_fits_domain L at A (Some p) u w = search (kept, kept_unify e) depth 10

  kept_binder_type : (L : Locals) (at : ℕ) (b : OneBinder) (o : Option TermTree) (p : Option Binding) (u : ℕ) (w : State)
      → Kept (binder_type e.part e.left L at b o p u w) (binder_type (larger e) e.right L at b o p u w)
  kept_binder_type L at b (Some s) p u w = search (kept, kept_as_type, kept_fits_domain) depth 10
  kept_binder_type L at b None (Some p) u w = refl
  kept_binder_type L at b None None u w = kept_self (binder_type e.part e.left L at b None None u w)

  kept_unless : (p : Option Binding) (m n : Run (Unit {0})) (u : ℕ) (w : State) → Kept (m u w) (n u w)
      → Kept (agreed_unless p m u w) (agreed_unless p n u w)
  kept_unless None m n u w h = h
  kept_unless (Some p) m n u w h = refl

  kept_function : (at : ℕ) (s : TermTree) (L : Locals) (bs : List OneBinder) (E : Option Term) (u : ℕ) (w : State)
      → Kept (function e.part e.left at s L bs E u w) (function (larger e) e.right at s L bs E u w)
  kept_function at s L [] E u w = search (e.agree.elaborate)
  kept_function at s L (b ∷ bs) E u w =
      let rest : (M : Locals) (B : Option Term) (v : ℕ) (z : State)
      → Kept (function e.part e.left at s M bs B v z) (function (larger e) e.right at s M bs B v z)
      = λ M B v z. kept_function at s M bs B v z in
      search (kept, kept_expected, kept_binder_type, rest, kept_close_binder e, kept_unless, kept_agreed) depth 24

  kept_domain_type : (L : Locals) (b : OneBinder) (o : Option TermTree) (u : ℕ) (w : State)
      → Kept (domain_type e.part e.left L b o u w) (domain_type (larger e) e.right L b o u w)
  kept_domain_type L b (Some s) u w = kept_as_type L s u w
  kept_domain_type L b None u w = kept_self (domain_type e.part e.left L b None u w)

  kept_pis : (s : TermTree) (L : Locals) (bs : List OneBinder) (u : ℕ) (w : State)
      → Kept (pis e.part e.left s L bs u w) (pis (larger e) e.right s L bs u w)
  kept_pis s L [] u w = kept_as_type L s u w
  kept_pis s L (b ∷ bs) u w =
      let rest : (M : Locals) (v : ℕ) (z : State) → Kept (pis e.part e.left s M bs v z) (pis (larger e) e.right s M bs v z)
      = λ M v z. kept_pis s M bs v z in
      search (kept, kept_domain_type, rest, kept_close_binder e) depth 20

  kept_arrow : (L : Locals) (l r : TermTree) (u : ℕ) (w : State) → Kept (arrow e.part e.left L l r u w) (arrow (larger e) e.right L l r u w)
  kept_arrow L l r u w = search (kept, kept_as_type) depth 14

  kept_against : (L : Locals) (at : ℕ) (E : Option Term) (t A : Term) (u : ℕ) (w : State)
      → Kept (against e.part e.left L at E t A u w) (against (larger e) e.right L at E t A u w)
  kept_against L at E t A u w = search (kept, kept_agreed) depth 8

  kept_in_sort : (L : Locals) (at : ℕ) (E : Option Term) (m n : Run Sorted) (u : ℕ) (w : State) → Kept (m u w) (n u w)
      → Kept (in_sort e.part e.left L at E m u w) (in_sort (larger e) e.right L at E n u w)
  kept_in_sort L at E m n u w h = search (kept, h, kept_against) depth 10

  -- ---- `let`

  kept_let_value : (L : Locals) (o : TermOption) (v : TermTree) (u : ℕ) (w : State)
      → Kept (let_value e.part e.left L o v u w) (let_value (larger e) e.right L o v u w)
  kept_let_value L written.no_term v u w = search (e.agree.elaborate)
  kept_let_value L (written.some_term s) v u w = search (kept, kept_as_type, e.agree.elaborate) depth 12

  kept_let : (L : Locals) (x : Ident) (o : TermOption) (v s : TermTree) (E : Option Term) (u : ℕ) (w : State)
      → Kept (let_in e.part e.left L x o v s E u w) (let_in (larger e) e.right L x o v s E u w)
  kept_let L x o v s E u w = search (kept, kept_let_value, e.agree.elaborate, kept_close_binder e) depth 26

  -- ---- Sorts, `sorry`, parentheses

  kept_sort_term : (L : Locals) (at : ℕ) (E : Option Term) (l : Universe) (u : ℕ) (w : State)
      → Kept (sort_term e.part e.left L at E l u w) (sort_term (larger e) e.right L at E l u w)
  kept_sort_term L at E l u w = search (kept, kept_in_sort) depth 8

  kept_type_term : (L : Locals) (at : ℕ) (E : Option Term) (l : Option LevelTree) (u : ℕ) (w : State)
      → Kept (type_term e.part e.left L at E l u w) (type_term (larger e) e.right L at E l u w)
  kept_type_term L at E l u w =
      kept_then (level_or_zero e.part.levels l u w) (level_or_zero e.part.levels l u w) _ _ (kept_self (level_or_zero e.part.levels l u w))
      (λ k v z. kept_sort_term L at E (level_succ k) v z)

  kept_sort_term_at : (L : Locals) (at : ℕ) (E : Option Term) (l : Option LevelTree) (u : ℕ) (w : State)
      → Kept (sort_term_at e.part e.left L at E l u w) (sort_term_at (larger e) e.right L at E l u w)
  kept_sort_term_at L at E l u w =
      kept_then (level_or_zero e.part.levels l u w) (level_or_zero e.part.levels l u w) _ _ (kept_self (level_or_zero e.part.levels l u w))
      (λ k v z. kept_sort_term L at E k v z)

  kept_sorry : (L : Locals) (at : ℕ) (E : Option Term) (u : ℕ) (w : State)
      → Kept (sorry_term e.part e.left L at E u w) (sorry_term (larger e) e.right L at E u w)
  kept_sorry L at (Some E) u w = search (kept, kept_sort_of e) depth 12
  kept_sorry L at None u w = kept_self (sorry_term e.part e.left L at None u w)

  kept_parenthesized : (t : Trailing) (L : Locals) (at : ℕ) (s : TermTree) (o : TermOption) (E : Option Term) (u : ℕ) (w : State)
      → Kept (parenthesized e.part e.left t L at s o E u w) (parenthesized (larger e) e.right t L at s o E u w)
  kept_parenthesized t L at s written.no_term E u w = search (e.agree.elaborate)
  kept_parenthesized t L at s (written.some_term y) E u w = search (kept, kept_as_type, e.agree.elaborate, kept_against) depth 14

  -- ---- Identifiers and operators

  kept_head : (L : Locals) (h : TermTree) (o : Option Named) (u : ℕ) (w : State) → Kept (head e.part e.left L h o u w) (head (larger e) e.right L h o u w)
  kept_head L h (Some f) u w = kept_identifier e L f.name f.levels u w
  kept_head L h None u w = search (e.agree.elaborate)

  kept_applied : (t : Trailing) (L : Locals) (at : ℕ) (h : TermTree) (ss : List TermTree) (E : Option Term) (u : ℕ) (w : State)
      → Kept (applied e.part e.left t L at h ss E u w) (applied (larger e) e.right t L at h ss E u w)
  kept_applied t L at h ss E u w = search (kept, kept_head, kept_application) depth 10

  kept_operator : (t : Trailing) (L : Locals) (at : ℕ) (n : Path) (ss : List TermTree) (E : Option Term) (u : ℕ) (w : State)
      → Kept (operator e.part e.left t L at n ss E u w) (operator (larger e) e.right t L at n ss E u w)
  kept_operator t L at n ss E u w = search (kept, kept_named e, kept_application) depth 10

  kept_operation : (t : Trailing) (L : Locals) (at : ℕ) (o : Op) (l r : TermTree) (E : Option Term) (u : ℕ) (w : State)
      → Kept (operation e.part e.left t L at o l r E u w) (operation (larger e) e.right t L at o l r E u w)
  kept_operation t L at op.Arrow l r E u w = search (kept_in_sort, kept_arrow)
  kept_operation t L at op.Iff l r E u w = search (kept_operator)
  kept_operation t L at op.Or l r E u w = search (kept_operator)
  kept_operation t L at op.And l r E u w = search (kept_operator)
  kept_operation t L at op.Eq l r E u w = search (kept_operator)
  kept_operation t L at op.Ne l r E u w = search (kept_operator)
  kept_operation t L at op.Add l r E u w = search (kept_operator)
  kept_operation t L at op.Sub l r E u w = search (kept_operator)
  kept_operation t L at op.Mul l r E u w = search (kept_operator)
  kept_operation t L at op.Div l r E u w = search (kept_operator)
  kept_operation t L at op.Mod l r E u w = search (kept_operator)

  pub kept_elaborate : (t : Trailing) (L : Locals) (s : TermTree) (E : Option Term) (u : ℕ) (w : State)
      → Kept (elaborate_body e.part e.left t L s E u w) (elaborate_body (larger e) e.right t L s E u w)
  unfolding elaborate_body
  kept_elaborate t L (written.ident at x y ls) E u w = kept_applied t L at (written.ident at x y ls) [] E u w
  kept_elaborate t L (written.app at h ss) E u w = kept_applied t L at h _ E u w
  kept_elaborate t L (written.oper at o l r) E u w = kept_operation t L at o l r E u w
  kept_elaborate t L (written.not_term at s) E u w = kept_operator t L at _ (s ∷ []) E u w
  kept_elaborate t L (written.fun_term at bs s) E u w = kept_function at s L (all_binders bs) E u w
  kept_elaborate t L (written.forall_term at bs s) E u w = search (kept_in_sort, kept_pis)
  kept_elaborate t L (written.arrow at b s) E u w = search (kept_in_sort, kept_pis)
  kept_elaborate t L (written.let_term at x y v s) E u w = kept_let L x y v s E u w
  kept_elaborate t L (written.hole at) E u w = kept_self (elaborate_body e.part e.left t L (written.hole at) E u w)
  kept_elaborate t L (written.by_term at is) E u w = kept_self (elaborate_body e.part e.left t L (written.by_term at is) E u w)
  kept_elaborate t L (written.sorry_term at) E u w = kept_sorry L at E u w
  kept_elaborate t L (written.numeral n) E u w = kept_against L n.at E _ _ u w
  kept_elaborate t L (written.paren at s y) E u w = kept_parenthesized t L at s y E u w
  kept_elaborate t L (written.prop at) E u w = kept_sort_term L at E level_zero u w
  kept_elaborate t L (written.type_u at l) E u w = kept_type_term L at E l u w
  kept_elaborate t L (written.sort_u at l) E u w = kept_sort_term_at L at E l u w
