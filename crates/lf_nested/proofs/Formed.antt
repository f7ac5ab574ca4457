-- The forms of terms, by the parts of the written term.
use Rattle.std.proofs.Common.{◌≡◌, ℕ, Bool, List, [], ◌∷◌, refl, sym, ap, ◌∙◌}
use Rattle.std.specs.Prelude.{Option, Some, None, codes}
use Rattle.lf_core.specs.Term.{Term}
use Rattle.lf_text.specs.declared.operator.Op.{Op}
use Rattle.lf_text.specs.declared.operator.Op.TheVariants as op
use Rattle.lf_syntax.specs.declared.leaf.Ident.{Ident}
use Rattle.lf_syntax.specs.Tree as written
use Rattle.lf_syntax.specs.Tree.{TermTree, LBinderTrees, BindersTree, LevelTree, terms_of, option_of}
use Rattle.lf_elaboration.specs.Part.{Part, State, Locals, Calls, Trailing}
use Rattle.lf_elaboration.specs.Terms as spec
use Rattle.lf_elaboration.specs.Terms.{elaborate_body, all_binders}
use Rattle.lf_terms.proofs.Lists.{terms_back}
use Rattle.lf_nested.specs.Types.{sorted, as_type, in_type, parenthesized}
use Rattle.lf_nested.specs.Binders.{function, pis, pis_term, binder_arrow, arrow, arrow_term, let_in}
use Rattle.lf_nested.specs.Rounds.{rounds_within, rounds, application, head, applied, operator, operation}
use Rattle.lf_nested.proofs.Bound.{let_by}

module _ (P : Part) (c : Calls) (t : Trailing) (L : Locals) (x : TermTree) (E : Option Term) (u : ℕ) (s : State) where
  pub ident_by : (at : ℕ) (e : Bool) (n : Ident) (ls : List LevelTree) → written.ident at e n ls ≡ x
      → elaborate_body P c t L x E u s ≡ applied P c t L at x [] E u s
  unfolding elaborate_body applied head application rounds rounds_within
  ident_by at e n ls h =
      sym (ap (λ y. elaborate_body P c t L y E u s) h) ∙ ap (λ y. applied P c t L at y [] E u s) h

  pub app_by : (at : ℕ) (h : TermTree) (xs : List TermTree) → written.app at h (terms_of xs) ≡ x
      → elaborate_body P c t L x E u s ≡ applied P c t L at h xs E u s
  unfolding elaborate_body applied head application rounds rounds_within
  app_by at h xs e = sym (ap (λ y. elaborate_body P c t L y E u s) e) ∙ ap (λ ys. applied P c t L at h ys E u s) (terms_back xs)

  oper_is : (at : ℕ) (o : Op) (l r : TermTree) → spec.operation P c t L at o l r E u s ≡ operation P c t L at o l r E u s
  unfolding operation arrow_term arrow as_type sorted operator application rounds rounds_within
  oper_is at op.Arrow l r = refl
  oper_is at op.Iff l r = refl
  oper_is at op.Or l r = refl
  oper_is at op.And l r = refl
  oper_is at op.Eq l r = refl
  oper_is at op.Ne l r = refl
  oper_is at op.Add l r = refl
  oper_is at op.Sub l r = refl
  oper_is at op.Mul l r = refl
  oper_is at op.Div l r = refl
  oper_is at op.Mod l r = refl

  pub oper_by : (at : ℕ) (o : Op) (l r : TermTree) → written.oper at o l r ≡ x → elaborate_body P c t L x E u s ≡ operation P c t L at o l r E u s
  unfolding elaborate_body
  oper_by at o l r e = sym (ap (λ y. elaborate_body P c t L y E u s) e) ∙ oper_is at o l r

  pub not_by : (at : ℕ) (y : TermTree) → written.not_term at y ≡ x
      → elaborate_body P c t L x E u s ≡ operator P c t L at (codes "Not" ∷ []) (y ∷ []) E u s
  unfolding elaborate_body operator application rounds rounds_within
  not_by at y e = sym (ap (λ y. elaborate_body P c t L y E u s) e)

  paren_is : (at : ℕ) (y : TermTree) (o : Option TermTree)
      → spec.parenthesized P c t L at y (option_of o) E u s ≡ parenthesized P c t L at y o E u s
  unfolding parenthesized in_type as_type sorted
  paren_is at y None = refl
  paren_is at y (Some z) = refl

  pub paren_by : (at : ℕ) (y : TermTree) (o : Option TermTree) → written.paren at y (option_of o) ≡ x
      → elaborate_body P c t L x E u s ≡ parenthesized P c t L at y o E u s
  unfolding elaborate_body
  paren_by at y o e = sym (ap (λ y. elaborate_body P c t L y E u s) e) ∙ paren_is at y o

  pub fun_by : (at : ℕ) (bs : LBinderTrees) (y : TermTree) → written.fun_term at bs y ≡ x
      → elaborate_body P c t L x E u s ≡ function P c at y L (all_binders bs) E u s
  unfolding elaborate_body function
  fun_by at bs y e = sym (ap (λ y. elaborate_body P c t L y E u s) e)

  pub forall_by : (at : ℕ) (bs : LBinderTrees) (y : TermTree) → written.forall_term at bs y ≡ x
      → elaborate_body P c t L x E u s ≡ pis_term P c at y L (all_binders bs) E u s
  unfolding elaborate_body pis_term pis
  forall_by at bs y e = sym (ap (λ y. elaborate_body P c t L y E u s) e)

  pub arrow_by : (at : ℕ) (b : BindersTree) (y : TermTree) → written.arrow at b y ≡ x
      → elaborate_body P c t L x E u s ≡ binder_arrow P c at y L b E u s
  unfolding elaborate_body binder_arrow pis_term pis
  arrow_by at b y e = sym (ap (λ y. elaborate_body P c t L y E u s) e)

  pub let_form_by : (at : ℕ) (n : Ident) (o : Option TermTree) (v y : TermTree) → written.let_term at n (option_of o) v y ≡ x
      → elaborate_body P c t L x E u s ≡ let_in P c L n o v y E u s
  unfolding elaborate_body
  let_form_by at n o v y e = sym (ap (λ y. elaborate_body P c t L y E u s) e) ∙ let_by P c y L n o v E u s
