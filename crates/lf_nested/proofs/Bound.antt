-- The definition's runs of binders are those of `specs/Binders` in a row.
use Rattle.std.proofs.Common.{◌≡◌, ℕ, ◌-◌, ◌≤◌, List, [], ◌∷◌, length, take, drop, get_or, refl, sym, ap, ◌∙◌, arith}
use Rattle.std.specs.Prelude.{Option, Some, None}
use Rattle.lf_core.specs.Term.{Term}
use Rattle.lf_syntax.specs.declared.leaf.Ident.{Ident}
use Rattle.lf_syntax.specs.Tree.{TermTree, option_of}
use Rattle.lf_elaboration.specs.Forms.{Binding}
use Rattle.lf_elaboration.specs.Run.{go_on, gives, room}
use Rattle.lf_elaboration.specs.Part.{Part, State, Locals, Calls, with_local, given}
use Rattle.lf_elaboration.specs.Application.{agreed}
use Rattle.lf_elaboration.specs.Metavariables.{count}
use Rattle.lf_elaboration.specs.Terms as spec
use Rattle.lf_elaboration.specs.Terms.{OneBinder, binder_of, expected_pi, opened_codomain, agreed_unless}
use Rattle.lf_terms.specs.Forms.{lambda_of, pi_of, let_of}
use Rattle.lf_terms.proofs.Binds.{bound, ended_so}
use Rattle.lf_terms.proofs.Firsts.{split}
use Rattle.lf_terms.specs.Holes.{holes_from}
use Rattle.lf_nested.specs.Types.{sorted, as_type}
use Rattle.lf_nested.specs.Blocks.{closed_at, closed, run_pending, run_holes}
use Rattle.lf_nested.specs.Binders.{
  function,
  domain_of,
  function_in,
  lambda_body,
  lambda_for,
  lambda,
  pis,
  type_of,
  pis_in,
  pi_body,
  pi,
  let_value,
  term_in,
  let_body,
  let_in,
}
use Rattle.lf_nested.proofs.Rows.{ended_in, both}

module _ (P : Part) (c : Calls) (at : ℕ) (body : TermTree) (L : Locals) where
  domain_is : (b : OneBinder) (o : Option TermTree) (p : Option Binding) (u : ℕ) (s : State)
      → spec.binder_type P c L at b o p u s ≡ domain_of P c L at b.name.at o p u s
  unfolding domain_of as_type sorted
  domain_is b (Some x) p u s = refl
  domain_is b None (Some p) u s = refl
  domain_is b None None u s = refl

  lambda_is : (b : OneBinder) (bs : List OneBinder) (A : Term) (B : Option Term) (p : Option Binding) (E : Option Term) (u : ℕ) (s : State)
      → go_on (function P c at body (with_local L b.name.name A) bs B u s) (λ r v t.
      go_on (closed_at P c (with_local L b.name.name A) (count s.changes) (length L.types) v t) (λ z w q.
      go_on (lambda_of (length L.types) (binder_of b) A r.term r.ty w q) (λ f x y.
      go_on (agreed_unless p (agreed P c L at f.ty E) x y) (λ z. gives f))))
      ≡ go_on (lambda_body P c at body bs b.name.name (binder_of b) L A B u s) (λ f x y. go_on (agreed_unless p (agreed P c L at f.ty E) x y) (λ z. gives f))
  unfolding lambda_body function_in
  lambda_is b bs A B p E u s =
      sym (ended_in (function P c at body (with_local L b.name.name A) bs B u s)
      (λ r. closed_at P c (with_local L b.name.name A) (count s.changes) (length L.types))
      (λ r. lambda_of (length L.types) (binder_of b) A r.term r.ty)
      (λ f x y. go_on (agreed_unless p (agreed P c L at f.ty E) x y) (λ z. gives f)))

  function_is : (b : OneBinder) (bs : List OneBinder) (E : Option Term) (u : ℕ) (s : State)
      → function P c at body L (b ∷ bs) E u s ≡ lambda P c at body bs b E L u s
  unfolding function lambda lambda_for lambda_of closed_at closed run_pending holes_from run_holes
  function_is b bs E u s =
      bound (expected_pi c L E u s) _ _ (λ p v t.
      both (spec.binder_type P c L at b b.ty p v t) (domain_of P c L at b.name.at b.ty p v t) _ _ (domain_is b b.ty p v t) (λ A w q.
      bound (opened_codomain L.types p w q) _ _ (λ B x y. lambda_is b bs A B p E x y)))

  pub function_none : (bs : List OneBinder) (E : Option Term) (u : ℕ) (s : State) → length bs ≡ 0
      → function P c at body L bs E u s ≡ c.elaborate given L body E u s
  unfolding function
  function_none [] E u s e = refl
  function_none (b ∷ bs) E u s e = absurd (omega (arith, e))

  pub function_some : (bs : List OneBinder) (b : OneBinder) (E : Option Term) (u : ℕ) (s : State) → 1 ≤ length bs → b ≡ get_or bs 0 b
      → function P c at body L bs E u s ≡ lambda P c at body (take (length bs - 1) (drop 1 bs)) b E L u s
  function_some bs b E u s h e =
      ap (λ xs. function P c at body L xs E u s) (split bs b h e) ∙ function_is b (take (length bs - 1) (drop 1 bs)) E u s

module _ (P : Part) (c : Calls) (body : TermTree) (L : Locals) where
  type_is : (b : OneBinder) (o : Option TermTree) (u : ℕ) (s : State) → spec.domain_type P c L b o u s ≡ type_of P c L b.name.at o u s
  unfolding type_of as_type sorted
  type_is b (Some x) u s = refl
  type_is b None u s = refl

  pi_is : (b : OneBinder) (bs : List OneBinder) (u : ℕ) (s : State) → pis P c body L (b ∷ bs) u s ≡ pi P c body bs b L u s
  unfolding pis pi pi_body pis_in pi_of closed_at closed run_pending holes_from run_holes
  pi_is b bs u s =
      both (spec.domain_type P c L b b.ty u s) (type_of P c L b.name.at b.ty u s) _ _ (type_is b b.ty u s) (λ A v t.
      bound (room L.types v t) _ _ (λ z w q.
      sym (ended_so (pis P c body (with_local L b.name.name A.term) bs w q)
      (λ r. closed_at P c (with_local L b.name.name A.term) (count q.changes) (length L.types))
      (λ r. pi_of (length L.types) (binder_of b) A.term A.level r.term r.level))))

  pub pis_none : (bs : List OneBinder) (u : ℕ) (s : State) → length bs ≡ 0 → pis P c body L bs u s ≡ as_type P c L body u s
  unfolding pis as_type sorted
  pis_none [] u s e = refl
  pis_none (b ∷ bs) u s e = absurd (omega (arith, e))

  pub pis_some : (bs : List OneBinder) (b : OneBinder) (u : ℕ) (s : State) → 1 ≤ length bs → b ≡ get_or bs 0 b
      → pis P c body L bs u s ≡ pi P c body (take (length bs - 1) (drop 1 bs)) b L u s
  pis_some bs b u s h e =
      ap (λ xs. pis P c body L xs u s) (split bs b h e) ∙ pi_is b (take (length bs - 1) (drop 1 bs)) u s

  value_is : (o : Option TermTree) (v : TermTree) (u : ℕ) (s : State) → spec.let_value P c L (option_of o) v u s ≡ let_value P c L o v u s
  unfolding let_value as_type sorted
  value_is None v u s = refl
  value_is (Some x) v u s = refl

  pub let_by : (x : Ident) (o : Option TermTree) (v : TermTree) (E : Option Term) (u : ℕ) (s : State)
      → spec.let_in P c L x (option_of o) v body E u s ≡ let_in P c L x o v body E u s
  unfolding let_in let_body term_in let_of closed_at closed run_pending holes_from run_holes
  let_by x o v E u s =
      both (spec.let_value P c L (option_of o) v u s) (let_value P c L o v u s) _ _ (value_is o v u s) (λ r w q.
      bound (room L.types w q) _ _ (λ z y t.
      sym (ended_so (c.elaborate given (with_local L x.name r.ty) body E y t)
      (λ b. closed_at P c (with_local L x.name r.ty) (count t.changes) (length L.types))
      (λ b. let_of (length L.types) x.name r b.term b.ty))))
