-- The extension law of the parts of commands: types, values, and what the kernel says of them.
use Rattle.std.proofs.Common.{ℕ, zero, suc, List, [], ◌∷◌, Option, Some, None, refl}
use Rattle.lf_core.specs.Term.{Path, Term}
use Rattle.lf_core.specs.declared.constant.ConstInfo.{ConstInfo}
use Rattle.lf_name.specs.declared.binder.Binder.{Binder}
use Rattle.lf_syntax.specs.Tree.{TermTree}
use Rattle.lf_checker.specs.View.{View}
use Rattle.lf_checker.specs.Extends.{Tells}
use Rattle.lf_checker.specs.Run as checker
use Rattle.lf_checker.specs.Checker.{add_header, add_decl}
use Rattle.lf_extension_laws.specs.Extension as checking
use Rattle.lf_extension_laws.proofs.Extended_declarations.{header_kept, decl_kept}
use Rattle.lf_elaboration.specs.Forms.{Binding, as_pi}
use Rattle.lf_elaboration.specs.Part.{Locals, State, Run, given, refusal_at}
use Rattle.lf_elaboration.specs.Terms.{OneBinder, domain_type}
use Rattle.lf_resolution.specs.Walk.{resolve}
use Rattle.lf_resolution_laws.proofs.Extended.{resolution_extends}
use Rattle.lf_elaboration_laws.specs.Extension.{Kept}
use Rattle.lf_elaboration_laws.proofs.Kept.{kept_self, kept_then, kept_choose, kept_or_fail, kept_spend, kept_answered}
use Rattle.lf_elaboration_laws.proofs.Parts as parts
use Rattle.lf_elaboration_laws.proofs.Parts.{larger, kept_close_binder}
use Rattle.lf_elaboration_laws.proofs.Terms.{kept_as_type}
use Rattle.lf_elaboration_laws.proofs.Items.{calls_agree}
use Rattle.lf_document.specs.Setting.{Setting, nesting, part, calls_of, no_locals, by_kernel}
use Rattle.lf_document.specs.Binders.{Over, under_binders, under_pi, under_pis}
use Rattle.lf_document.specs.Headers.{type_or_default}
use Rattle.lf_document.specs.Values.{against, accepted}
use Rattle.lf_document.specs.Constants.{with_value}

ruleset kept = (kept_self, kept_then, kept_choose, kept_or_fail, kept_spend)

-- A part of a command, with all its calls, over both views.
abbrev pub both : (X : Setting) (W V : View) → Tells V W → List Path → Option Path → ℕ → parts.Setting
both X W V x levels inside at = record {
  part = part X W levels inside at;
  view = V;
  synthesis = resolve V X.scope;
  tells = x;
  left = calls_of (part X W levels inside at);
  right = calls_of (part X V levels inside at);
  agree = calls_agree (part X W levels inside at) V (resolve V X.scope) x (λ n. resolution_extends W V x X.scope n) nesting;
}

module _ (e : parts.Setting) where
  pub kept_kernel : {A : Type 0} (m n : checker.Run A) (u : ℕ) (w : State) → checking.Kept (m u) (n u)
      → Kept (by_kernel e.part m u w) (by_kernel (larger e) n u w)
  kept_kernel m n u w h =
      kept_answered (refusal_at e.part no_locals e.part.place) (refusal_at (larger e) no_locals e.part.place) w (m u) (n u) h
      (λ r v. kept_self (refusal_at e.part no_locals e.part.place r v w))

  pub kept_header : (n : Path) (T : Term) (u : ℕ) (w : State)
      → Kept (by_kernel e.part (add_header e.part.view nesting n T) u w) (by_kernel (larger e) (add_header e.view nesting n T) u w)
  kept_header n T u w =
      kept_kernel (add_header e.part.view nesting n T) (add_header e.view nesting n T) u w (header_kept e.part.view e.view e.tells nesting n T u)

  pub kept_accepted : (c : ConstInfo) (t : Term) (u : ℕ) (w : State) → Kept (accepted e.part c t u w) (accepted (larger e) c t u w)
  kept_accepted c t u w =
      kept_then _ _ _ _ (kept_kernel (add_decl e.part.view nesting (with_value c (record { term = t; height = 0 })))
      (add_decl e.view nesting (with_value c (record { term = t; height = 0 }))) u w
      (decl_kept e.part.view e.view e.tells nesting (with_value c (record { term = t; height = 0 })) u)) (λ h v z. refl)

  -- ---- Binders

  pub kept_domain : (L : Locals) (b : OneBinder) (o : Option TermTree) (u : ℕ) (w : State)
      → Kept (domain_type e.part e.left L b o u w) (domain_type (larger e) e.right L b o u w)
  kept_domain L b (Some s) u w = kept_as_type e L s u w
  kept_domain L b None u w = kept_self (domain_type e.part e.left L b None u w)

  pub kept_under_binders : {A : Type 0} (over : Over A) (f g : Locals → Run A) → ((L : Locals) (u : ℕ) (w : State) → Kept (f L u w) (g L u w)) → (L : Locals)
      (bs : List OneBinder) (u : ℕ) (w : State)
      → Kept (under_binders e.part e.left over f L bs u w) (under_binders (larger e) e.right over g L bs u w)
  kept_under_binders over f g h L [] u w = h L u w
  kept_under_binders {A} over f g h L (b ∷ bs) u w =
      let rest : (M : Locals) (v : ℕ) (z : State)
      → Kept {A = A} (under_binders e.part e.left over f M bs v z) (under_binders (larger e) e.right over g M bs v z)
      = λ M v z. kept_under_binders over f g h M bs v z in
      search (kept, kept_domain, rest, kept_close_binder e) depth 24

  kept_under_pi : (over : Binder → Term → Term → Term) (L : Locals) (o : Option Binding) (f g : Locals → Term → Run Term)
      → ((M : Locals) (B : Term) (u : ℕ) (w : State) → Kept (f M B u w) (g M B u w)) → (u : ℕ) (w : State)
      → Kept (under_pi e.part e.left over L o f u w) (under_pi (larger e) e.right over L o g u w)
  kept_under_pi over L (Some p) f g h u w = search (kept, h, kept_close_binder e) depth 24
  kept_under_pi over L None f g h u w = refl

  pub kept_under_pis : (over : Binder → Term → Term → Term) (f g : Locals → Term → Run Term)
      → ((M : Locals) (B : Term) (u : ℕ) (w : State) → Kept (f M B u w) (g M B u w)) → (n : ℕ) (L : Locals) (T : Term) (u : ℕ) (w : State)
      → Kept (under_pis e.part e.left over f n L T u w) (under_pis (larger e) e.right over g n L T u w)
  kept_under_pis over f g h zero L T u w = h L T u w
  kept_under_pis over f g h (suc n) L T u w =
      kept_under_pi over L (as_pi T) (under_pis e.part e.left over f n) (under_pis (larger e) e.right over g n)
      (λ M B v z. kept_under_pis over f g h n M B v z) u w

  -- ---- Types

  pub kept_default : (o : Option TermTree) (L : Locals) (u : ℕ) (w : State)
      → Kept (type_or_default e.part e.left o L u w) (type_or_default (larger e) e.right o L u w)
  kept_default (Some s) L u w = search (kept, kept_as_type e) depth 10
  kept_default None L u w = refl

  -- ---- Values

  pub kept_against : (s : TermTree) (L : Locals) (B : Term) (u : ℕ) (w : State) → Kept (against e.left s L B u w) (against e.right s L B u w)
  kept_against s L B u w = kept_then _ _ _ _ (e.agree.elaborate given L s (Some B) u w) (λ r v z. refl)
