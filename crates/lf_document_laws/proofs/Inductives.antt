-- The extension law of inductive declarations as commands write them.
use Rattle.std.proofs.Common.{◌≡◌, ℕ, List, [], ◌∷◌, length, Option, Some, None, refl}
use Rattle.lf_core.specs.Term.{Term}
use Rattle.lf_syntax.specs.Tree.{TermTree}
use Rattle.lf_checker.specs.View.{View, not_there, there_of}
use Rattle.lf_checker.specs.Extends.{Tells}
use Rattle.lf_checker.specs.Admission.{view_with_type, add_inductive}
use Rattle.lf_extension_laws.proofs.Pushed.{type_extends}
use Rattle.lf_extension_laws.proofs.Extended_admission.{extension_law}
use Rattle.lf_elaboration.specs.Part.{Part, Locals, State}
use Rattle.lf_resolution.specs.Walk.{resolve}
use Rattle.lf_resolution_laws.proofs.Extended.{resolution_extends}
use Rattle.lf_elaboration_laws.specs.Extension.{Kept}
use Rattle.lf_elaboration_laws.proofs.Kept.{kept_self, kept_then, kept_choose, kept_or_fail, kept_spend}
use Rattle.lf_elaboration_laws.proofs.Parts as parts
use Rattle.lf_elaboration_laws.proofs.Parts.{larger, kept_close}
use Rattle.lf_elaboration_laws.proofs.Terms.{kept_as_type}
use Rattle.lf_elaboration_laws.proofs.Items.{calls_agree}
use Rattle.lf_document.specs.Setting.{Setting, Declaration, nesting, part, calls_of, no_locals}
use Rattle.lf_document.specs.Binders.{pi_over}
use Rattle.lf_document.specs.Headers.{type_or_default}
use Rattle.lf_document.specs.Inductives.{
  family_type,
  declaring,
  with_family,
  Constructing,
  result_type,
  fields_type,
  implicit_pi,
  constructor_type,
  constructors,
  whole_declaration,
  declared,
  inductive_constants,
}
use Rattle.lf_document_laws.specs.Extension.{on_view}
use Rattle.lf_document_laws.proofs.Parts.{kept_kernel, kept_under_binders, kept_under_pis, kept_default}

ruleset kept = (kept_self, kept_then, kept_choose, kept_or_fail, kept_spend)

-- A part that finds the type's own name, over both views.
abbrev pub named_part : Setting → View → Declaration → Part
named_part X W D = record (part X W D.levels None D.at) { own = Some D.name }

abbrev pub named_both : (X : Setting) (W V : View) → Tells V W → Declaration → parts.Setting
named_both X W V x D = record {
  part = named_part X W D;
  view = V;
  synthesis = resolve V X.scope;
  tells = x;
  left = calls_of (named_part X W D);
  right = calls_of (named_part X V D);
  agree = calls_agree (named_part X W D) V (resolve V X.scope) x (λ n. resolution_extends W V x X.scope n) nesting;
}

module _ (e : parts.Setting) where
  kept_result : (D : Declaration) (o : Option TermTree) (L : Locals) (u : ℕ) (w : State)
      → Kept (result_type e.part e.left D o L u w) (result_type (larger e) e.right D o L u w)
  kept_result D (Some s) L u w = search (kept, kept_as_type e) depth 10
  kept_result D None L u w = kept_self (result_type e.part e.left D None L u w)

  kept_fields : (D : Declaration) (k : Constructing) (L : Locals) (B : Term) (u : ℕ) (w : State)
      → Kept (fields_type e.part e.left D k L B u w) (fields_type (larger e) e.right D k L B u w)
  kept_fields D k L B u w =
      kept_under_binders e pi_over (result_type e.part e.left D k.ty) (result_type (larger e) e.right D k.ty) (kept_result D k.ty) L k.binders u w

module _ (X : Setting) (W V : View) (x : Tells V W) (D : Declaration) where
  abbrev e : parts.Setting
  e = named_both X W V x D

  kept_family : (u : ℕ) (w : State) → Kept (family_type (named_part X W D) D u w) (family_type (named_part X V D) D u w)
  kept_family u w =
      search (
        kept,
        kept_under_binders e pi_over (type_or_default e.part e.left D.ty) (type_or_default (larger e) e.right D.ty) (kept_default e D.ty) no_locals D.binders,
        kept_close e,
      ) depth 16

  kept_constructor : (T : Term) (k : Constructing) (u : ℕ) (w : State)
      → Kept (constructor_type (named_part X W D) D T k u w) (constructor_type (named_part X V D) D T k u w)
  kept_constructor T k u w =
      kept_under_pis e implicit_pi (fields_type e.part e.left D k) (fields_type (larger e) e.right D k) (kept_fields e D k) (length D.binders) no_locals T u w

  kept_constructors : (T : Term) (ks : List Constructing) (u : ℕ) (w : State)
      → Kept (constructors (named_part X W D) D T ks u w) (constructors (named_part X V D) D T ks u w)
  kept_constructors T [] u w = refl
  kept_constructors T (k ∷ ks) u w = search (kept, kept_constructor, kept_constructors T ks) depth 12

  kept_whole : (T : Term) (ks : List Constructing) (u : ℕ) (w : State)
      → Kept (whole_declaration (named_part X W D) D T ks u w) (whole_declaration (named_part X V D) D T ks u w)
  kept_whole T ks u w = search (kept, kept_constructors, kept_close e) depth 16

module _ (X : Setting) (V : View) (x : Tells V X.view) (D : Declaration) (new : there_of X.view D.name ≡ not_there) where
  kept_with_family : (T : Term) (ks : List Constructing) (u : ℕ) (w : State)
      → Kept (whole_declaration (with_family X D T) D T ks u w) (whole_declaration (with_family (on_view X V) D T) D T ks u w)
  kept_with_family T ks u w =
      kept_whole X (view_with_type X.view (declaring D T [])) (view_with_type V (declaring D T [])) (type_extends X.view V x (declaring D T []) new) D T ks u w

  kept_declared : (ks : List Constructing) (u : ℕ) (w : State) → Kept (declared X D ks u w) (declared (on_view X V) D ks u w)
  kept_declared ks u w = search (kept, kept_family X X.view V x D, kept_with_family) depth 12

  pub kept_inductive : (ks : List Constructing) (u : ℕ) (w : State) → Kept (inductive_constants X D ks u w) (inductive_constants (on_view X V) D ks u w)
  kept_inductive ks u w =
      kept_then _ _ _ _ (kept_declared ks u w)
      (λ d v z. kept_kernel (named_both X X.view V x D) (add_inductive X.view nesting d) (add_inductive V nesting d) v z
      ((extension_law X.view V x nesting).add_inductive d v))
