-- The extension law of whole types and values, at the ends of their parts.
use Rattle.std.proofs.Common.{ℕ, List, [], ◌∷◌, Option, Some, None}
use Rattle.lf_core.specs.Term.{Path, Term, lam}
use Rattle.lf_core.specs.declared.constant.ConstInfo.{ConstInfo}
use Rattle.lf_syntax.specs.Tree.{TermTree}
use Rattle.lf_checker.specs.View.{View}
use Rattle.lf_checker.specs.Extends.{Tells}
use Rattle.lf_elaboration.specs.Part.{Part, Locals, State, given}
use Rattle.lf_elaboration.specs.Terms.{OneBinder}
use Rattle.lf_elaboration_laws.specs.Extension.{Kept}
use Rattle.lf_elaboration_laws.proofs.Kept.{kept_self, kept_then, kept_choose, kept_or_fail, kept_spend}
use Rattle.lf_elaboration_laws.proofs.Parts as parts
use Rattle.lf_elaboration_laws.proofs.Parts.{larger, kept_close, kept_close_binder}
use Rattle.lf_document.specs.Setting.{Setting, Declaration, part, no_locals}
use Rattle.lf_document.specs.Binders.{pi_over}
use Rattle.lf_document.specs.Headers.{type_or_default, whole_type, stated, stated_for_value}
use Rattle.lf_document.specs.Values.{against, whole_value, written_value, whole_function, definition_of, whole_definition}
use Rattle.lf_document_laws.proofs.Parts.{both, kept_header, kept_accepted, kept_domain, kept_under_binders, kept_under_pis, kept_default, kept_against}

ruleset kept = (kept_self, kept_then, kept_choose, kept_or_fail, kept_spend)

module _ (X : Setting) (W V : View) (x : Tells V W) (levels : List Path) (inside : Option Path) (at : ℕ) where
  kept_bound : (bs : List OneBinder) (s : Option TermTree) (u : ℕ) (w : State)
      → Kept (whole_type (part X W levels inside at) bs s u w) (whole_type (part X V levels inside at) bs s u w)
  kept_bound bs s u w =
      let e : parts.Setting = both X W V x levels inside at in
      search (
        kept,
        kept_under_binders e pi_over (type_or_default e.part e.left s) (type_or_default (larger e) e.right s) (kept_default e s) no_locals bs,
        kept_close e,
      ) depth 16

  pub kept_stated : (n : Path) (bs : List OneBinder) (s : Option TermTree) (u : ℕ) (w : State)
      → Kept (stated (part X W levels inside at) n bs s u w) (stated (part X V levels inside at) n bs s u w)
  kept_stated n bs s u w = search (kept, kept_bound, kept_header (both X W V x levels inside at)) depth 12

  pub kept_stated_for_value : (n : Path) (bs : List OneBinder) (s : Option TermTree) (u : ℕ) (w : State)
      → Kept (stated_for_value (part X W levels inside at) n bs s u w) (stated_for_value (part X V levels inside at) n bs s u w)
  kept_stated_for_value n bs s u w = search (kept, kept_stated) depth 12

  kept_whole_value : (n : ℕ) (T : Term) (s : TermTree) (u : ℕ) (w : State)
      → Kept (whole_value (part X W levels inside at) n T s u w) (whole_value (part X V levels inside at) n T s u w)
  kept_whole_value n T s u w =
      let e : parts.Setting = both X W V x levels inside at in
      search (kept, kept_under_pis e lam (against e.left s) (against e.right s) (kept_against e s) n no_locals T, kept_close e) depth 16

  pub kept_written_value : (c : ConstInfo) (n : ℕ) (s : TermTree) (u : ℕ) (w : State)
      → Kept (written_value (part X W levels inside at) c n s u w) (written_value (part X V levels inside at) c n s u w)
  kept_written_value c n s u w = search (kept, kept_whole_value, kept_accepted (both X W V x levels inside at)) depth 12

-- A definition without a stated type: the types of its binders, and its value, are looked up from two names.
abbrev head_of : Setting → View → List Path → ℕ → Part
head_of X W levels at = part X W levels None at

abbrev value_of : Setting → View → List Path → Path → ℕ → Part
value_of X W levels own at = part X W levels (Some own) at

module _ (X : Setting) (W V : View) (x : Tells V W) (levels : List Path) (own : Path) (at : ℕ) where
  kept_whole_function : (s : TermTree) (L : Locals) (bs : List OneBinder) (u : ℕ) (w : State)
      → Kept (whole_function (head_of X W levels at) (value_of X W levels own at) s L bs u w)
      (whole_function (head_of X V levels at) (value_of X V levels own at) s L bs u w)
  kept_whole_function s L [] u w = (both X W V x levels (Some own) at).agree.elaborate given L s None u w
  kept_whole_function s L (b ∷ bs) u w =
      let h : parts.Setting = both X W V x levels None at in
      let v : parts.Setting = both X W V x levels (Some own) at in
      let rest : (M : Locals) (k : ℕ) (z : State) → Kept (whole_function (head_of X W levels at) (value_of X W levels own at) s M bs k z)
      (whole_function (head_of X V levels at) (value_of X V levels own at) s M bs k z)
      = λ M k z. kept_whole_function s M bs k z in
      search (kept, kept_domain h, rest, kept_close_binder v) depth 24

  kept_definition_of : (D : Declaration) (t T : Term) (u : ℕ) (w : State)
      → Kept (definition_of (value_of X W levels own at) D t T u w) (definition_of (value_of X V levels own at) D t T u w)
  kept_definition_of D t T u w =
      search (kept, kept_header (both X W V x levels (Some own) at), kept_accepted (both X W V x levels (Some own) at)) depth 12

  pub kept_whole_definition : (D : Declaration) (s : TermTree) (u : ℕ) (w : State)
      → Kept (whole_definition (head_of X W levels at) (value_of X W levels own at) D s u w)
      (whole_definition (head_of X V levels at) (value_of X V levels own at) D s u w)
  kept_whole_definition D s u w = search (kept, kept_whole_function, kept_close (both X W V x levels (Some own) at), kept_definition_of) depth 20
