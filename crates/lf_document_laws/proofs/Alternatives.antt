-- The extension law of definitions by equations: their terms, and what the alternatives make.
use Rattle.std.proofs.Common.{ℕ, List, [], ◌∷◌, Some, Option, refl}
use Rattle.lf_core.specs.Term.{Path, Term}
use Rattle.lf_core.specs.declared.constant.ConstInfo.{ConstInfo}
use Rattle.lf_syntax.specs.Tree.{TermTree}
use Rattle.lf_syntax.specs.declared.pattern.Alternative.{Alternative}
use Rattle.lf_checker.specs.View.{View}
use Rattle.lf_checker.specs.Extends.{Tells}
use Rattle.lf_elaboration.specs.Run.{checks}
use Rattle.lf_elaboration.specs.Part.{Locals, State, given}
use Rattle.lf_equations.specs.Argument.{Argument, argument}
use Rattle.lf_equations.specs.Compile.{compile}
use Rattle.lf_equations_laws.proofs.Extended.{kept_argument, compiling_extends}
use Rattle.lf_elaboration_laws.specs.Extension.{Kept}
use Rattle.lf_elaboration_laws.proofs.Kept.{kept_self, kept_then, kept_choose, kept_or_fail, kept_spend, kept_checks}
use Rattle.lf_elaboration_laws.proofs.Parts as parts
use Rattle.lf_elaboration_laws.proofs.Parts.{kept_close}
use Rattle.lf_document.specs.Setting.{Setting, nesting, part, calls_of}
use Rattle.lf_document.specs.EquationsBody.{
  Resolved,
  cases_with,
  fields_for,
  term_against,
  alternative_term,
  alternative_terms,
  bodies,
  with_props,
  valued,
  compiled,
  by_argument,
  tested,
  equations_value,
}
use Rattle.lf_document_laws.proofs.Parts.{both, kept_accepted}
use Rattle.lf_document_laws.proofs.Equations.{kept_resolved, kept_compiles, kept_fields_for, kept_close_locals}

ruleset kept = (kept_self, kept_then, kept_choose, kept_or_fail, kept_spend)

module _ (X : Setting) (W V : View) (x : Tells V W) (levels : List Path) (inside : Option Path) (at : ℕ) where
  abbrev e : parts.Setting
  e = both X W V x levels inside at

  kept_term_against : (L : Locals) (n : ℕ) (s : TermTree) (E : Term) (u : ℕ) (w : State)
      → Kept (term_against (part X W levels inside at) L n s E u w) (term_against (part X V levels inside at) L n s E u w)
  kept_term_against L n s E u w =
      let term : (v : ℕ) (z : State) → Kept (e.left.elaborate given L s (Some E) v z) (e.right.elaborate given L s (Some E) v z)
      = λ v z. e.agree.elaborate given L s (Some E) v z in
      search (kept, term, kept_close_locals e) depth 16

  kept_alternative : (g : Argument) (L : Locals) (a : Resolved) (u : ℕ) (w : State)
      → Kept (alternative_term (part X W levels inside at) g L a u w) (alternative_term (part X V levels inside at) g L a u w)
  kept_alternative g L a u w =
      let fields : (v : ℕ) (z : State) → Kept (checks (fields_for W g L a) v z) (checks (fields_for V g L a) v z)
      = λ v z. kept_checks (fields_for W g L a) (fields_for V g L a) v z (kept_fields_for e g L a v) in
      search (kept, fields, kept_term_against) depth 16

  kept_alternatives : (g : Argument) (L : Locals) (alts : List Resolved) (u : ℕ) (w : State)
      → Kept (alternative_terms (part X W levels inside at) g L alts u w) (alternative_terms (part X V levels inside at) g L alts u w)
  kept_alternatives g L [] u w = refl
  kept_alternatives g L (a ∷ alts) u w =
      kept_then _ _ _ _ (kept_alternative g L a u w)
      (λ t v z. kept_then _ _ _ _ (kept_alternatives g L alts v z) (λ ts i j. refl))

  kept_bodies : (g : Argument) (own : Path) (T : Term) (alts : List Resolved) (u : ℕ) (w : State)
      → Kept (bodies (part X W levels inside at) g own T alts u w) (bodies (part X V levels inside at) g own T alts u w)
  kept_bodies g own T alts u w = search (kept, kept_alternatives, kept_close e) depth 16

  kept_valued : (c : ConstInfo) (t : Term) (u : ℕ) (w : State)
      → Kept (valued (part X W levels inside at) c t u w) (valued (part X V levels inside at) c t u w)
  kept_valued c t u w = kept_then _ _ _ _ (kept_accepted e c t u w) (λ v i j. refl)

  kept_compiled : (c : ConstInfo) (n : ℕ) (alts : List Resolved) (ts : List Term) (u : ℕ) (w : State)
      → Kept (compiled (part X W levels inside at) c n alts ts u w) (compiled (part X V levels inside at) c n alts ts u w)
  kept_compiled c n alts ts u w =
      kept_compiles e (compile W nesting c.ty n (cases_with alts ts)) (compile V nesting c.ty n (cases_with alts ts)) _ _
      (λ v. compiling_extends W V x nesting c.ty n (cases_with alts ts) v) (kept_valued c) u w

  kept_by_argument : (c : ConstInfo) (own : Path) (n : ℕ) (alts : List Resolved) (g : Argument) (u : ℕ) (w : State)
      → Kept (by_argument (part X W levels inside at) c own n alts g u w) (by_argument (part X V levels inside at) c own n alts g u w)
  kept_by_argument c own n alts g u w =
      kept_then _ _ _ _ (kept_bodies g own c.ty alts u w) (λ ts v z. kept_compiled c n alts ts v z)

  kept_tested : (c : ConstInfo) (own : Path) (n : ℕ) (alts : List Resolved) (t : Term) (u : ℕ) (w : State)
      → Kept (tested (part X W levels inside at) c own n alts t u w) (tested (part X V levels inside at) c own n alts t u w)
  kept_tested c own n alts t u w =
      kept_compiles e (argument W (calls_of (part X W levels inside at)).check n c.ty) (argument V (calls_of (part X V levels inside at)).check n c.ty) _ _
      (λ v. kept_argument W V x (calls_of (part X W levels inside at)).check (calls_of (part X V levels inside at)).check e.agree.check n c.ty v)
      (kept_by_argument c own n alts) u w

  pub kept_equations : (c : ConstInfo) (own : Path) (n : ℕ) (alts : List Alternative) (u : ℕ) (w : State)
      → Kept (equations_value (part X W levels inside at) c own n alts u w) (equations_value (part X V levels inside at) c own n alts u w)
  kept_equations c own n alts u w =
      kept_then _ _ _ _ (kept_resolved e alts u w)
      (λ rs v z. kept_compiles e (compile W nesting c.ty n (with_props rs)) (compile V nesting c.ty n (with_props rs)) _ _
      (λ i. compiling_extends W V x nesting c.ty n (with_props rs) i) (kept_tested c own n rs) v z)
