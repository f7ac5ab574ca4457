-- The extension law of the commands that declare nothing, and of what is asked for.
use Rattle.std.proofs.Common.{◌≡◌, ℕ, List, [], ◌∷◌, None, refl, subst}
use Rattle.lf_core.specs.Term.{Path, Term}
use Rattle.lf_syntax.specs.Tree.{TermTree}
use Rattle.lf_checker.specs.View.{View}
use Rattle.lf_checker.specs.Extends.{Tells}
use Rattle.lf_checker.specs.Calls.{Seen, known, unknown, missing, see}
use Rattle.lf_checker.specs.Checker.{normalize}
use Rattle.lf_extension_laws.proofs.Kept.{SameSeen, see_kept}
use Rattle.lf_elaboration.specs.Run.{checks}
use Rattle.lf_elaboration.specs.Part.{Locals, State, given}
use Rattle.lf_elaboration.specs.Terms.{OneBinder}
use Rattle.lf_elaboration_laws.specs.Extension.{Kept}
use Rattle.lf_elaboration_laws.proofs.Kept.{kept_self, kept_then, kept_choose, kept_or_fail, kept_spend, kept_checks}
use Rattle.lf_elaboration_laws.proofs.Parts as parts
use Rattle.lf_elaboration_laws.proofs.Parts.{realized_kept, kept_close}
use Rattle.lf_document.specs.Task as task
use Rattle.lf_document.specs.Task.{Log}
use Rattle.lf_document.specs.Setting.{Setting, nesting, part, no_locals}
use Rattle.lf_document.specs.Binders.{nothing_over}
use Rattle.lf_document.specs.Queries.{nothing_under, variable_types, term_under, whole_term, checked_term, reduced_term}
use Rattle.lf_document.specs.Asking as asking
use Rattle.lf_document.specs.Asking.{ask_seen, ask_all}
use Rattle.lf_document_laws.specs.Extension as extension
use Rattle.lf_document_laws.proofs.Kept as kept_task
use Rattle.lf_document_laws.proofs.Parts.{both, kept_under_binders}

ruleset kept = (kept_self, kept_then, kept_choose, kept_or_fail, kept_spend)

module _ (X : Setting) (W V : View) (x : Tells V W) (levels : List Path) (at : ℕ) where
  pub kept_variable : (bs : List OneBinder) (u : ℕ) (w : State)
      → Kept (variable_types bs (part X W levels None at) u w) (variable_types bs (part X V levels None at) u w)
  kept_variable bs u w =
      let e : parts.Setting = both X W V x levels None at in
      search (kept, kept_under_binders e nothing_over nothing_under nothing_under (λ L k z. refl) no_locals bs, kept_close e) depth 16

  kept_under : (s : TermTree) (L : Locals) (u : ℕ) (w : State)
      → Kept (term_under (part X W levels None at) s L u w) (term_under (part X V levels None at) s L u w)
  kept_under s L u w = kept_then _ _ _ _ ((both X W V x levels None at).agree.elaborate given L s None u w) (λ r v z. refl)

  kept_whole_term : (bs : List OneBinder) (s : TermTree) (u : ℕ) (w : State)
      → Kept (whole_term (part X W levels None at) bs s u w) (whole_term (part X V levels None at) bs s u w)
  kept_whole_term bs s u w =
      let e : parts.Setting = both X W V x levels None at in
      search (
        kept,
        kept_under_binders e nothing_over (term_under (part X W levels None at) s) (term_under (part X V levels None at) s) (kept_under s) no_locals bs,
        kept_close e,
      ) depth 16

  pub kept_checked : (bs : List OneBinder) (s : TermTree) (u : ℕ) (w : State)
      → Kept (checked_term bs s (part X W levels None at) u w) (checked_term bs s (part X V levels None at) u w)
  kept_checked bs s u w = search (kept, kept_whole_term) depth 16

  kept_normal : (L : Locals) (t : Term) (u : ℕ) (w : State)
      → Kept (checks (normalize W nesting L.types t) u w) (checks (normalize V nesting L.types t) u w)
  kept_normal L t u w =
      kept_checks (normalize W nesting L.types t) (normalize V nesting L.types t) u w
      ((both X W V x levels None at).agree.check.normalize L.types t u)

  pub kept_reduced : (bs : List OneBinder) (s : TermTree) (u : ℕ) (w : State)
      → Kept (reduced_term bs s (part X W levels None at) u w) (reduced_term bs s (part X V levels None at) u w)
  kept_reduced bs s u w = search (kept, kept_whole_term, kept_normal) depth 20

-- ---- What is asked for

ask_told : (U V : View) → Tells V U → (n : Path) (s t : Seen) → see U n ≡ s → SameSeen s t → (g : Log)
    → extension.Kept (ask_seen U n s g) (ask_seen V n t g)
ask_told U V x n (known c) t q h g =
    subst (λ r. extension.Kept (ask_seen U n (known c) g) (ask_seen V n r g)) h
    (subst (λ b. extension.Kept (ask_seen U n (known c) g) (task.choose b (asking.ask n) (task.gives tt) g)) (realized_kept U V x n c q)
    (kept_task.kept_self (ask_seen U n (known c) g)))
ask_told U V x n unknown t q h g = subst (λ r. extension.Kept (ask_seen U n unknown g) (ask_seen V n r g)) h refl
ask_told U V x n (missing k) t q h g = tt

pub kept_asking : (U V : View) → Tells V U → (ns : List Path) (g : Log) → extension.Kept (ask_all U ns g) (ask_all V ns g)
kept_asking U V x [] g = refl
kept_asking U V x (n ∷ ns) g =
    kept_task.kept_then (ask_seen U n (see U n) g) (ask_seen V n (see V n) g) (λ y. ask_all U ns) (λ y. ask_all V ns)
    (ask_told U V x n (see U n) (see V n) refl (see_kept U V x n) g) (λ y l. kept_asking U V x ns l)
