-- The extension law of heights, of values as they are completed, and of what stands for a value that fails.
use Rattle.std.proofs.Common.{ℕ, Option, Some, None, refl, subst}
use Rattle.lf_core.specs.Term.{Path, Term, bound, free, meta, sort, const, app, lam, pi, letin, lit, proj}
use Rattle.lf_checker.specs.View.{View, body_of}
use Rattle.lf_checker.specs.Extends.{Tells}
use Rattle.lf_checker.specs.Run as checker
use Rattle.lf_checker.specs.Calls.{Seen, known, unknown, missing, see}
use Rattle.lf_checker.specs.Checker.{body_height, seen_height, greatest_height, height_of}
use Rattle.lf_extension_laws.specs.Extension as checking
use Rattle.lf_extension_laws.proofs.Kept as kept_checker
use Rattle.lf_extension_laws.proofs.Kept.{see_kept, body_kept, kept_seen, kept_body}
use Rattle.lf_elaboration.specs.Part.{State, Run}
use Rattle.lf_elaboration_laws.specs.Extension as elaborating
use Rattle.lf_document.specs.Task.{Log, Judged}
use Rattle.lf_document.specs.Setting.{Setting}
use Rattle.lf_document.specs.Constants.{Header, Valued}
use Rattle.lf_document.specs.Values.{height_read, value_or_sorry, completed}
use Rattle.lf_elaboration.specs.Closing.{sorry_of}
use Rattle.lf_document_laws.specs.Extension.{Kept}
use Rattle.lf_document_laws.proofs.Kept.{kept_self, kept_then, kept_part}

ruleset checked = (kept_checker.kept_self, kept_checker.kept_then, kept_checker.kept_choose)

module _ (U V : View) (x : Tells V U) where
  kept_seen_height : (n : Path) (q : Seen) (u : ℕ) → checking.Kept (seen_height U n q u) (seen_height V n q u)
  kept_seen_height n (known k) u = kept_body (body_of U n) (body_of V n) (λ b. body_height b u) (λ b. body_height b u) (λ i. refl)
      (λ b. kept_checker.kept_self (body_height b u)) (body_kept U V x n)
  kept_seen_height n unknown u = refl
  kept_seen_height n (missing k) u = tt

  kept_height_in : (t : Term) (u : ℕ) → checking.Kept (greatest_height U t u) (greatest_height V t u)
  kept_height_in (const n ls) u = kept_seen (see U n) (see V n) (λ q. seen_height U n q u) (λ q. seen_height V n q u) (λ k. refl)
      (λ q. kept_seen_height n q u) (see_kept U V x n)
  kept_height_in (app f a) u = search (checked, kept_height_in f, kept_height_in a) depth 8
  kept_height_in (lam y A b) u = search (checked, kept_height_in A, kept_height_in b) depth 8
  kept_height_in (pi y A b) u = search (checked, kept_height_in A, kept_height_in b) depth 8
  kept_height_in (letin y A w b) u = search (checked, kept_height_in A, kept_height_in w, kept_height_in b) depth 10
  kept_height_in (bound i) u = refl
  kept_height_in (free i) u = refl
  kept_height_in (meta i) u = refl
  kept_height_in (sort l) u = refl
  kept_height_in (lit n) u = refl
  kept_height_in (proj s i t) u = kept_height_in t u

  kept_height : (t : Term) (u : ℕ) → checking.Kept (height_of U t u) (height_of V t u)
  kept_height t u = search (checked, kept_height_in) depth 8

  kept_read : (o p : checker.Answer ℕ) → checking.Kept o p → (g : Log) → Kept (height_read o g) (height_read p g)
  kept_read (checker.done h u) p k g = subst (λ q. Kept (height_read (checker.done h u) g) (height_read q g)) k refl
  kept_read (checker.refused e u) p k g = subst (λ q. Kept (height_read (checker.refused e u) g) (height_read q g)) k refl
  kept_read checker.out p k g = subst (λ q. Kept (height_read checker.out g) (height_read q g)) k refl
  kept_read (checker.need i) p k g = tt

  kept_or_sorry : (h : Header) (o : Option Valued) (g : Log) → Kept (value_or_sorry U h o g) (value_or_sorry V h o g)
  kept_or_sorry h (Some v) g = refl
  kept_or_sorry h None g =
      kept_then _ _ _ _
      (kept_read (height_of U (sorry_of h.sort h.info.ty) 0) (height_of V (sorry_of h.sort h.info.ty) 0) (kept_height (sorry_of h.sort h.info.ty) 0) g)
      (λ k l. refl)

  pub kept_completed : (X : Setting) (at : ℕ) (h : Header) (m k : Run (Judged Valued)) → ((u : ℕ) (s : State) → elaborating.Kept (m u s) (k u s)) → (g : Log)
      → Kept (completed X U at h m g) (completed X V at h k g)
  kept_completed X at h m k e g =
      kept_then _ _ _ _ (kept_part X.budget at m k g e)
      (λ r l. kept_then _ _ _ _ (kept_or_sorry h r.value l) (λ v j. kept_self _))
