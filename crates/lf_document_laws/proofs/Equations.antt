-- The extension law of definitions by equations, as bodies.
use Rattle.std.proofs.Common.{ℕ, zero, suc, ◌-◌, List, [], ◌∷◌, length, refl, subst}
use Rattle.lf_syntax.specs.declared.leaf.Ident.{Ident}
use Rattle.lf_syntax.specs.declared.pattern.Alternative.{Alternative}
use Rattle.lf_syntax.specs.declared.pattern.Pattern.{Pattern}
use Rattle.lf_syntax.specs.declared.pattern.Pattern.TheVariants.{Constructor, Zero, Successor}
use Rattle.lf_checker.specs.Calls.{see}
use Rattle.lf_extension_laws.specs.Extension as checking
use Rattle.lf_extension_laws.proofs.Kept as kept_checker
use Rattle.lf_elaboration.specs.Scope.{candidates_of}
use Rattle.lf_elaboration.specs.Run as run
use Rattle.lf_elaboration.specs.Part.{Locals, State, Run, ask}
use Rattle.lf_elaboration.specs.Identifiers.{Meaning, own_type, constant, nothing, waits, meaning_of}
use Rattle.lf_equations.specs.Outcome.{Outcome, gets, fault, Compiling}
use Rattle.lf_equations.specs.Argument.{Argument}
use Rattle.lf_elaboration_laws.specs.Extension.{Kept}
use Rattle.lf_elaboration_laws.proofs.Kept.{kept_self, kept_then, kept_choose, kept_or_fail, kept_spend, kept_checks}
use Rattle.lf_elaboration_laws.proofs.Parts as parts
use Rattle.lf_elaboration_laws.proofs.Parts.{larger, SameMeaning, found_kept, kept_close_binder}
use Rattle.lf_document.specs.Task.{Judged}
use Rattle.lf_document.specs.Queries.{constant_by, constant_of}
use Rattle.lf_document.specs.EquationsBody.{
  Resolved,
  constructor_of,
  resolved,
  on_outcome,
  compiles,
  type_seen,
  fields_opened,
  fields_for,
  first_of,
  close_locals,
}

ruleset kept = (kept_self, kept_then, kept_choose, kept_or_fail, kept_spend)

ruleset checked = (kept_checker.kept_self, kept_checker.kept_then, kept_checker.kept_choose, kept_checker.kept_caught, kept_checker.kept_spend)

module _ (e : parts.Setting) where
  -- ---- Constructors

  constant_told : (y : Ident) (m k : Meaning) → SameMeaning e.part.view e.view m k → (u : ℕ) (w : State)
      → Kept (constant_by e.part y m u w) (constant_by (larger e) y k u w)
  constant_told y (waits i) k h u w = tt
  constant_told y (own_type n) k h u w = subst (λ q. Kept (constant_by e.part y (own_type n) u w) (constant_by (larger e) y q u w)) h refl
  constant_told y nothing k h u w =
      subst (λ q. Kept (constant_by e.part y nothing u w) (constant_by (larger e) y q u w)) h (kept_self (constant_by e.part y nothing u w))
  constant_told y (constant n c) k h u w =
      subst (λ q. Kept (constant_by e.part y (constant n c) u w) (constant_by (larger e) y q u w)) h.0
      (subst (λ b. Kept (constant_by e.part y (constant n c) u w) (run.go_on (run.choose b (ask n) (run.gives tt) u w) (λ z. run.gives n))) h.1
      (kept_self (constant_by e.part y (constant n c) u w)))

  pub kept_constant : (y : Ident) (u : ℕ) (w : State) → Kept (constant_of e.part y u w) (constant_of (larger e) y u w)
  kept_constant y u w =
      constant_told y (meaning_of e.part y.name) (meaning_of (larger e) y.name)
      (found_kept e.part.view e.view e.tells e.part.own (candidates_of e.part.scope e.part.inside y.name)) u w

  kept_pattern : (p : Pattern) (u : ℕ) (w : State) → Kept (constructor_of e.part p u w) (constructor_of (larger e) p u w)
  kept_pattern (Constructor y fs) u w = kept_constant y u w
  kept_pattern (Zero at) u w = refl
  kept_pattern (Successor y) u w = refl

  pub kept_resolved : (alts : List Alternative) (u : ℕ) (w : State) → Kept (resolved e.part alts u w) (resolved (larger e) alts u w)
  kept_resolved [] u w = refl
  kept_resolved (a ∷ alts) u w = search (kept, kept_pattern, kept_resolved alts) depth 12

  -- ---- Faults

  kept_outcome : {A B : Type 0} (f g : A → Run (Judged B)) → ((y : A) (u : ℕ) (w : State) → Kept (f y u w) (g y u w)) → (o : Outcome A) (u : ℕ) (w : State)
      → Kept (on_outcome e.part f o u w) (on_outcome (larger e) g o u w)
  kept_outcome f g h (gets y) u w = h y u w
  kept_outcome f g h (fault i) u w = refl

  pub kept_compiles : {A B : Type 0} (m n : Compiling A) (f g : A → Run (Judged B)) → ((v : ℕ) → checking.Kept (m v) (n v))
      → ((y : A) (u : ℕ) (w : State) → Kept (f y u w) (g y u w)) → (u : ℕ) (w : State)
      → Kept (compiles e.part m f u w) (compiles (larger e) n g u w)
  kept_compiles m n f g k h u w = kept_then _ _ _ _ (kept_checks m n u w (k u)) (λ o v z. kept_outcome f g h o v z)

  -- ---- Terms

  pub kept_fields_for : (g : Argument) (L : Locals) (a : Resolved) (u : ℕ) → checking.Kept (fields_for e.part.view g L a u) (fields_for e.view g L a u)
  kept_fields_for g L a u =
      kept_checker.kept_then (type_seen g (see e.part.view a.constructor) u) (type_seen g (see e.view a.constructor) u) (fields_opened g L a)
      (fields_opened g L a)
      (kept_checker.kept_seen (see e.part.view a.constructor) (see e.view a.constructor) (λ q. type_seen g q u) (λ q. type_seen g q u) (λ k. refl)
      (λ q. kept_checker.kept_self (type_seen g q u)) (kept_checker.see_kept e.part.view e.view e.tells a.constructor))
      (λ o v. kept_checker.kept_self (fields_opened g L a o v))

  pub kept_close_locals : (k n : ℕ) (L : Locals) (u : ℕ) (w : State) → Kept (close_locals e.part e.left k n L u w) (close_locals (larger e) e.right k n L u w)
  kept_close_locals k zero L u w = refl
  kept_close_locals k (suc n) L u w =
      kept_then _ _ _ _ (kept_close_binder e L k (length L.types - 1) u w) (λ y v z. kept_close_locals k n (first_of L (length L.types - 1)) v z)
