-- The extension law of `#print axioms`, and of the values of tasks.
use Rattle.std.proofs.Common.{ℕ, [], Option, None, refl, subst}
use Rattle.lf_elaboration.specs.Axioms as axioms
use Rattle.lf_elaboration.specs.Part.{State, Run}
use Rattle.lf_elaboration_laws.specs.Extension as elaborating
use Rattle.lf_elaboration_laws.specs.Extension.{KeptWalk}
use Rattle.lf_elaboration_laws.proofs.Kept as kept_run
use Rattle.lf_elaboration_laws.proofs.Walking.{walk_extends}
use Rattle.lf_msg.specs.declared.diagnostic.Diagnostic.{Diagnostic}
use Rattle.lf_document.specs.Task.{judged, in_part}
use Rattle.lf_document.specs.Setting.{most_levels, part}
use Rattle.lf_document.specs.Queries.{told, axioms_walked, axioms_of}
use Rattle.lf_document.specs.Asking.{names_of}
use Rattle.lf_document_laws.specs.Extension.{AxiomsReachedExtend, ValuesExtend}
use Rattle.lf_document_laws.proofs.Kept.{kept_self, kept_then, kept_part, kept_judged, kept_outcome}
use Rattle.lf_document_laws.proofs.Naming.{kept_at_most}
use Rattle.lf_document_laws.proofs.Parts.{both}
use Rattle.lf_document_laws.proofs.Equations.{kept_constant}
use Rattle.lf_document_laws.proofs.Queries.{kept_asking}

kept_walk : (a b : axioms.Walk) → KeptWalk a b → (u : ℕ) (w : State) → elaborating.Kept (axioms_walked a u w) (axioms_walked b u w)
kept_walk (axioms.waits k) b h u w = tt
kept_walk (axioms.ended ns) b h u w = subst (λ q. elaborating.Kept (axioms_walked (axioms.ended ns) u w) (axioms_walked q u w)) h refl
kept_walk axioms.unended b h u w = subst (λ q. elaborating.Kept (axioms_walked axioms.unended u w) (axioms_walked q u w)) h refl

pub axioms_reached_extend : AxiomsReachedExtend
axioms_reached_extend X V x a b at n g =
    let m : Run (Option Diagnostic) = axioms_of n (part X X.view [] None at) in
    let k : Run (Option Diagnostic) = axioms_of n (part X V [] None at) in
    let same : (u : ℕ) (w : State) → elaborating.Kept (m u w) (k u w)
    = λ u w. kept_run.kept_then _ _ _ _ (kept_constant (both X X.view V x.tells [] None at) n u w)
    (λ c v z. kept_run.kept_then _ _ _ _ (kept_walk (axioms.reached X.view c) (axioms.reached V c) (walk_extends X.view V x a b c) v z) (λ ns i j. refl)) in
    kept_then _ _ _ _ (kept_at_most most_levels at 0 (in_part X.budget at (judged m)) (in_part X.budget at (judged k)) g
    (kept_part X.budget at (judged m) (judged k) g (λ u s. kept_judged m k u s (same u s)))) (λ r l. kept_self (told at r.value l))

pub values_extend : ValuesExtend
values_extend f X V x h =
    kept_outcome _ _ (kept_then _ _ _ _ (h _) (λ m l. kept_then _ _ _ _ (kept_asking X.view V x (names_of m) l) (λ y k. refl)))
