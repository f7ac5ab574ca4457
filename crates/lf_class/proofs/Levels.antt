-- Metavariables of levels, one more.
use Rattle.std.proofs.Common.{◌≡◌, ℕ, zero, suc, ◌+◌, ◌-◌, ◌<◌, List, [], ◌∷◌, ◌++◌, refl, sym, ap, ◌∙◌, append_assoc, arith}
use Rattle.lf_core.specs.Term.{Universe, level_meta}
use Rattle.lf_resolution.specs.Candidate.{level_metas}
use Rattle.lf_resolution.specs.Attempt.{levels_made}
use Rattle.lf_elaboration.specs.Metavariables.{level_count}
use Rattle.lf_elaboration.specs.declared.change.Change.TheVariants.{LevelMade}

left_some : (n k : ℕ) → k < n → (d : ℕ) × (n - k ≡ suc d) × (n - (k + 1) ≡ d)
left_some n k h = (n - (k + 1), omega (arith, h), refl)

pub one_level : (all : List Universe) (n k : ℕ) → k < n
    → (all ++ level_meta k ∷ []) ++ level_metas (k + 1) (n - (k + 1)) ≡ all ++ level_metas k (n - k)
one_level all n k h =
    let r = left_some n k h in
    let one : suc k ≡ k + 1 = omega arith in
    append_assoc all (level_meta k ∷ []) (level_metas (k + 1) (n - (k + 1)))
    ∙ ap (λ d. all ++ level_meta k ∷ level_metas (k + 1) d) r.2
    ∙ ap (λ j. all ++ level_meta k ∷ level_metas j r.0) (sym one)
    ∙ ap (λ d. all ++ level_metas k d) (sym r.1)

-- The changes that make them.
made_behind : (k : ℕ) → levels_made k ++ LevelMade ∷ [] ≡ LevelMade ∷ levels_made k
made_behind zero = refl
made_behind (suc k) = ap (λ cs. LevelMade ∷ cs) (made_behind k)

made_next : (k n : ℕ) → n ≡ suc k → levels_made k ++ LevelMade ∷ [] ≡ levels_made n
made_next k n e = made_behind k ∙ ap levels_made (sym e)

pub one_made : (k : ℕ) → levels_made k ++ LevelMade ∷ [] ≡ levels_made (k + 1)
one_made k = made_next k (k + 1) (omega arith)

pub made_count : (k : ℕ) → level_count (levels_made k) ≡ k
made_count zero = refl
made_count (suc k) = ap (λ n. n + 1) (made_count k) ∙ omega arith
