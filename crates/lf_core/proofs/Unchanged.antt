-- Where no parameter stands, levels stay as they are.
use Rattle.std.proofs.Common.{◌≡◌, false, List, [], ◌∷◌, refl, true≢false}
use Rattle.std.specs.Prelude.{map}
use Rattle.std.proofs.lemmas.Bool.{or_parts}
use Rattle.lf_core.specs.Term.{Universe, level_zero, level_succ, level_max, level_imax, level_param, level_meta}
use Rattle.lf_core.specs.Substitution.{level_substitute}
use Rattle.lf_core.specs.Summary.{level_has_parameter, levels_have_parameter}

pub level_unchanged : (args : List Universe) (l : Universe) → level_has_parameter l ≡ false → level_substitute args l ≡ l
level_unchanged args level_zero h = refl
level_unchanged args (level_succ l) h = λ i. level_succ (level_unchanged args l h i)
level_unchanged args (level_max l m) h =
    let p = or_parts (level_has_parameter l) (level_has_parameter m) h in
    λ i. level_max (level_unchanged args l p.0 i) (level_unchanged args m p.1 i)
level_unchanged args (level_imax l m) h =
    let p = or_parts (level_has_parameter l) (level_has_parameter m) h in
    λ i. level_imax (level_unchanged args l p.0 i) (level_unchanged args m p.1 i)
level_unchanged args (level_param k) h = absurd (true≢false h)
level_unchanged args (level_meta k) h = refl

pub levels_unchanged : (args : List Universe) (ls : List Universe) → levels_have_parameter ls ≡ false → map (level_substitute args) ls ≡ ls
levels_unchanged args [] h = refl
levels_unchanged args (l ∷ ls) h =
    let p = or_parts (level_has_parameter l) (levels_have_parameter ls) h in
    λ i. level_unchanged args l p.0 i ∷ levels_unchanged args ls p.1 i
