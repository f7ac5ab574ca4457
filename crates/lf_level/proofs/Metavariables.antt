-- What is kept beside a level tells whether a metavariable stands in it.
use Rattle.std.proofs.Common.{◌≡◌, false, refl, true≢false}
use Rattle.std.proofs.lemmas.Bool.{or_parts, or_from}
use Rattle.lf_core.specs.Term.{Universe, level_zero, level_succ, level_max, level_imax, level_param, level_meta}
use Rattle.lf_core.specs.Summary.{level_has_metavariable}
use Rattle.lf_level.specs.Parameters.{HasNoMetavariable}

pub has_none : (l : Universe) → level_has_metavariable l ≡ false → HasNoMetavariable l
has_none level_zero e = tt
has_none (level_succ l) e = has_none l e
has_none (level_max l m) e = let p = or_parts (level_has_metavariable l) (level_has_metavariable m) e in (has_none l p.0, has_none m p.1)
has_none (level_imax l m) e = let p = or_parts (level_has_metavariable l) (level_has_metavariable m) e in (has_none l p.0, has_none m p.1)
has_none (level_param k) e = tt
has_none (level_meta k) e = absurd (true≢false e)

pub tells_none : (l : Universe) → HasNoMetavariable l → level_has_metavariable l ≡ false
tells_none level_zero h = refl
tells_none (level_succ l) h = tells_none l h
tells_none (level_max l m) h = or_from (level_has_metavariable l) (level_has_metavariable m) (tells_none l h.0) (tells_none m h.1)
tells_none (level_imax l m) h = or_from (level_has_metavariable l) (level_has_metavariable m) (tells_none l h.0) (tells_none m h.1)
tells_none (level_param k) h = refl
tells_none (level_meta k) h = absurd h
