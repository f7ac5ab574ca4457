-- The trees that nodes stand for.
use Rattle.lf_core.specs.Term.{Universe, level_zero, level_succ, level_max, level_imax, level_param, level_meta}
use Rattle.lf_core.specs.declared.level.LevelNode.{LevelNode}
use Rattle.lf_core.specs.declared.level.LevelNode.TheVariants.{Zero, Succ, Max, Imax, Param, Meta}

abbrev pub universe_of : LevelNode → Universe
universe_of Zero = level_zero
universe_of (Succ l) = level_succ l
universe_of (Max l m) = level_max l m
universe_of (Imax l m) = level_imax l m
universe_of (Param k) = level_param k
universe_of (Meta k) = level_meta k
