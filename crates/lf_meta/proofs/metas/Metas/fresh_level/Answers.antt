use Rattle.std.proofs.Common.{◌≡◌, ◌+◌, refl, rules}
use Rattle.lf_meta.proofs.Changing.{level_made_kept}
use Rattle.lf_meta.proofs.metas.Metas.fresh_level.Goals as goal

pub invariant_of-self-2 : goal.invariant_of-self-2
invariant_of-self-2 c =
    level_made_kept c.self.inside.changes c.push.new.self c.self.inside.level_count (c.self.inside.level_count + 1) c.self.invariant (search rules) refl
