use Rattle.std.proofs.lemmas.List.{get_or-replicate}
use Rattle.lf_level.proofs.lanes.zeros.Goals as goal

pub returns : goal.returns
returns c = λ k h. get_or-replicate 64 k 0 0 h
