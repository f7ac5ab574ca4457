use Rattle.lf_depth_laws.proofs.Cuts as cuts
use Rattle.lf_depth_laws.proofs.texts_are_shallow.Goals as goal

pub returns : goal.returns
returns c = cuts.shallow_texts
