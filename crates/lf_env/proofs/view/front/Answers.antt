use Rattle.std.proofs.Common.{◌≡◌, ◌<◌, ◌∙◌, refl, ap, sym, subst, Some, None, List, [], ◌∷◌, ◌++◌, length, arith}
use Rattle.lf_checker.specs.View.{parent_of}
use Rattle.lf_env.proofs.Entries.{parent_of-take}
use Rattle.lf_env.proofs.Parents.{is_empty}
use Rattle.lf_env.proofs.view.front.Goals as goal

pub returns-in-empty : goal.returns-in-empty
returns-in-empty c = let e = is_empty c.args.words.now c.in-empty.len_below in e ∙ sym (ap parent_of e)

pub returns-in-len1-up : goal.returns-in-len1-up
returns-in-len1-up c = parent_of-take c.args.words.now c.in-len1-up.len_at_least
