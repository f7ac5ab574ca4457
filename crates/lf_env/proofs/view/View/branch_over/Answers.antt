use Rattle.std.proofs.Common.{◌≡◌, ◌<◌, ◌∙◌, refl, ap, sym, subst, Some, None, List, [], ◌∷◌, ◌++◌, length, arith}
use Rattle.lf_checker.specs.View.{find_branch}
use Rattle.lf_env.proofs.Entries.{parent_of-take}
use Rattle.lf_env.proofs.Parents.{over_none, over_parent}
use Rattle.lf_env.proofs.view.View.branch_over.Goals as goal

pub returns-in-empty : goal.returns-in-empty
returns-in-empty c = sym (over_none c.args.self.now.branches c.args.words.now c.in-empty.len_below)

pub returns-in-len1-up : goal.returns-in-len1-up
returns-in-len1-up c =
    c.open_position.ensures ∙ ap (find_branch c.args.self.now.branches) (parent_of-take c.args.words.now c.in-len1-up.len_at_least)
    ∙ sym (over_parent c.args.self.now.branches c.args.words.now c.in-len1-up.len_at_least)
