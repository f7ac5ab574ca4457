use Rattle.std.proofs.Common.{◌≡◌, ◌∙◌, ap, ◌||◌}
use Rattle.lf_core.specs.Same.{same_path}
use Rattle.lf_join.specs.Sets.{has}
use Rattle.lf_join.proofs.Sets.{inserted}
use Rattle.lf_join.proofs.by_name.add.Goals as goal

pub returns : goal.returns
returns c n =
    ap (λ ks. has ks n) c.in_ok-insert.ensures.keys
    ∙ inserted n c.args.set.now.keys c.new.result
    ∙ ap (λ m. has c.args.set.now.keys n || same_path n m) c.new.ensures
