use Rattle.lf_join.specs.Marked.{made_by}
use Rattle.lf_join.specs.Sets.{has}
use Rattle.lf_join.proofs.Suffixes.{all_suffixes}
use Rattle.lf_join.proofs.realized.put_of.Goals as goal

pub returns : goal.returns
returns g c =
    all_suffixes (has c.args.asked.now.keys) (made_by (g.M.Marks.reals c.args.state.now)) c.args.parent.now c.args.all.now.items
    c.put_suffix.new.all.items c.put_suffix-2.new.all.items c.put_suffix-3.new.all.items c.put_suffix-4.new.all.items c.put_numbered.new.all.items
    c.in_ok-put_suffix.ensures c.in_ok-put_suffix-2.ensures c.in_ok-put_suffix-3.ensures c.in_ok-put_suffix-4.ensures c.in_ok-put_numbered.ensures
