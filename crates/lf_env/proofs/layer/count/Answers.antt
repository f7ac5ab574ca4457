use Rattle.std.proofs.Common.{◌≡◌, Option, Some, None, List, length, filter, sym, ap, false}
use Rattle.std.specs.Option.{is_some}
use Rattle.lf_checker.specs.View.{Entry}
use Rattle.lf_env.specs.Layer.{is_within}
use Rattle.lf_env.proofs.Entries.{filter_all}
use Rattle.lf_env.proofs.layer.count.Goals as goal

all_count : (limit : Option _) (es : List Entry) → is_some limit ≡ false → length es ≡ length (filter (is_within limit) es)
all_count None es h = ap length (sym (filter_all es))
all_count (Some limit) es h = cc

pub returns-then-is_none : goal.returns-then-is_none
returns-then-is_none c = all_count c.args.limit c.args.entries.now c.if-is_none.ensures
