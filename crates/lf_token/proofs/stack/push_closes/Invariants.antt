use Rattle.std.proofs.Common.{◌≡◌, ◌++◌}
use Rattle.std.specs.Prelude.{replicate}
use Rattle.lf_text.specs.declared.word.Word.TheVariants.{LayoutClose}
use Rattle.lf_text.specs.Layout.{mark}
use Rattle.lf_token.proofs.stack.push_closes.Given as goal

abbrev pub invariant-closes : goal.invariant-closes
invariant-closes l = l.tokens.items ≡ l.initial.tokens.items ++ replicate l._i (mark LayoutClose l.at)
