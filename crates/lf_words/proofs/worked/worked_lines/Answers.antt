use Rattle.lf_words.proofs.Lines.{answers}
use Rattle.lf_words.proofs.worked.worked_lines.Goals as goal

pub returns : goal.returns
returns c = answers
