use Rattle.lf_front.proofs.Ending.{not_accepted}
use Rattle.lf_front.proofs.serial.document.Goals as goal

pub returns : goal.returns
returns c = not_accepted c.args.text.now c.in_ok-tokens.tokens.items c.as_slice.result.now c.in-Err.refusal c.in_ok-tokens.ensures c.as_slice.ensures.value
    c.in-Err.ensures.reads
