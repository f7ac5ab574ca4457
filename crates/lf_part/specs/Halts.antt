-- What a halt of the checker ends elaboration with. Where no refusal is told, one is out.
use Rattle.lf_steps.specs.declared.halt.Halt.{Halt}
use Rattle.lf_steps.specs.declared.halt.Halt.TheVariants as halt
use Rattle.lf_part.specs.declared.ended.Ended.{Ended}
use Rattle.lf_part.specs.declared.ended.Ended.TheVariants.{Failed, Out, Need, Stopped, NoMemory}

abbrev pub ended_by : Halt → Ended
ended_by (halt.Refused r) = Out
ended_by halt.Out = Out
ended_by (halt.Need k) = Need k
ended_by halt.Stopped = Stopped
ended_by halt.NoMemory = NoMemory
