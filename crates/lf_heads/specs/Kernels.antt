-- What a halt of the kernel ends a part with. A device of the proof.
use Rattle.lf_checker.specs.Run.{Answer}
use Rattle.lf_elaboration.specs.Part.{Part, State, refusal_at}
use Rattle.lf_elaboration.specs.Run as run
use Rattle.lf_document.specs.Setting.{no_locals}

abbrev pub by_halt : {A : Type 0} → Part → State → Answer A → run.Answer State A
by_halt P s o = run.answered (refusal_at P no_locals P.place) s o
