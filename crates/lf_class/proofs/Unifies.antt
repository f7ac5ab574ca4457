-- A run of the unifier among those of the checker.
use Rattle.std.proofs.Common.{◌≡◌, Bool, refl, ap, ◌∙◌}
use Rattle.std.specs.Prelude.{Option}
use Rattle.lf_checker.specs.Run.{Answer, out, need}
use Rattle.lf_elaboration.specs.Metavariables.{Changes}
use Rattle.lf_elaboration.specs.Run as run
use Rattle.lf_steps.specs.declared.halt.Halt.{Halt}
use Rattle.lf_steps.specs.declared.halt.Halt.TheVariants.{Refused, Out, Need, Stopped, NoMemory}
use Rattle.lf_unify.specs.Runs as unifier
use Rattle.lf_resolution.specs.Walk.{unified}

-- What is refused there is out.
abbrev pub as_out : Halt → Answer (Option Changes)
as_out (Refused r) = out
as_out Out = out
as_out (Need k) = need k
as_out Stopped = out
as_out NoMemory = out

ended : (h : Halt) (cs : Changes) → unified (unifier.halted h cs) ≡ as_out h
ended (Refused r) cs = refl
ended Out cs = refl
ended (Need k) cs = refl
ended Stopped cs = refl
ended NoMemory cs = refl

pub ends : (o : run.Answer Changes Bool) (h : Halt) (cs : Changes) → o ≡ unifier.halted h cs → unified o ≡ as_out h
ends o h cs e = ap unified e ∙ ended h cs
