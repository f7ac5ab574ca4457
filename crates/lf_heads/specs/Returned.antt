-- What a call of the kernel returned, as a run ends. A device of the proof.
use Rattle.std.specs.Prelude.{◌≡◌, List, Result, Ok, Err}
use Rattle.lf_core.specs.Term.{Path}
use Rattle.lf_core.specs.declared.constant.Ans.{Ans}
use Rattle.lf_core.specs.declared.constant.Ans.TheVariants as ans
use Rattle.lf_checker.specs.declared.fault.TypeFault.{TypeFault}
use Rattle.lf_steps.specs.declared.halt.Halt.{Halt}
use Rattle.lf_steps.specs.declared.halt.Halt.TheVariants as halt

abbrev pub Returned : {A : Type 0} → Ans A TypeFault → List Path → Result A Halt → Type 0
Returned (ans.Done a) names r = r ≡ Ok a
Returned (ans.Refused e) names (Err (halt.Refused r)) = (r.fault ≡ e) × (r.opened.items ≡ names)
Returned (ans.Refused e) names _ = ⊥
Returned ans.Out names r = r ≡ Err halt.Out
Returned (ans.Need k) names r = r ≡ Err (halt.Need k)
Returned ans.Stopped names r = r ≡ Err halt.Stopped
Returned ans.NoMemory names r = r ≡ Err halt.NoMemory
