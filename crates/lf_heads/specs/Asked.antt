-- What commands that declare nothing tell behind the elaborated term.
use Rattle.std.specs.Prelude.{ℕ, Option, Some, List}
use Rattle.lf_core.specs.Term.{Path, Term}
use Rattle.lf_print.specs.Printed.{print_text}
use Rattle.lf_checker.specs.Checker.{normalize}
use Rattle.lf_elaboration.specs.Run.{◌>>=◌, gives, checks}
use Rattle.lf_elaboration.specs.Part.{Part, Locals, Run, instantiated}
use Rattle.lf_elaboration.specs.Closing.{locals_put_in}
use Rattle.lf_msg.specs.declared.info.Info.TheVariants.{Checked, Reduced}
use Rattle.lf_msg.specs.declared.diagnostic.Diagnostic.{Diagnostic}
use Rattle.lf_msg.specs.declared.diagnostic.Diagnostic.TheVariants.{Info}

abbrev pub printed : Part → List Path → Term → List ℕ
printed P names t = print_text names P.levels t

abbrev pub checked : Part → List Path → Term → Term → Diagnostic
checked P names t T = Info (Checked (printed P names t) (printed P names T))

abbrev pub checked_under : Part → Locals → Term → Term → Run (Option Diagnostic)
checked_under P L t0 T0 = do
  t ← instantiated t0
  T ← instantiated T0
  gives (Some (checked P L.names t T))

abbrev pub reduced_under : Part → ℕ → Locals → Term → Run (Option Diagnostic)
reduced_under P d L0 t0 = do
  L ← locals_put_in L0
  t ← instantiated t0
  n ← checks (normalize P.view d L.types t)
  gives (Some (Info (Reduced (printed P L.names n))))
