-- The checker is sound, by one induction on the nesting that is left.
use Rattle.std.proofs.Common.{ℕ, zero, suc}
use Rattle.lf_rules.specs.Environment.{Environment}
use Rattle.lf_checker.specs.View.{View}
use Rattle.lf_checker.specs.Calls.{checked, Calls}
use Rattle.lf_checker.specs.Whnf.{whnf_body}
use Rattle.lf_checker.specs.Equal.{equal_body}
use Rattle.lf_checker.specs.Infer.{infer_body}
use Rattle.lf_checker.specs.Normalize.{normalize_body}
use Rattle.lf_checker.specs.Checker.{turn, calls}
use Rattle.lf_checker_laws.specs.Soundness.{ClosedList, Typed, Reduct, Sound, Soundness}
use Rattle.lf_checker_laws.proofs.Runs.{post_spend, Yes}
use Rattle.lf_rules.specs.Judgment.{Equal}
use Rattle.lf_checker_laws.proofs.Ends.{Ends, calls_ends}
use Rattle.lf_checker_laws.proofs.Turns.{whnf_sound}
use Rattle.lf_checker_laws.proofs.Types.{infer_sound}
use Rattle.lf_checker_laws.proofs.Equals.{equal_sound}
use Rattle.lf_checker_laws.proofs.Normals.{normalize_sound}

turn_sound : (V : View) (E : Environment) (top : ℕ) → ClosedList V E → (c : Calls) → Sound V E top c → Ends V c → Sound V E top (turn V c)
turn_sound V E top cl c s en = record {
  whnf = λ d C t u fine fi ft. post_spend (Reduct V E top C t) 1 (whnf_body V c d C t) u (λ v. whnf_sound V E top cl c s en d C t v fine fi ft);
  equal = λ C a b u fine fa fb ga gb. post_spend (Yes (Equal E C a b)) 1 (equal_body V c C a b) u (λ v. equal_sound V E top cl c s C a b v fine fa fb ga gb);
  infer = λ C t u fine fi. post_spend (Typed V E top C t) 1 (infer_body V c checked C t) u (λ v. infer_sound V E top cl c s C t v fine fi);
  normalize = λ C t u fine fi ft. post_spend (Reduct V E top C t) 1 (normalize_body c C t) u (λ v. normalize_sound V E top c s C t v fine fi ft);
}

pub calls_sound : Soundness
calls_sound V E cl top zero = record { whnf = λ d C t u f i g. tt; equal = λ C a b u f i j g h. tt; infer = λ C t u f i. tt; normalize = λ C t u f i g. tt }
calls_sound V E cl top (suc n) = turn_sound V E top cl (calls V n) (calls_sound V E cl top n) (calls_ends V n)
