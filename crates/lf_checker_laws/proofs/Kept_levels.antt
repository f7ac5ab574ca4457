-- What the checker gives is at the levels of what it takes.
use Rattle.std.proofs.Common.{ℕ}
use Rattle.lf_core.specs.Term.{Term}
use Rattle.lf_rules.specs.Environment.{Environment, Context, ParametersBelow, LevelsBelow}
use Rattle.lf_checker.specs.View.{View}
use Rattle.lf_checker.specs.Run.{Answer}
use Rattle.lf_checker.specs.Calls.{checked, Calls}
use Rattle.lf_checker.specs.Infer.{sort_of}
use Rattle.lf_checker.specs.Checker.{calls}
use Rattle.lf_checker_laws.specs.Soundness.{Post, Typed, Reduct, Sound, LevelsAreKept}
use Rattle.lf_checker_laws.proofs.Runs.{post_map}
use Rattle.lf_checker_laws.proofs.Fitting.{names_below}
use Rattle.lf_checker_laws.proofs.Types.{InSort, sort_sound}
use Rattle.lf_checker_laws.proofs.All.{calls_sound}

typed_below : (V : View) (E : Environment) (n : ℕ) (C : Context) (t : Term) (o : Answer Term) → Post (Typed V E n C t) o → Post (LevelsBelow n) o
typed_below V E n C t o h = post_map (Typed V E n C t) (LevelsBelow n) o h (λ A w. names_below V E n A w.1.1)

reduct_below : (V : View) (E : Environment) (n : ℕ) (C : Context) (t : Term) (o : Answer Term) → Post (Reduct V E n C t) o → Post (LevelsBelow n) o
reduct_below V E n C t o h = post_map (Reduct V E n C t) (LevelsBelow n) o h (λ r w. names_below V E n r w.1.1)

pub levels_are_kept : LevelsAreKept
levels_are_kept V E cl n depth =
    let c : Calls = calls V depth in
    let s : Sound V E n c = calls_sound V E cl n depth in
    record {
      whnf = λ d C t u fine fi ft. reduct_below V E n C t (c.whnf d C t u) (s.whnf d C t u fine fi ft);
      infer = λ C t u fine fi. typed_below V E n C t (c.infer checked C t u) (s.infer C t u fine fi);
      normalize = λ C t u fine fi ft. reduct_below V E n C t (c.normalize C t u) (s.normalize C t u fine fi ft);
      sort_of = λ C A u fine fi. post_map (InSort E n C A) (ParametersBelow n) (sort_of c checked C A u) (sort_sound V E n c s C A u fine fi) (λ l w. w.1);
    }
