-- What a function that proves tells of one call: the proof that the definition's nested call gives, and what is kept.
use Rattle.std.specs.Prelude.{◌≡◌, ◌≤◌, ℕ, Result, List, length, take}
use Rattle.lf_core.specs.Term.{Term}
use Rattle.lf_syntax.specs.Tree.{ItemTree}
use Rattle.lf_elaboration.specs.Part.{Calls, Locals}
use Rattle.lf_part.specs.declared.ended.Ended.{Ended}
use Rattle.lf_part.specs.declared.state.State.{State}
use Rattle.lf_part.specs.Runs.{Runs, Rose}
use Rattle.lf_part.specs.Values as own

abbrev pub Proved : Calls → ℕ → Locals → Term → List ItemTree → ℕ → State → ℕ → Result Term Ended → Locals → ℕ → State → ℕ → Type 0
Proved c k L goal is u s n r M v t m =
    record {
      value : Runs (c.prove L goal is u (own.state s)) r v (own.state t);
      kept : M ≡ L;
      floor : k ≤ length t.metas;
      below : take k t.metas ≡ take k s.metas;
      count : n ≤ m;
      rose : Rose r n m;
    }
