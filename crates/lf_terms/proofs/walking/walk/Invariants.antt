use Rattle.std.proofs.Common.{◌≡◌, ◌≤◌, length}
use Rattle.std.specs.Prelude.{take}
use Rattle.lf_checker.specs.Whnf.{turn_limit}
use Rattle.lf_part.specs.Values.{part, calls, state}
use Rattle.lf_terms.specs.Values.{trailing}
use Rattle.lf_terms.specs.Walk.{walk_within}
use Rattle.lf_terms.proofs.walking.walk.Given as goal

abbrev pub invariant-turns : goal.invariant-turns
invariant-turns g l = record {
  meaning : walk_within (calls (part g.S.Synth.meaning l.part) l.part.depth) l.fn.locals l.at l.at_sign (trailing l.trailing) turn_limit l.fn.start l.fn.units
      (state l.fn.state)
      ≡ walk_within (calls (part g.S.Synth.meaning l.part) l.part.depth) l.fn.locals l.at l.at_sign (trailing l.trailing) l.left l.walked l.units (state l.state);
  kept : l.locals ≡ l.fn.locals;
  floor : l.part.floor ≤ length l.state.metas;
  below : take l.part.floor l.state.metas ≡ take l.part.floor l.fn.state.metas;
  count : g.P.Stop.stops l.fn.stop ≤ g.P.Stop.stops l.stop;
}

abbrev pub decreases-turns : goal.decreases-turns
decreases-turns g l = l.left
