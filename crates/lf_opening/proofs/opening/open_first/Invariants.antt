use Rattle.std.proofs.Common.{◌≡◌, ◌≤◌, length}
use Rattle.std.specs.Prelude.{take}
use Rattle.lf_part.specs.Values.{part, calls, state}
use Rattle.lf_opening.specs.Openings.{open_first}
use Rattle.lf_opening.proofs.opening.open_first.Given as goal

abbrev pub invariant-turns : goal.invariant-turns
invariant-turns g l = record {
  meaning : open_first (calls (part g.S.Synth.meaning l.part) l.part.depth) l.fn.locals l.at l.fn.count l.fn.start l.fn.units (state l.fn.state)
      ≡ open_first (calls (part g.S.Synth.meaning l.part) l.part.depth) l.fn.locals l.at l.left l.opened l.units (state l.state);
  kept : l.locals ≡ l.fn.locals;
  floor : l.part.floor ≤ length l.state.metas;
  below : take l.part.floor l.state.metas ≡ take l.part.floor l.fn.state.metas;
  count : g.P.Stop.stops l.fn.stop ≤ g.P.Stop.stops l.stop;
}

abbrev pub decreases-turns : goal.decreases-turns
decreases-turns g l = l.left
