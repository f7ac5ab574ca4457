use Rattle.std.proofs.Common.{◌≡◌, ◌≤◌, length, drop}
use Rattle.std.specs.Prelude.{take}
use Rattle.lf_part.specs.Values.{part, calls, state}
use Rattle.lf_nested.specs.Blocks.{run_holes}
use Rattle.lf_closes.proofs.closing.run_holes.Given as goal

abbrev pub invariant-holes : goal.invariant-holes
invariant-holes g l = record {
  meaning : run_holes (part g.S.Synth.meaning l.part) (calls (part g.S.Synth.meaning l.part) l.part.depth) l.fn.locals l.holes l.fn.units (state l.fn.state)
      ≡ run_holes (part g.S.Synth.meaning l.part) (calls (part g.S.Synth.meaning l.part) l.part.depth) l.fn.locals (drop l.hole-index l.holes) l.units
      (state l.state);
  kept : l.locals ≡ l.fn.locals;
  floor : l.part.floor ≤ length l.state.metas;
  below : take l.part.floor l.state.metas ≡ take l.part.floor l.fn.state.metas;
  count : g.P.Stop.stops l.fn.stop ≤ g.P.Stop.stops l.stop;
}
