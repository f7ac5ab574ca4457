use Rattle.std.proofs.Common.{◌≡◌, ◌≤◌, length, drop}
use Rattle.std.specs.Prelude.{take}
use Rattle.lf_part.specs.Values.{part, calls, state}
use Rattle.lf_opening.specs.Rules.{first_unified}
use Rattle.lf_opening.proofs.rewriting.first_unified.Given as goal

abbrev pub invariant-places : goal.invariant-places
invariant-places g l = record {
  meaning : first_unified (calls (part g.S.Synth.meaning l.part) l.part.depth) l.fn.locals l.left l.places l.fn.units (state l.fn.state)
      ≡ first_unified (calls (part g.S.Synth.meaning l.part) l.part.depth) l.fn.locals l.left (drop l.place-index l.places) l.units (state l.state);
  kept : l.locals ≡ l.fn.locals;
  floor : l.part.floor ≤ length l.state.metas;
  below : take l.part.floor l.state.metas ≡ take l.part.floor l.fn.state.metas;
  count : g.P.Stop.stops l.fn.stop ≤ g.P.Stop.stops l.stop;
}
