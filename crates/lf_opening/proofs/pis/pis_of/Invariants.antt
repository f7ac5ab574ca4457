use Rattle.std.proofs.Common.{◌≡◌, ◌+◌, ◌≤◌}
use Rattle.lf_elaboration.specs.Part.{State}
use Rattle.lf_part.specs.Values.{part, calls}
use Rattle.lf_opening.specs.Pis.{pis_of, pis_behind}
use Rattle.lf_opening.proofs.pis.pis_of.Given as goal

abbrev pub invariant-pis : goal.invariant-pis
invariant-pis g l = record {
  meaning : (s : State) → pis_of (calls (part g.S.Synth.meaning l.part) l.part.depth) l.locals.types l.ty l.fn.units s
      ≡ pis_behind (calls (part g.S.Synth.meaning l.part) l.part.depth) l.count l.left l.under l.units s;
  total : l.count + l.left ≡ 18446744073709551615;
  count : g.P.Stop.stops l.fn.stop ≤ g.P.Stop.stops l.stop;
}

abbrev pub decreases-pis : goal.decreases-pis
decreases-pis g l = l.left
