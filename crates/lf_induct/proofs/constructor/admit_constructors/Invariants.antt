use Rattle.std.proofs.Common.{◌≡◌, ◌≤◌, [], drop}
use Rattle.lf_checker.specs.Checker.{calls}
use Rattle.lf_checker.specs.Admission.{admit_constructors}
use Rattle.lf_recursor.specs.Values.{family_of}
use Rattle.lf_induct.specs.Parts.{admit_into}
use Rattle.lf_induct.proofs.constructor.admit_constructors.Given as goal

-- what was read and what is still to be read are what is read of all
abbrev pub invariant-constructors : goal.invariant-constructors
invariant-constructors g l = record {
  meaning : admit_constructors (calls l.cx.view.now l.cx.depth) (family_of l.family) l.wanted l.ctors l.fn.units
      ≡ admit_into (calls l.cx.view.now l.cx.depth) (family_of l.family) l.wanted l.reads.items (drop l.ctor-index l.ctors) l.units;
  context : l.locals.items ≡ [];
  count : g.P.Stop.stops l.fn.stop ≤ g.P.Stop.stops l.stop;
}
