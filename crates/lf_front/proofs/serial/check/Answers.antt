use Rattle.std.proofs.Common.{◌≡◌, List, ℕ, subst, sym}
use Rattle.lf_front.specs.declared.status.Status.TheVariants as status
use Rattle.lf_front.specs.Reader.{Reports, Refuses}
use Rattle.lf_front.specs.Meaning.{not_built}
use Rattle.lf_front.specs.declared.names.Refusal.TheVariants.{NotBuilt}
use Rattle.lf_front.proofs.Ending.{refused_text, long_meant, report_meant, refusal_meant, part_written, all_written}
use Rattle.lf_front.proofs.serial.check.Goals as goal

pub returns-in-Failed-write_all : goal.returns-in-Failed-write_all
returns-in-Failed-write_all g c = (
  c.in-Failed-write_all.ensures.gives.0,
  part_written _ _ _ _ not_built status.NotBuilt (long_meant _ _ c.requires c.in-TooLong.ensures.gives.0) c.in-Failed-write_all.ensures.gives.1,
)

pub returns-in-Ok : goal.returns-in-Ok
returns-in-Ok g c =
    let whole = c.in-Whole.ensures.gives in (
      c.in-Failed-write_all-2.ensures.gives.0,
      part_written _ _ _ _ _ status.Clean
          (report_meant _ _ _ c.in-Whole.text.items _ c.requires whole.1 whole.2
          (subst (λ (t : List ℕ). Reports c.in-Whole.text.items t) (sym c.as_slice-in-Ok.ensures.value)
          (subst (λ (b : List ℕ). Reports b c.in-Ok.report.items) c.as_slice.ensures.value c.in-Ok.ensures)))
          c.in-Failed-write_all-2.ensures.gives.1,
    )

pub returns-in-Done-write_all-2 : goal.returns-in-Done-write_all-2
returns-in-Done-write_all-2 g c =
    let whole = c.in-Whole.ensures.gives in
    all_written _ _ _ _ not_built status.NotBuilt
    (refusal_meant _ _ _ c.in-Whole.text.items c.requires whole.1 whole.2
    (refused_text _ _ _ c.in-Err-NotBuilt.field-0-is c.as_slice.ensures.value c.in-Err-NotBuilt.ensures))
    c.in-Done-write_all-2.ensures.gives

pub returns-in-Err-NotBuilt : goal.returns-in-Err-NotBuilt
returns-in-Err-NotBuilt g c =
    let whole = c.in-Whole.ensures.gives in (
      c.in-Failed-write_all-3.ensures.gives.0,
      part_written _ _ _ _ not_built status.NotBuilt
          (refusal_meant _ _ _ c.in-Whole.text.items c.requires whole.1 whole.2
          (refused_text _ _ _ c.in-Err-NotBuilt.field-0-is c.as_slice.ensures.value c.in-Err-NotBuilt.ensures))
          c.in-Failed-write_all-3.ensures.gives.1,
    )

pub returns-in-Done : goal.returns-in-Done
returns-in-Done g c = all_written _ _ _ _ not_built status.NotBuilt (long_meant _ _ c.requires c.in-TooLong.ensures.gives.0) c.in-Done.ensures.gives
