use Rattle.std.proofs.Common.{◌≡◌, ◌∙◌, ap, []}
use Rattle.lf_print.specs.Printed.{print_text}
use Rattle.lf_join.proofs.lines.type_text.Goals as goal

pub returns : goal.returns
returns c =
    c.in_ok-text.ensures
    ∙ ap (λ ns. print_text ns c.as_slice-2.result.now c.args.constant.now.ty) (c.as_slice.ensures.value ∙ c.new-none.ensures.items)
    ∙ ap (λ ls. print_text [] ls c.args.constant.now.ty) c.as_slice-2.ensures
