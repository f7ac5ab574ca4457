use Rattle.std.proofs.Common.{◌≡◌, ◌∙◌, ap, sym, not, drop, filter, flat_map, count_by, string_bytes}
use Rattle.lf_rules.specs.Recursor.{is_among}
use Rattle.lf_document.specs.Report.{message_line, constant_line, realized_line, is_error, is_warning, report_of}
use Rattle.lf_join.specs.LineParts.{counts_text}
use Rattle.lf_join.proofs.Whole.{parts, together}
use Rattle.lf_join.proofs.reports.report.Goals as goal

pub returns : goal.returns
returns c =
    let J = c.joined.inside in
    let ms = c.as_slice.result.now in
    let rs = c.as_slice-2.result.now in
    let cs = c.behind_base-constants.result.now in
    let ns = c.as_slice-3.result.now in
    ap (λ v. v.items) c.into_bytes.ensures.value
    ∙ together (flat_map (message_line J.text) ms) (flat_map constant_line (filter (λ d. not (is_among d.name rs)) cs))
    (flat_map realized_line (filter (λ d. is_among d.name rs) cs)) (counts_text (count_by is_error ns) (count_by is_warning ns))
    (string_bytes c.new-out.result) (string_bytes c.put_messages.new.out) (string_bytes c.put_constants.new.out) (string_bytes c.put_counts.new.out)
    c.new-out.ensures.bytes c.in_ok-put_messages.ensures c.in_ok-put_constants.ensures c.in_ok-put_counts.ensures
    ∙ ap (λ x. parts J.text x rs cs ns) c.as_slice.ensures.value
    ∙ ap (λ x. parts J.text J.messages.items x cs ns) c.as_slice-2.ensures.value
    ∙ ap (λ x. parts J.text J.messages.items J.realized.items x ns) (c.behind_base-constants.ensures ∙ ap (λ j. drop j.base j.constants) (sym c.joined.view_is))
    ∙ ap (parts J.text J.messages.items J.realized.items (drop J.base J.constants.items)) c.as_slice-3.ensures.value
    ∙ ap report_of c.joined.view_is
