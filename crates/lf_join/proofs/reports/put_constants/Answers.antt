use Rattle.std.proofs.Common.{◌≡◌, ◌∙◌, ◌++◌, ap, not, filter, flat_map, append_assoc, string_bytes}
use Rattle.lf_document.specs.Report.{constant_line, realized_line}
use Rattle.lf_rules.specs.Recursor.{is_among}
use Rattle.lf_join.specs.Sets.{has}
use Rattle.lf_join.proofs.Further.{chosen}
use Rattle.lf_join.proofs.reports.put_constants.Goals as goal

pub returns : goal.returns
returns c =
    let start = string_bytes c.args.out.now in
    let ns = c.args.realized.now in
    let cs = c.args.constants.now in
    let ks = c.in_ok-realized.realized.keys in
    let own = flat_map constant_line (filter (λ d. not (has ks d.name)) cs) in
    let theirs = flat_map realized_line (filter (λ d. has ks d.name) cs) in
    c.in_ok-put_realized.ensures
    ∙ ap (λ t. t ++ theirs) c.in_ok-put_own.ensures
    ∙ append_assoc start own theirs
    ∙ ap (λ ds. start ++ (flat_map constant_line ds ++ theirs))
    (chosen (λ d. not (has ks d.name)) (λ d. not (is_among d.name ns)) (λ d. ap not (c.in_ok-realized.ensures d.name)) cs)
    ∙ ap (λ ds. start ++ (flat_map constant_line (filter (λ d. not (is_among d.name ns)) cs) ++ flat_map realized_line ds))
    (chosen (λ d. has ks d.name) (λ d. is_among d.name ns) (λ d. c.in_ok-realized.ensures d.name) cs)
