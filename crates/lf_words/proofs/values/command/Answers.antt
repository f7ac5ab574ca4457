use Rattle.std.proofs.Common.{rules, ap, ap₂, ◌≡◌, ◌∙◌, codes}
use Rattle.std.proofs.lemmas.Result.{IfOk-weaker}
use Rattle.clap.specs.Words.{app_of, rule_of, new_app, with_rule}
use Rattle.clap.specs.Simple.{app_of_fields}
use Rattle.lf_words.specs.Words.{without_help, mode_rule, count_rule, workers_rule, budget_rule}
use Rattle.lf_words.proofs.values.command.Goals as goal

pub returns : goal.returns
returns c =
    let mode_is : rule_of c.action-mode.result ≡ mode_rule = search rules in
    let count_is : rule_of c.action-count.result ≡ count_rule = search rules in
    let workers_is : rule_of c.action-workers.result ≡ workers_rule = search rules in
    let budget_is : rule_of c.action-budget.result ≡ budget_rule = search rules in
    let named : app_of c.disable_help_flag.result ≡ without_help (new_app (codes "leanfront")) =
    ap app_of_fields c.disable_help_flag.ensures ∙ ap without_help c.new-5.ensures.app in
    let one = c.in_ok-arg.ensures.shape (search rules) ∙ ap₂ with_rule named mode_is in
    let two = c.in_ok-arg-2.ensures.shape (search rules) ∙ ap₂ with_rule one count_is in
    let three = c.in_ok-arg-3.ensures.shape (search rules) ∙ ap₂ with_rule two workers_is in
    IfOk-weaker c.arg-4.result _ _ (λ m h. h.shape (search rules) ∙ ap₂ with_rule three budget_is) c.arg-4.ensures
