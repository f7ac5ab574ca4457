-- A report, put together from its parts.
use Rattle.std.proofs.Common.{◌≡◌, ◌∙◌, ℕ, List, [], ◌++◌, ap, append_assoc, not, filter, flat_map, count_by}
use Rattle.lf_core.specs.Term.{Path}
use Rattle.lf_core.specs.declared.constant.ConstInfo.{ConstInfo}
use Rattle.lf_rules.specs.Recursor.{is_among}
use Rattle.lf_msg.specs.declared.message.Message.{Message}
use Rattle.lf_document.specs.Report.{message_line, constant_line, realized_line, is_error, is_warning}
use Rattle.lf_join.specs.LineParts.{counts_text}

abbrev pub parts : List ℕ → List Message → List Path → List ConstInfo → List Message → List ℕ
parts text ms rs cs ns = flat_map (message_line text) ms ++ (flat_map constant_line (filter (λ c. not (is_among c.name rs)) cs)
    ++ (flat_map realized_line (filter (λ c. is_among c.name rs) cs) ++ counts_text (count_by is_error ns) (count_by is_warning ns)))

pub together : (M K L C s t u v : List ℕ) → s ≡ [] → t ≡ s ++ M → u ≡ t ++ (K ++ L) → v ≡ u ++ C → v ≡ M ++ (K ++ (L ++ C))
together M K L C s t u v a b c d =
    d
    ∙ ap (λ x. x ++ C) c
    ∙ ap (λ x. (x ++ (K ++ L)) ++ C) (b ∙ ap (λ x. x ++ M) a)
    ∙ append_assoc M (K ++ L) C
    ∙ ap (λ x. M ++ x) (append_assoc K L C)
