use Rattle.std.proofs.Common.{◌<◌, ◌∙◌, ap, sym, subst, length}
use Rattle.std.specs.Option.{option_copied}
use Rattle.lf_core.specs.declared.constant.ConstInfo.{ConstInfo}
use Rattle.lf_env.proofs.Entries.{nothing_unnamed}
use Rattle.lf_env.proofs.view.View.names_have_parts.Goals as goal

pub returns-in-Some : goal.returns-in-Some
returns-in-Some c =
    nothing_unnamed c.args.self.now.entries c.in-Some.entry.now (ap option_copied (sym c.in-Some.is) ∙ c.entry.ensures)
    (subst (λ (i : ConstInfo). 0 < length i.name) c.info.ensures c.has_parts.ensures)
