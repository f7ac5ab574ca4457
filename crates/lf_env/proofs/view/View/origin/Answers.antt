use Rattle.std.proofs.Common.{◌≡◌, ◌<◌, ◌∙◌, refl, ap, sym, subst, Some, None, List, [], ◌∷◌, ◌++◌, length, arith}
use Rattle.std.specs.Option.{option_copied}
use Rattle.lf_checker.specs.View.{find_entry, position_of}
use Rattle.lf_env.proofs.view.View.origin.Goals as goal

pub returns-in-Some : goal.returns-in-Some
returns-in-Some c =
    c.position.ensures ∙ ap position_of (ap option_copied (sym c.in-Some.is) ∙ c.entry.ensures ∙ ap (find_entry c.args.self.now.entries) c.front.ensures)

pub returns-in-None : goal.returns-in-None
returns-in-None c = ap position_of (ap option_copied (sym c.in-None.is) ∙ c.entry.ensures ∙ ap (find_entry c.args.self.now.entries) c.front.ensures)
