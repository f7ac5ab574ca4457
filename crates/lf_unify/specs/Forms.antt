-- The code's forms as the definition's.
use Rattle.std.specs.Prelude.{Bool}
use Rattle.lf_rules.specs.Environment.{Context}
use Rattle.lf_elaboration.specs.Forms as forms
use Rattle.lf_elaboration.specs.Metavariables.{Changes}
use Rattle.lf_elaboration.specs.Run.{Run, gives}
use Rattle.lf_elaboration.specs.LevelUnifier.{unify_levels}
use Rattle.lf_elaboration.specs.Unifier.{Unify}
use Rattle.lf_unify.specs.declared.form.Binding.{Binding}
use Rattle.lf_unify.specs.declared.form.Heads.{Heads}
use Rattle.lf_unify.specs.declared.form.Heads.TheVariants.{Settled, Levels, Terms}

abbrev pub binding : Binding → forms.Binding
binding p = record { binder = p.binder.now; domain = p.domain.now; body = p.body.now }

-- What two heads ask for.
abbrev pub by_heads : Unify → Context → Heads → Run Changes Bool
by_heads self C (Settled r) = gives r
by_heads self C (Levels ls ms) = unify_levels ls.now ms.now
by_heads self C (Terms s t) = self C s.now t.now
