-- The code's values as the definition's.
use Rattle.std.specs.Prelude.{Option, Some}
use Rattle.lf_elaboration.specs.Forms as forms
use Rattle.lf_elaboration.specs.Statement as definition
use Rattle.lf_telescope.specs.declared.binding.Binding.{Binding}
use Rattle.lf_telescope.specs.declared.reflexivity.Statement.{Statement}

abbrev pub binding : Binding → forms.Binding
binding p = record { binder = p.binder.now; domain = p.domain.now; body = p.body.now }

abbrev pub statement : Statement → definition.Statement
statement s = record { ty = s.ty; proof = s.proof }

abbrev pub some_statement : Statement → Option definition.Statement
some_statement s = Some (statement s)
