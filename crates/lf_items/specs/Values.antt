-- The code's values as the definition's.
use Rattle.lf_elaboration.specs.Forms as forms
use Rattle.lf_items.specs.declared.goal.Binding.{Binding}
use Rattle.lf_items.specs.declared.form.Front.{Front}
use Rattle.lf_items.specs.declared.form.Instance.{Instance}

abbrev pub front : Front → forms.Binding
front p = record { binder = p.binder.now; domain = p.domain.now; body = p.body.now }

abbrev pub instance : Instance → forms.Instance
instance c = record { name = c.name.now; levels = c.levels.now }

abbrev pub binding : Binding → forms.Binding
binding p = record { binder = p.binder; domain = p.domain; body = p.body }
