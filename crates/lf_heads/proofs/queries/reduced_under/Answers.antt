use Rattle.std.proofs.Common.{ap, sym, ◌∙◌}
use Rattle.lf_elaboration.specs.Run.{done}
use Rattle.lf_elaboration.specs.Part.{Locals}
use Rattle.lf_part.specs.Values as own
use Rattle.lf_heads.specs.Asked.{printed}
use Rattle.lf_heads.proofs.Tellings.{reduced_is}
use Rattle.lf_heads.proofs.queries.reduced_under.Goals as goal

pub returns-clause-value : goal.returns-clause-value
returns-clause-value g c =
    let P = own.part g.S.Synth.meaning c.args.part in
    let s = own.state c.args.state.now in
    let L : Locals = record { types = c.inner.inside.types.items; names = c.inner.inside.names.items } in
    reduced_is P c.args.part.depth c.args.locals.now L c.args.term.now c.in_ok-whole.whole c.in_ok-form.form c.args.units.now c.locals_put_in.new.units
    c.instantiated.new.units c.normalize.new.units s c.in_ok-text.text
    (c.in_ok-inner.ensures.value ∙ ap (λ l. done l c.locals_put_in.new.units s) (sym c.inner.view_is))
    c.in_ok-whole.ensures.value
    (c.in_ok-form.ensures.value s)
    (c.in_ok-text.ensures ∙ ap (λ ns. printed P ns c.in_ok-form.form) c.as_slice.ensures.value)
