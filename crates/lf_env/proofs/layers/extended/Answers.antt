use Rattle.std.proofs.Common.{◌++◌, ◌∷◌, [], ◌∙◌, ap, sym, subst}
use Rattle.std.specs.List.{IsDistinct}
use Rattle.lf_env.specs.Names.{same_entry}
use Rattle.lf_env.specs.Layer.{entries_of}
use Rattle.lf_env.proofs.Turns.{later_distinct, replaced}
use Rattle.lf_env.proofs.layers.extended.Goals as goal

pub join-requires : goal.join-requires
join-requires c =
    subst (λ l. IsDistinct same_entry (entries_of l ++ c.args.last ∷ [])) (sym c.split_at.ensures.back)
    (later_distinct c.args.layers.now c.in_ok-parting.parting.kept c.args.last c.requires)

pub returns : goal.returns
returns c =
    replaced c.args.layers.now c.in_ok-parting.parting.kept c.args.last c.push.new.self.items c.in_ok-all.all.items c.in_ok-joined.joined
    c.in_ok-push.ensures.items (c.in_ok-all.ensures ∙ c.split_at.ensures.front)
    (c.in_ok-joined.ensures ∙ ap (λ l. entries_of l ++ c.args.last ∷ []) c.split_at.ensures.back)
