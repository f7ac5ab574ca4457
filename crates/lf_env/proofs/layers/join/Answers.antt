use Rattle.std.proofs.Common.{◌≡◌, ◌++◌, ◌∷◌, [], ◌∙◌, ap, subst, IfOk}
use Rattle.std.proofs.lemmas.List.{take_all}
use Rattle.indexmap.specs.IndexSet.{insert_all}
use Rattle.lf_env.specs.Names.{same_entry}
use Rattle.lf_env.specs.Layer.{entries_of}
use Rattle.lf_env.proofs.Turns.{copy_turn, joined}
use Rattle.lf_env.proofs.layers.join.Goals as goal

pub loop-layer-preserved : goal.loop-layer-preserved
loop-layer-preserved c =
    copy_turn c.args.layers.now c.loop-layer.layer-index c.layer-item.result c.loop-layer.table.keys c.copy_into.new.table.keys
    c.loop-layer-test.true c.layer-item.is c.in_ok-copy_into.ensures c.loop-layer.invariant

pub returns : goal.returns
returns c =
    let all : c.loop-layer.table.keys ≡ insert_all same_entry [] (entries_of c.args.layers.now) =
    c.loop-layer.invariant ∙ ap (λ l. insert_all same_entry [] (entries_of l)) (take_all c.loop-layer.layer-index c.args.layers.now c.loop-layer-test.false) in
    let one : c.insert.new.self.keys ≡ entries_of c.args.layers.now ++ c.args.last ∷ [] =
    joined c.args.layers.now c.loop-layer.table.keys c.insert.new.self.keys c.args.last all c.in_ok-insert.ensures.keys c.requires in
    subst (λ ks. IfOk c.new.result (λ l. l ≡ ks)) one c.new.ensures
