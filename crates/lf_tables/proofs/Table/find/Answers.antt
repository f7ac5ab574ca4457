use Rattle.std.proofs.Common.{rules, ◌≡◌, ◌↔◌, ◌∙◌, sym, ap, subst, Option, Some, true, Contains}
use Rattle.std.proofs.lemmas.Fn.{always_returns_same}
use Rattle.lf_tables.specs.Rows.{value_of, keys_rise}
use Rattle.lf_tables.proofs.Halves.{found, missing, searchable, written}
use Rattle.lf_tables.proofs.Table.find.Goals as goal

pub returns-in-Ok-clause-value : goal.returns-in-Ok-clause-value
returns-in-Ok-clause-value g c =
    sym (ap (value_of c.args.key.now) (sym c.self.view_is)
    ∙ found c.args.key.now c.self.inside.rows.now c.in-Ok.at c.index-self-at.result (search rules) c.in-Ok.ensures.bound
    (c.in-Ok.ensures.position (λ y. y.0) (always_returns_same _ _ _ (λ a r f k. search rules)) c.index-self-at.result))

pub returns-in-Ok-clause-written : goal.returns-in-Ok-clause-written
returns-in-Ok-clause-written g c = λ v.
    subst (λ (o : Option _). (o ≡ Some v) ↔ Contains c.args.self.now (c.args.key.now, v)) (sym (returns-in-Ok-clause-value g c))
    (written c.args.key.now c.args.self.now v (subst (λ rows. keys_rise rows ≡ true) c.self.view_is (search rules)))

pub returns-in-Err-clause-value : goal.returns-in-Err-clause-value
returns-in-Err-clause-value g c =
    sym (ap (value_of c.args.key.now) (sym c.self.view_is)
    ∙ missing c.args.key.now c.self.inside.rows.now c.in-Err.field-0
    (c.in-Err.ensures.position (λ y. y.0) (always_returns_same _ _ _ (λ a r f k. search rules))
    (searchable c.self.inside.rows.now c.args.key.now (search rules))))

pub returns-in-Err-clause-written : goal.returns-in-Err-clause-written
returns-in-Err-clause-written g c = λ v.
    subst (λ (o : Option _). (o ≡ Some v) ↔ Contains c.args.self.now (c.args.key.now, v)) (sym (returns-in-Err-clause-value g c))
    (written c.args.key.now c.args.self.now v (subst (λ rows. keys_rise rows ≡ true) c.self.view_is (search rules)))
