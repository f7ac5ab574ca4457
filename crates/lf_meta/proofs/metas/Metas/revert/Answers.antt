use Rattle.std.proofs.Common.{◌≡◌, rules}
use Rattle.lf_meta.proofs.Changing.{made_taken, level_made_taken, assigned_taken, level_assigned_taken}
use Rattle.lf_meta.proofs.metas.Metas.revert.Goals as goal

pub invariant_of-self : goal.invariant_of-self
invariant_of-self c =
    made_taken c.pop.new.self c.self.inside.changes c.in-Some-Made.field-0 c.in-Some-Made.field-0-0 c.in-Some-Made.field-0-1 c.in-Some-Made.field-0-2
    c.self.inside.made.types c.pop-in-Some-Made.new.self.types c.self.inside.made.origins c.pop-in-Some-Made.new.self.origins c.self.invariant
    c.in-Some-Made.ensures c.in-Some-Made.field-0-is (search rules) (search rules)

pub invariant_of-self-in-Some-LevelMade : goal.invariant_of-self-in-Some-LevelMade
invariant_of-self-in-Some-LevelMade c =
    level_made_taken c.pop.new.self c.self.inside.changes c.in-Some-LevelMade.field-0 c.self.invariant c.in-Some-LevelMade.ensures
    c.in-Some-LevelMade.field-0-is

pub invariant_of-self-in-Some-Assigned : goal.invariant_of-self-in-Some-Assigned
invariant_of-self-in-Some-Assigned c =
    assigned_taken c.pop.new.self c.self.inside.changes c.in-Some-Assigned.field-0 c.in-Some-Assigned.metavariable c.in-Some-Assigned.field-0-1
    c.self.invariant c.in-Some-Assigned.ensures c.in-Some-Assigned.field-0-is c.clear.ensures

pub invariant_of-self-in-Some-LevelAssigned : goal.invariant_of-self-in-Some-LevelAssigned
invariant_of-self-in-Some-LevelAssigned c =
    level_assigned_taken c.pop.new.self c.self.inside.changes c.in-Some-LevelAssigned.field-0 c.in-Some-LevelAssigned.metavariable
    c.in-Some-LevelAssigned.field-0-1 c.self.invariant c.in-Some-LevelAssigned.ensures c.in-Some-LevelAssigned.field-0-is
    c.clear-in-Some-LevelAssigned.ensures
