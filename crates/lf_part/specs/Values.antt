-- The code's values as the definition's.
use Rattle.std.specs.Prelude.{ℕ, Option, map}
use Rattle.std.specs.Option.{option_copied}
use Rattle.lf_core.specs.Term.{Term}
use Rattle.lf_rules.specs.Environment.{Context}
use Rattle.lf_checker.specs.View.{View}
use Rattle.lf_checker.specs.Run as checker
use Rattle.lf_elaboration.specs.Scope.{Scope}
use Rattle.lf_elaboration.specs.Part as spec
use Rattle.lf_elaboration.specs.Elaboration as elaboration
use Rattle.lf_part.specs.declared.part.Part.{Part}
use Rattle.lf_part.specs.declared.state.State.{State}
use Rattle.lf_part.specs.Says.{node}

abbrev pub state : State → spec.State
state s = record { changes = s.metas; pending = s.pending.items; asked = s.asked.items; nodes = map node s.nodes.items }

-- The resolution of instances over a view and a scope.
abbrev pub Meaning : Type 0
Meaning = View → Scope → ℕ → Context → Term → checker.Run (Option Term)

abbrev pub part : {S : Type 0} → Meaning → Part S → spec.Part
part f p =
    record {
      view = p.view.now;
      scope = p.scope.now;
      levels = p.levels.now;
      inside = option_copied p.inside;
      own = option_copied p.own;
      place = p.place;
      synthesize = f p.view.now p.scope.now;
    }

-- What a call may call, where as many nested ones are still allowed as the part has.
unfoldable pub calls : spec.Part → ℕ → spec.Calls
calls P depth = elaboration.calls P depth
