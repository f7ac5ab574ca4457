-- What is known where a binder has closed and where a part has ended.
use Rattle.std.specs.Prelude.{◌≡◌, ℕ, ◌-◌, false, Option, Some, None, length}
use Rattle.lf_elaboration.specs.Metavariables.{unassigned, level_unassigned, escaping}
use Rattle.lf_elaboration.specs.Run.{Answer, done, failed, out, need}
use Rattle.lf_elaboration.specs.Part.{Part, Locals, State}
use Rattle.lf_elaboration.specs.Elaboration.{close, close_binder}

-- Of the state behind a value.
abbrev pub Ends : {A : Type 0} → (State → Type 0) → Answer State A → Type 0
Ends Q (done x u t) = Q t
Ends Q (failed m u t) = Unit {0}
Ends Q (out t) = Unit {0}
Ends Q (need k) = Unit {0}

-- Each metavariable from number k on stands for a term; at the end of a part each of levels from a number on for a level.
abbrev pub AllKnown : ℕ → Option ℕ → State → Type 0
AllKnown k None s = unassigned s.changes k ≡ None
AllKnown k (Some j) s = (unassigned s.changes k ≡ None) × (level_unassigned s.changes j ≡ false)

abbrev pub ClosingDetermines : Type 0
ClosingDetermines = (P : Part) (depth : ℕ) (L : Locals) (k : ℕ) (levels : Option ℕ) (u : ℕ) (w : State)
    → Ends (AllKnown k levels) (close P depth L k levels u w)

-- Each metavariable from number k on stands for a term, and none of an outer context for one that speaks of the local that closes.
abbrev pub BinderDetermines : Type 0
BinderDetermines = (P : Part) (depth : ℕ) (L : Locals) (k : ℕ) (u : ℕ) (w : State)
    → Ends (λ s. (unassigned s.changes k ≡ None) × (escaping s.changes (length L.types - 1) ≡ None)) (close_binder P depth L k u w)
