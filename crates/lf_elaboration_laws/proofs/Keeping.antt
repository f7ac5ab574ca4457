-- What elaboration does to the state and what it waits for, through the ways to put runs together: for any relations of states that are closed under
-- its steps.
use Rattle.std.proofs.Common.{ℕ, ◌-◌, Bool, true, false, nat_lt, if◌then◌else◌, List, [], ◌∷◌, ◌++◌, length, Option, refl}
use Rattle.lf_core.specs.Term.{Path, Term, meta}
use Rattle.lf_rules.specs.Recursor.{is_among}
use Rattle.lf_syntax.specs.Tree.{ItemTree}
use Rattle.lf_checker.specs.Run as checker
use Rattle.lf_checker.specs.Run.{Refusal}
use Rattle.lf_elaboration.specs.declared.change.Change.TheVariants.{Made}
use Rattle.lf_elaboration.specs.Messages.{Node}
use Rattle.lf_elaboration.specs.Metavariables.{Changes, count}
use Rattle.lf_elaboration.specs.Run as run
use Rattle.lf_elaboration.specs.Run.{Answer, done, failed, out, need, go_on, ◌>>=◌, ◌>>◌, gives, choose, or_else_fail, spend, checks, answered}
use Rattle.lf_elaboration.specs.Part.{Locals, State, Run, back, on_changes, instantiated, instantiated_all, placeholder, fresh_level, changed, ask}
use Rattle.lf_elaboration.specs.Application.{hole}
use Rattle.lf_elaboration_laws.specs.Unifier.{Begins}
use Rattle.lf_core.specs.declared.constant.TaskKey.{TaskKey}
use Rattle.lf_extension_laws.proofs.Only.{Only, only_then, only_spend, only_caught, only_choose, only_put, only_made, only_opening}
use Rattle.lf_elaboration_laws.specs.Once.{dropped}
use Rattle.lf_elaboration_laws.proofs.Calm.{Calm, same, calm_then, calm_choose, calm_checks, calm_refused, calm_instantiated}

-- How a run that gives a value leaves the state, and how one that ends otherwise.
pub record Steps (To End : State → State → Type 0) : Type 0 where
  pub same : (s : State) → To s s
  pub longer : (s t r : State) → To s t → To t r → To s r
  pub ends : (s t : State) → To s t → End s t
  pub ends_later : (s t r : State) → To s t → End t r → End s r
  pub changes : (s : State) (cs : Changes) → Begins s.changes cs → To s (record s { changes = cs })
  pub asks : (s : State) (n : Path) → To s (record s { asked = s.asked ++ n ∷ [] })

-- A state in which a metavariable of this type was made for a hole that waits.
abbrev pub with_hole : State → Term → ℕ → ℕ → Option (List ItemTree) → State
with_hole s A locals at items = record s {
  changes = s.changes ++ Made A locals at ∷ [];
  pending = s.pending ++ record { metavariable = count s.changes; items = items } ∷ [];
}

-- Terms make holes; proofs leave none. A close takes those that were made since its mark.
pub record Leaving (Terms Proofs End : State → State → Type 0) : Type 0 where
  pub terms : Steps Terms End
  pub proofs : Steps Proofs End
  pub weaker : (s t : State) → Proofs s t → Terms s t
  pub hole : (s : State) (A : Term) (locals at : ℕ) (items : Option (List ItemTree)) → Terms s (with_hole s A locals at items)
  pub block : (s t : State) (ns : List Node) → Proofs (record s { nodes = [] }) t → Proofs s (record t { nodes = s.nodes ++ ns })
  pub block_fails : (s t : State) (ns : List Node) → End (record s { nodes = [] }) t → Proofs s (record s { asked = t.asked; nodes = s.nodes ++ ns })
  pub block_ends : (s t : State) (ns : List Node) → End (record s { nodes = [] }) t → End s (record t { nodes = s.nodes ++ ns })
  pub drop : (s t : State) → Terms s t → Proofs s (dropped (count s.changes) t)

abbrev pub Held : (State → State → Type 0) → (State → State → Type 0) → (TaskKey → Type 0) → {A : Type 0} → State → Answer State A → Type 0
Held To End Key s (done x u t) = To s t
Held To End Key s (failed m u t) = End s t
Held To End Key s (out t) = End s t
Held To End Key s (need k) = Key k

-- ---- The ways to put runs together

keeps_on : {A : Type 0} (To End : State → State → Type 0) (Key : TaskKey → Type 0) → Steps To End → (s t : State) (o : Answer State A) → To s t
    → Held To End Key t o → Held To End Key s o
keeps_on To End Key g s t (done x u r) h i = g.longer s t r h i
keeps_on To End Key g s t (failed m u r) h i = g.ends_later s t r h i
keeps_on To End Key g s t (out r) h i = g.ends_later s t r h i
keeps_on To End Key g s t (need k) h i = i

pub keeps_then : {A B : Type 0} (To End : State → State → Type 0) (Key : TaskKey → Type 0) → Steps To End
    → (s : State) (o : Answer State A) (f : A → Run B) → Held To End Key s o → ((x : A) (u : ℕ) (t : State) → Held To End Key t (f x u t))
    → Held To End Key s (go_on o f)
keeps_then To End Key g s (done x u t) f h k = keeps_on To End Key g s t (f x u t) h (k x u t)
keeps_then To End Key g s (failed m u t) f h k = h
keeps_then To End Key g s (out t) f h k = h
keeps_then To End Key g s (need n) f h k = h

pub keeps_choose : {A : Type 0} (To End : State → State → Type 0) (Key : TaskKey → Type 0) (b : Bool) (m n : Run A) (u : ℕ) (s : State)
    → Held To End Key s (m u s) → Held To End Key s (n u s) → Held To End Key s (choose b m n u s)
keeps_choose To End Key true m n u s h g = h
keeps_choose To End Key false m n u s h g = g

pub keeps_or_fail : (To End : State → State → Type 0) (Key : TaskKey → Type 0) → Steps To End → (b : Bool) (m : Run (Unit {0})) (u : ℕ) (s : State)
    → Held To End Key s (m u s) → Held To End Key s (or_else_fail b m u s)
keeps_or_fail To End Key g true m u s h = g.same s
keeps_or_fail To End Key g false m u s h = h

pub keeps_spend : {A : Type 0} (To End : State → State → Type 0) (Key : TaskKey → Type 0) → Steps To End → (n : ℕ) (m : Run A) (u : ℕ) (s : State)
    → ((v : ℕ) → Held To End Key s (m v s)) → Held To End Key s (spend n m u s)
keeps_spend {A = A} To End Key g n m u s h = at (nat_lt u n)
  where
    at : (b : Bool) → Held To End Key {A = A} s (if b then out s else m (u - n) s)
    at true = g.ends s s (g.same s)
    at false = h (u - n)

pub keeps_answered : {A : Type 0} (To End : State → State → Type 0) (Key : TaskKey → Type 0) → Steps To End
    → (f : Refusal → Run A) (s : State) (o : checker.Answer A) → Only true Key o → ((r : Refusal) (u : ℕ) → Held To End Key s (f r u s))
    → Held To End Key s (answered f s o)
keeps_answered To End Key g f s (checker.done x u) i h = g.same s
keeps_answered To End Key g f s (checker.refused r u) i h = h r u
keeps_answered To End Key g f s checker.out i h = g.ends s s (g.same s)
keeps_answered To End Key g f s (checker.need k) i h = i

pub keeps_checks : {A : Type 0} (To End : State → State → Type 0) (Key : TaskKey → Type 0) → Steps To End → (m : checker.Run A) (u : ℕ) (s : State)
    → Only true Key (m u) → Held To End Key s (checks m u s)
keeps_checks To End Key g m u s h = keeps_answered To End Key g (λ e. run.gives_up) s (m u) h (λ r v. g.ends s s (g.same s))

-- What a proof leaves, a term may leave.
pub keeps_weaker : {A : Type 0} (Terms Proofs End : State → State → Type 0) (Key : TaskKey → Type 0) → Leaving Terms Proofs End → (s : State)
    (o : Answer State A) → Held Proofs End Key s o → Held Terms End Key s o
keeps_weaker Terms Proofs End Key l s (done x u t) h = l.weaker s t h
keeps_weaker Terms Proofs End Key l s (failed m u t) h = h
keeps_weaker Terms Proofs End Key l s (out t) h = h
keeps_weaker Terms Proofs End Key l s (need k) h = h

-- A term, and then a close of what was made since: in a term, and in a proof.
pub keeps_marked : (Terms Proofs End : State → State → Type 0) (Key : TaskKey → Type 0) → Leaving Terms Proofs End → {A B : Type 0} (s : State)
    (o : Answer State A) (f : A → Run B) → Held Terms End Key s o
    → ((x : A) (u : ℕ) (t : State) → Held Terms End Key (dropped (count s.changes) t) (f x u t)) → Held Terms End Key s (go_on o f)
keeps_marked Terms Proofs End Key l s (done x u t) f h k =
    keeps_on Terms End Key l.terms s (dropped (count s.changes) t) (f x u t) (l.weaker s (dropped (count s.changes) t) (l.drop s t h)) (k x u t)
keeps_marked Terms Proofs End Key l s (failed m u t) f h k = h
keeps_marked Terms Proofs End Key l s (out t) f h k = h
keeps_marked Terms Proofs End Key l s (need n) f h k = h

pub keeps_closed : (Terms Proofs End : State → State → Type 0) (Key : TaskKey → Type 0) → Leaving Terms Proofs End → {A B : Type 0} (s : State)
    (o : Answer State A) (f : A → Run B) → Held Terms End Key s o
    → ((x : A) (u : ℕ) (t : State) → Held Proofs End Key (dropped (count s.changes) t) (f x u t)) → Held Proofs End Key s (go_on o f)
keeps_closed Terms Proofs End Key l s (done x u t) f h k = keeps_on Proofs End Key l.proofs s (dropped (count s.changes) t) (f x u t) (l.drop s t h) (k x u t)
keeps_closed Terms Proofs End Key l s (failed m u t) f h k = h
keeps_closed Terms Proofs End Key l s (out t) f h k = h
keeps_closed Terms Proofs End Key l s (need n) f h k = h

-- ---- Runs over the metavariables alone

pub keeps_back : {A : Type 0} (To End : State → State → Type 0) (Key : TaskKey → Type 0) → Steps To End → (s : State) (o : Answer Changes A)
    → Calm Key s.changes o → Held To End Key s (back s o)
keeps_back To End Key g s (done x u cs) h = g.changes s cs h
keeps_back To End Key g s (failed m u cs) h = absurd h
keeps_back To End Key g s (out cs) h = g.ends s (record s { changes = cs }) (g.changes s cs h)
keeps_back To End Key g s (need k) h = h

ruleset calm = (same, calm_then, calm_choose, calm_checks, calm_refused)

-- What is asked of the checker.
ruleset only = (only_then, only_spend, only_caught, only_choose, only_put, only_made, only_opening)

module _ (To End : State → State → Type 0) (g : Steps To End) (Key : TaskKey → Type 0) where
  pub keeps_instantiated : (t : Term) (u : ℕ) (s : State) → Held To End Key s (instantiated t u s)
  keeps_instantiated t u s = keeps_back To End Key g s (run.instantiated t u s.changes) (calm_instantiated Key t u s.changes)

  pub keeps_instantiated_all : (ts : List Term) (u : ℕ) (s : State) → Held To End Key s (instantiated_all ts u s)
  keeps_instantiated_all [] u s = g.same s
  keeps_instantiated_all (t ∷ ts) u s =
      keeps_then To End Key g s (instantiated t u s) _ (keeps_instantiated t u s)
      (λ x v r. keeps_then To End Key g r (instantiated_all ts v r) _ (keeps_instantiated_all ts v r) (λ y q z. g.same z))

  calm_changed : {A : Type 0} (more : Changes) (x : A) (u : ℕ) (cs : Changes) → Calm Key cs (run.changed more x u cs)
  calm_changed more x u cs = (more, refl)

  pub keeps_placeholder : (L : Locals) (at : ℕ) (A : Term) (u : ℕ) (s : State) → Held To End Key s (placeholder L at A u s)
  keeps_placeholder L at A u s = keeps_back To End Key g s (run.fresh A (length L.types) at u s.changes) (search (calm, only, calm_changed) depth 12)

  pub keeps_fresh_level : (u : ℕ) (s : State) → Held To End Key s (fresh_level u s)
  keeps_fresh_level u s = keeps_back To End Key g s (run.fresh_level u s.changes) (search (calm, only, calm_changed) depth 12)

  pub keeps_assign : (m : ℕ) (t : Term) (u : ℕ) (s : State) → Held To End Key s (on_changes (run.assign m t) u s)
  keeps_assign m t u s = keeps_back To End Key g s (run.assign m t u s.changes) (search (calm, only) depth 12)

  pub keeps_ask : (n : Path) (u : ℕ) (s : State) → Held To End Key s (ask n u s)
  keeps_ask n u s = at (is_among n s.asked)
    where
      at : (b : Bool) → To s (if b then s else record s { asked = s.asked ++ n ∷ [] })
      at true = g.same s
      at false = g.asks s n

module _ (Terms Proofs End : State → State → Type 0) (l : Leaving Terms Proofs End) (Key : TaskKey → Type 0) where
  pub keeps_hole : (L : Locals) (at : ℕ) (items : Option (List ItemTree)) (A : Term) (u : ℕ) (s : State) → Held Terms End Key s (hole L at items A u s)
  keeps_hole L at items A u s = by (nat_lt checker.greatest_variable (count s.changes))
    where
      by : (b : Bool)
          → Held Terms End Key s (go_on (back s (choose b run.gives_up (run.changed (Made A (length L.types) at ∷ []) (meta (count s.changes))) u s.changes))
          (λ m. changed (λ t. record t { pending = t.pending ++ record { metavariable = count s.changes; items = items } ∷ [] }) >> gives m))
      by true = l.terms.ends s s (l.terms.same s)
      by false = l.hole s A (length L.types) at items
