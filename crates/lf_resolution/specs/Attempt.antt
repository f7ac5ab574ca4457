-- A candidate applied to fresh metavariables for the pis of its type, and what has to hold of them once the rest of the type is unified with the
-- goal.
use Rattle.std.specs.Prelude.{
  ℕ,
  zero,
  suc,
  Bool,
  true,
  false,
  not,
  ◌&&◌,
  ◌||◌,
  Option,
  Some,
  None,
  is_some,
  List,
  [],
  ◌∷◌,
  ◌++◌,
  filter,
  length,
  map,
}
use Rattle.lf_core.specs.Term.{Term, meta, app}
use Rattle.lf_core.specs.Substitution.{instantiate}
use Rattle.lf_name.specs.declared.binder.BinderKind.{BinderKind}
use Rattle.lf_name.specs.declared.binder.BinderKind.TheVariants.{Explicit, Implicit, Inst}
use Rattle.lf_rules.specs.Environment.{Context}
use Rattle.lf_rules.specs.Telescope.{pi_count}
use Rattle.lf_elaboration.specs.declared.change.Change.TheVariants.{Made, LevelMade, Assigned}
use Rattle.lf_elaboration.specs.Forms.{Binding, as_pi}
use Rattle.lf_elaboration.specs.Metavariables.{Changes, count, value, put_in, level_unassigned}
use Rattle.lf_elaboration.specs.Unifier.{has_any_metavariable}
use Rattle.lf_elaboration.specs.Apply.{Given}
use Rattle.lf_resolution.specs.Candidate.{Candidate}

-- The candidate at its metavariables, the rest of its type, these in order, and the changes that made them: a list of their own, from 0.
pub record Attempt : Type 0 where
  pub term : Term
  pub rest : Term
  pub given : List Given
  pub changes : Changes

abbrev pub levels_made : ℕ → Changes
levels_made zero = []
levels_made (suc n) = LevelMade ∷ levels_made n

abbrev pub before_pis : Candidate → Attempt
before_pis e = record { term = e.term; rest = e.ty; given = []; changes = levels_made e.levels }

-- A metavariable for one pi, made for so many locals; its place is read by nothing.
abbrev pub with_given : ℕ → Attempt → Binding → Attempt
with_given locals a p = record {
  term = app a.term (meta (count a.changes));
  rest = instantiate p.body (meta (count a.changes));
  given = a.given ++ record { number = count a.changes; kind = p.binder.kind; ty = p.domain } ∷ [];
  changes = a.changes ++ Made p.domain locals 0 ∷ [];
}

abbrev pub if_pi : Attempt → Option Binding → (Binding → Attempt) → Attempt
if_pi a None next = a
if_pi a (Some p) next = next p

abbrev pub for_pis : ℕ → ℕ → Attempt → Attempt
for_pis locals zero a = a
for_pis locals (suc n) a = if_pi a (as_pi a.rest) (λ p. for_pis locals n (with_given locals a p))

-- For all pis of the type as it stands.
abbrev pub attempt : Context → Candidate → Attempt
attempt C e = for_pis (length C) (pi_count e.ty) (before_pis e)

-- ---- After unification

abbrev pub is_inst : BinderKind → Bool
is_inst Inst = true
is_inst Explicit = false
is_inst Implicit = false

-- Each that isn't in brackets is assigned.
abbrev pub all_given : Changes → List Given → Bool
all_given cs [] = true
all_given cs (g ∷ gs) = (is_inst g.kind || is_some (value cs g.number)) && all_given cs gs

-- No metavariable is left open: of those that aren't in brackets, and of levels.
abbrev pub is_settled : Changes → List Given → Bool
is_settled cs gs = all_given cs gs && not (level_unassigned cs 0)

-- Those in brackets.
abbrev pub in_brackets : List Given → List Given
in_brackets gs = filter (λ g. is_inst g.kind) gs

-- Their types are the goals that are left.
abbrev pub goals_of : Changes → List Given → List Term
goals_of cs gs = map (λ g. put_in cs g.ty) gs

abbrev pub are_determined : List Term → Bool
are_determined [] = true
are_determined (t ∷ ts) = not (has_any_metavariable t) && are_determined ts

-- The terms for those in brackets, each where unification hasn't put a term already.
abbrev pub one_more : Changes → ℕ → Term → Bool → Changes
one_more cs m t true = cs
one_more cs m t false = cs ++ Assigned m t ∷ []

abbrev pub with_terms : Changes → List Given → List Term → Changes
with_terms cs [] ts = cs
with_terms cs (g ∷ gs) [] = cs
with_terms cs (g ∷ gs) (t ∷ ts) = with_terms (one_more cs g.number t (is_some (value cs g.number))) gs ts
