-- Classes and the candidates of a goal: the locals whose types have a class as head, and the instances. This project's own; classes with
-- instances are those of the field (Wadler and Blott 1989, "How to Make ad-hoc Polymorphism Less ad hoc").
use Rattle.std.specs.Prelude.{
  ℕ,
  zero,
  suc,
  Bool,
  true,
  false,
  not,
  ◌&&◌,
  if◌then◌else◌,
  Option,
  Some,
  None,
  List,
  [],
  ◌∷◌,
  ◌++◌,
  map,
  reverse,
  length,
  slice_get,
}
use Rattle.lf_core.specs.Term.{Path, Universe, level_meta, Term, free, const}
use Rattle.lf_core.specs.Spine.{head_of}
use Rattle.lf_core.specs.Substitution.{level_instantiate}
use Rattle.lf_rules.specs.Environment.{Context}
use Rattle.lf_rules.specs.Recursor.{is_among}
use Rattle.lf_checker.specs.View.{View}
use Rattle.lf_checker.specs.Extends.{Shape}
use Rattle.lf_checker.specs.Calls.{Seen, known, unknown, missing, see}
use Rattle.lf_elaboration.specs.Scope.{Scope}
use Rattle.lf_elaboration.specs.Forms.{Instance, as_constant}
use Rattle.lf_elaboration.specs.Unifier.{has_any_metavariable}

-- ---- Classes. The name of a class or an instance counts where the view has a constant of it.

abbrev pub is_known : Seen → Bool
is_known (known k) = true
is_known unknown = false
is_known (missing k) = false

abbrev pub is_class : View → Scope → Path → Bool
is_class V S n = is_among n S.classes && is_known (see V n)

abbrev pub names_class : View → Scope → Option Instance → Bool
names_class V S None = false
names_class V S (Some c) = is_class V S c.name

-- The head of the term, as it stands, is a class.
abbrev pub has_class : View → Scope → Term → Bool
has_class V S t = names_class V S (as_constant (head_of t))

-- ---- What may be tried: the locals, the latest first, and then the instances, the latest first.

pub data Source : Type 0 where
  of_local : ℕ → Source
  of_instance : Path → Source

-- The n locals of a context.
abbrev pub locals_down : ℕ → List Source
locals_down zero = []
locals_down (suc n) = of_local n ∷ locals_down n

abbrev pub sources : Scope → Context → List Source
sources S C = locals_down (length C) ++ map (λ n. of_instance n) (reverse S.instances)

-- ---- Candidates

-- A term with its type, in which metavariables of levels stand, numbered from 0: there are so many.
pub record Candidate : Type 0 where
  pub term : Term
  pub ty : Term
  pub levels : ℕ

-- n metavariables of levels from number k on.
abbrev pub level_metas : ℕ → ℕ → List Universe
level_metas k zero = []
level_metas k (suc n) = level_meta k ∷ level_metas (suc k) n

-- A local, unless a metavariable is left in its type.
abbrev pub as_local : ℕ → Term → Candidate
as_local k A = record { term = free k; ty = A; levels = 0 }

abbrev pub local_candidate : View → Scope → ℕ → Option Term → Option Candidate
local_candidate V S k None = None
local_candidate V S k (Some A) = if has_class V S A && not (has_any_metavariable A) then Some (as_local k A) else None

-- An instance at metavariables for its levels.
abbrev pub at_fresh_levels : Path → Shape → Candidate
at_fresh_levels n k =
    let ls : List Universe = level_metas 0 (length k.levels) in
    record { term = const n ls; ty = level_instantiate ls k.ty; levels = length k.levels }

abbrev pub instance_candidate : Path → Seen → Option Candidate
instance_candidate n (known k) = Some (at_fresh_levels n k)
instance_candidate n unknown = None
instance_candidate n (missing k) = None

-- The candidate that is tried, where there is one.
abbrev pub candidate : View → Scope → Context → Source → Option Candidate
candidate V S C (of_local k) = local_candidate V S k (slice_get C k)
candidate V S C (of_instance n) = instance_candidate n (see V n)
