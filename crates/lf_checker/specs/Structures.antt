-- Structures as the checker sees them: what a view tells of the type and of its constructor.
use Rattle.std.specs.Prelude.{ℕ, zero, suc, ◌+◌, Bool, true, false, not, ◌&&◌, ◌||◌, nat_eq, if◌then◌else◌, Option, Some, None, List, [], ◌∷◌, length}
use Rattle.lf_core.specs.Term.{
  Path,
  Universe,
  level_zero,
  level_succ,
  level_max,
  level_imax,
  level_param,
  level_meta,
  Term,
  bound,
  free,
  meta,
  sort,
  const,
  app,
  lam,
  pi,
  letin,
  lit,
  proj,
}
use Rattle.lf_core.specs.Same.{same_path}
use Rattle.lf_rules.specs.Structure.{result_level}
use Rattle.lf_core.specs.declared.constant.Detail.{Detail}
use Rattle.lf_core.specs.declared.constant.Detail.TheVariants.{Ind, Ctor}
use Rattle.lf_checker.specs.View.{View}
use Rattle.lf_checker.specs.Extends.{Shape}
use Rattle.lf_checker.specs.Run.{Run, gives, needs, choose}
use Rattle.lf_checker.specs.Calls.{Seen, known, unknown, missing, see}

-- The constant n stands in the term, or is the structure of a projection.
abbrev pub mentions : Path → Term → Bool
mentions n (const c ls) = same_path c n
mentions n (app f a) = mentions n f || mentions n a
mentions n (lam x A b) = mentions n A || mentions n b
mentions n (pi x A B) = mentions n A || mentions n B
mentions n (letin x A v b) = mentions n A || (mentions n v || mentions n b)
mentions n (proj s i t) = same_path s n || mentions n t
mentions n (bound i) = false
mentions n (free k) = false
mentions n (meta k) = false
mentions n (sort l) = false
mentions n (lit k) = false

-- Behind n parameters no field's type names S.
abbrev pub fields_without : Path → ℕ → Term → Bool
fields_without S zero (pi x A B) = not (mentions S A) && fields_without S zero B
fields_without S (suc n) (pi x A B) = fields_without S n B
fields_without S n t = true

pub record Structure : Type 0 where
  pub constructor : Path
  -- the constructor's type
  pub ty : Term
  -- the number of its levels
  pub levels : ℕ
  pub params : ℕ
  pub fields : ℕ

abbrev pub is_successor : Option Universe → Bool
is_successor (Some (level_succ l)) = true
is_successor (Some level_zero) = false
is_successor (Some (level_max l m)) = false
is_successor (Some (level_imax l m)) = false
is_successor (Some (level_param k)) = false
is_successor (Some (level_meta k)) = false
is_successor None = false

abbrev pub by_constructor : Path → ℕ → ℕ → Path → Term → Detail → Option Structure
by_constructor S levels params n ty (Ctor ind index own fields) =
    if same_path ind S && (nat_eq index 0 && (nat_eq own params && fields_without S params ty))
    then Some (record { constructor = n; ty = ty; levels = levels; params = params; fields = fields })
    else None
by_constructor S levels params n ty _ = None

abbrev pub constructor_seen : Path → ℕ → ℕ → Path → Seen → Run (Option Structure)
constructor_seen S levels params n (known c) = gives (by_constructor S levels params n c.ty c.detail)
constructor_seen S levels params n unknown = gives None
constructor_seen S levels params n (missing k) = needs k

-- No indices, one constructor, and a result level that is written as a successor.
abbrev pub by_type : View → Path → Shape → Detail → Run (Option Structure)
by_type V S k (Ind params indices (n ∷ []) large) =
    choose (nat_eq indices 0 && is_successor (result_level k.ty)) (constructor_seen S (length k.levels) params n (see V n)) (gives None)
by_type V S k _ = gives None

abbrev pub structure_seen : View → Path → Seen → Run (Option Structure)
structure_seen V S (known k) = by_type V S k k.detail
structure_seen V S unknown = gives None
structure_seen V S (missing k) = needs k

abbrev pub structure_of : View → Path → Run (Option Structure)
structure_of V S = structure_seen V S (see V S)

-- The head is the structure's constructor, and the arguments are all that it takes.
abbrev pub is_built : Structure → Path → List Term → Bool
is_built s n ys = same_path n s.constructor && nat_eq (length ys) (s.params + s.fields)
