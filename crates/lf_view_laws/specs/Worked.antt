-- Worked views: `foo` of the command at 3, whose body adds `foo.aux`.
use Rattle.std.specs.Prelude.{◌≡◌, Option, Some, None, [], ◌∷◌, codes}
use Prim.Native.String.{String}
use Rattle.lf_core.specs.Term.{Path, Term, level_zero, sort}
use Rattle.lf_core.specs.declared.constant.ConstInfo.{ConstInfo}
use Rattle.lf_core.specs.declared.constant.ConstKind.TheVariants.{Def}
use Rattle.lf_core.specs.declared.constant.Detail.TheVariants.{Plain}
use Rattle.lf_checker.specs.View.{
  View,
  found,
  absent,
  need_body,
  need_real,
  lookup_of,
  base_view,
  pushed,
  opened_branch,
  joined_branch,
  answered,
  view_at,
}
use Rattle.lf_view_laws.specs.Fuller.{Fuller}

abbrev pub foo : Path
foo = codes "foo" ∷ []

abbrev pub foo_ : String → Path
foo_ x = codes "foo" ∷ codes x ∷ []

-- A definition of type `Prop`, and its header.
abbrev pub definition : Path → Option Term → ConstInfo
definition n value = record { name = n; kind = Def; levels = []; ty = sort level_zero; value = value; height = 0; detail = Plain }

abbrev pub whole : Path → ConstInfo
whole n = definition n (Some (sort level_zero))

-- The branch of `foo` is open; it is joined with `foo.aux` and `foo`; and `foo.eq_1` has the answer that there is none.
abbrev pub waiting : View
waiting = opened_branch (pushed (base_view []) (definition foo None) 3) foo 3

abbrev pub joined : View
joined = joined_branch waiting 3 (whole (foo_ "aux") ∷ whole foo ∷ [])

abbrev pub settled : View
settled = answered joined (foo_ "eq_1") None

pub record WorkedViews : Type 0 where
  pub child_waits : lookup_of (view_at waiting 5) (foo_ "aux") ≡ need_body 3
  pub equation_waits : lookup_of (view_at waiting 5) (foo_ "eq_1") ≡ need_body 3
  pub grandchild_absent : lookup_of (view_at waiting 5) (codes "foo" ∷ codes "a" ∷ codes "b" ∷ []) ≡ absent
  pub child_found : lookup_of (view_at joined 5) (foo_ "aux") ≡ found (whole (foo_ "aux"))
  pub equation_needed : lookup_of (view_at joined 5) (foo_ "eq_1") ≡ need_real
  pub equation_absent : lookup_of (view_at settled 5) (foo_ "eq_1") ≡ absent
  -- before the command stands neither
  pub nothing_before : lookup_of (view_at settled 3) foo ≡ absent
  pub fuller : Fuller (view_at settled 5) (view_at waiting 5)
