-- A list in which a header was judged before a helper that stands before it, and a later item in a view that knows neither.
use Rattle.std.specs.Prelude.{true, Some, None, [], ◌∷◌, ◌++◌, codes}
use Rattle.lf_core.specs.Term.{level_zero, level_param, Term, bound, sort, const, app, lam, pi}
use Rattle.lf_name.specs.declared.binder.Binder.{Binder}
use Rattle.lf_name.specs.declared.binder.BinderKind.TheVariants.{Explicit}
use Rattle.lf_core.specs.declared.constant.ConstInfo.{ConstInfo}
use Rattle.lf_core.specs.declared.constant.ConstKind.TheVariants.{Axiom, Def, Theorem}
use Rattle.lf_core.specs.declared.constant.Detail.TheVariants.{Plain}
use Rattle.lf_rules.specs.Inductive.{declared_constants}
use Rattle.lf_core.specs.declared.constant.IndDecl.{IndDecl}
use Rattle.lf_checker.specs.View.{View, base_view}
use Rattle.lf_derivation_laws.specs.Lists.{Item, assumed, defined, failed, introduced, Reported}

abbrev pub x : Binder
x = record { name = codes "x" ∷ []; kind = Explicit }

-- axiom P : Prop
abbrev pub p : ConstInfo
p = record { name = codes "P" ∷ []; kind = Axiom; levels = []; ty = sort level_zero; value = None; height = 0; detail = Plain }

-- P → P
abbrev pub arrow : Term
arrow = pi x (const (codes "P" ∷ []) []) (const (codes "P" ∷ []) [])

abbrev pub identity : Term
identity = lam x (const (codes "P" ∷ []) []) (bound 0)

-- theorem t : P → P := t.h, with a helper t.h : P → P := fun x => x
abbrev pub helper : ConstInfo
helper = record { name = codes "t" ∷ codes "h" ∷ []; kind = Def; levels = []; ty = arrow; value = Some identity; height = 1; detail = Plain }

abbrev pub theorem : ConstInfo
theorem = record {
  name = codes "t" ∷ [];
  kind = Theorem;
  levels = [];
  ty = arrow;
  value = Some (const (codes "t" ∷ codes "h" ∷ []) []);
  height = 2;
  detail =
      Plain;
}

-- as a realized constant of an earlier command: it knows P alone
abbrev pub realized : ConstInfo
realized = record { name = codes "r" ∷ []; kind = Theorem; levels = []; ty = arrow; value = Some identity; height = 1; detail = Plain }

-- axiom q : P
abbrev pub last : ConstInfo
last = record { name = codes "q" ∷ []; kind = Axiom; levels = []; ty = const (codes "P" ∷ []) []; value = None; height = 0; detail = Plain }

abbrev pub before_all : View
before_all = base_view []

abbrev pub with_p : View
with_p = base_view (p ∷ [])

abbrev pub with_helper : View
with_helper = base_view (p ∷ helper ∷ [])

abbrev pub with_all : View
with_all = base_view (p ∷ helper ∷ theorem ∷ realized ∷ [])

abbrev pub p_item : Item
p_item = assumed p before_all

abbrev pub helper_item : Item
helper_item = defined helper identity with_p with_p

-- its header was judged before the helper was there
abbrev pub theorem_item : Item
theorem_item = defined theorem (const (codes "t" ∷ codes "h" ∷ []) []) with_p with_helper

abbrev pub realized_item : Item
realized_item = defined realized identity with_p with_p

abbrev pub last_item : Item
last_item = assumed last with_all

-- inductive T : Prop where | mk : T
abbrev pub truth : IndDecl
truth = record {
  name = codes "T" ∷ [];
  levels = [];
  params = 0;
  ty = sort level_zero;
  ctors = record
      { name = codes "T" ∷ codes "mk" ∷ []; ty = const (codes "T" ∷ []) [] } ∷ [];
}

-- axiom sorryAx.{u} (α : Sort u) : α
abbrev pub sorry : ConstInfo
sorry = record {
  name = codes "sorryAx" ∷ [];
  kind = Axiom;
  levels = (codes "u" ∷ []) ∷ [];
  ty = pi x (sort (level_param 0)) (bound 0);
  value = None;
  height =
      0;
  detail = Plain;
}

-- theorem w : T, whose proof failed
abbrev pub unproved : ConstInfo
unproved = record {
  name = codes "w" ∷ [];
  kind = Theorem;
  levels = [];
  ty = const (codes "T" ∷ []) [];
  value = Some
      (app (const (codes "sorryAx" ∷ []) (level_zero ∷ [])) (const (codes "T" ∷ []) []));
  height = 1;
  detail = Plain;
}

abbrev pub truth_item : Item
truth_item = introduced truth true before_all

abbrev pub sorry_item : Item
sorry_item = assumed sorry before_all

abbrev pub with_truth : View
with_truth = base_view (declared_constants truth true ++ sorry ∷ [])

abbrev pub unproved_item : Item
unproved_item = failed unproved with_truth

abbrev pub WorkedList : Type 0
WorkedList = Reported (p_item ∷ helper_item ∷ theorem_item ∷ realized_item ∷ last_item ∷ truth_item ∷ sorry_item ∷ unproved_item ∷ [])
