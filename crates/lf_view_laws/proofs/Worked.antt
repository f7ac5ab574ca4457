-- The worked views are as they are said to be.
use Rattle.std.proofs.Common.{◌≡◌, true, false, None, [], ◌∷◌, refl, arith}
use Rattle.std.proofs.lemmas.List.Elements.{All-nil, All-cons}
use Rattle.lf_core.specs.Suffix.{suffix_of, equation_of}
use Rattle.lf_core.specs.declared.constant.ConstInfo.{ConstInfo}
use Rattle.lf_inductive_laws.proofs.Contained.{first_contained}
use Rattle.lf_checker.specs.View.{is_child, is_axiom, find_entry, base_view}
use Rattle.lf_env.specs.Answer.{DistinctNames, CanJoin, CanAnswer}
use Rattle.lf_view_laws.specs.Fuller.{Fuller, JoinsChildren}
use Rattle.lf_view_laws.specs.Worked.{foo, foo_, definition, whole, waiting, joined, settled, WorkedViews}
use Rattle.lf_view_laws.proofs.Views.{fuller_views}

pub no_two : DistinctNames []
no_two i j d h l = absurd (omega arith)

one_alone : (c : ConstInfo) → DistinctNames (c ∷ [])
one_alone c i j d h l = absurd (omega arith)

pub can_join : CanJoin waiting 3 (whole (foo_ "aux") ∷ whole foo ∷ [])
can_join = record {
  helpers = whole (foo_ "aux") ∷ [];
  header = whole foo;
  are = refl;
  open_there = refl;
  fresh = All-cons (λ (c : ConstInfo). find_entry waiting.entries c.name ≡ None) (whole (foo_ "aux")) [] refl
      (All-nil (λ (c : ConstInfo). find_entry waiting.entries c.name ≡ None));
  distinct = one_alone (whole (foo_ "aux"));
}

joins : JoinsChildren waiting 3 (whole (foo_ "aux") ∷ whole foo ∷ [])
unfolding can_join
joins = record {
  can = can_join;
  children = All-cons (λ (c : ConstInfo). is_child foo c.name ≡ true) (whole (foo_ "aux")) [] refl (All-nil (λ (c : ConstInfo). is_child foo c.name ≡ true));
  header = record { entry = record { info = definition foo None; position = 3 }; within = first_contained _ []; position = refl; shape = refl };
  no_axiom = All-cons (λ (c : ConstInfo). is_axiom c.kind ≡ false) (whole (foo_ "aux")) (whole foo ∷ []) refl
      (All-cons (λ (c : ConstInfo). is_axiom c.kind ≡ false) (whole foo) [] refl (All-nil (λ (c : ConstInfo). is_axiom c.kind ≡ false)));
}

pub can_answer : CanAnswer joined (foo_ "eq_1") None
unfolding suffix_of equation_of
can_answer = record { no_entry = refl; not_realized = refl; not_failed = refl; fitting = refl; named = tt }

settled_is_fuller : Fuller settled waiting
settled_is_fuller =
    let empty : Fuller (base_view []) (base_view []) = fuller_views.base [] no_two in
    let stated = fuller_views.push (base_view []) (base_view []) empty (definition foo None) 3 refl in
    let both : Fuller waiting waiting = fuller_views.open_both _ _ stated foo 3 in
    let one : Fuller joined waiting = fuller_views.join waiting waiting both 3 (whole (foo_ "aux") ∷ whole foo ∷ []) joins in
    fuller_views.answer joined waiting one (foo_ "eq_1") None can_answer

pub worked_views : WorkedViews
unfolding suffix_of equation_of
worked_views = record {
  child_waits = refl;
  equation_waits = refl;
  grandchild_absent = refl;
  child_found = refl;
  equation_needed = refl;
  equation_absent = refl;
  nothing_before = refl;
  fuller = fuller_views.at settled waiting settled_is_fuller 5;
}
