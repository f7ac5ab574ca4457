-- The worked list meets what is asked.
use Rattle.std.proofs.Common.{
  ◌≡◌,
  ◌⊎◌,
  inl,
  inr,
  ℕ,
  true,
  false,
  List,
  [],
  ◌∷◌,
  ◌++◌,
  refl,
  sym,
  ap,
  subst,
  ◌∙◌,
  arith,
  true≢false,
  Some,
  None,
  option_and_then,
  Contains,
}
use Rattle.std.proofs.lemmas.List.Elements.{Contains-append_left, Contains-append_right}
use Rattle.lf_core.specs.Suffix.{suffix_of, equation_of}
use Rattle.lf_core.specs.Term.{Path, Universe, level_zero, level_succ, level_imax, level_param, Term, const}
use Rattle.lf_core.specs.Same.{same_path}
use Rattle.lf_rules.specs.Environment.{Environment, Fresh, NamesDeclared, LevelsBelow}
use Rattle.lf_core.specs.Literal.{operation_of, compute}
use Rattle.lf_core.specs.declared.constant.ConstInfo.{ConstInfo}
use Rattle.lf_checker.specs.View.{View}
use Rattle.lf_checker.specs.LevelTest.{is_same, is_at_most}
use Rattle.std.specs.Char.{encode_utf8}
use Rattle.std.specs.Fmt.{digits}
use Rattle.lf_checker.specs.Whnf.{turn_limit, whnf_body}
use Rattle.lf_checker.specs.Infer.{infer_body}
use Rattle.lf_checker.specs.Equal.{equal_body}
use Rattle.lf_checker.specs.Checker.{add_header, add_decl}
use Rattle.lf_checker.specs.Admission.{view_with_type, add_inductive}
use Rattle.lf_rules.specs.Recursor.{recursor_name}
use Rattle.lf_rules.specs.Inductive.{type_constant, type_alone, constructor_constant, declared_constants, with_type}
use Rattle.std.specs.Prelude.{codes}
use Rattle.lf_inductive_laws.proofs.Contained.{none_contained, first_contained, later_contained, contained_cases}
use Rattle.lf_checker_laws.proofs.Structures.{path_same}
use Rattle.lf_checker_laws.specs.Soundness.{zero_name, Held, HeldBeside}
use Rattle.lf_checker_answers.specs.Worked.{left_of}
use Rattle.lf_checker_laws.specs.Declarations.{Asked, LiteralsFound}
use Rattle.lf_checker_laws.proofs.Tests.{no_false}
use Rattle.lf_checker_laws.proofs.Views.{found_is}
use Rattle.lf_derivation_laws.specs.Lists.{Item, all_constants, Beside, AllBeside, Reads, Reported, nothing, then_item}
use Rattle.lf_derivation_laws.proofs.Lists_of_items.{Within}
use Rattle.lf_derivation_laws.proofs.Lists.{standing_names}
use Rattle.lf_derivation_answers.specs.Worked.{
  x,
  p,
  arrow,
  identity,
  helper,
  theorem,
  realized,
  last,
  before_all,
  with_p,
  with_helper,
  with_all,
  p_item,
  helper_item,
  theorem_item,
  realized_item,
  last_item,
  truth,
  sorry,
  unproved,
  with_truth,
  truth_item,
  sorry_item,
  unproved_item,
  WorkedList,
}
use Rattle.lf_derivation_answers.proofs.Base_views.{is_new, not_in, AllKnow, know_as_much, base_reads}

new : (E : Environment) (n : Path) → is_new E n ≡ true → Fresh E n
new E n h (c, w, e) = not_in E n h c w e

other : (n : Path) → same_path n zero_name ≡ false → n ≡ zero_name → ⊥
other n h e = true≢false (sym (path_same zero_name) ∙ subst (λ m. same_path m zero_name ≡ false) e h)

none_some : {X : Type 0} {x : X} → None ≡ Some x → ⊥
none_some e = cc

-- Names beside which nothing counts as named.
plain_name : (E : Environment) (n : Path) → same_path n zero_name ≡ false → operation_of n ≡ None → Beside E n
plain_name E n z o = record {
  zero = λ e. absurd (other n z e);
  operation = λ i j r e.
      absurd (none_some (sym (ap (λ x. option_and_then (λ f. compute f i j) x) o) ∙ e));
}

abbrev ArePlain : List ConstInfo → Type 0
ArePlain [] = Unit {0}
ArePlain (c ∷ cs) = ((same_path c.name zero_name ≡ false) × (operation_of c.name ≡ None)) × ArePlain cs

plain_beside : (E : Environment) (cs : List ConstInfo) → ArePlain cs → AllBeside E cs
plain_beside E [] h c w = absurd (none_contained c w)
plain_beside E (x ∷ xs) h c w = at (λ v. plain_beside E xs h.1 c v) (contained_cases x c xs w)
  where
    at : (Contains xs c → Beside E c.name) → (x ≡ c) ⊎ Contains xs c → Beside E c.name
    at rest (inl q) = subst (λ y. Beside E y.name) q (plain_name E x.name h.0.0 h.0.1)
    at rest (inr v) = rest v

within_nil : {X : Type 0} (F : List X) → Within [] F
within_nil F c w = absurd (none_contained c w)

one_within : {X : Type 0} (F : List X) (c : X) → Contains F c → Within (c ∷ []) F
one_within F c h d w = at (contained_cases c d [] w)
  where
    at : (c ≡ d) ⊎ Contains [] d → Contains F d
    at (inl q) = subst (Contains F) q h
    at (inr v) = absurd (none_contained d v)

within_more : {X : Type 0} (F : List X) (c : X) (cs : List X) → Contains F c → Within cs F → Within (c ∷ cs) F
within_more F c cs h g d w = at (contained_cases c d cs w)
  where
    at : (c ≡ d) ⊎ Contains cs d → Contains F d
    at (inl q) = subst (Contains F) q h
    at (inr v) = g d v

asked_by : (J : List Item) → Reported J → (V : View) → Reads V J → (n : ℕ) (t : Term) → NamesDeclared (all_constants J) t → LevelsBelow n t → LiteralsFound V t
    → Asked V (all_constants J) n t
asked_by J r V reads n t h l f = record { names = (standing_names J r V reads).term n t h l; literals = f }

-- ---- The items, one by one.

abbrev J1 : List Item
J1 = p_item ∷ []

abbrev J2 : List Item
J2 = p_item ∷ helper_item ∷ []

abbrev J3 : List Item
J3 = p_item ∷ helper_item ∷ theorem_item ∷ []

abbrev J4 : List Item
J4 = p_item ∷ helper_item ∷ theorem_item ∷ realized_item ∷ []

reads_nothing : Reads before_all []
reads_nothing = base_reads [] [] nothing tt (within_nil []) tt

first : Reported J1
unfolding encode_utf8 digits suffix_of equation_of is_same turn_limit whnf_body infer_body equal_body
first = then_item p_item nothing (new [] p.name refl, tt) (plain_beside (p ∷ []) (p ∷ []) ((refl, refl), tt)) (
  record {
    reads = reads_nothing;
    asked = asked_by [] nothing before_all reads_nothing 0 p.ty tt tt tt;
    depth = 512;
    units = 100;
    level = level_succ
        level_zero;
    left = left_of (add_header before_all 512 p.name p.ty 100);
    accepted = refl;
  },
  refl,
  refl,
  refl,
)

-- The lists have P, at their head.
has_p : (is : List Item) → Contains (all_constants (p_item ∷ is)) p
has_p is = first_contained p (all_constants is)

p_within : (is : List Item) → Within (p ∷ []) (all_constants (p_item ∷ is))
p_within is = within_more (all_constants (p_item ∷ is)) p [] (has_p is) (within_nil (all_constants (p_item ∷ is)))

p_known : (V : View) → Reads V J1 → Asked V (all_constants J1) 0 arrow
p_known V reads = asked_by J1 first V reads 0 arrow ((p, has_p [], refl), (p, has_p [], refl)) (tt, tt) (tt, tt)

arrow_level : Universe
arrow_level = level_imax level_zero level_zero

second : Reported J2
unfolding encode_utf8 digits suffix_of equation_of is_same turn_limit whnf_body infer_body equal_body arrow_level
second =
    let reads : Reads with_p J1 = base_reads (p ∷ []) J1 first (inl (λ c w. w), tt) (p_within []) ((λ e. tt), tt) in
    then_item helper_item first (new (all_constants J1) helper.name refl, tt) (plain_beside (all_constants J2) (helper ∷ []) ((refl, refl), tt)) (
      record {
        reads = reads;
        asked = p_known with_p reads;
        depth = 512;
        units = 100;
        level = arrow_level;
        left = left_of
            (add_header with_p 512 helper.name arrow 100);
        accepted = refl;
      },
      record {
        reads = reads;
        asked = asked_by J1 first with_p reads 0 identity ((p, has_p [], refl), tt) (tt, tt) (tt, tt);
        depth = 512;
        units = 1000;
        height =
            1;
        left = left_of (add_decl with_p 512 helper 1000);
        accepted = refl;
      },
      (λ k w e. e),
      refl,
      inl refl,
      refl,
    )

-- The header doesn't know the helper, and the value does.
third : Reported J3
unfolding encode_utf8 digits suffix_of equation_of is_same turn_limit whnf_body infer_body equal_body arrow_level
third =
    let E : Environment = all_constants J2 in
    let h : Contains E helper = later_contained p helper (helper ∷ []) (first_contained helper []) in
    let reads : Reads with_p J2 = base_reads (p ∷ []) J2 second (inl (λ c w. w), (inr refl, tt)) (p_within (helper_item ∷ []))
    ((λ e. tt), ((λ e. no_false e), tt)) in
    let reads' : Reads with_helper J2 = base_reads (p ∷ helper ∷ []) J2 second (inl (p_within (helper_item ∷ [])), (inl (one_within E helper h), tt)) (λ c w. w)
    ((λ e. tt), ((λ e. ((λ k. refl), tt)), tt)) in
    then_item theorem_item second (new E theorem.name refl, tt) (plain_beside (all_constants J3) (theorem ∷ []) ((refl, refl), tt)) (
      record {
        reads = reads;
        asked = asked_by J2 second with_p reads 0 arrow ((p, has_p (helper_item ∷ []), refl), (p, has_p (helper_item ∷ []), refl))
            (tt, tt) (tt, tt);
        depth = 512;
        units = 100;
        level = arrow_level;
        left = left_of (add_header with_p 512 theorem.name arrow 100);
        accepted = refl;
      },
      record {
        reads = reads';
        asked = asked_by J2 second with_helper reads' 0 (const helper.name []) (helper, h, refl) tt tt;
        depth = 512;
        units = 1000;
        height = 2;
        left = left_of (add_decl with_helper 512 theorem 1000);
        accepted = refl;
      },
      know_as_much with_p with_helper J2 ((λ e. refl), ((λ e. refl), tt)),
      refl,
      inr refl,
      refl,
    )

-- Its view knows neither the helper nor the theorem.
fourth : Reported J4
unfolding encode_utf8 digits suffix_of equation_of is_same turn_limit whnf_body infer_body equal_body arrow_level
fourth =
    let E : Environment = all_constants J3 in
    let w : List Item = helper_item ∷ theorem_item ∷ [] in
    let reads : Reads with_p J3 = base_reads (p ∷ []) J3 third (inl (λ c v. v), (inr refl, (inr refl, tt))) (p_within w)
    ((λ e. tt), ((λ e. no_false e), ((λ e. no_false e), tt))) in
    then_item realized_item third (new E realized.name refl, tt) (plain_beside (all_constants J4) (realized ∷ []) ((refl, refl), tt)) (
      record {
        reads = reads;
        asked = asked_by J3 third with_p reads 0 arrow ((p, has_p w, refl), (p, has_p w, refl)) (tt, tt) (tt, tt);
        depth = 512;
        units =
            100;
        level = arrow_level;
        left = left_of (add_header with_p 512 realized.name arrow 100);
        accepted = refl;
      },
      record {
        reads = reads;
        asked = asked_by J3 third with_p reads 0 identity ((p, has_p w, refl), tt) (tt, tt) (tt, tt);
        depth = 512;
        units = 1000;
        height =
            1;
        left = left_of (add_decl with_p 512 realized 1000);
        accepted = refl;
      },
      (λ k v e. e),
      refl,
      inr refl,
      refl,
    )

abbrev J5 : List Item
J5 = p_item ∷ helper_item ∷ theorem_item ∷ realized_item ∷ last_item ∷ []

fifth : Reported J5
unfolding encode_utf8 digits suffix_of equation_of is_same turn_limit whnf_body infer_body equal_body
fifth =
    let E : Environment = all_constants J4 in
    let w : List Item = helper_item ∷ theorem_item ∷ realized_item ∷ [] in
    let reads : Reads with_all J4 = base_reads (p ∷ helper ∷ theorem ∷ realized ∷ []) J4 fourth (
      inl (one_within E p (has_p w)),
      (
        inl (one_within E helper (1, omega arith, refl)),
        (inl (one_within E theorem (2, omega arith, refl)), (inl (one_within E realized (3, omega arith, refl)), tt)),
      ),
    ) (λ c v. v)
    ((λ e. tt), ((λ e. ((λ k. refl), tt)), ((λ e. ((λ k. refl), ((λ k. refl), tt))), ((λ e. ((λ k. refl), ((λ k. refl), ((λ k. refl), tt)))), tt)))) in
    then_item last_item fourth (new E last.name refl, tt) (plain_beside (E ++ last ∷ []) (last ∷ []) ((refl, refl), tt)) (
      record {
        reads = reads;
        asked = asked_by J4 fourth with_all reads 0 last.ty (p, has_p w, refl) tt tt;
        depth = 512;
        units = 100;
        level = level_zero;
        left =
            left_of (add_header with_all 512 last.name last.ty 100);
        accepted = refl;
      },
      refl,
      refl,
      refl,
    )

-- ---- A view that knows nothing, an inductive type, and a proof that failed.

abbrev J6 : List Item
J6 = p_item ∷ helper_item ∷ theorem_item ∷ realized_item ∷ last_item ∷ truth_item ∷ []

abbrev J7 : List Item
J7 = p_item ∷ helper_item ∷ theorem_item ∷ realized_item ∷ last_item ∷ truth_item ∷ sorry_item ∷ []

reads_fifth : Reads before_all J5
unfolding encode_utf8 suffix_of equation_of
reads_fifth = base_reads [] J5 fifth (inr refl, (inr refl, (inr refl, (inr refl, (inr refl, tt))))) (within_nil (all_constants J5))
    ((λ e. no_false e), ((λ e. no_false e), ((λ e. no_false e), ((λ e. no_false e), ((λ e. no_false e), tt)))))

type_held : Held (view_with_type before_all truth) (with_type (all_constants J5) truth) truth.name
type_held c q = subst (Contains (with_type (all_constants J5) truth)) (found_is (type_alone truth) c q) (5, omega arith, refl)

type_beside : HeldBeside (view_with_type before_all truth) (with_type (all_constants J5) truth) truth.name
type_beside = record { zero = λ e. absurd (other truth.name refl e); operation = λ i j r e. absurd (cc) }

sixth : Reported J6
unfolding encode_utf8 digits suffix_of equation_of is_same is_at_most turn_limit whnf_body infer_body equal_body
sixth =
    let E : Environment = all_constants J5 in
    then_item truth_item fifth (
      new E truth.name refl,
      (
        new (E ++ type_constant truth true ∷ []) (codes "T" ∷ codes "mk" ∷ []) refl,
        (
          new (E ++ type_constant truth true ∷ constructor_constant truth 0 (record { name = codes "T" ∷ codes "mk" ∷ []; ty = const (codes "T" ∷ []) [] })
              ∷ [])
              (recursor_name truth) refl,
          tt,
        ),
      ),
    )
    (plain_beside (E ++ declared_constants truth true) (declared_constants truth true) ((refl, refl), ((refl, refl), ((refl, refl), tt))))
    (record {
      reads = reads_fifth;
      asked = record { names = tt; literals = tt };
      constructors = (record { names = (type_held, type_beside, tt); literals = tt }, tt);
      beside = record { zero = λ e. absurd (other truth.name refl e); operation = λ i j r e. absurd (cc) };
      depth = 512;
      units = 1000;
      left = left_of (add_inductive before_all 512 truth 1000);
      accepted = refl;
    })

seventh : Reported J7
unfolding encode_utf8 digits suffix_of equation_of is_same turn_limit whnf_body infer_body equal_body
seventh =
    let E : Environment = all_constants J6 in
    let reads : Reads before_all J6 = base_reads [] J6 sixth (inr refl, (inr refl, (inr refl, (inr refl, (inr refl, (inr refl, tt)))))) (within_nil E)
    ((λ e. no_false e), ((λ e. no_false e), ((λ e. no_false e), ((λ e. no_false e), ((λ e. no_false e), ((λ e. no_false e), tt)))))) in
    then_item sorry_item sixth (new E sorry.name refl, tt) (plain_beside (E ++ sorry ∷ []) (sorry ∷ []) ((refl, refl), tt)) (
      record {
        reads = reads;
        asked = record { names = (omega arith, tt); literals = (tt, tt) };
        depth = 512;
        units = 100;
        level = level_imax
            (level_succ (level_param 0)) (level_param 0);
        left = left_of (add_header before_all 512 sorry.name sorry.ty 100);
        accepted = refl;
      },
      refl,
      refl,
      refl,
    )

pub worked_list : WorkedList
unfolding encode_utf8 digits suffix_of equation_of is_same turn_limit whnf_body infer_body equal_body
worked_list =
    let E : Environment = all_constants J7 in
    let T : List ConstInfo = declared_constants truth true in
    let reads : Reads with_truth J7 = base_reads (T ++ sorry ∷ []) J7 seventh (
      inr refl,
      (
        inr refl,
        (
          inr refl,
          (
            inr refl,
            (inr refl, (inl (λ c w. Contains-append_left T (sorry ∷ []) c w), (inl (λ c w. Contains-append_right T (sorry ∷ []) c w), tt))),
          ),
        ),
      ),
    )
    (λ c w. Contains-append_right (all_constants J5) (T ++ sorry ∷ []) c w) (
      (λ e. no_false e),
      (
        (λ e. no_false e),
        (
          (λ e. no_false e),
          ((λ e. no_false e), ((λ e. no_false e), ((λ e. nothing_known), ((λ e. nothing_known_more), tt)))),
        ),
      ),
    ) in
    then_item unproved_item seventh (new E unproved.name refl, tt) (plain_beside (E ++ unproved ∷ []) (unproved ∷ []) ((refl, refl), tt)) (
      record {
        reads = reads;
        asked = asked_by J7 seventh with_truth reads 0 unproved.ty (type_constant truth true, (5, omega arith, refl), refl) tt tt;
        depth =
            512;
        units = 100;
        level = level_zero;
        left = left_of (add_header with_truth 512 unproved.name unproved.ty 100);
        accepted = refl;
      },
      record { sorry = sorry; binder = x; within = (8, omega arith, refl); known_there = refl; form = refl; one_level = refl; value = refl },
      refl,
      inr refl,
    )
  where
    nothing_known : AllKnow before_all with_truth J5
    nothing_known = ((λ e. no_false e), ((λ e. no_false e), ((λ e. no_false e), ((λ e. no_false e), ((λ e. no_false e), tt)))))

    nothing_known_more : AllKnow before_all with_truth J6
    nothing_known_more = ((λ e. no_false e), ((λ e. no_false e), ((λ e. no_false e), ((λ e. no_false e), ((λ e. no_false e), ((λ e. no_false e), tt))))))
