-- The extension law of realized constants.
use Rattle.std.proofs.Common.{ℕ, suc, ◌-◌, Bool, List, [], ◌∷◌, Option, Some, None, refl, subst}
use Rattle.lf_core.specs.Term.{Path, Term}
use Rattle.lf_core.specs.Suffix.{suffix_of}
use Rattle.lf_core.specs.declared.suffix.Suffix.{Suffix}
use Rattle.lf_core.specs.declared.suffix.Suffix.TheVariants.{Eq1, EqDef, Inj, InjEq, EqAt}
use Rattle.lf_core.specs.declared.constant.ConstInfo.{ConstInfo}
use Rattle.lf_core.specs.declared.constant.Detail.{Detail}
use Rattle.lf_core.specs.declared.constant.Detail.TheVariants.{Plain, Ind, Ctor, Rec}
use Rattle.lf_rules.specs.Environment.{Context}
use Rattle.lf_rules.specs.Telescope.{Telescope, Opened}
use Rattle.lf_checker.specs.View.{View, parent_of, last_of, KnownBody, value, opaque, unresolved, body_of}
use Rattle.lf_checker.specs.Extends.{Shape, Tells}
use Rattle.lf_checker.specs.Run.{Answer, done, refused, out, need, Run}
use Rattle.lf_checker.specs.Calls.{checked, Calls, Seen, known, unknown, missing, see}
use Rattle.lf_checker.specs.Structures.{mentions}
use Rattle.lf_checker.specs.Infer.{sort_of}
use Rattle.lf_checker.specs.Checker.{calls, add_header, add_decl}
use Rattle.lf_extension_laws.specs.Extension.{Kept, Agree}
use Rattle.lf_extension_laws.proofs.Kept.{kept_self, kept_then, kept_spend, kept_choose, see_kept, body_kept, kept_seen, kept_body}
use Rattle.lf_extension_laws.proofs.Extended.{kept_sort, calls_kept}
use Rattle.lf_extension_laws.proofs.Extended_declarations.{header_kept, decl_kept}
use Rattle.lf_elaboration.specs.Forms.{Instance}
use Rattle.lf_elaboration.specs.Closing.{sorry_name}
use Rattle.lf_elaboration.specs.Statement.{Statement, theorem, accepted, by_reflexivity, unfolding_of}
use Rattle.lf_elaboration.specs.Injectivity.{Field, Sides, fields_at, sides_by, sides_of, recursor_seen, selector, field_proofs, injectivity}
use Rattle.lf_elaboration.specs.Induction.{recursor_path}
use Rattle.lf_elaboration.specs.Equivalence.{rest_types, equivalence_by, equivalence}
use Rattle.lf_elaboration.specs.CaseEquation.{
  Recursion,
  ind_of,
  case_at,
  case_typed,
  case_seen,
  case_named,
  case_of_recursion,
  case_of_type,
  case_of_recursor,
  case_of_head,
  case_equation,
}
use Rattle.lf_elaboration.specs.Realizers.{of_definition, of_value, of_constructor, statement_by, realize_from, realize_by, makes, makes_none, realized_by}
use Rattle.lf_elaboration_laws.specs.Extension.{KeptRealized, RealizingExtends}

ruleset kept = (kept_self, kept_then, kept_spend, kept_choose)

module _ (U V : View) (x : Tells V U) (c d : Calls) (a : Agree c d) where
  kept_sorts : (C : Context) (A : Term) (u : ℕ) → Kept (sort_of c checked C A u) (sort_of d checked C A u)
  kept_sorts C A u = kept_sort c d a checked C A u

  kept_reflexivity : (xs : Telescope) (s t : Term) (u : ℕ) → Kept (by_reflexivity c xs s t u) (by_reflexivity d xs s t u)
  kept_reflexivity xs s t u = search (kept, a.infer, kept_sorts) depth 14

  kept_unfolding : (f : Path) (ls : List Path) (v : Term) (u : ℕ) → Kept (unfolding_of c f ls v u) (unfolding_of d f ls v u)
  kept_unfolding f ls v u = search (kept, kept_reflexivity) depth 8

  -- ---- Constructors

  kept_fields_at : (C : Context) (j k : ℕ) (xs : Telescope) (u : ℕ) → Kept (fields_at c C j k xs u) (fields_at d C j k xs u)
  kept_fields_at C j k [] u = refl
  kept_fields_at C j k (y ∷ ys) u =
      let rest : (v : ℕ) → Kept (fields_at c C (suc j) (suc k) ys v) (fields_at d C (suc j) (suc k) ys v) = λ v. kept_fields_at C (suc j) (suc k) ys v in
      search (kept, kept_sorts, rest) depth 10

  kept_sides_by : (n : Path) (ls : List Path) (ind : Path) (i p : ℕ) (ps : Telescope) (o : Opened) (u : ℕ)
      → Kept (sides_by c n ls ind i p ps o u) (sides_by d n ls ind i p ps o u)
  kept_sides_by n ls ind i p ps o u = search (kept, kept_sorts, kept_fields_at) depth 12

  kept_sides_of : (n : Path) (ls : List Path) (ty : Term) (ind : Path) (i p k : ℕ) (u : ℕ)
      → Kept (sides_of c n ls ty ind i p k u) (sides_of d n ls ty ind i p k u)
  kept_sides_of n ls ty ind i p k u = search (kept, kept_sides_by) depth 14

  kept_selector : (s : Sides) (i : ℕ) (f : Field) (u : ℕ) → Kept (selector U s i f u) (selector V s i f u)
  kept_selector s i f u =
      kept_then (recursor_seen s f.level (see U (recursor_path s.ind)) u) (recursor_seen s f.level (see V (recursor_path s.ind)) u) _ _
      (kept_seen (see U (recursor_path s.ind)) (see V (recursor_path s.ind)) (λ q. recursor_seen s f.level q u) (λ q. recursor_seen s f.level q u) (λ k. refl)
      (λ q. kept_self (recursor_seen s f.level q u)) (see_kept U V x (recursor_path s.ind)))
      (λ o v. kept_self _)

  kept_field_proofs : (s : Sides) (h : Term) (i : ℕ) (fs : List Field) (u : ℕ) → Kept (field_proofs U s h i fs u) (field_proofs V s h i fs u)
  kept_field_proofs s h i [] u = refl
  kept_field_proofs s h i (f ∷ fs) u =
      let rest : (v : ℕ) → Kept (field_proofs U s h (suc i) fs v) (field_proofs V s h (suc i) fs v) = λ v. kept_field_proofs s h (suc i) fs v in
      search (kept, kept_selector, rest) depth 10

  kept_injectivity : (o : Option Sides) (u : ℕ) → Kept (injectivity U o u) (injectivity V o u)
  kept_injectivity None u = refl
  kept_injectivity (Some s) u = search (kept, kept_field_proofs) depth 8

  kept_rest_types : (C : Context) (k : ℕ) (xs : Telescope) (R : Term) (u : ℕ) → Kept (rest_types c C k xs R u) (rest_types d C k xs R u)
  kept_rest_types C k [] R u = refl
  kept_rest_types C k (y ∷ ys) R u =
      let rest : (v : ℕ) → Kept (rest_types c C (suc k) ys R v) (rest_types d C (suc k) ys R v) = λ v. kept_rest_types C (suc k) ys R v in
      search (kept, kept_sorts, rest) depth 12

  kept_equivalence_by : (s : Sides) (o : Option (List Term)) (u : ℕ) → Kept (equivalence_by c s o u) (equivalence_by d s o u)
  kept_equivalence_by s None u = refl
  kept_equivalence_by s (Some ps) u = search (kept, kept_rest_types) depth 16

  kept_equivalence : (o : Option Sides) (u : ℕ) → Kept (equivalence U c o u) (equivalence V d o u)
  kept_equivalence None u = refl
  kept_equivalence (Some s) u = search (kept, kept_field_proofs, kept_equivalence_by) depth 8

  -- ---- Cases

  kept_case_at : (f : Path) (ls : List Path) (r : Recursion) (n : Path) (rs : List Bool) (ty : Term) (o : Option Term) (u : ℕ)
      → Kept (case_at c f ls r n rs ty o u) (case_at d f ls r n rs ty o u)
  kept_case_at f ls r n rs ty None u = refl
  kept_case_at f ls r n rs ty (Some m) u = search (kept, kept_reflexivity) depth 12

  kept_case_typed : (f : Path) (ls : List Path) (r : Recursion) (n : Path) (i : ℕ) (rs : List Bool) (o : Option Term) (u : ℕ)
      → Kept (case_typed c f ls r n i rs o u) (case_typed d f ls r n i rs o u)
  kept_case_typed f ls r n i rs None u = refl
  kept_case_typed f ls r n i rs (Some T) u = search (kept_case_at)

  kept_case_seen : (f : Path) (ls : List Path) (r : Recursion) (i : ℕ) (n : Path) (q : Seen) (u : ℕ)
      → Kept (case_seen c f ls r i n q u) (case_seen d f ls r i n q u)
  kept_case_seen f ls r i n (known k) u = search (kept, kept_case_typed) depth 10
  kept_case_seen f ls r i n unknown u = refl
  kept_case_seen f ls r i n (missing k) u = tt

  kept_case_named : (f : Path) (ls : List Path) (i : ℕ) (r : Recursion) (o : Option Path) (u : ℕ)
      → Kept (case_named U c f ls i r o u) (case_named V d f ls i r o u)
  kept_case_named f ls i r None u = refl
  kept_case_named f ls i r (Some n) u = kept_seen (see U n) (see V n) (λ q. case_seen c f ls r i n q u) (λ q. case_seen d f ls r i n q u) (λ k. refl)
      (λ q. kept_case_seen f ls r i n q u) (see_kept U V x n)

  kept_case_of_recursion : (f : Path) (ls : List Path) (i : ℕ) (ns : List Path) (o : Option Recursion) (u : ℕ)
      → Kept (case_of_recursion U c f ls i ns o u) (case_of_recursion V d f ls i ns o u)
  kept_case_of_recursion f ls i ns None u = refl
  kept_case_of_recursion f ls i ns (Some r) u = search (kept_case_named)

  kept_case_of_type : (f : Path) (ls : List Path) (i : ℕ) (xs : Telescope) (r : Instance) (args : List Term) (e : Detail) (q : Seen) (u : ℕ)
      → Kept (case_of_type U c f ls i xs r args e q u) (case_of_type V d f ls i xs r args e q u)
  kept_case_of_type f ls i xs r args e (known k) u = search (kept_case_of_recursion)
  kept_case_of_type f ls i xs r args e unknown u = refl
  kept_case_of_type f ls i xs r args e (missing k) u = tt

  kept_case_of_recursor : (f : Path) (ls : List Path) (i : ℕ) (xs : Telescope) (r : Instance) (args : List Term) (q : Seen) (u : ℕ)
      → Kept (case_of_recursor U c f ls i xs r args q u) (case_of_recursor V d f ls i xs r args q u)
  kept_case_of_recursor f ls i xs r args (known k) u =
      kept_seen (see U (ind_of k.detail)) (see V (ind_of k.detail)) (λ q. case_of_type U c f ls i xs r args k.detail q u)
      (λ q. case_of_type V d f ls i xs r args k.detail q u) (λ y. refl) (λ q. kept_case_of_type f ls i xs r args k.detail q u)
      (see_kept U V x (ind_of k.detail))
  kept_case_of_recursor f ls i xs r args unknown u = refl
  kept_case_of_recursor f ls i xs r args (missing k) u = tt

  kept_case_of_head : (f : Path) (ls : List Path) (i : ℕ) (xs : Telescope) (o : Option Instance) (args : List Term) (u : ℕ)
      → Kept (case_of_head U c f ls i xs o args u) (case_of_head V d f ls i xs o args u)
  kept_case_of_head f ls i xs None args u = refl
  kept_case_of_head f ls i xs (Some r) args u =
      kept_seen (see U r.name) (see V r.name) (λ q. case_of_recursor U c f ls i xs r args q u) (λ q. case_of_recursor V d f ls i xs r args q u) (λ k. refl)
      (λ q. kept_case_of_recursor f ls i xs r args q u) (see_kept U V x r.name)

  kept_case_equation : (f : Path) (ls : List Path) (i : ℕ) (v : Term) (u : ℕ) → Kept (case_equation U c f ls i v u) (case_equation V d f ls i v u)
  kept_case_equation f ls i v u = search (kept, kept_case_of_head) depth 8

  -- ---- All suffixes

  kept_of_definition : (f : Path) (ls : List Path) (v : Term) (s : Suffix) (u : ℕ) → Kept (of_definition U c f ls v s u) (of_definition V d f ls v s u)
  kept_of_definition f ls v Eq1 u = kept_unfolding f ls v u
  kept_of_definition f ls v EqDef u = kept_unfolding f ls v u
  kept_of_definition f ls v (EqAt k) u = kept_case_equation f ls (k - 2) v u
  kept_of_definition f ls v Inj u = refl
  kept_of_definition f ls v InjEq u = refl

  kept_of_value : (f : Path) (ls : List Path) (s : Suffix) (b : KnownBody) (u : ℕ) → Kept (of_value U c f ls s b u) (of_value V d f ls s b u)
  kept_of_value f ls s opaque u = refl
  kept_of_value f ls s (unresolved k) u = tt
  kept_of_value f ls s (value v h) u = kept_choose (mentions sorry_name v) _ _ _ _ u refl (kept_of_definition f ls v s u)

  kept_body_of : (f : Path) (ls : List Path) (s : Suffix) (u : ℕ) → Kept (of_value U c f ls s (body_of U f) u) (of_value V d f ls s (body_of V f) u)
  kept_body_of f ls s u = kept_body (body_of U f) (body_of V f) (λ b. of_value U c f ls s b u) (λ b. of_value V d f ls s b u) (λ k. refl)
      (λ b. kept_of_value f ls s b u) (body_kept U V x f)

  kept_constructor : (n : Path) (k : Shape) (e : Detail) (m l : Option Sides → Run (Option Statement)) → ((o : Option Sides) (u : ℕ) → Kept (m o u) (l o u))
      → (u : ℕ) → Kept (of_constructor U c n k e m u) (of_constructor V d n k e l u)
  kept_constructor n k (Ctor ind i p f) m l h u =
      kept_then (sides_of c n k.levels k.ty ind i p f u) (sides_of d n k.levels k.ty ind i p f u) m l (kept_sides_of n k.levels k.ty ind i p f u) h
  kept_constructor n k Plain m l h u = refl
  kept_constructor n k (Ind p i ns g) m l h u = refl
  kept_constructor n k (Rec ind p m1 i rs) m l h u = refl

  kept_statement : (n : Path) (k : Shape) (s : Suffix) (u : ℕ) → Kept (statement_by U c n k s u) (statement_by V d n k s u)
  kept_statement n k Eq1 u = kept_body_of n k.levels Eq1 u
  kept_statement n k EqDef u = kept_body_of n k.levels EqDef u
  kept_statement n k (EqAt i) u = kept_body_of n k.levels (EqAt i) u
  kept_statement n k Inj u = kept_constructor n k k.detail (injectivity U) (injectivity V) kept_injectivity u
  kept_statement n k InjEq u = kept_constructor n k k.detail (equivalence U c) (equivalence V d) kept_equivalence u

module _ (U V : View) (x : Tells V U) (depth : ℕ) where
  kept_accepted : (n : Path) (ls : List Path) (o : Option Statement) (u : ℕ) → Kept (accepted U depth n ls o u) (accepted V depth n ls o u)
  kept_accepted n ls None u = refl
  kept_accepted n ls (Some s) u =
      kept_then (add_header U depth n s.ty u) (add_header V depth n s.ty u) _ _ (header_kept U V x depth n s.ty u)
      (λ l v. kept_then (add_decl U depth (theorem n ls s 0) v) (add_decl V depth (theorem n ls s 0) v) _ _ (decl_kept U V x depth (theorem n ls s 0) v)
      (λ h w. refl))

  kept_from : (n parent : Path) (s : Suffix) (q : Seen) (u : ℕ) → Kept (realize_from U depth n parent s q u) (realize_from V depth n parent s q u)
  kept_from n parent s (known k) u =
      kept_then (statement_by U (calls U depth) parent k s u) (statement_by V (calls V depth) parent k s u) _ _
      (kept_statement U V x (calls U depth) (calls V depth) (calls_kept U V x depth) parent k s u) (λ t v. kept_accepted n k.levels t v)
  kept_from n parent s unknown u = refl
  kept_from n parent s (missing k) u = tt

  kept_realize : (n : Path) (o : Option Suffix) (u : ℕ) → Kept (realize_by U depth n o u) (realize_by V depth n o u)
  kept_realize n None u = refl
  kept_realize n (Some s) u =
      kept_seen (see U (parent_of n)) (see V (parent_of n)) (λ q. realize_from U depth n (parent_of n) s q u)
      (λ q. realize_from V depth n (parent_of n) s q u) (λ k. refl) (λ q. kept_from n (parent_of n) s q u) (see_kept U V x (parent_of n))

kept_realized : (o p : Answer (Option ConstInfo)) → Kept o p → KeptRealized (realized_by o) (realized_by p)
kept_realized (done (Some c) u) p h = subst (λ q. KeptRealized (makes c) (realized_by q)) h refl
kept_realized (done None u) p h = subst (λ q. KeptRealized makes_none (realized_by q)) h refl
kept_realized (refused e u) p h = subst (λ q. KeptRealized makes_none (realized_by q)) h refl
kept_realized out p h = subst (λ q. KeptRealized makes_none (realized_by q)) h refl
kept_realized (need k) p h = tt

pub realizing_extends : RealizingExtends
realizing_extends U V x units depth n =
    kept_realized (realize_by U depth n (suffix_of (last_of n)) units) (realize_by V depth n (suffix_of (last_of n)) units)
    (kept_realize U V x depth n (suffix_of (last_of n)) units)
