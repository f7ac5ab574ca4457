-- What the making of realized constants waits for.
use Rattle.std.proofs.Common.{◌≡◌, ℕ, zero, suc, ◌-◌, Bool, true, List, [], ◌∷◌, Option, Some, None, subst}
use Rattle.lf_core.specs.Term.{Path, Universe, Term}
use Rattle.lf_core.specs.Suffix.{suffix_of}
use Rattle.lf_core.specs.declared.suffix.Suffix.{Suffix}
use Rattle.lf_core.specs.declared.suffix.Suffix.TheVariants.{Eq1, EqDef, Inj, InjEq, EqAt}
use Rattle.lf_core.specs.declared.constant.ConstInfo.{ConstInfo}
use Rattle.lf_core.specs.declared.constant.Detail.{Detail}
use Rattle.lf_core.specs.declared.constant.Detail.TheVariants.{Plain, Ind, Ctor, Rec}
use Rattle.lf_core.specs.declared.constant.TaskKey.{TaskKey}
use Rattle.lf_rules.specs.Environment.{Context}
use Rattle.lf_rules.specs.Telescope.{Telescope, Opened}
use Rattle.lf_checker.specs.View.{View, parent_of, last_of, KnownBody, value, opaque, unresolved, body_of}
use Rattle.lf_checker.specs.Extends.{Shape}
use Rattle.lf_checker.specs.Run.{Answer, done, refused, out, need, Run}
use Rattle.lf_checker.specs.Calls.{checked, Calls, Seen, known, unknown, missing, see}
use Rattle.lf_checker.specs.Structures.{mentions}
use Rattle.lf_checker.specs.Infer.{sort_of}
use Rattle.lf_checker.specs.Checker.{calls}
use Rattle.lf_extension_laws.specs.Needs.{IsWanted}
use Rattle.lf_extension_laws.proofs.Only.{
  Only,
  SeenIn,
  BodyIn,
  Reads,
  Asks,
  only_then,
  only_spend,
  only_caught,
  only_choose,
  only_put,
  only_made,
  only_opening,
}
use Rattle.lf_extension_laws.proofs.OnlyInfer.{only_sort, calls_ask}
use Rattle.lf_extension_laws.proofs.Wanted.{reads_wanted}
use Rattle.lf_extension_laws.proofs.Waiting.{only_header, only_decl}
use Rattle.lf_elaboration.specs.Forms.{Binding, Instance, as_pi, as_lambda}
use Rattle.lf_elaboration.specs.Closing.{sorry_name}
use Rattle.lf_elaboration.specs.Statement.{open_binder, open_lambdas, open_pis, pis_closed, lambdas_closed, Statement, accepted, by_reflexivity, unfolding_of}
use Rattle.lf_elaboration.specs.Injectivity.{
  Field,
  Sides,
  fields_at,
  sides_by,
  sides_of,
  RecursorSeen,
  recursor_seen,
  at_constant_motive,
  selector_by,
  selector,
  field_proofs,
  injectivity_by,
  injectivity,
}
use Rattle.lf_elaboration.specs.Equivalence.{rest_types, equivalence_by, equivalence}
use Rattle.lf_elaboration.specs.CaseEquation.{
  Recursion,
  ind_of,
  case_at,
  case_typed,
  case_seen,
  case_named,
  case_of_recursion,
  case_of_type,
  case_of_recursor,
  case_of_head,
  case_equation,
}
use Rattle.lf_elaboration.specs.Realizers.{of_definition, of_value, of_constructor, statement_by, realize_from, realize_by, waits, realized_by}
use Rattle.lf_elaboration_laws.specs.Needs.{RealizingWaits}
use Rattle.lf_elaboration_laws.proofs.OnlySteps.{only_codomain}

ruleset only = (only_then, only_spend, only_caught, only_choose, only_put, only_made, only_opening)

module _ (Key : TaskKey → Type 0) where
  -- ---- Binders opened and closed again

  only_open : (C : Context) (o : Option Binding) (t : Term) (f : Context → Term → Run Opened) → ((D : Context) (s : Term) (u : ℕ) → Only true Key (f D s u))
      → (u : ℕ) → Only true Key (open_binder C o t f u)
  only_open C None t f h u = tt
  only_open C (Some p) t f h u = search (only, h) depth 10

  only_lambdas : (n : ℕ) (C : Context) (t : Term) (u : ℕ) → Only true Key (open_lambdas n C t u)
  only_lambdas zero C t u = tt
  only_lambdas (suc n) C t u = only_open C (as_lambda t) t (open_lambdas n) (only_lambdas n) u

  only_pis : (n : ℕ) (C : Context) (t : Term) (u : ℕ) → Only true Key (open_pis n C t u)
  only_pis zero C t u = tt
  only_pis (suc n) C t u = only_open C (as_pi t) t (open_pis n) (only_pis n) u

  only_pis_closed : (k : ℕ) (xs : Telescope) (t : Term) (u : ℕ) → Only true Key (pis_closed k xs t u)
  only_pis_closed k [] t u = search (only) depth 4
  only_pis_closed k (x ∷ xs) t u = search (only, only_pis_closed (suc k) xs t) depth 10

  only_lambdas_closed : (k : ℕ) (xs : Telescope) (t : Term) (u : ℕ) → Only true Key (lambdas_closed k xs t u)
  only_lambdas_closed k [] t u = search (only) depth 4
  only_lambdas_closed k (x ∷ xs) t u = search (only, only_lambdas_closed (suc k) xs t) depth 10

  only_constant_motive : (s : Sides) (i : ℕ) (f : Field) (r : RecursorSeen) (o : Option Binding) (u : ℕ)
      → Only true Key (at_constant_motive s i f r o u)
  only_constant_motive s i f r None u = tt
  only_constant_motive s i f r (Some m) u = search (only) depth 10

  only_selector_by : (s : Sides) (i : ℕ) (f : Field) (o : Option RecursorSeen) (u : ℕ) → Only true Key (selector_by s i f o u)
  only_selector_by s i f None u = tt
  only_selector_by s i f (Some r) u = search (only, only_codomain Key, only_constant_motive) depth 12

  only_injectivity_by : (s : Sides) (o : Option (List Term)) (u : ℕ) → Only true Key (injectivity_by s o u)
  only_injectivity_by s None u = tt
  only_injectivity_by s (Some ps) u = search (only, only_pis_closed, only_lambdas_closed) depth 10

module _ (V : View) (Key : TaskKey → Type 0) (reads : Reads V Key) (c : Calls) (a : Asks Key c) where
  only_sorts : (C : Context) (A : Term) (u : ℕ) → Only true Key (sort_of c checked C A u)
  only_sorts C A u = only_sort V Key reads c a checked C A u

  only_reflexivity : (xs : Telescope) (s t : Term) (u : ℕ) → Only true Key (by_reflexivity c xs s t u)
  only_reflexivity xs s t u = search (only, a.infer, only_sorts, only_pis_closed Key, only_lambdas_closed Key) depth 14

  only_unfolding : (f : Path) (ls : List Path) (v : Term) (u : ℕ) → Only true Key (unfolding_of c f ls v u)
  only_unfolding f ls v u = search (only, only_lambdas Key, only_reflexivity) depth 8

  -- ---- Constructors

  only_fields_at : (C : Context) (j k : ℕ) (xs : Telescope) (u : ℕ) → Only true Key (fields_at c C j k xs u)
  only_fields_at C j k [] u = tt
  only_fields_at C j k (y ∷ ys) u = search (only, only_sorts, only_fields_at C (suc j) (suc k) ys) depth 10

  only_sides_by : (n : Path) (ls : List Path) (ind : Path) (i p : ℕ) (ps : Telescope) (o : Opened) (u : ℕ)
      → Only true Key (sides_by c n ls ind i p ps o u)
  only_sides_by n ls ind i p ps o u = search (only, only_sorts, only_fields_at) depth 12

  only_sides_of : (n : Path) (ls : List Path) (ty : Term) (ind : Path) (i p k : ℕ) (u : ℕ) → Only true Key (sides_of c n ls ty ind i p k u)
  only_sides_of n ls ty ind i p k u = search (only, only_pis Key, only_sides_by) depth 14

  only_recursor_seen : (s : Sides) (l : Universe) (q : Seen) (u : ℕ) → SeenIn Key q → Only true Key (recursor_seen s l q u)
  only_recursor_seen s l (known k) u h = tt
  only_recursor_seen s l unknown u h = tt
  only_recursor_seen s l (missing k) u h = h

  only_selector : (s : Sides) (i : ℕ) (f : Field) (u : ℕ) → Only true Key (selector V s i f u)
  only_selector s i f u = search (only, only_recursor_seen, reads.sees, only_selector_by Key) depth 8

  only_field_proofs : (s : Sides) (h : Term) (i : ℕ) (fs : List Field) (u : ℕ) → Only true Key (field_proofs V s h i fs u)
  only_field_proofs s h i [] u = tt
  only_field_proofs s h i (f ∷ fs) u = search (only, only_selector, only_field_proofs s h (suc i) fs) depth 10

  only_injectivity : (o : Option Sides) (u : ℕ) → Only true Key (injectivity V o u)
  only_injectivity None u = tt
  only_injectivity (Some s) u = search (only, only_field_proofs, only_injectivity_by Key) depth 8

  only_rest_types : (C : Context) (k : ℕ) (xs : Telescope) (R : Term) (u : ℕ) → Only true Key (rest_types c C k xs R u)
  only_rest_types C k [] R u = tt
  only_rest_types C k (y ∷ ys) R u = search (only, only_pis_closed Key, only_sorts, only_rest_types C (suc k) ys R) depth 12

  only_equivalence_by : (s : Sides) (o : Option (List Term)) (u : ℕ) → Only true Key (equivalence_by c s o u)
  only_equivalence_by s None u = tt
  only_equivalence_by s (Some ps) u = search (only, only_rest_types, only_pis_closed Key, only_lambdas_closed Key) depth 16

  only_equivalence : (o : Option Sides) (u : ℕ) → Only true Key (equivalence V c o u)
  only_equivalence None u = tt
  only_equivalence (Some s) u = search (only, only_field_proofs, only_equivalence_by) depth 8

  -- ---- Cases

  only_case_at : (f : Path) (ls : List Path) (r : Recursion) (n : Path) (rs : List Bool) (ty : Term) (o : Option Term) (u : ℕ)
      → Only true Key (case_at c f ls r n rs ty o u)
  only_case_at f ls r n rs ty None u = tt
  only_case_at f ls r n rs ty (Some m) u = search (only, only_pis Key, only_reflexivity) depth 12

  only_case_typed : (f : Path) (ls : List Path) (r : Recursion) (n : Path) (i : ℕ) (rs : List Bool) (o : Option Term) (u : ℕ)
      → Only true Key (case_typed c f ls r n i rs o u)
  only_case_typed f ls r n i rs None u = tt
  only_case_typed f ls r n i rs (Some T) u = search (only_case_at)

  only_case_seen : (f : Path) (ls : List Path) (r : Recursion) (i : ℕ) (n : Path) (q : Seen) (u : ℕ) → SeenIn Key q
      → Only true Key (case_seen c f ls r i n q u)
  only_case_seen f ls r i n (known k) u h = search (only, only_codomain Key, only_case_typed) depth 10
  only_case_seen f ls r i n unknown u h = tt
  only_case_seen f ls r i n (missing k) u h = h

  only_case_named : (f : Path) (ls : List Path) (i : ℕ) (r : Recursion) (o : Option Path) (u : ℕ) → Only true Key (case_named V c f ls i r o u)
  only_case_named f ls i r None u = tt
  only_case_named f ls i r (Some n) u = only_case_seen f ls r i n (see V n) u (reads.sees n)

  only_case_of_recursion : (f : Path) (ls : List Path) (i : ℕ) (ns : List Path) (o : Option Recursion) (u : ℕ)
      → Only true Key (case_of_recursion V c f ls i ns o u)
  only_case_of_recursion f ls i ns None u = tt
  only_case_of_recursion f ls i ns (Some r) u = search (only_case_named)

  only_case_of_type : (f : Path) (ls : List Path) (i : ℕ) (xs : Telescope) (r : Instance) (args : List Term) (e : Detail) (q : Seen) (u : ℕ) → SeenIn Key q
      → Only true Key (case_of_type V c f ls i xs r args e q u)
  only_case_of_type f ls i xs r args e (known k) u h = search (only_case_of_recursion)
  only_case_of_type f ls i xs r args e unknown u h = tt
  only_case_of_type f ls i xs r args e (missing k) u h = h

  only_case_of_recursor : (f : Path) (ls : List Path) (i : ℕ) (xs : Telescope) (r : Instance) (args : List Term) (q : Seen) (u : ℕ) → SeenIn Key q
      → Only true Key (case_of_recursor V c f ls i xs r args q u)
  only_case_of_recursor f ls i xs r args (known k) u h = only_case_of_type f ls i xs r args k.detail (see V (ind_of k.detail)) u (reads.sees (ind_of k.detail))
  only_case_of_recursor f ls i xs r args unknown u h = tt
  only_case_of_recursor f ls i xs r args (missing k) u h = h

  only_case_of_head : (f : Path) (ls : List Path) (i : ℕ) (xs : Telescope) (o : Option Instance) (args : List Term) (u : ℕ)
      → Only true Key (case_of_head V c f ls i xs o args u)
  only_case_of_head f ls i xs None args u = tt
  only_case_of_head f ls i xs (Some r) args u = only_case_of_recursor f ls i xs r args (see V r.name) u (reads.sees r.name)

  only_case_equation : (f : Path) (ls : List Path) (i : ℕ) (v : Term) (u : ℕ) → Only true Key (case_equation V c f ls i v u)
  only_case_equation f ls i v u = search (only, only_lambdas Key, only_case_of_head) depth 8

  -- ---- All suffixes

  only_of_definition : (f : Path) (ls : List Path) (v : Term) (s : Suffix) (u : ℕ) → Only true Key (of_definition V c f ls v s u)
  only_of_definition f ls v Eq1 u = only_unfolding f ls v u
  only_of_definition f ls v EqDef u = only_unfolding f ls v u
  only_of_definition f ls v (EqAt k) u = only_case_equation f ls (k - 2) v u
  only_of_definition f ls v Inj u = tt
  only_of_definition f ls v InjEq u = tt

  only_of_value : (f : Path) (ls : List Path) (s : Suffix) (b : KnownBody) (u : ℕ) → BodyIn Key b → Only true Key (of_value V c f ls s b u)
  only_of_value f ls s opaque u h = tt
  only_of_value f ls s (unresolved k) u h = h
  only_of_value f ls s (value v i) u h = only_choose true Key (mentions sorry_name v) _ _ u tt (only_of_definition f ls v s u)

  only_of_constructor : (n : Path) (k : Shape) (e : Detail) (m : Option Sides → Run (Option Statement)) → ((o : Option Sides) (u : ℕ) → Only true Key (m o u))
      → (u : ℕ) → Only true Key (of_constructor V c n k e m u)
  only_of_constructor n k (Ctor ind i p f) m h u =
      only_then true Key (sides_of c n k.levels k.ty ind i p f u) m (only_sides_of n k.levels k.ty ind i p f u) h
  only_of_constructor n k Plain m h u = tt
  only_of_constructor n k (Ind p i ns g) m h u = tt
  only_of_constructor n k (Rec ind p m1 i rs) m h u = tt

  only_statement : (n : Path) (k : Shape) (s : Suffix) (u : ℕ) → Only true Key (statement_by V c n k s u)
  only_statement n k Eq1 u = only_of_value n k.levels Eq1 (body_of V n) u (reads.bodies n)
  only_statement n k EqDef u = only_of_value n k.levels EqDef (body_of V n) u (reads.bodies n)
  only_statement n k (EqAt i) u = only_of_value n k.levels (EqAt i) (body_of V n) u (reads.bodies n)
  only_statement n k Inj u = only_of_constructor n k k.detail (injectivity V) only_injectivity u
  only_statement n k InjEq u = only_of_constructor n k k.detail (equivalence V c) only_equivalence u

module _ (V : View) (Key : TaskKey → Type 0) (reads : Reads V Key) (depth : ℕ) where
  only_accepted : (n : Path) (ls : List Path) (o : Option Statement) (u : ℕ) → Only true Key (accepted V depth n ls o u)
  only_accepted n ls None u = tt
  only_accepted n ls (Some s) u = search (only, only_header V Key reads depth, only_decl V Key reads depth) depth 10

  only_from : (n parent : Path) (s : Suffix) (q : Seen) (u : ℕ) → SeenIn Key q → Only true Key (realize_from V depth n parent s q u)
  only_from n parent s (known k) u h =
      only_then true Key (statement_by V (calls V depth) parent k s u) _ (only_statement V Key reads (calls V depth) (calls_ask V Key reads depth) parent k s u)
      (λ t v. only_accepted n k.levels t v)
  only_from n parent s unknown u h = tt
  only_from n parent s (missing k) u h = h

  only_realize : (n : Path) (o : Option Suffix) (u : ℕ) → Only true Key (realize_by V depth n o u)
  only_realize n None u = tt
  only_realize n (Some s) u = only_from n (parent_of n) s (see V (parent_of n)) u (reads.sees (parent_of n))

waited : (V : View) (o : Answer (Option ConstInfo)) → Only true (IsWanted V) o → (k : TaskKey) → realized_by o ≡ waits k → IsWanted V k
waited V (done (Some c) u) h k e = absurd (cc)
waited V (done None u) h k e = absurd (cc)
waited V (refused r u) h k e = absurd (cc)
waited V out h k e = absurd (cc)
waited V (need j) h k e = let i : j ≡ k = cc in subst (IsWanted V) i h

pub realizing_waits : RealizingWaits
realizing_waits V units depth n k e =
    waited V (realize_by V depth n (suffix_of (last_of n)) units) (only_realize V (IsWanted V) (reads_wanted V) depth n (suffix_of (last_of n)) units) k e
