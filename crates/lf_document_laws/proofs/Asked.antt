-- Which tasks the checker's runs of documents wait for: statements, heights, inductive declarations, definitions by equations, fields.
use Rattle.std.proofs.Common.{ℕ, zero, suc, Bool, true, ◌&&◌, List, [], ◌∷◌, Option, Some, None, refl}
use Rattle.lf_core.specs.Term.{Path, Universe, Term, bound, free, meta, sort, const, app, lam, pi, letin, lit, proj}
use Rattle.lf_core.specs.declared.constant.ConstInfo.{ConstInfo}
use Rattle.lf_core.specs.declared.constant.CtorInfo.{CtorInfo}
use Rattle.lf_core.specs.declared.constant.IndDecl.{IndDecl}
use Rattle.lf_core.specs.declared.constant.TaskKey.{TaskKey}
use Rattle.lf_rules.specs.Environment.{Context}
use Rattle.lf_rules.specs.Telescope.{Telescope, Opened}
use Rattle.lf_rules.specs.Recursor.{Family, recursor_name, is_among, recursor_type, recursor_family, motive_level, recursor_rules}
use Rattle.lf_rules.specs.Inductive.{type_alone, declared_constants}
use Rattle.lf_checker.specs.View.{View, KnownBody, value, opaque, unresolved, body_of, There, there, not_there, not_known, there_of}
use Rattle.lf_checker.specs.Run.{Run, gives, refuse}
use Rattle.lf_checker.specs.declared.fault.TypeFault.TheVariants.{NotClosed, Duplicate}
use Rattle.lf_checker.specs.Calls.{Calls, Seen, known, unknown, missing, see}
use Rattle.lf_checker.specs.Checker.{calls, is_closed, unless_there, body_height, seen_height, greatest_height, height_of}
use Rattle.lf_checker.specs.Admission.{
  admit_end,
  admit_fields,
  admit_constructor,
  admit_constructors,
  put_all,
  given,
  on_result,
  view_with_type,
  admit,
  are_closed,
  unless_taken,
  unless_declared,
  add_inductive,
}
use Rattle.lf_extension_laws.proofs.Only.{
  Only,
  SeenIn,
  BodyIn,
  ThereIn,
  Reads,
  Asks,
  only_then,
  only_spend,
  only_caught,
  only_named,
  only_choose,
  only_put,
  only_made,
  only_opening,
}
use Rattle.lf_extension_laws.proofs.OnlyInfer.{only_sort, calls_ask}
use Rattle.lf_elaboration.specs.Forms.{Binding, Instance, as_pi}
use Rattle.lf_elaboration.specs.Induction.{fields_seen, recursor_path}
use Rattle.lf_elaboration.specs.Statement.{open_binder, open_pis, pis_closed, lambdas_closed}
use Rattle.lf_elaboration_laws.proofs.OnlySteps.{only_codomain}
use Rattle.lf_equations.specs.declared.alternative.Case.{Case}
use Rattle.lf_equations.specs.Outcome as outcome
use Rattle.lf_equations.specs.Outcome.{Outcome, gets, fault, Compiling, or_fault, unless_fault}
use Rattle.lf_equations.specs.Argument.{Argument, inductive_seen, inductive_of, level_of, argument}
use Rattle.lf_equations.specs.Coverage.{is_case, all_cases}
use Rattle.lf_equations.specs.Recursion.{minor}
use Rattle.lf_equations.specs.Compile.{type_seen, type_at_motive, minors, compile_body, compile}
use Rattle.lf_document_laws.proofs.Wants.{Wants, reads_of, wants_pushed, type_childless}

ruleset only = (only_then, only_spend, only_caught, only_named, only_choose, only_put, only_made, only_opening)

-- ---- Binders opened and closed

module _ (Key : TaskKey → Type 0) where
  only_binder : (C : Context) (o : Option Binding) (t : Term) (rest : Context → Term → Run Opened)
      → ((D : Context) (s : Term) (v : ℕ) → Only true Key (rest D s v)) → (u : ℕ) → Only true Key (open_binder C o t rest u)
  only_binder C None t rest h u = tt
  only_binder C (Some p) t rest h u = search (only, h) depth 10

  pub only_open : (n : ℕ) (C : Context) (t : Term) (u : ℕ) → Only true Key (open_pis n C t u)
  only_open zero C t u = tt
  only_open (suc n) C t u = only_binder C (as_pi t) t (open_pis n) (λ D s v. only_open n D s v) u

  pub only_pis : (k : ℕ) (xs : Telescope) (t : Term) (u : ℕ) → Only true Key (pis_closed k xs t u)
  only_pis k [] t u = only_put true Key t u
  only_pis k (x ∷ xs) t u =
      let rest : (v : ℕ) → Only true Key (pis_closed (suc k) xs t v) = λ v. only_pis (suc k) xs t v in
      search (only, rest) depth 10

  pub only_lambdas : (k : ℕ) (xs : Telescope) (t : Term) (u : ℕ) → Only true Key (lambdas_closed k xs t u)
  only_lambdas k [] t u = only_put true Key t u
  only_lambdas k (x ∷ xs) t u =
      let rest : (v : ℕ) → Only true Key (lambdas_closed (suc k) xs t v) = λ v. only_lambdas (suc k) xs t v in
      search (only, rest) depth 10

-- ---- Heights

module _ (V : View) (Key : TaskKey → Type 0) (reads : Reads V Key) where
  only_body_height : (b : KnownBody) (u : ℕ) → BodyIn Key b → Only true Key (body_height b u)
  only_body_height (value v i) u h = tt
  only_body_height opaque u h = tt
  only_body_height (unresolved k) u h = h

  only_seen_height : (n : Path) (q : Seen) (u : ℕ) → SeenIn Key q → Only true Key (seen_height V n q u)
  only_seen_height n (known k) u h = only_body_height (body_of V n) u (reads.bodies n)
  only_seen_height n unknown u h = tt
  only_seen_height n (missing k) u h = h

  only_heights : (t : Term) (u : ℕ) → Only true Key (greatest_height V t u)
  only_heights (const n ls) u = only_seen_height n (see V n) u (reads.sees n)
  only_heights (app f a) u = search (only, only_heights f, only_heights a) depth 8
  only_heights (lam x A b) u = search (only, only_heights A, only_heights b) depth 8
  only_heights (pi x A b) u = search (only, only_heights A, only_heights b) depth 8
  only_heights (letin x A w b) u = search (only, only_heights A, only_heights w, only_heights b) depth 10
  only_heights (proj s i t) u = only_heights t u
  only_heights (bound i) u = tt
  only_heights (free k) u = tt
  only_heights (meta k) u = tt
  only_heights (sort l) u = tt
  only_heights (lit n) u = tt

  pub only_height : (t : Term) (u : ℕ) → Only true Key (height_of V t u)
  only_height t u = search (only, only_heights) depth 8

-- ---- Inductive declarations

module _ (V : View) (Key : TaskKey → Type 0) (reads : Reads V Key) (c : Calls) (a : Asks Key c) where
  only_end : (f : Family) (n : Path) (C : Context) (t : Term) (u : ℕ) → Only true Key (admit_end c f n C t u)
  only_end f n C t u = search (only, only_sort V Key reads c a) depth 10

  only_fields : (f : Family) (r : Universe) (n : Path) (i m : ℕ) (C : Context) (t : Term) (u : ℕ) → Only true Key (admit_fields c f r n i m C t u)
  only_fields f r n i (suc m) C (pi x A B) u =
      let rest : (D : Context) (t : Term) (v : ℕ) → Only true Key (admit_fields c f r n (suc i) m D t v) = λ D t v. only_fields f r n (suc i) m D t v in
      search (only, only_sort V Key reads c a, rest) depth 14
  only_fields f r n i m C t u = only_end f n C t u

  only_constructor : (f : Family) (r : Universe) (n : Path) (xs : Telescope) (C : Context) (t : Term) (u : ℕ)
      → Only true Key (admit_constructor c f r n xs C t u)
  only_constructor f r n [] C t u = only_fields f r n 1 _ C t u
  only_constructor f r n (x ∷ xs) C (pi y A B) u =
      let rest : (D : Context) (t : Term) (v : ℕ) → Only true Key (admit_constructor c f r n xs D t v) = λ D t v. only_constructor f r n xs D t v in
      search (only, rest) depth 14
  only_constructor f r n (x ∷ xs) C t u = tt

  only_constructors : (f : Family) (r : Universe) (ks : List CtorInfo) (u : ℕ) → Only true Key (admit_constructors c f r ks u)
  only_constructors f r [] u = tt
  only_constructors f r (k ∷ ks) u = search (only, only_constructor, only_constructors f r ks) depth 12

module _ (Key : TaskKey → Type 0) where
  only_put_all : {A : Type 0} (ts : List Term) (m : Run A) (u : ℕ) → ((v : ℕ) → Only true Key (m v)) → Only true Key (put_all ts m u)
  only_put_all [] m u h = h u
  only_put_all {A = A} (t ∷ ts) m u h =
      let rest : (v : ℕ) → Only true Key {A = A} (put_all ts m v) = λ v. only_put_all ts m v h in
      search (only, rest) depth 6

  only_given : (d : IndDecl) (large : Bool) (u : ℕ) → Only true Key (given d large u)
  only_given d large u =
      only_put_all {A = List ConstInfo} (recursor_type (recursor_family d large) (motive_level large) ∷ recursor_rules d large)
      (gives (declared_constants d large)) u (λ v. tt)

  only_on_result : {A : Type 0} (o : Option Universe) (f : Universe → Run A) (u : ℕ) → ((r : Universe) (v : ℕ) → Only true Key (f r v))
      → Only true Key (on_result o f u)
  only_on_result (Some r) f u h = h r u
  only_on_result None f u h = tt

  pub only_unless : {A : Type 0} (n : Path) (t : There) (m : Run A) (u : ℕ) → ThereIn Key t → Only true Key (m u) → Only true Key (unless_there n t m u)
  only_unless n (there p) m u h g = tt
  only_unless n not_there m u h g = g
  only_unless n (not_known k) m u h g = h

module _ (V : View) (Key : TaskKey → Type 0) (wants : Wants V Key) where
  abbrev reads : Reads V Key
  reads = reads_of V Key wants

  only_taken : {A : Type 0} (taken : List Path) (ks : List CtorInfo) (m : Run A) (u : ℕ) → Only true Key (m u) → Only true Key (unless_taken V taken ks m u)
  only_taken taken [] m u h = h
  only_taken taken (k ∷ ks) m u h =
      only_unless Key k.name (there_of V k.name) _ u (reads.theres k.name)
      (only_choose true Key (is_among k.name taken) (refuse (Duplicate k.name V.position)) (unless_taken V (k.name ∷ taken) ks m) u tt
      (only_taken (k.name ∷ taken) ks m u h))

  only_declared : {A : Type 0} (d : IndDecl) (m : Run A) (u : ℕ) → Only true Key (m u) → Only true Key (unless_declared V d m u)
  only_declared d m u h =
      only_unless Key d.name (there_of V d.name) _ u (reads.theres d.name)
      (only_taken (d.name ∷ recursor_name d ∷ []) d.ctors _ u
      (only_unless Key (recursor_name d) (there_of V (recursor_name d)) m u (reads.theres (recursor_name d)) h))

  only_admit : (depth : ℕ) (d : IndDecl) (u : ℕ) → Only true Key (admit V depth d u)
  only_admit depth d u =
      let under : Reads (view_with_type V d) Key
      = reads_of (view_with_type V d) Key (wants_pushed V (type_alone d) V.position (type_childless V (type_alone d) V.position refl) Key wants) in
      search (
        only,
        only_sort V Key reads (calls V depth) (calls_ask V Key reads depth),
        only_constructors (view_with_type V d) Key under (calls (view_with_type V d) depth) (calls_ask (view_with_type V d) Key under depth),
        only_on_result Key,
        only_given Key,
      ) depth 16

  pub only_inductive : (depth : ℕ) (d : IndDecl) (u : ℕ) → Only true Key (add_inductive V depth d u)
  only_inductive depth d u =
      only_choose true Key (is_closed d.ty && are_closed d.ctors) (unless_declared V d (admit V depth d)) (refuse NotClosed) u
      (only_declared d (admit V depth d) u (only_admit depth d u)) tt

-- ---- Definitions by equations

only_on : (Key : TaskKey → Type 0) {A B : Type 0} (f : A → Compiling B) (o : Outcome A) (u : ℕ) → ((x : A) (v : ℕ) → Only true Key (f x v))
    → Only true Key (outcome.go_on f o u)
only_on Key f (gets x) u h = h x u
only_on Key f (fault e) u h = tt

only_or_fault : (Key : TaskKey → Type 0) {A : Type 0} (e : _) (o : Option A) (u : ℕ) → Only true Key (or_fault e o u)
only_or_fault Key e None u = tt
only_or_fault Key e (Some x) u = tt

only_unless_fault : (Key : TaskKey → Type 0) (o : _) (u : ℕ) → Only true Key (unless_fault o u)
only_unless_fault Key None u = tt
only_unless_fault Key (Some e) u = tt

ruleset compiling = (only_on, only_or_fault, only_unless_fault, only_open, only_pis, only_lambdas, only_codomain)

module _ (Key : TaskKey → Type 0) where
  only_minor : (bs : Telescope) (ty M A : Term) (e : Case) (u : ℕ) → Only true Key (minor bs ty M A e u)
  only_minor bs ty M A e u = search (only, compiling) depth 40

  only_minors : (ty : Term) (g : Argument) (T : Term) (es : List Case) (u : ℕ) → Only true Key (minors ty g T es u)
  only_minors ty g T [] u = tt
  only_minors ty g T (e ∷ es) u = search (only, compiling, only_minor, only_minors ty g T es) depth 20

module _ (V : View) (Key : TaskKey → Type 0) (reads : Reads V Key) (c : Calls) (a : Asks Key c) where
  only_inductive_seen : (I : Instance) (xs : List Term) (q : Seen) (u : ℕ) → SeenIn Key q → Only true Key (inductive_seen I xs q u)
  only_inductive_seen I xs (known k) u h = tt
  only_inductive_seen I xs unknown u h = tt
  only_inductive_seen I xs (missing k) u h = h

  only_inductive_of : (o : Option Instance) (xs : List Term) (u : ℕ) → Only true Key (inductive_of V o xs u)
  only_inductive_of None xs u = tt
  only_inductive_of (Some I) xs u = only_inductive_seen I xs (see V I.name) u (reads.sees I.name)

  only_level : (C : Context) (A : Term) (u : ℕ) → Only true Key (level_of c C A u)
  only_level C A u = search (only, compiling, a.whnf, a.infer) depth 20

  pub only_argument : (n : ℕ) (ty : Term) (u : ℕ) → Only true Key (argument V c n ty u)
  only_argument n ty u = search (only, compiling, a.whnf, only_inductive_of, only_level) depth 60

  only_fields_seen : (q : Seen) (u : ℕ) → SeenIn Key q → Only true Key (fields_seen q u)
  only_fields_seen (known k) u h = tt
  only_fields_seen unknown u h = tt
  only_fields_seen (missing k) u h = h

  only_case : (ns : List Path) (e : Case) (u : ℕ) → Only true Key (is_case V ns e u)
  only_case ns e u = search (only, at) depth 10
    where
      at : (v : ℕ) → Only true Key (fields_seen (see V e.constructor) v)
      at v = only_fields_seen (see V e.constructor) v (reads.sees e.constructor)

  only_cases : (ns : List Path) (es : List Case) (u : ℕ) → Only true Key (all_cases V ns es u)
  only_cases ns [] u = tt
  only_cases ns (e ∷ es) u = search (only, compiling, only_case, only_cases ns es) depth 20

  only_type_seen : (g : Argument) (q : Seen) (u : ℕ) → SeenIn Key q → Only true Key (type_seen g q u)
  only_type_seen g (known k) u h = search (only, compiling) depth 12
  only_type_seen g unknown u h = tt
  only_type_seen g (missing k) u h = h

  only_type : (g : Argument) (u : ℕ) → Only true Key (type_at_motive V g u)
  only_type g u = search (only, compiling, at) depth 12
    where
      at : (v : ℕ) → Only true Key (type_seen g (see V (recursor_path g.ind.name)) v)
      at v = only_type_seen g (see V (recursor_path g.ind.name)) v (reads.sees (recursor_path g.ind.name))

  only_compile_body : (ty : Term) (n : ℕ) (es : List Case) (u : ℕ) → Only true Key (compile_body V c ty n es u)
  only_compile_body ty n es u = search (only, compiling, only_argument, only_cases, only_type, only_minors) depth 50

pub only_compile : (V : View) (Key : TaskKey → Type 0) → Reads V Key → (depth : ℕ) (ty : Term) (n : ℕ) (es : List Case) (u : ℕ)
    → Only true Key (compile V depth ty n es u)
only_compile V Key reads depth ty n es u =
    only_spend true Key 1 (compile_body V (calls V depth) ty n es) u
    (λ v. only_compile_body V Key reads (calls V depth) (calls_ask V Key reads depth) ty n es v)
