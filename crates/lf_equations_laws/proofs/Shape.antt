-- What compiling gives is a recursion with a minor premise for each constructor: along the steps of compiling, with what each test says.
use Rattle.std.proofs.Common.{
  ◌≡◌,
  ℕ,
  suc,
  ◌+◌,
  ◌-◌,
  Bool,
  true,
  false,
  ◌||◌,
  nat_lt,
  if◌then◌else◌,
  Option,
  Some,
  None,
  List,
  [],
  ◌∷◌,
  length,
  map,
  refl,
  sym,
  ap,
  subst,
  ◌∙◌,
  true≢false,
  arith,
}
use Rattle.std.proofs.lemmas.List.{length-append}
use Rattle.lf_name.proofs.Names.{path_is, path_equivalence}
use Rattle.lf_core.specs.Term.{Path, Term, lam}
use Rattle.lf_core.specs.Same.{same_path}
use Rattle.lf_core.specs.Size.{node_count, depth}
use Rattle.lf_core.specs.Substitution.{abstract}
use Rattle.lf_rules.specs.Recursor.{is_among}
use Rattle.lf_rules.specs.Telescope.{Telescope, lambdas_over}
use Rattle.lf_checker.specs.View.{View}
use Rattle.lf_checker.specs.Run.{Answer, done, refused, out, need, greatest_depth, Run, go_on, gives_up, gives, choose, spend, put, made}
use Rattle.lf_checker.specs.Calls.{Calls}
use Rattle.lf_checker.specs.Checker.{calls}
use Rattle.lf_elaboration.specs.Statement.{lambdas_closed}
use Rattle.lf_equations.specs.declared.alternative.Case.{Case}
use Rattle.lf_equations.specs.declared.fault.EquationFault.{EquationFault}
use Rattle.lf_equations.specs.declared.fault.EquationFault.TheVariants.{NotInductive, Missing}
use Rattle.lf_equations.specs.Outcome as outcome
use Rattle.lf_equations.specs.Outcome.{Outcome, gets, fault, Compiling, unless_fault, or_fault}
use Rattle.lf_equations.specs.Argument.{Argument, argument}
use Rattle.lf_equations.specs.Coverage.{all_cases, twice, missing}
use Rattle.lf_equations.specs.Compile.{motive, type_at_motive, type_of_minor, Minor, minors, minors_for, in_order, whole_telescope, recursion, compile_body}
use Rattle.lf_equations.specs.Recursion.{minor}
use Rattle.lf_elaboration.specs.Forms.{as_pi}
use Rattle.lf_equations_laws.specs.Shape.{IsRecursion, CompilingGivesRecursion}

-- ---- What holds of the values of runs, and of what steps give

abbrev Ends : {A : Type 0} → (A → Type 0) → Answer A → Type 0
Ends P (done x u) = P x
Ends P (refused e u) = Unit {0}
Ends P out = Unit {0}
Ends P (need k) = Unit {0}

abbrev Gives : {A : Type 0} → (A → Type 0) → Answer (Outcome A) → Type 0
Gives P (done (gets x) u) = P x
Gives P (done (fault e) u) = Unit {0}
Gives P (refused e u) = Unit {0}
Gives P out = Unit {0}
Gives P (need k) = Unit {0}

ends_then : {A B : Type 0} (P : A → Type 0) (Q : B → Type 0) (o : Answer A) (f : A → Run B) → Ends P o → ((x : A) (u : ℕ) → P x → Ends Q (f x u))
    → Ends Q (go_on o f)
ends_then P Q (done x u) f h k = k x u h
ends_then P Q (refused e u) f h k = tt
ends_then P Q out f h k = tt
ends_then P Q (need n) f h k = tt

ends_map : {A : Type 0} (P Q : A → Type 0) (o : Answer A) → Ends P o → ((x : A) → P x → Q x) → Ends Q o
ends_map P Q (done x u) h k = k x h
ends_map P Q (refused e u) h k = tt
ends_map P Q out h k = tt
ends_map P Q (need n) h k = tt

gives_then : {A B : Type 0} (P : A → Type 0) (Q : B → Type 0) (o : Answer (Outcome A)) (f : A → Compiling B) → Gives P o
    → ((x : A) (u : ℕ) → P x → Gives Q (f x u)) → Gives Q (go_on o (outcome.go_on f))
gives_then P Q (done (gets x) u) f h k = k x u h
gives_then P Q (done (fault e) u) f h k = tt
gives_then P Q (refused e u) f h k = tt
gives_then P Q out f h k = tt
gives_then P Q (need n) f h k = tt

gives_any : {A : Type 0} (o : Answer (Outcome A)) → Gives (λ x. Unit {0}) o
gives_any (done (gets x) u) = tt
gives_any (done (fault e) u) = tt
gives_any (refused e u) = tt
gives_any out = tt
gives_any (need n) = tt

gives_runs : {A : Type 0} (P : A → Type 0) (o : Answer A) → Ends P o → Gives P (go_on o (λ x v. done (gets x) v))
gives_runs P (done x u) h = h
gives_runs P (refused e u) h = tt
gives_runs P out h = tt
gives_runs P (need n) h = tt

ends_spend : {A : Type 0} (P : A → Type 0) (n : ℕ) (m : Run A) (u : ℕ) → ((v : ℕ) → Ends P (m v)) → Ends P (spend n m u)
ends_spend {A} P n m u h = at (nat_lt u n)
  where
    at : (b : Bool) → Ends P (if b then out else m (u - n))
    at true = tt
    at false = h (u - n)

gives_spend : {A : Type 0} (P : A → Type 0) (n : ℕ) (m : Compiling A) (u : ℕ) → ((v : ℕ) → Gives P (m v)) → Gives P (spend n m u)
gives_spend {A} P n m u h = at (nat_lt u n)
  where
    at : (b : Bool) → Gives P (if b then out else m (u - n))
    at true = tt
    at false = h (u - n)

ends_put : (t : Term) (u : ℕ) → Ends (λ x. x ≡ t) (put t u)
ends_put t u = at (nat_lt greatest_depth (depth t))
  where
    at : (b : Bool) → Ends (λ x. x ≡ t) (choose b gives_up (gives t) u)
    at true = tt
    at false = refl

ends_made : (t : Term) (u : ℕ) → Ends (λ x. x ≡ t) (made t u)
ends_made t u = ends_spend (λ x. x ≡ t) (node_count t) (put t) u (λ v. ends_put t v)

ends_lambdas : (k : ℕ) (xs : Telescope) (t : Term) (u : ℕ) → Ends (λ x. x ≡ lambdas_over k xs t) (lambdas_closed k xs t u)
ends_lambdas k [] t u = ends_put t u
ends_lambdas k (y ∷ ys) t u =
    let Q : Term → Type 0 = λ x. x ≡ lambdas_over k (y ∷ ys) t in
    ends_then (λ x. x ≡ lambdas_over (suc k) ys t) Q (lambdas_closed (suc k) ys t u) _ (ends_lambdas (suc k) ys t u)
    (λ r v h. ends_then (λ b. b ≡ abstract r k) Q (made (abstract r k) v) _ (ends_made (abstract r k) v)
    (λ b w i. subst (λ z. Ends Q (put (lam y.binder y.ty z) w)) (sym i) (subst (λ z. Ends Q (put (lam y.binder y.ty (abstract z k)) w)) (sym h)
    (ends_put (lam y.binder y.ty (abstract (lambdas_over (suc k) ys t) k)) w))))

-- ---- The minor premises: one for each alternative, of which each constructor has one

abbrev made_for : List Minor → List Path
made_for ms = map (λ m. m.constructor) ms

same_self : (n : Path) → same_path n n ≡ true
same_self n = path_equivalence.refl n

-- The first of two tests fails, so the second says what both say.
other_test : (x y : Path) (b : Bool) → same_path y x ≡ false → (same_path x y || b) ≡ true → b ≡ true
other_test x y b e h = at (same_path x y) refl
  where
    at : (r : Bool) → same_path x y ≡ r → b ≡ true
    at true f =
        let k : same_path y x ≡ true = subst (λ m. same_path m x ≡ true) (path_is x y f) (same_self x) in
        absurd (true≢false (sym k ∙ e))
    at false f = sym (ap (λ r. r || b) f) ∙ h

one_for : (n : Path) (ms : List Minor) → is_among n (made_for ms) ≡ true → length (minors_for n ms) ≡ 1
one_for n [] h = absurd (true≢false (sym h))
one_for n (m ∷ ms) h = at (λ g. one_for n ms g) (same_path m.constructor n) refl
  where
    at : (is_among n (made_for ms) ≡ true → length (minors_for n ms) ≡ 1) → (b : Bool) → same_path m.constructor n ≡ b
        → length (if b then m.term ∷ [] else minors_for n ms) ≡ 1
    at more true e = refl
    at more false e = more (other_test n m.constructor (is_among n (made_for ms)) e h)

-- Where no constructor is missing.
one_each : (ns : List Path) (alts : List Case) (ms : List Minor) → made_for ms ≡ map (λ a. a.constructor) alts → missing ns alts ≡ None
    → length (in_order ns ms) ≡ length ns
one_each [] alts ms e h = refl
one_each (n ∷ ns) alts ms e h = at (λ g. one_each ns alts ms e g) (is_among n (map (λ a. a.constructor) alts)) refl h
  where
    at : (missing ns alts ≡ None → length (in_order ns ms) ≡ length ns) → (b : Bool) → is_among n (map (λ a. a.constructor) alts) ≡ b
        → (if b then missing ns alts else Some (Missing n)) ≡ None → length (in_order (n ∷ ns) ms) ≡ suc (length ns)
    at more false f g = absurd (cc)
    at more true f g =
        let k : length (minors_for n ms) ≡ 1 = one_for n ms (subst (λ l. is_among n l ≡ true) (sym e) f) in
        let r : length (in_order ns ms) ≡ length ns = more g in
        let whole : length (in_order (n ∷ ns) ms) ≡ length (minors_for n ms) + length (in_order ns ms) = length-append (minors_for n ms) (in_order ns ms) in
        omega arith

gives_minors : (ty : Term) (g : Argument) (T : Term) (alts : List Case) (u : ℕ)
    → Gives (λ ms. made_for ms ≡ map (λ a. a.constructor) alts) (minors ty g T alts u)
gives_minors ty g T [] u = refl
gives_minors ty g T (a ∷ alts) u = at (λ v. gives_minors ty g T alts v) (type_of_minor g.ind.constructors a.constructor (as_pi T))
  where
    Q : List Minor → Type 0
    Q ms = made_for ms ≡ a.constructor ∷ map (λ e. e.constructor) alts

    at : ((v : ℕ) → Gives (λ ms. made_for ms ≡ map (λ e. e.constructor) alts) (minors ty g T alts v)) → (o : Option Term)
        → Gives Q (go_on (or_fault NotInductive o u) (outcome.go_on (λ A v. go_on (minor g.binders ty (motive g) A a v)
        (outcome.go_on (λ t w. go_on (minors ty g T alts w) (outcome.go_on (λ ms z. done (gets (record { constructor = a.constructor; term = t } ∷ ms)) z)))))))
    at more None = tt
    at more (Some A) = gives_then (λ t. Unit {0}) Q (minor g.binders ty (motive g) A a u) _ (gives_any (minor g.binders ty (motive g) A a u))
        (λ t v h. gives_then (λ ms. made_for ms ≡ map (λ e. e.constructor) alts) Q (minors ty g T alts v) _ (more v)
        (λ ms w i. ap (λ l. a.constructor ∷ l) i))

-- ---- The whole

gives_unless : (o : Option EquationFault) (u : ℕ) → Gives (λ x. o ≡ None) (unless_fault o u)
gives_unless None u = refl
gives_unless (Some e) u = tt

module _ (V : View) (c : Calls) where
  gives_body : (ty : Term) (n : ℕ) (alts : List Case) (u : ℕ) → Gives IsRecursion (compile_body V c ty n alts u)
  gives_body ty n alts u =
      gives_then (λ g. Unit {0}) IsRecursion (argument V c n ty u) _ (gives_any (argument V c n ty u)) λ g u1 h1.
      gives_then (λ x. Unit {0}) IsRecursion (all_cases V g.ind.constructors alts u1) _ (gives_any (all_cases V g.ind.constructors alts u1)) λ x2 u2 h2.
      gives_then (λ x. twice alts ≡ None) IsRecursion (unless_fault (twice alts) u2) _ (gives_unless (twice alts) u2) λ x3 u3 h3.
      gives_then (λ x. missing g.ind.constructors alts ≡ None) IsRecursion (unless_fault (missing g.ind.constructors alts) u3) _
      (gives_unless (missing g.ind.constructors alts) u3) λ x4 u4 none.
      gives_then (λ T. Unit {0}) IsRecursion (type_at_motive V g u4) _ (gives_any (type_at_motive V g u4)) λ T u5 h5.
      gives_then (λ ms. made_for ms ≡ map (λ a. a.constructor) alts) IsRecursion (minors ty g T alts u5) _ (gives_minors ty g T alts u5) λ ms u6 made_all.
      let ts : List Term = in_order g.ind.constructors ms in
      let closed : Ends (λ x. x ≡ lambdas_over 0 (whole_telescope g) (recursion g ts)) (lambdas_closed 0 (whole_telescope g) (recursion g ts) u6)
      = ends_lambdas 0 (whole_telescope g) (recursion g ts) u6 in
      gives_runs IsRecursion (lambdas_closed 0 (whole_telescope g) (recursion g ts) u6)
      (ends_map (λ x. x ≡ lambdas_over 0 (whole_telescope g) (recursion g ts)) IsRecursion (lambdas_closed 0 (whole_telescope g) (recursion g ts) u6) closed
      (λ t e. record { argument = g; minors = ts; one_each = one_each g.ind.constructors alts ms made_all none; form = e }))

given : (t : Term) (v : ℕ) (o : Answer (Outcome Term)) → o ≡ done (gets t) v → Gives IsRecursion o → IsRecursion t
given t v o e h = subst (Gives IsRecursion) e h

pub compiling_gives_recursion : CompilingGivesRecursion
compiling_gives_recursion V depth ty n alts u v t e =
    given t v _ e (gives_spend IsRecursion 1 (compile_body V (calls V depth) ty n alts) u (λ w. gives_body V (calls V depth) ty n alts w))
