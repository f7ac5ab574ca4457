-- Derivations over an environment hold over each that tells at least as much.
use Rattle.std.proofs.Common.{◌≡◌, ◌+◌, ℕ, Bool, List, [], ◌∷◌, ◌++◌, Contains, length, drop, refl, sym, ap, subst, ◌∙◌}
use Rattle.lf_core.specs.Term.{Path, Universe, Term, bound, free, meta, sort, const, app, lam, pi, letin, lit, proj}
use Rattle.lf_core.specs.Substitution.{level_instantiate}
use Rattle.lf_core.specs.Spine.{apply}
use Rattle.lf_rules.specs.Environment.{Environment, Context, Declared, nat, NamesDeclared}
use Rattle.lf_rules.specs.Structure.{result_level, FieldsWithout, IsStructure, projections, DomainAt}
use Rattle.lf_rules.specs.Step.{Step, beta, zeta, delta, iota, literal_zero, literal_succ, operation, projection as projection_step, by_rule}
use Rattle.lf_rules.specs.Judgment.{
  IsDeclaredProposition,
  Equal,
  reflexive,
  symmetric,
  transitive,
  applications,
  lambdas,
  pis,
  lets,
  sorts,
  constants,
  step,
  eta,
  proof_irrelevance,
  declared_irrelevance,
  projected,
  eta_structure,
  HasType,
  variable,
  sort_type,
  constant,
  application,
  lambda,
  pi_type,
  let_type,
  literal,
  projection,
  conversion,
  Formed,
  has_type,
  is_type,
  equal_to,
  function,
  argument,
  lambda_domain,
  lambda_body,
  pi_domain,
  pi_codomain,
  projected_part,
}
use Rattle.lf_core.specs.declared.constant.ConstInfo.{ConstInfo}
use Rattle.lf_core.specs.declared.constant.Detail.{Detail}
use Rattle.lf_core.specs.declared.constant.Detail.TheVariants.{Plain, Ind, Ctor, Rec}
use Rattle.lf_judgment_laws.specs.Growth.{SameDetail, Tells, Grows, Holds}

pub same_detail : (d : Detail) → SameDetail d d
same_detail Plain = refl
same_detail (Ind params indices [] large) = ([], large, refl)
same_detail (Ind params indices (n ∷ ns) large) = (large, refl)
same_detail (Ctor ind index params fields) = refl
same_detail (Rec ind params minors indices rules) = refl

pub self_tells : (c : ConstInfo) → Tells c c
self_tells c = record { name = refl; kind = refl; levels = refl; ty = refl; detail = same_detail c.detail; value = λ v e. e }

-- The detail of the constant that tells at least as much.
told : {c d : ConstInfo} {e : Detail} → Tells c d → c.detail ≡ e → SameDetail e d.detail
told {d = d} t q = subst (λ x. SameDetail x d.detail) q t.detail

later_type : (params indices : ℕ) (names : List Path) (large : Bool) (e : Detail) → SameDetail (Ind params indices names large) e
    → (ns : List Path) × (later : Bool) × (e ≡ Ind params indices ns later)
later_type params indices [] large e h = h
later_type params indices (n ∷ ns) large e h = (n ∷ ns, h.0, h.1)

-- A structure stays one, with the same constructor.
abbrev grow_structure : (E F : Environment) → Grows E F → {S : Path} → IsStructure E S → IsStructure F S
grow_structure E F g {S = S} s =
    let r = g s.type s.within in
    let t : Tells s.type r.0 = r.2 in
    let later = told t s.detail in
    let q = g s.constructor s.constructor_within in
    let k : Tells s.constructor q.0 = q.2 in
    record {
      type = r.0;
      constructor = q.0;
      params = s.params;
      fields = s.fields;
      large = later.0;
      level = s.level;
      within = r.1;
      named = sym t.name ∙ s.named;
      detail = later.1 ∙ ap (λ n. Ind s.params 0 (n ∷ []) later.0) k.name;
      result = sym (ap result_level t.ty) ∙ s.result;
      constructor_within = q.1;
      constructs = sym (told k s.constructs);
      flat = subst (FieldsWithout S s.params) k.ty s.flat;
    }

grow_step : (E F : Environment) → Grows E F → {a b : Term} → Step E a b → Step F a b
grow_step E F g (beta x A b a) = beta x A b a
grow_step E F g (zeta x A v b) = zeta x A v b
grow_step E F g (delta c v ls w q e l) =
    let r = g c w in
    let t : Tells c r.0 = r.2 in
    subst (λ n. Step F (const n ls) (level_instantiate ls v)) (sym t.name)
    (delta r.0 v ls r.1 (sym t.kind ∙ q) (t.value v e) (l ∙ ap (λ ns. length ns) t.levels))
grow_step E F g (iota c d ind params minors indices index own fields rules rule ls ms before ys wc qc l n wd qd e m) =
    let r = g c wc in
    let t : Tells c r.0 = r.2 in
    let r' = g d wd in
    let t' : Tells d r'.0 = r'.2 in
    let s = iota r.0 r'.0 ind params minors indices index own fields rules rule ls ms before ys r.1 (sym (told t qc)) (l ∙ ap (λ ns. length ns) t.levels) n r'.1
    (sym (told t' qd)) e m in
    let s' = subst (λ j. Step F (app (apply (const j ls) before) (apply (const r'.0.name ms) ys)) (by_rule rule ls (params + 1 + minors) before (drop own ys)))
    (sym t.name) s in
    subst (λ j. Step F (app (apply (const c.name ls) before) (apply (const j ms) ys)) (by_rule rule ls (params + 1 + minors) before (drop own ys)))
    (sym t'.name) s'
grow_step E F g literal_zero = literal_zero
grow_step E F g (literal_succ n b) = literal_succ n b
grow_step E F g (operation op m n r q) = operation op m n r q
grow_step E F g (projection_step {S = S} s i x ms ys l e) =
    let t : Tells s.constructor (g s.constructor s.constructor_within).0 = (g s.constructor s.constructor_within).2 in
    subst (λ n. Step F (proj S i (apply (const n ms) ys)) x) (sym t.name) (projection_step (grow_structure E F g s) i x ms ys l e)

grow_proposition : (E F : Environment) → Grows E F → {P : Term} → IsDeclaredProposition E P → IsDeclaredProposition F P
grow_proposition E F g p =
    let r = g p.type p.within in
    let t : Tells p.type r.0 = r.2 in
    let later = later_type p.params p.indices p.constructors p.large r.0.detail (told t p.detail) in
    record {
      type = r.0;
      result = p.result;
      params = p.params;
      indices = p.indices;
      constructors = later.0;
      large = later.1;
      levels = p.levels;
      arguments = p.arguments;
      within = r.1;
      detail = later.2;
      declared = sym (ap result_level t.ty) ∙ p.declared;
      in_prop = p.in_prop;
      whole = p.whole;
      form = p.form ∙ ap (λ n. apply (const n p.levels) p.arguments) t.name;
    }

grow_constant : (E F : Environment) → Grows E F → {C : Context} (c : ConstInfo) (ls : List Universe) → Contains E c → length ls ≡ length c.levels
    → HasType F C (const c.name ls) (level_instantiate ls c.ty)
grow_constant E F g {C = C} c ls w l =
    let r = g c w in
    let t : Tells c r.0 = r.2 in
    let h : HasType F C (const r.0.name ls) (level_instantiate ls r.0.ty) = constant r.0 ls r.1 (l ∙ ap (λ ns. length ns) t.levels) in
    let h' : HasType F C (const c.name ls) (level_instantiate ls r.0.ty) = subst (λ n. HasType F C (const n ls) (level_instantiate ls r.0.ty)) (sym t.name) h in
    subst (λ A. HasType F C (const c.name ls) (level_instantiate ls A)) (sym t.ty) h'

mutual
  grow_equal : (E F : Environment) → Grows E F → {C : Context} {a b : Term} → Equal E C a b → Equal F C a b
  grow_equal E F g (reflexive a) = reflexive a
  grow_equal E F g (symmetric p) = symmetric (grow_equal E F g p)
  grow_equal E F g (transitive p q) = transitive (grow_equal E F g p) (grow_equal E F g q)
  grow_equal E F g (applications p q) = applications (grow_equal E F g p) (grow_equal E F g q)
  grow_equal E F g (lambdas f p s r q) = lambdas (grow_formed E F g f) (grow_equal E F g p) s r (grow_equal E F g q)
  grow_equal E F g (pis f p s r q) = pis (grow_formed E F g f) (grow_equal E F g p) s r (grow_equal E F g q)
  grow_equal E F g (lets f h p v s r q) = lets (grow_formed E F g f) (grow_formed E F g h) (grow_equal E F g p) (grow_equal E F g v) s r (grow_equal E F g q)
  grow_equal E F g (sorts p) = sorts p
  grow_equal E F g (constants c p) = constants c p
  grow_equal E F g (step p s f) = step (grow_step E F g p) s (grow_formed E F g f)
  grow_equal E F g (projected S i p) = projected S i (grow_equal E F g p)
  grow_equal E F g {C = C} (eta_structure {t = t} {S = S} s ls ps h n m) =
      let k : Tells s.type (g s.type s.within).0 = (g s.type s.within).2 in
      let q : Tells s.constructor (g s.constructor s.constructor_within).0 = (g s.constructor s.constructor_within).2 in
      subst (λ c. Equal F C t (apply (const c ls) (ps ++ projections S s.fields t))) (sym q.name)
      (eta_structure (grow_structure E F g s) ls ps (grow_type E F g h) (n ∙ ap (λ ns. length ns) k.levels) m)
  grow_equal E F g (eta t) = eta (grow_type E F g t)
  grow_equal E F g (proof_irrelevance a b p) = proof_irrelevance (grow_type E F g a) (grow_type E F g b) (grow_type E F g p)
  grow_equal E F g (declared_irrelevance a b p) = declared_irrelevance (grow_type E F g a) (grow_type E F g b) (grow_proposition E F g p)

  grow_type : (E F : Environment) → Grows E F → {C : Context} {t A : Term} → HasType E C t A → HasType F C t A
  grow_type E F g (variable k e) = variable k e
  grow_type E F g (sort_type l) = sort_type l
  grow_type E F g (constant c ls w l) = grow_constant E F g c ls w l
  grow_type E F g (application f a) = application (grow_type E F g f) (grow_type E F g a)
  grow_type E F g (lambda u a s r b) = lambda u (grow_type E F g a) s r (grow_type E F g b)
  grow_type E F g (pi_type u v a s b) = pi_type u v (grow_type E F g a) s (grow_type E F g b)
  grow_type E F g (let_type u a v s b) = let_type u (grow_type E F g a) (grow_type E F g v) s (grow_type E F g b)
  grow_type E F g (literal n) = literal n
  grow_type E F g {C = C} (projection {t = t} {A = A} {S = S} s i ls ps h n m l d) =
      let k : Tells s.type (g s.type s.within).0 = (g s.type s.within).2 in
      let q : Tells s.constructor (g s.constructor s.constructor_within).0 = (g s.constructor s.constructor_within).2 in
      projection (grow_structure E F g s) i ls ps (grow_type E F g h) (n ∙ ap (λ ns. length ns) k.levels) m l
      (subst (λ T. DomainAt (level_instantiate ls T) (ps ++ projections S i t) A) q.ty d)
  grow_type E F g (conversion t p) = conversion (grow_type E F g t) (grow_equal E F g p)

  grow_formed : (E F : Environment) → Grows E F → {C : Context} {t : Term} → Formed E C t → Formed F C t
  grow_formed E F g (has_type h) = has_type (grow_type E F g h)
  grow_formed E F g (is_type h) = is_type (grow_type E F g h)
  grow_formed E F g (equal_to f p) = equal_to (grow_formed E F g f) (grow_equal E F g p)
  grow_formed E F g (function f) = function (grow_formed E F g f)
  grow_formed E F g (argument f) = argument (grow_formed E F g f)
  grow_formed E F g (lambda_domain f) = lambda_domain (grow_formed E F g f)
  grow_formed E F g (lambda_body f) = lambda_body (grow_formed E F g f)
  grow_formed E F g (pi_domain f) = pi_domain (grow_formed E F g f)
  grow_formed E F g (pi_codomain f) = pi_codomain (grow_formed E F g f)
  grow_formed E F g (projected_part f) = projected_part (grow_formed E F g f)

grow_declared : (E F : Environment) → Grows E F → (n : Path) → Declared E n → Declared F n
grow_declared E F g n (c, w, e) =
    let r = g c w in
    let t : Tells c r.0 = r.2 in
    (r.0, r.1, sym t.name ∙ e)

grow_names : (E F : Environment) → Grows E F → (t : Term) → NamesDeclared E t → NamesDeclared F t
grow_names E F g (bound i) h = tt
grow_names E F g (free k) h = tt
grow_names E F g (meta k) h = tt
grow_names E F g (sort l) h = tt
grow_names E F g (const n ls) h = grow_declared E F g n h
grow_names E F g (app f a) h = (grow_names E F g f h.0, grow_names E F g a h.1)
grow_names E F g (lam x A b) h = (grow_names E F g A h.0, grow_names E F g b h.1)
grow_names E F g (pi x A B) h = (grow_names E F g A h.0, grow_names E F g B h.1)
grow_names E F g (letin x A v b) h = (grow_names E F g A h.0, grow_names E F g v h.1, grow_names E F g b h.2)
grow_names E F g (lit n) h = grow_declared E F g nat h
grow_names E F g (proj s i t) h = (grow_declared E F g s h.0, grow_names E F g t h.1)

pub relations_grow : (E F : Environment) → Grows E F → Holds E F
relations_grow E F g = record {
  equal = λ C a b h. grow_equal E F g h;
  typed = λ C t A h. grow_type E F g h;
  formed = λ C t h. grow_formed E F g h;
  named = λ t h. grow_names E F g t h;
}
