-- Steps, read back.
use Rattle.std.proofs.Common.{◌≡◌, ◌⊎◌, inl, inr, ℕ, zero, suc, Option, Some, None, List, [], ◌∷◌, length, Contains, refl, ap, sym, ◌∙◌, subst, arith}
use Rattle.lf_core.specs.Term.{Path, Universe, Term, bound, free, meta, sort, const, app, lam, pi, letin, lit, proj}
use Rattle.lf_core.specs.Spine.{apply, head_of, arguments_of}
use Rattle.lf_core.specs.Literal.{literal_operation}
use Rattle.lf_core.specs.declared.constant.ConstInfo.{ConstInfo}
use Rattle.lf_core.specs.declared.constant.Detail.{Detail}
use Rattle.lf_core.specs.declared.constant.Detail.TheVariants.{Plain, Ind, Ctor, Rec}
use Rattle.lf_rules.specs.Environment.{Environment}
use Rattle.lf_rules.specs.Structure.{IsStructure, FieldsWithout}
use Rattle.lf_rules.specs.Step.{Step, beta, zeta, delta, iota, literal_zero, literal_succ, operation, projection}
use Rattle.lf_step_laws.specs.Whole.{Unfolds, Fires, loop_type, loop_name, again}
use Rattle.lf_step_laws.proofs.Spines.{head_apply, given}

abbrev name_of : Path → Term → Path
name_of d (const n ls) = n
name_of d (bound i) = d
name_of d (free i) = d
name_of d (meta i) = d
name_of d (sort l) = d
name_of d (app f a) = d
name_of d (lam x A b) = d
name_of d (pi x A B) = d
name_of d (letin x A v b) = d
name_of d (lit n) = d
name_of d (proj s i t) = d

abbrev levels_of : Term → List Universe
levels_of (const n ls) = ls
levels_of (bound i) = []
levels_of (free i) = []
levels_of (meta i) = []
levels_of (sort l) = []
levels_of (app f a) = []
levels_of (lam x A b) = []
levels_of (pi x A B) = []
levels_of (letin x A v b) = []
levels_of (lit n) = []
levels_of (proj s i t) = []

-- A step of a term that is this constant.
step_of : (E : Environment) (n : Path) (ls : List Universe) (s t : Term) → Step E s t → s ≡ const n ls → Unfolds E n ls
step_of E n ls s t (delta c v ms within def val levels) e = record {
  constant = c;
  within = within;
  named = ap (name_of n) e;
  definition = def;
  levels = ap length (sym (ap levels_of e)) ∙ levels;
}
step_of E n ls s t (beta x A b a) e = absurd (cc)
step_of E n ls s t (zeta x A v b) e = absurd (cc)
step_of E n ls s t (iota c d ind params minors indices index own fields rules rule ks ms before ys p0 p1 p2 p3 p4 p5 p6 p7) e = absurd (cc)
step_of E n ls s t literal_zero e = absurd (cc)
step_of E n ls s t (literal_succ m h) e = absurd (cc)
step_of E n ls s t (operation op m k r h) e = absurd (cc)
step_of E n ls s t (projection st i x ms ys p q) e = absurd (cc)

pub unfolds : (E : Environment) (n : Path) (ls : List Universe) (t : Term) → Step E (const n ls) t → Unfolds E n ls
unfolds E n ls t h = step_of E n ls (const n ls) t h refl

abbrev function_of : Term → Term
function_of (app f a) = f
function_of (const n ls) = const n ls
function_of (bound i) = bound i
function_of (free i) = free i
function_of (meta i) = meta i
function_of (sort l) = sort l
function_of (lam x A b) = lam x A b
function_of (pi x A B) = pi x A B
function_of (letin x A v b) = letin x A v b
function_of (lit n) = lit n
function_of (proj s i t) = proj s i t

abbrev argument_of : Term → Term
argument_of (app f a) = a
argument_of (const n ls) = const n ls
argument_of (bound i) = bound i
argument_of (free i) = free i
argument_of (meta i) = meta i
argument_of (sort l) = sort l
argument_of (lam x A b) = lam x A b
argument_of (pi x A B) = pi x A B
argument_of (letin x A v b) = letin x A v b
argument_of (lit n) = lit n
argument_of (proj s i t) = proj s i t

-- The head of a function that is a constant at arguments.
headed : (f : Term) (n : Path) (ls : List Universe) (before : List Term) (major a : Term) → app f a ≡ app (apply (const n ls) before) major
    → head_of f ≡ const n ls
headed f n ls before major a e = ap (λ s. head_of (function_of s)) e ∙ head_apply (const n ls) before

absent : {A : Type 0} (x : A) (o : Option A) → o ≡ None → o ≡ Some x → ⊥
absent x o p q = absurd (cc)

fires_of : (E : Environment) (n : Path) (ls : List Universe) (before : List Term) (major s t : Term)
    → ((a b : ℕ) → literal_operation n a b ≡ None) → Step E s t → s ≡ app (apply (const n ls) before) major → Fires E n ls before major
fires_of E n ls before major s t none (iota c d ind params minors indices index own fields rules rule ks ms bs ys wc rec lc lb wd ctor get ly) e =
    let head : const c.name ks ≡ const n ls = sym (head_apply (const c.name ks) bs) ∙ headed (apply (const c.name ks) bs) n ls before major _ e in
    let args : bs ≡ before = sym (given c.name ks bs) ∙ ap (λ s. arguments_of (function_of s)) e ∙ given n ls before in
    record {
      recursor = c;
      within = wc;
      named = ap (name_of n) head;
      ind = ind;
      params = params;
      minors = minors;
      indices = indices;
      rules = rules;
      recurses = rec;
      levels = ap length (sym (ap levels_of head)) ∙ lc;
      whole = ap length (sym args) ∙ lb;
      constructor = d;
      constructor_within = wd;
      index = index;
      own = own;
      fields = fields;
      constructs = ctor;
      at = ms;
      arguments = ys;
      is_built = sym (ap argument_of e);
      all = ly;
    }
fires_of E n ls before major s t none (operation op m k r h) e =
    let name : op ≡ n = ap (name_of n) (headed (app (const op []) (lit m)) n ls before major (lit k) e) in
    absurd (absent r (literal_operation op m k) (ap (λ p. literal_operation p m k) name ∙ none m k) h)
fires_of E n ls before major s t none (beta x A b a) e =
    let head : lam x A b ≡ const n ls = headed (lam x A b) n ls before major a e in
    absurd (cc)
fires_of E n ls before major s t none (zeta x A v b) e = absurd (cc)
fires_of E n ls before major s t none (delta c v ms within def val levels) e = absurd (cc)
fires_of E n ls before major s t none literal_zero e = absurd (cc)
fires_of E n ls before major s t none (literal_succ m h) e = absurd (cc)
fires_of E n ls before major s t none (projection st i x ms ys p q) e = absurd (cc)

pub fires : (E : Environment) (n : Path) (ls : List Universe) (before : List Term) (major t : Term) → ((a b : ℕ) → literal_operation n a b ≡ None)
    → Step E (app (apply (const n ls) before) major) t → Fires E n ls before major
fires E n ls before major t none h = fires_of E n ls before major (app (apply (const n ls) before) major) t none h refl

abbrev own_of : Detail → ℕ
own_of (Ctor ind index own fields) = own
own_of Plain = 0
own_of (Ind params indices names large) = 0
own_of (Rec ind params minors indices rules) = 0

no_structure : (s : IsStructure (loop_type ∷ again ∷ []) loop_name) → (loop_type ≡ s.constructor) ⊎ ((again ≡ s.constructor) ⊎ ⊥) → ⊥
no_structure s (inl e) =
    let d : loop_type.detail ≡ Ctor loop_name 0 s.params s.fields = ap (λ c. c.detail) e ∙ s.constructs in
    absurd (cc)
no_structure s (inr (inl e)) =
    let p : 0 ≡ s.params = ap own_of (ap (λ c. c.detail) e ∙ s.constructs) in
    let f : FieldsWithout loop_name 0 again.ty =
    subst (λ q. FieldsWithout loop_name q again.ty) (sym p) (subst (λ c. FieldsWithout loop_name s.params c.ty) (sym e) s.flat) in
    f.0 refl
no_structure s (inr (inr h)) = h

first_or_second : (c : ConstInfo) → Contains (loop_type ∷ again ∷ []) c → (loop_type ≡ c) ⊎ ((again ≡ c) ⊎ ⊥)
first_or_second c (zero, h, e) = inl e
first_or_second c (suc zero, h, e) = inr (inl e)
first_or_second c (suc (suc k), h, e) = absurd (omega arith)

pub recursive : IsStructure (loop_type ∷ again ∷ []) loop_name → ⊥
recursive s = no_structure s (first_or_second s.constructor s.constructor_within)
