-- What `infer` accepts names only constants that the view finds.
use Rattle.std.proofs.Common.{◌≡◌, ℕ, zero, suc, nat_eq, nat_lt, true, ◌&&◌, Option, Some, None, List, ◌++◌, length, refl, slice_get}
use Rattle.std.proofs.lemmas.Bool.{eqb-true}
use Rattle.lf_core.specs.Term.{Path, Universe, level_succ, level_imax, Term, bound, free, meta, sort, const, app, lam, pi, letin, lit, proj}
use Rattle.lf_core.specs.Substitution.{instantiate_at, instantiate, level_instantiate, abstract}
use Rattle.lf_rules.specs.Environment.{Environment, Context, with, opened, nat, NamesDeclared}
use Rattle.lf_core.specs.declared.constant.ConstInfo.{ConstInfo}
use Rattle.lf_checker.specs.View.{View, Lookup, found, absent, need_body, need_real, lookup_of}
use Rattle.lf_core.specs.Spine.{head_of, arguments_of}
use Rattle.lf_core.specs.Same.{same_path}
use Rattle.lf_rules.specs.Structure.{projections}
use Rattle.lf_checker.specs.Extends.{shape_of}
use Rattle.lf_checker.specs.Structures.{Structure, by_type, structure_seen, structure_of}
use Rattle.lf_checker.specs.Run.{Run, ◌>>=◌, gives, refuse, under, put, made}
use Rattle.lf_checker.specs.declared.fault.TypeFault.TheVariants.{Levels, Argument, Value, NotStructure}
use Rattle.lf_checker.specs.Calls.{checked, Calls, seen_as}
use Rattle.lf_checker.specs.Infer as checker
use Rattle.lf_checker.specs.Infer.{of_constant, on_sort, sort_of, domain_at, of_structure, on_structure, infer_body}
use Rattle.lf_checker.specs.Checker.{calls}
use Rattle.lf_checker_laws.specs.Soundness.{Names, Post}
use Rattle.lf_checker_laws.specs.Declarations.{LiteralsFound, AllFound, AcceptedIsFound}
use Rattle.lf_checker_laws.proofs.Runs.{
  post_then,
  post_map,
  post_any,
  post_spend,
  post_named,
  post_choose,
  post_put,
  post_made,
  post_made_then,
  post_opening_then,
  post_on_pi,
}

-- The names of a body stand in it after a term is put in.
pub found_within : (V : View) (d : ℕ) (b a : Term) → AllFound V (instantiate_at d b a) → AllFound V b
found_within V d (bound i) a h = tt
found_within V d (free k) a h = tt
found_within V d (meta k) a h = tt
found_within V d (sort l) a h = tt
found_within V d (const n ls) a h = h
found_within V d (app f t) a h = (found_within V d f a h.0, found_within V d t a h.1)
found_within V d (lam x A b) a h = (found_within V d A a h.0, found_within V (suc d) b a h.1)
found_within V d (pi x A b) a h = (found_within V d A a h.0, found_within V (suc d) b a h.1)
found_within V d (letin x A v b) a h = (found_within V d A a h.0, found_within V d v a h.1, found_within V (suc d) b a h.2)
found_within V d (lit n) a h = tt
found_within V d (proj S i t) a h = (h.0, found_within V d t a h.1)

pub record Finds (V : View) (c : Calls) : Type 0 where
  pub infer : (C : Context) (t : Term) (u : ℕ) → Post (λ A. AllFound V t) (c.infer checked C t u)

pub sort_finds : (V : View) (c : Calls) → Finds V c → (C : Context) (A : Term) (u : ℕ) → Post (λ l. AllFound V A) (sort_of c checked C A u)
sort_finds V c s C A u =
    post_then (λ S. AllFound V A) (λ l. AllFound V A) (c.infer checked C A u) _ (s.infer C A u) λ S v h.
    post_then (λ W. Unit {0}) (λ l. AllFound V A) (c.whnf true C S v) _ (post_any (c.whnf true C S v)) λ W w z.
    post_map (λ l. Unit {0}) (λ l. AllFound V A) (on_sort S W w) (post_any (on_sort S W w)) λ l z'. h

type_finds : (V : View) (c : Calls) → Finds V c → (C : Context) (A : Term) (u : ℕ) → Post (λ z. AllFound V A) (checker.is_type c checked C A u)
type_finds V c s C A u = post_then (λ l. AllFound V A) (λ z. AllFound V A) (sort_of c checked C A u) _ (sort_finds V c s C A u) λ l v h. h

argument_finds : (V : View) (c : Calls) → Finds V c → (C : Context) (a A : Term) (u : ℕ) → Post (λ z. AllFound V a) (checker.argument_fits c checked C a A u)
argument_finds V c s C a A u =
    post_then (λ X. AllFound V a) (λ z. AllFound V a) (c.infer checked C a u) _ (s.infer C a u) λ X v h.
    post_then (λ r. Unit {0}) (λ z. AllFound V a) (c.equal C X A v) _ (post_any (c.equal C X A v)) λ r w z.
    post_choose (λ z'. AllFound V a) r (gives tt) (refuse (Argument X A)) w (λ b. h) (λ b. tt)

value_finds : (V : View) (c : Calls) → Finds V c → (C : Context) (v A : Term) (u : ℕ)
    → Post (λ z. AllFound V A × AllFound V v) (checker.value_fits c checked C v A u)
value_finds V c s C v A u =
    let Q : Unit {0} → Type 0 = λ z. AllFound V A × AllFound V v in
    post_then (λ l. AllFound V A) Q (sort_of c checked C A u) _ (sort_finds V c s C A u) λ l u1 hA.
    post_then (λ X. AllFound V v) Q (c.infer checked C v u1) _ (s.infer C v u1) λ X u2 hv.
    post_then (λ r. Unit {0}) Q (c.equal C X A u2) _ (post_any (c.equal C X A u2)) λ r u3 z.
    post_choose Q r (gives tt) (refuse (Value X A)) u3 (λ b. (hA, hv)) (λ b. tt)

constant_finds : (V : View) (n : Path) (ls : List Universe) (l : Lookup) (u : ℕ) → lookup_of V n ≡ l
    → Post (λ A. AllFound V (const n ls)) (of_constant n ls (seen_as n l) u)
constant_finds V n ls (found k) u q =
    let Q : Term → Type 0 = λ A. AllFound V (const n ls) in
    post_choose Q (nat_eq (length ls) (length k.levels)) (made (level_instantiate ls k.ty)) (refuse (Levels n)) u
    (λ b. post_made Q (level_instantiate ls k.ty) u (k, q, eqb-true (length ls) (length k.levels) b)) (λ b. tt)
constant_finds V n ls absent u q = tt
constant_finds V n ls (need_body p) u q = tt
constant_finds V n ls need_real u q = tt

-- The view finds the type of a structure that it tells of.
abbrev StructureFound : View → Path → Option Structure → Type 0
StructureFound V S (Some s) = (c : ConstInfo) × (lookup_of V S ≡ found c)
StructureFound V S None = Unit {0}

found_anyhow : (V : View) (S : Path) (o : Option Structure) → (c : ConstInfo) × (lookup_of V S ≡ found c) → StructureFound V S o
found_anyhow V S (Some s) h = h
found_anyhow V S None h = tt

structure_finds : (V : View) (S : Path) (l : Lookup) (u : ℕ) → lookup_of V S ≡ l → Post (StructureFound V S) (structure_seen V S (seen_as S l) u)
structure_finds V S (found k) u q =
    let o : Run (Option Structure) = by_type V S (shape_of k) k.detail in
    post_map (λ x. Unit {0}) (StructureFound V S) (o u) (post_any (o u)) λ x z. found_anyhow V S x (k, q)
structure_finds V S absent u q = tt
structure_finds V S (need_body p) u q = tt
structure_finds V S need_real u q = tt

of_structure_finds : (V : View) (T : Term) (S : Path) (i : ℕ) (t : Term) (ls : List Universe) (ps : List Term) (o : Option Structure) (u : ℕ) → AllFound V t
    → StructureFound V S o → Post (λ A. AllFound V (proj S i t)) (of_structure T S i t ls ps o u)
of_structure_finds V T S i t ls ps (Some s) u h f =
    let Q : Term → Type 0 = λ A. AllFound V (proj S i t) in
    let m : Run Term = made (level_instantiate ls s.ty) >>= λ D. domain_at T D (ps ++ projections S i t) in
    post_choose Q (nat_eq (length ls) s.levels && (nat_eq (length ps) s.params && nat_lt i s.fields)) m (refuse (NotStructure T)) u
    (λ b. post_map (λ A. Unit {0}) Q (m u) (post_any (m u)) λ A z. (f, h)) (λ b. tt)
of_structure_finds V T S i t ls ps None u h f = tt

on_structure_finds : (V : View) (T : Term) (S : Path) (i : ℕ) (t h : Term) (ps : List Term) (u : ℕ) → AllFound V t
    → Post (λ A. AllFound V (proj S i t)) (on_structure V T S i t h ps u)
on_structure_finds V T S i t (const n ls) ps u g =
    let Q : Term → Type 0 = λ A. AllFound V (proj S i t) in
    post_choose Q (same_path n S) (structure_of V S >>= λ o. of_structure T S i t ls ps o) (refuse (NotStructure T)) u
    (λ b. post_then (StructureFound V S) Q (structure_of V S u) _ (structure_finds V S (lookup_of V S) u refl) λ o v f. of_structure_finds V T S i t ls ps o v g
    f) (λ b. tt)
on_structure_finds V T S i t (bound j) ps u g = tt
on_structure_finds V T S i t (free j) ps u g = tt
on_structure_finds V T S i t (meta j) ps u g = tt
on_structure_finds V T S i t (sort l) ps u g = tt
on_structure_finds V T S i t (app f a) ps u g = tt
on_structure_finds V T S i t (lam x A b) ps u g = tt
on_structure_finds V T S i t (pi x A b) ps u g = tt
on_structure_finds V T S i t (letin x A v b) ps u g = tt
on_structure_finds V T S i t (lit n) ps u g = tt
on_structure_finds V T S i t (proj R j r) ps u g = tt

infer_finds : (V : View) (c : Calls) → Finds V c → (C : Context) (t : Term) (u : ℕ) → Post (λ A. AllFound V t) (infer_body V c checked C t u)
unfolding infer_body
infer_finds V c s C (bound i) u = tt
infer_finds V c s C (free k) u = post_any (checker.of_context (slice_get C k) u)
infer_finds V c s C (meta k) u = tt
infer_finds V c s C (sort l) u = post_any (put (sort (level_succ l)) u)
infer_finds V c s C (const n ls) u = constant_finds V n ls (lookup_of V n) u refl
infer_finds V c s C (lit n) u = tt
infer_finds V c s C (app f a) u =
    let Q : Term → Type 0 = λ A. AllFound V (app f a) in
    post_then (λ F. AllFound V f) Q (c.infer checked C f u) _ (s.infer C f u) λ F u1 hf.
    post_then (λ P. Unit {0}) Q (c.whnf true C F u1) _ (post_any (c.whnf true C F u1)) λ P u2 z.
    post_on_pi Q F P _ u2 λ x A B e.
    post_then (λ z. AllFound V a) Q (checker.argument_fits c checked C a A u2) _ (argument_finds V c s C a A u2) λ z' u3 ha.
    post_made Q (instantiate B a) u3 (hf, ha)
infer_finds V c s C (lam x A b) u =
    let Q : Term → Type 0 = λ T. AllFound V (lam x A b) in
    post_then (λ z. AllFound V A) Q (checker.is_type c checked C A u) _ (type_finds V c s C A u) λ z u1 hA.
    post_opening_then Q C b _ u1 λ u2.
    post_then (λ B. AllFound V (opened C b)) Q (under x.name (c.infer checked (with C A) (opened C b)) u2) _
    (post_named (λ B. AllFound V (opened C b)) x.name (c.infer checked (with C A) (opened C b) u2) (s.infer (with C A) (opened C b) u2)) λ B u3 hb.
    post_made_then Q (abstract B (length C)) _ u3 λ u4.
    post_put Q (pi x A (abstract B (length C))) u4 (hA, found_within V 0 b (free (length C)) hb)
infer_finds V c s C (pi x A B) u =
    let Q : Term → Type 0 = λ T. AllFound V (pi x A B) in
    post_then (λ l. AllFound V A) Q (sort_of c checked C A u) _ (sort_finds V c s C A u) λ l u1 hA.
    post_opening_then Q C B _ u1 λ u2.
    post_then (λ v. AllFound V (opened C B)) Q (under x.name (sort_of c checked (with C A) (opened C B)) u2) (λ v. put (sort (level_imax l v)))
    (post_named (λ v. AllFound V (opened C B)) x.name (sort_of c checked (with C A) (opened C B) u2) (sort_finds V c s (with C A) (opened C B) u2)) λ v u3 hB.
    post_put Q (sort (level_imax l v)) u3 (hA, found_within V 0 B (free (length C)) hB)
infer_finds V c s C (letin x A v b) u =
    let Q : Term → Type 0 = λ T. AllFound V (letin x A v b) in
    post_then (λ z. AllFound V A × AllFound V v) Q (checker.value_fits c checked C v A u) _ (value_finds V c s C v A u) λ z u1 h.
    post_made_then Q (instantiate b v) _ u1 λ u2.
    post_map (λ T. AllFound V (instantiate b v)) Q (c.infer checked C (instantiate b v) u2) (s.infer C (instantiate b v) u2) λ B hb.
    (h.0, h.1, found_within V 0 b v hb)
infer_finds V c s C (proj S i t) u =
    let Q : Term → Type 0 = λ A. AllFound V (proj S i t) in
    post_then (λ T. AllFound V t) Q (c.infer checked C t u) _ (s.infer C t u) λ T u1 h.
    post_then (λ W. Unit {0}) Q (c.whnf true C T u1) _ (post_any (c.whnf true C T u1)) λ W u2 z.
    on_structure_finds V T S i t (head_of W) (arguments_of W) u2 h

pub calls_find : (V : View) (n : ℕ) → Finds V (calls V n)
calls_find V zero = record { infer = λ C t u. tt }
calls_find V (suc n) = record {
  infer = λ C t u. post_spend (λ A. AllFound V t) 1 (infer_body V (calls V n) checked C t) u
      (λ v. infer_finds V (calls V n) (calls_find V n) C t v);
}

-- And what is found is declared, in a list that has what the view finds of the names.
pub declared_if_found : (V : View) (E : Environment) (top : ℕ) (t : Term) → ((n : Path) (c : ConstInfo) → lookup_of V n ≡ found c → c.name ≡ n)
    → Names V E top t → LiteralsFound V t → AllFound V t → NamesDeclared E t
declared_if_found V E top (bound i) o h l f = tt
declared_if_found V E top (free i) o h l f = tt
declared_if_found V E top (meta i) o h l f = tt
declared_if_found V E top (sort u) o h l f = tt
declared_if_found V E top (const n ls) o h l f = (f.0, h.0 f.0 f.1, o n f.0 f.1)
declared_if_found V E top (app g a) o h l f = (declared_if_found V E top g o h.0 l.0 f.0, declared_if_found V E top a o h.1 l.1 f.1)
declared_if_found V E top (lam x A b) o h l f = (declared_if_found V E top A o h.0 l.0 f.0, declared_if_found V E top b o h.1 l.1 f.1)
declared_if_found V E top (pi x A b) o h l f = (declared_if_found V E top A o h.0 l.0 f.0, declared_if_found V E top b o h.1 l.1 f.1)
declared_if_found V E top (letin x A v b) o h l f =
    (declared_if_found V E top A o h.0 l.0 f.0, declared_if_found V E top v o h.1 l.1 f.1, declared_if_found V E top b o h.2 l.2 f.2)
declared_if_found V E top (lit n) o h l f = (l.0, h l.0 l.1, o nat l.0 l.1)
declared_if_found V E top (proj S i t) o h l f = ((f.0.0, h.0 f.0.0 f.0.1, o S f.0.0 f.0.1), declared_if_found V E top t o h.1 l f.1)

pub accepted_is_found : AcceptedIsFound
accepted_is_found V = record {
  are_found = λ depth C t u. (calls_find V depth).infer C t u;
  are_declared = λ E top t o h l f. declared_if_found V E top t o h l
      f;
}
