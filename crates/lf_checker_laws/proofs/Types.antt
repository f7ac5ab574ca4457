-- What `infer` gives is a type of the term.
use Rattle.std.proofs.Common.{◌≡◌, ℕ, nat_eq, true, List, length, refl, sym, ap, subst, Option, Some, None, slice_get}
use Rattle.std.proofs.lemmas.Bool.{eqb-true}
use Rattle.lf_core.specs.Term.{Path, Universe, level_succ, level_imax, Term, bound, free, meta, sort, const, app, lam, pi, letin, lit, proj}
use Rattle.lf_core.specs.Same.{same_path}
use Rattle.lf_core.specs.Substitution.{instantiate, level_instantiate, abstract}
use Rattle.lf_rules.specs.Environment.{Environment, Context, with, opened, nat, ParametersBelow}
use Rattle.lf_rules.specs.Judgment.{
  Equal,
  HasType,
  variable,
  sort_type,
  constant,
  application,
  lambda,
  pi_type,
  let_type,
  literal,
  conversion,
  Formed,
  has_type,
  is_type,
  pi_domain,
}
use Rattle.lf_judgment_laws.proofs.Variables.{opened-abstract}
use Rattle.lf_checker.specs.View.{View, Lookup, found, absent, need_body, need_real, lookup_of}
use Rattle.lf_checker.specs.Run.{gives, refuse, under, put, made}
use Rattle.lf_checker.specs.declared.fault.TypeFault.TheVariants.{Levels, Argument, Value}
use Rattle.lf_checker.specs.Calls.{checked, Calls, seen_as}
use Rattle.lf_checker.specs.Infer as checker
use Rattle.lf_checker.specs.Infer.{of_context, of_constant, sort_of, infer_body}
use Rattle.lf_checker_laws.specs.Soundness.{zero_name, HeldBeside, Names, Fits, ContextFits, ClosedList, Post, Typed, Reduct, Sound}
use Rattle.lf_checker_laws.proofs.Tests.{no_false}
use Rattle.lf_checker_laws.proofs.Runs.{
  post_then,
  post_map,
  post_named,
  post_choose,
  post_put,
  post_made,
  post_made_then,
  post_opening_then,
  post_on_pi,
  post_on_sort,
  Yes,
}
use Rattle.lf_checker_laws.proofs.Fitting.{instantiate_fits, opened_fits, closed_fits, levels_fit, all_get, context_with}
use Rattle.lf_checker_laws.proofs.Reduces.{Fit}
use Rattle.lf_checker_laws.proofs.Structures.{projection_sound}

-- A is in the sort of a level below `top`.
abbrev pub InSort : Environment → ℕ → Context → Term → Universe → Type 0
InSort E top C A l = HasType E C A (sort l) × ParametersBelow top l

pub sort_sound : (V : View) (E : Environment) (top : ℕ) (c : Calls) → Sound V E top c → (C : Context) (A : Term) (u : ℕ) → ContextFits V E top C
    → Fit V E top C A → Post (InSort E top C A) (sort_of c checked C A u)
sort_sound V E top c s C A u fine fa =
    post_then (Typed V E top C A) (InSort E top C A) (c.infer checked C A u) _ (s.infer C A u fine fa) λ S v hS.
    post_then (Reduct V E top C S) (InSort E top C A) (c.whnf true C S v) _ (s.whnf true C S v fine hS.1 (is_type hS.0)) λ W w hW.
    post_on_sort (InSort E top C A) S W w λ l e.
    (conversion hS.0 (subst (Equal E C S) e hW.0), subst (Names V E top) e hW.1.1)

type_sound : (V : View) (E : Environment) (top : ℕ) (c : Calls) → Sound V E top c → (C : Context) (A : Term) (u : ℕ) → ContextFits V E top C → Fit V E top C A
    → Post (λ z. (l : Universe) × InSort E top C A l) (checker.is_type c checked C A u)
type_sound V E top c s C A u fine fa = post_then (InSort E top C A) (λ z. (l : Universe) × InSort E top C A l) (sort_of c checked C A u) _
    (sort_sound V E top c s C A u fine fa) λ l v h. (l, h)

argument_sound : (V : View) (E : Environment) (top : ℕ) (c : Calls) → Sound V E top c → (C : Context) (a A : Term) (u : ℕ) → ContextFits V E top C
    → Fit V E top C a → Fit V E top C A → Formed E C A → Post (λ z. HasType E C a A) (checker.argument_fits c checked C a A u)
argument_sound V E top c s C a A u fine fa fA oA =
    post_then (Typed V E top C a) (λ z. HasType E C a A) (c.infer checked C a u) _ (s.infer C a u fine fa) λ X v hX.
    post_then (Yes (Equal E C X A)) (λ z. HasType E C a A) (c.equal C X A v) _ (s.equal C X A v fine hX.1 fA (is_type hX.0) oA) λ r w hr.
    post_choose (λ z. HasType E C a A) r (gives tt) (refuse (Argument X A)) w (λ b. conversion hX.0 (hr b)) (λ b. tt)

value_sound : (V : View) (E : Environment) (top : ℕ) (c : Calls) → Sound V E top c → (C : Context) (v A : Term) (u : ℕ) → ContextFits V E top C
    → Fit V E top C v → Fit V E top C A → Post (λ z. (l : Universe) × InSort E top C A l × HasType E C v A) (checker.value_fits c checked C v A u)
value_sound V E top c s C v A u fine fv fA =
    let Q : Unit {0} → Type 0 = λ z. (l : Universe) × InSort E top C A l × HasType E C v A in
    post_then (InSort E top C A) Q (sort_of c checked C A u) _ (sort_sound V E top c s C A u fine fA) λ l u1 hA.
    post_then (Typed V E top C v) Q (c.infer checked C v u1) _ (s.infer C v u1 fine fv) λ X u2 hX.
    post_then (Yes (Equal E C X A)) Q (c.equal C X A u2) _ (s.equal C X A u2 fine hX.1 fA (is_type hX.0) (has_type hA.0)) λ r u3 hr.
    post_choose Q r (gives tt) (refuse (Value X A)) u3 (λ b. (l, hA, conversion hX.0 (hr b))) (λ b. tt)

free_sound : (V : View) (E : Environment) (top : ℕ) (C : Context) (k : ℕ) (o : Option Term) (u : ℕ) → ContextFits V E top C → slice_get C k ≡ o
    → Post (Typed V E top C (free k)) (of_context o u)
free_sound V E top C k (Some A) u fine e = (variable k e, all_get V E top (length C) C k A fine e)
free_sound V E top C k None u fine e = tt

constant_sound : (V : View) (E : Environment) (top : ℕ) → ClosedList V E → (C : Context) (n : Path) (ls : List Universe) (l : Lookup) (u : ℕ)
    → Names V E top (const n ls) → lookup_of V n ≡ l → Post (Typed V E top C (const n ls)) (of_constant n ls (seen_as n l) u)
constant_sound V E top cl C n ls (found k) u hn q =
    let Q : Term → Type 0 = Typed V E top C (const n ls) in
    let wk = hn.0 k q in
    post_choose Q (nat_eq (length ls) (length k.levels)) (made (level_instantiate ls k.ty)) (refuse (Levels n)) u
    (λ b.
    let h : HasType E C (const k.name ls) (level_instantiate ls k.ty) = constant k ls wk (eqb-true (length ls) (length k.levels) b) in
    post_made Q (level_instantiate ls k.ty) u (
      subst (λ m. HasType E C (const m ls) (level_instantiate ls k.ty)) (cl.own_name n k q) h,
      levels_fit V E top (length C) (length k.levels) ls k.ty
          (eqb-true (length ls) (length k.levels) b) hn.2 (cl.closed k wk).ty (cl.types k wk),
    ))
    (λ b. tt)
constant_sound V E top cl C n ls absent u hn q = tt
constant_sound V E top cl C n ls (need_body p) u hn q = tt
constant_sound V E top cl C n ls need_real u hn q = tt

nat_beside : (V : View) (E : Environment) → HeldBeside V E nat
nat_beside V E = record { zero = λ e. absurd (other e); operation = λ i j r e. absurd (cc) }
  where
    other : nat ≡ zero_name → ⊥
    other e = let f : same_path nat zero_name ≡ same_path zero_name zero_name = ap (λ n. same_path n zero_name) e in no_false f

pub infer_sound : (V : View) (E : Environment) (top : ℕ) → ClosedList V E → (c : Calls) → Sound V E top c → (C : Context) (t : Term) (u : ℕ)
    → ContextFits V E top C → Fit V E top C t → Post (Typed V E top C t) (infer_body V c checked C t u)
unfolding infer_body
infer_sound V E top cl c s C (bound i) u fine fi = tt
infer_sound V E top cl c s C (free k) u fine fi = free_sound V E top C k (slice_get C k) u fine refl
infer_sound V E top cl c s C (meta k) u fine fi = tt
infer_sound V E top cl c s C (sort l) u fine fi = post_put (Typed V E top C (sort l)) (sort (level_succ l)) u (sort_type l, (tt, fi.1))
infer_sound V E top cl c s C (const n ls) u fine fi = constant_sound V E top cl C n ls (lookup_of V n) u fi.1 refl
infer_sound V E top cl c s C (lit n) u fine fi = (literal n, (tt, (fi.1, nat_beside V E, tt)))
infer_sound V E top cl c s C (proj S i t) u fine fi = projection_sound V E top cl c s C S i t u fine fi
infer_sound V E top cl c s C (app f a) u fine fi =
    let Q : Term → Type 0 = Typed V E top C (app f a) in
    let fa : Fit V E top C a = (fi.0.1, fi.1.1) in
    post_then (Typed V E top C f) Q (c.infer checked C f u) _ (s.infer C f u fine (fi.0.0, fi.1.0)) λ F u1 hF.
    post_then (Reduct V E top C F) Q (c.whnf true C F u1) _ (s.whnf true C F u1 fine hF.1 (is_type hF.0)) λ P u2 hP.
    post_on_pi Q F P _ u2 λ x A B e.
    let hp : Reduct V E top C F (pi x A B) = subst (Reduct V E top C F) e hP in
    let hf : HasType E C f (pi x A B) = conversion hF.0 hp.0 in
    post_then (λ z. HasType E C a A) Q (checker.argument_fits c checked C a A u2) _
    (argument_sound V E top c s C a A u2 fine fa (hp.1.0.0, hp.1.1.0) (pi_domain (is_type hf))) λ z u3 ha.
    post_made Q (instantiate B a) u3 (application hf ha, instantiate_fits V E top (length C) B a (hp.1.0.1, hp.1.1.1) fa)
infer_sound V E top cl c s C (lam x A b) u fine fi =
    let Q : Term → Type 0 = Typed V E top C (lam x A b) in
    let fA : Fit V E top C A = (fi.0.0, fi.1.0) in
    post_then (λ z. (l : Universe) × InSort E top C A l) Q (checker.is_type c checked C A u) _ (type_sound V E top c s C A u fine fA) λ z u1 hA.
    post_opening_then Q C b _ u1 λ u2.
    post_then (Typed V E top (with C A) (opened C b)) Q (under x.name (c.infer checked (with C A) (opened C b)) u2) _
    (post_named (Typed V E top (with C A) (opened C b)) x.name (c.infer checked (with C A) (opened C b) u2)
    (s.infer (with C A) (opened C b) u2 (context_with V E top C A fine fA) (opened_fits V E top C A b (fi.0.1, fi.1.1)))) λ B u3 hB.
    let D : Term = abstract B (length C) in
    let fD : Fits V E top 1 (length C) D = closed_fits V E top C A B hB.1 in
    post_made_then Q D _ u3 λ u4.
    post_put Q (pi x A D) u4 (
      lambda hA.0 hA.1.0 fi.0.1 fD.0 (subst (HasType E (with C A) (opened C b)) (sym (opened-abstract C (length (with C A)) B hB.1.0)) hB.0),
      ((fA.0, fD.0), (fA.1, fD.1)),
    )
infer_sound V E top cl c s C (pi x A B) u fine fi =
    let Q : Term → Type 0 = Typed V E top C (pi x A B) in
    let fA : Fit V E top C A = (fi.0.0, fi.1.0) in
    post_then (InSort E top C A) Q (sort_of c checked C A u) _ (sort_sound V E top c s C A u fine fA) λ l u1 hA.
    post_opening_then Q C B _ u1 λ u2.
    post_then (InSort E top (with C A) (opened C B)) Q (under x.name (sort_of c checked (with C A) (opened C B)) u2) (λ v. put (sort (level_imax l v)))
    (post_named (InSort E top (with C A) (opened C B)) x.name (sort_of c checked (with C A) (opened C B) u2)
    (sort_sound V E top c s (with C A) (opened C B) u2 (context_with V E top C A fine fA) (opened_fits V E top C A B (fi.0.1, fi.1.1)))) λ v u3 hB.
    post_put Q (sort (level_imax l v)) u3 (pi_type l v hA.0 fi.0.1 hB.0, (tt, (hA.1, hB.1)))
infer_sound V E top cl c s C (letin x A v b) u fine fi =
    let Q : Term → Type 0 = Typed V E top C (letin x A v b) in
    let fA : Fit V E top C A = (fi.0.0, fi.1.0) in
    let fv : Fit V E top C v = (fi.0.1, fi.1.1) in
    post_then (λ z. (l : Universe) × InSort E top C A l × HasType E C v A) Q (checker.value_fits c checked C v A u) _
    (value_sound V E top c s C v A u fine fv fA) λ z u1 h.
    post_made_then Q (instantiate b v) _ u1 λ u2.
    post_map (Typed V E top C (instantiate b v)) Q (c.infer checked C (instantiate b v) u2)
    (s.infer C (instantiate b v) u2 fine (instantiate_fits V E top (length C) b v (fi.0.2, fi.1.2) fv)) λ B hB.
    (let_type h.0 h.1.0 h.2 fi.0.2 hB.0, hB.1)
