-- Equality, normal forms, and with them the four functions with more nesting and more units.
use Rattle.std.proofs.Common.{
  ◌≡◌,
  subst,
  arith,
  ℕ,
  zero,
  suc,
  ◌+◌,
  ◌^◌,
  ◌&&◌,
  Bool,
  true,
  false,
  nat_eq,
  nat_lt,
  List,
  [],
  ◌∷◌,
  length,
  Option,
  Some,
  None,
  refl,
}
use Rattle.lf_core.specs.Term.{Path, Universe, Term, sort, const, app, lam, pi, lit, proj}
use Rattle.lf_core.specs.Spine.{head_of, arguments_of}
use Rattle.lf_core.specs.Same.{same}
use Rattle.lf_rules.specs.Environment.{Context, nat_succ}
use Rattle.lf_core.specs.declared.constant.Detail.{Detail}
use Rattle.lf_core.specs.declared.constant.Detail.TheVariants.{Ctor}
use Rattle.lf_checker.specs.View.{View, body_of, KnownBody, value, opaque, unresolved}
use Rattle.lf_checker.specs.Run.{Run, ◌>>=◌, gives}
use Rattle.lf_checker.specs.Calls.{Calls, Seen, known, unknown, missing, see}
use Rattle.lf_checker.specs.Whnf.{turn_limit, whnf_body}
use Rattle.lf_checker.specs.Infer.{infer_body}
use Rattle.lf_checker.specs.Equal.{
  Verdict,
  decided,
  again,
  undecided,
  decided_by,
  or_else,
  decides,
  when_true,
  and_then,
  equal_binders,
  by_form,
  by_whnf,
  proposition_of,
  proves,
  by_proofs,
  expansion_of,
  eta_expansion,
  against_left,
  against_right,
  by_eta,
  by_predecessors,
  by_literals,
  equal_heads,
  equal_all,
  by_arguments,
  Built,
  built_detail,
  built_seen,
  built_of,
  equal_fields,
  eta_at,
  eta_against,
  type_form,
  eta_built,
  against_built,
  by_structures,
  of_body,
  definition_seen,
  definition_of,
  by_unfolding,
  by_types,
  by_heads,
  equal_turn,
  equal_loop,
  equal_body,
  expanded,
  Definition,
  by_height,
}
use Rattle.lf_checker.specs.Normalize.{normalize_all, normalize_body_of_binder, normalize_head, normalize_arguments, normalize_parts, normalize_body}
use Rattle.lf_checker.specs.Checker.{turn, calls}
use Rattle.lf_extension_laws.specs.Enough.{Enough, Suffice}
use Rattle.lf_extension_laws.proofs.Enough.{
  enough_done,
  enough_refused,
  enough_then,
  enough_spend,
  enough_caught,
  enough_named,
  enough_choose,
  enough_put,
  enough_made,
  enough_opening,
}
use Rattle.lf_extension_laws.proofs.EnoughWhnf.{enough_structure, enough_whnf, enough_infer}

ruleset enough = (enough_done, enough_refused, enough_then, enough_spend, enough_caught, enough_named, enough_choose, enough_put, enough_made, enough_opening)

module _ (V : View) (extra : ℕ) where
  -- equal

  enough_decided : (v : Verdict) (m n : Run Verdict) (u : ℕ) → Enough extra (m u) (n (u + extra)) → Enough extra (decided_by v m u) (decided_by v n (u + extra))
  enough_decided undecided m n u h = h
  enough_decided (decided r) m n u h = refl
  enough_decided (again s t) m n u h = refl

  enough_or : (m n k l : Run Verdict) (u : ℕ) → Enough extra (m u) (k (u + extra)) → ((v : ℕ) → Enough extra (n v) (l (v + extra)))
      → Enough extra (or_else m n u) (or_else k l (u + extra))
  enough_or m n k l u h g = enough_then extra (m u) _ _ _ h (λ v w. enough_decided v n l w (g w))

  enough_and : (r : Bool) (m n : Run Bool) (u : ℕ) → Enough extra (m u) (n (u + extra)) → Enough extra (and_then r m u) (and_then r n (u + extra))
  enough_and true m n u h = h
  enough_and false m n u h = refl

  enough_binders : (c d : Calls) → Suffice extra c d → (C : Context) (A b B e : Term) (u : ℕ)
      → Enough extra (equal_binders c C A b B e u) (equal_binders d C A b B e (u + extra))
  enough_binders c d a C A b B e u = search (enough, enough_and, a.equal) depth 12

  enough_form : (c d : Calls) → Suffice extra c d → (C : Context) (l r : Term) (u : ℕ) → Enough extra (by_form c C l r u) (by_form d C l r (u + extra))
  enough_form c d a C (sort m) (sort n) u = refl
  enough_form c d a C (pi y A b) (pi z B e) u = search (enough, enough_binders c d a)
  enough_form c d a C (lam y A b) (lam z B e) u = search (enough, enough_binders c d a)
  enough_form c d a C _ _ u = refl

  enough_by_whnf : (c d : Calls) → Suffice extra c d → (C : Context) (l r : Term) (u : ℕ) → Enough extra (by_whnf c C l r u) (by_whnf d C l r (u + extra))
  enough_by_whnf c d a C l r u = search (enough, a.whnf) depth 8

  enough_proposition : (c d : Calls) → Suffice extra c d → (C : Context) (l : Term) (u : ℕ)
      → Enough extra (proposition_of c C l u) (proposition_of d C l (u + extra))
  enough_proposition c d a C l u = search (enough, a.infer, a.whnf) depth 10

  enough_proves : (c d : Calls) → Suffice extra c d → (C : Context) (r : Term) (o : Option Term) (u : ℕ)
      → Enough extra (proves c C r o u) (proves d C r o (u + extra))
  enough_proves c d a C r None u = refl
  enough_proves c d a C r (Some P) u = search (enough, a.infer, a.equal) depth 10

  enough_proofs : (c d : Calls) → Suffice extra c d → (C : Context) (l r : Term) (u : ℕ) → Enough extra (by_proofs c C l r u) (by_proofs d C l r (u + extra))
  enough_proofs c d a C l r u = search (enough, enough_proposition c d a, enough_proves c d a) depth 8

  enough_expanded : (t W : Term) (u : ℕ) → Enough extra (expanded t W u) (expanded t W (u + extra))
  enough_expanded t (pi x A B) u = search (enough) depth 6
  enough_expanded t _ u = refl

  enough_expansion_of : (c d : Calls) → Suffice extra c d → (C : Context) (t : Term) (o : Option Term) (u : ℕ)
      → Enough extra (expansion_of c C t o u) (expansion_of d C t o (u + extra))
  enough_expansion_of c d a C t (Some T) u = search (enough, enough_expanded, a.whnf) depth 8
  enough_expansion_of c d a C t None u = refl

  enough_expansion : (c d : Calls) → Suffice extra c d → (C : Context) (t : Term) (u : ℕ)
      → Enough extra (eta_expansion c C t u) (eta_expansion d C t (u + extra))
  enough_expansion c d a C t u = search (enough, enough_expansion_of c d a, a.infer) depth 8

  enough_left : (c d : Calls) → Suffice extra c d → (C : Context) (l : Term) (o : Option Term) (u : ℕ)
      → Enough extra (against_left c C l o u) (against_left d C l o (u + extra))
  enough_left c d a C l (Some e) u = search (enough, a.equal)
  enough_left c d a C l None u = refl

  enough_right : (c d : Calls) → Suffice extra c d → (C : Context) (l : Term) (o : Option Term) (u : ℕ)
      → Enough extra (against_right c C l o u) (against_right d C l o (u + extra))
  enough_right c d a C l (Some e) u = search (enough, a.equal)
  enough_right c d a C l None u = refl

  enough_to_left : (c d : Calls) → Suffice extra c d → (C : Context) (l r : Term) (u : ℕ)
      → Enough extra ((eta_expansion c C r >>= λ e. against_left c C l e) u) ((eta_expansion d C r >>= λ e. against_left d C l e) (u + extra))
  enough_to_left c d a C l r u = search (enough, enough_expansion c d a, enough_left c d a) depth 8

  enough_to_right : (c d : Calls) → Suffice extra c d → (C : Context) (l r : Term) (u : ℕ)
      → Enough extra ((eta_expansion c C l >>= λ e. against_right c C r e) u) ((eta_expansion d C l >>= λ e. against_right d C r e) (u + extra))
  enough_to_right c d a C l r u = search (enough, enough_expansion c d a, enough_right c d a) depth 8

  enough_eta : (c d : Calls) → Suffice extra c d → (C : Context) (l r : Term) (u : ℕ) → Enough extra (by_eta c C l r u) (by_eta d C l r (u + extra))
  enough_eta c d a C (lam y A b) (lam z B e) u = refl
  enough_eta c d a C (lam y A b) r u = enough_to_left c d a C (lam y A b) r u
  enough_eta c d a C l (lam z B e) u = enough_to_right c d a C l (lam z B e) u
  enough_eta c d a C l r u = refl

  enough_predecessors : (n : ℕ) (f : Term) (m k : Run Bool) (u : ℕ) → Enough extra (m u) (k (u + extra))
      → Enough extra (by_predecessors n f m u) (by_predecessors n f k (u + extra))
  enough_predecessors n f m k u h = enough_choose extra (same f nat_succ && nat_lt n (2 ^ 128)) (decides m) (gives undecided) (decides k) (gives undecided) u
      (enough_then extra (m u) _ _ _ h (λ r v. refl)) refl

  enough_literals : (c d : Calls) → Suffice extra c d → (C : Context) (l r : Term) (u : ℕ)
      → Enough extra (by_literals c C l r u) (by_literals d C l r (u + extra))
  enough_literals c d a C (lit (suc n)) (app f t) u = enough_predecessors (suc n) f (c.equal C (lit n) t) (d.equal C (lit n) t) u (a.equal C (lit n) t u)
  enough_literals c d a C (app f t) (lit (suc n)) u = enough_predecessors (suc n) f (c.equal C t (lit n)) (d.equal C t (lit n)) u (a.equal C t (lit n) u)
  enough_literals c d a C (lit m) (lit n) u = refl
  enough_literals c d a C (lit zero) (const n ls) u = refl
  enough_literals c d a C (const n ls) (lit zero) u = refl
  enough_literals c d a C _ _ u = refl

  enough_all : (c d : Calls) → Suffice extra c d → (C : Context) (xs ys : List Term) (u : ℕ)
      → Enough extra (equal_all c C xs ys u) (equal_all d C xs ys (u + extra))
  enough_all c d a C (x ∷ xs) (y ∷ ys) u =
      let rest : (v : ℕ) → Enough extra (equal_all c C xs ys v) (equal_all d C xs ys (v + extra)) = λ v. enough_all c d a C xs ys v in
      search (enough, enough_and, rest, a.equal) depth 8
  enough_all c d a C [] [] u = refl
  enough_all c d a C _ _ u = refl

  enough_equal_heads : (c d : Calls) → Suffice extra c d → (C : Context) (l r : Term) (u : ℕ)
      → Enough extra (equal_heads c C l r u) (equal_heads d C l r (u + extra))
  enough_equal_heads c d a C (const n ls) (const k ms) u = refl
  enough_equal_heads c d a C (proj S i t) (proj R j s) u = search (enough, a.equal) depth 6
  enough_equal_heads c d a C _ _ u = refl

  enough_arguments : (c d : Calls) → Suffice extra c d → (C : Context) (l r : Term) (u : ℕ)
      → Enough extra (by_arguments c C l r u) (by_arguments d C l r (u + extra))
  enough_arguments c d a C l r u = search (enough, enough_and, enough_equal_heads c d a, enough_all c d a) depth 10

  -- eta for structures

  enough_built_detail : (n : Path) (ms : List Universe) (ys : List Term) (e : Detail) (u : ℕ)
      → Enough extra (built_detail V n ms ys e u) (built_detail V n ms ys e (u + extra))
  enough_built_detail n ms ys (Ctor i k o f) u = search (enough, enough_structure V extra) depth 6
  enough_built_detail n ms ys _ u = refl

  enough_built_seen : (n : Path) (ms : List Universe) (ys : List Term) (q : Seen) (u : ℕ)
      → Enough extra (built_seen V n ms ys q u) (built_seen V n ms ys q (u + extra))
  enough_built_seen n ms ys (known c) u = enough_built_detail n ms ys c.detail u
  enough_built_seen n ms ys unknown u = refl
  enough_built_seen n ms ys (missing k) u = refl

  enough_built : (h : Term) (ys : List Term) (u : ℕ) → Enough extra (built_of V h ys u) (built_of V h ys (u + extra))
  enough_built (const n ms) ys u = enough_built_seen n ms ys (see V n) u
  enough_built _ ys u = refl

  enough_fields : (c d : Calls) → Suffice extra c d → (C : Context) (S : Path) (i : ℕ) (y : Term) (xs : List Term) (u : ℕ)
      → Enough extra (equal_fields c C S i y xs u) (equal_fields d C S i y xs (u + extra))
  enough_fields c d a C S i y [] u = refl
  enough_fields c d a C S i y (z ∷ xs) u =
      let rest : (v : ℕ) → Enough extra (equal_fields c C S (suc i) y xs v) (equal_fields d C S (suc i) y xs (v + extra)) = λ v. enough_fields c d a C S
      (suc i) y xs v in
      search (enough, enough_and, rest, a.equal) depth 10

  enough_eta_at : (c d : Calls) → Suffice extra c d → (C : Context) (b : Built) (y h : Term) (ps : List Term) (u : ℕ)
      → Enough extra (eta_at c C b y h ps u) (eta_at d C b y h ps (u + extra))
  enough_eta_at c d a C b y (const n ls) ps u = search (enough, enough_and, enough_all c d a, enough_fields c d a) depth 10
  enough_eta_at c d a C b y _ ps u = refl

  enough_eta_against : (c d : Calls) → Suffice extra c d → (C : Context) (b : Built) (y : Term) (o : Option Term) (u : ℕ)
      → Enough extra (eta_against c C b y o u) (eta_against d C b y o (u + extra))
  enough_eta_against c d a C b y (Some W) u = enough_eta_at c d a C b y (head_of W) (arguments_of W) u
  enough_eta_against c d a C b y None u = refl

  enough_type_form : (c d : Calls) → Suffice extra c d → (C : Context) (y : Term) (u : ℕ) → Enough extra (type_form c C y u) (type_form d C y (u + extra))
  enough_type_form c d a C y u = search (enough, a.infer, a.whnf) depth 8

  enough_eta_built : (c d : Calls) → Suffice extra c d → (C : Context) (y : Term) (o : Option Built) (u : ℕ)
      → Enough extra (eta_built c C y o u) (eta_built d C y o (u + extra))
  enough_eta_built c d a C y (Some b) u = search (enough, enough_type_form c d a, enough_eta_against c d a) depth 8
  enough_eta_built c d a C y None u = refl

  enough_against_built : (c d : Calls) → Suffice extra c d → (C : Context) (l r : Term) (u : ℕ)
      → Enough extra (against_built V c C l r u) (against_built V d C l r (u + extra))
  enough_against_built c d a C l r u = search (enough, enough_built, enough_eta_built c d a) depth 8

  enough_structures : (c d : Calls) → Suffice extra c d → (C : Context) (l r : Term) (u : ℕ)
      → Enough extra (by_structures V c C l r u) (by_structures V d C l r (u + extra))
  enough_structures c d a C l r u = search (enough, enough_or, enough_against_built c d a) depth 10

  enough_of_body : (b : KnownBody) (u : ℕ) → Enough extra (of_body b u) (of_body b (u + extra))
  enough_of_body (value v h) u = refl
  enough_of_body opaque u = refl
  enough_of_body (unresolved k) u = refl

  enough_definition_seen : (n : Path) (ls : List Universe) (q : Seen) (u : ℕ)
      → Enough extra (definition_seen V n ls q u) (definition_seen V n ls q (u + extra))
  enough_definition_seen n ls (known k) u =
      enough_choose extra (nat_eq (length ls) (length k.levels)) (of_body (body_of V n)) (gives None) (of_body (body_of V n)) (gives None) u
      (enough_of_body (body_of V n) u) refl
  enough_definition_seen n ls unknown u = refl
  enough_definition_seen n ls (missing k) u = refl

  enough_definition : (h : Term) (u : ℕ) → Enough extra (definition_of V h u) (definition_of V h (u + extra))
  enough_definition (const n ls) u = enough_definition_seen n ls (see V n) u
  enough_definition _ u = refl

  enough_height : (l r : Term) (p q : Option Definition) (u : ℕ) → Enough extra (by_height l r p q u) (by_height l r p q (u + extra))
  enough_height l r None None u = refl
  enough_height l r (Some p) None u = search (enough) depth 8
  enough_height l r None (Some q) u = search (enough) depth 8
  enough_height l r (Some p) (Some q) u = search (enough) depth 10

  pub enough_unfolding : (l r : Term) (u : ℕ) → Enough extra (by_unfolding V l r u) (by_unfolding V l r (u + extra))
  enough_unfolding l r u = search (enough, enough_definition, enough_height) depth 8

  enough_types : (c d : Calls) → Suffice extra c d → (C : Context) (l r : Term) (u : ℕ) → Enough extra (by_types V c C l r u) (by_types V d C l r (u + extra))
  enough_types c d a C l r u =
      enough_or (by_proofs c C l r) (or_else (by_eta c C l r) (by_structures V c C l r)) (by_proofs d C l r)
      (or_else (by_eta d C l r) (by_structures V d C l r)) u
      (enough_proofs c d a C l r u) λ v.
      enough_or (by_eta c C l r) (by_structures V c C l r) (by_eta d C l r) (by_structures V d C l r) v (enough_eta c d a C l r v)
      (λ w. enough_structures c d a C l r w)

  enough_heads : (c d : Calls) → Suffice extra c d → (C : Context) (l r : Term) (u : ℕ) → Enough extra (by_heads V c C l r u) (by_heads V d C l r (u + extra))
  enough_heads c d a C l r u =
      enough_or (by_literals c C l r) (or_else (by_arguments c C l r) (by_unfolding V l r)) (by_literals d C l r)
      (or_else (by_arguments d C l r) (by_unfolding V l r)) u (enough_literals c d a C l r u) λ v.
      enough_or (by_arguments c C l r) (by_unfolding V l r) (by_arguments d C l r) (by_unfolding V l r) v (enough_arguments c d a C l r v)
      (λ w. enough_unfolding l r w)

  enough_turn : (c d : Calls) → Suffice extra c d → (C : Context) (l r : Term) (u : ℕ)
      → Enough extra (equal_turn V c C l r u) (equal_turn V d C l r (u + extra))
  enough_turn c d a C l r u =
      let m4 : Run Verdict = or_else (by_types V c C l r) (by_heads V c C l r) in
      let n4 : Run Verdict = or_else (by_types V d C l r) (by_heads V d C l r) in
      let m3 : Run Verdict = or_else (by_whnf c C l r) m4 in
      let n3 : Run Verdict = or_else (by_whnf d C l r) n4 in
      let m2 : Run Verdict = or_else (by_form c C l r) m3 in
      let n2 : Run Verdict = or_else (by_form d C l r) n3 in
      let first : Run Verdict = gives (when_true (same l r)) in
      enough_or first m2 first n2 u refl λ v1.
      enough_or (by_form c C l r) m3 (by_form d C l r) n3 v1 (enough_form c d a C l r v1) λ v2.
      enough_or (by_whnf c C l r) m4 (by_whnf d C l r) n4 v2 (enough_by_whnf c d a C l r v2) λ v3.
      enough_or (by_types V c C l r) (by_heads V c C l r) (by_types V d C l r) (by_heads V d C l r) v3 (enough_types c d a C l r v3) λ v4.
      enough_heads c d a C l r v4

  enough_equal_loop : (c d : Calls) → Suffice extra c d → (C : Context) (n : ℕ) (l r : Term) (u : ℕ)
      → Enough extra (equal_loop V c C n l r u) (equal_loop V d C n l r (u + extra))
  enough_equal_loop c d a C zero l r u = tt
  enough_equal_loop c d a C (suc n) l r u =
      enough_then extra (equal_turn V c C l r u) _ _ _ (enough_turn c d a C l r u) (more (λ s t v. enough_equal_loop c d a C n s t v))
    where
      more : ((s t : Term) (v : ℕ) → Enough extra (equal_loop V c C n s t v) (equal_loop V d C n s t (v + extra))) → (p : Verdict) (v : ℕ)
          → Enough extra ((elim p as (λ z. Run Bool) [ decided q ↦ gives q | again s t ↦ equal_loop V c C n s t | undecided ↦ gives false ]) v)
          ((elim p as (λ z. Run Bool) [ decided q ↦ gives q | again s t ↦ equal_loop V d C n s t | undecided ↦ gives false ]) (v + extra))
      more g (decided q) v = refl
      more g (again s t) v = g s t v
      more g undecided v = refl

  enough_equal : (c d : Calls) → Suffice extra c d → (C : Context) (l r : Term) (u : ℕ)
      → Enough extra (equal_body V c C l r u) (equal_body V d C l r (u + extra))
  unfolding equal_body
  enough_equal c d a C l r u = enough_equal_loop c d a C turn_limit l r u

  -- normalize

  enough_normalize_all : (c d : Calls) → Suffice extra c d → (C : Context) (xs : List Term) (u : ℕ)
      → Enough extra (normalize_all c C xs u) (normalize_all d C xs (u + extra))
  enough_normalize_all c d a C [] u = refl
  enough_normalize_all c d a C (x ∷ xs) u =
      let rest : (v : ℕ) → Enough extra (normalize_all c C xs v) (normalize_all d C xs (v + extra)) = λ v. enough_normalize_all c d a C xs v in
      search (enough, rest, a.normalize) depth 8

  enough_normalize_binder : (c d : Calls) → Suffice extra c d → (C : Context) (A b : Term) (u : ℕ)
      → Enough extra (normalize_body_of_binder c C A b u) (normalize_body_of_binder d C A b (u + extra))
  enough_normalize_binder c d a C A b u = search (enough, a.normalize) depth 8

  enough_normalize_head : (c d : Calls) → Suffice extra c d → (C : Context) (h : Term) (u : ℕ)
      → Enough extra (normalize_head c C h u) (normalize_head d C h (u + extra))
  enough_normalize_head c d a C (proj S i t) u = search (enough, a.normalize) depth 6
  enough_normalize_head c d a C _ u = refl

  enough_normalize_arguments : (c d : Calls) → Suffice extra c d → (C : Context) (t : Term) (u : ℕ)
      → Enough extra (normalize_arguments c C t u) (normalize_arguments d C t (u + extra))
  enough_normalize_arguments c d a C t u = search (enough, enough_normalize_all c d a, enough_normalize_head c d a) depth 10

  enough_parts : (c d : Calls) → Suffice extra c d → (C : Context) (t : Term) (u : ℕ)
      → Enough extra (normalize_parts c C t u) (normalize_parts d C t (u + extra))
  enough_parts c d a C (lam x A b) u = search (enough, enough_normalize_binder c d a, a.normalize) depth 8
  enough_parts c d a C (pi x A b) u = search (enough, enough_normalize_binder c d a, a.normalize) depth 8
  enough_parts c d a C t u = enough_normalize_arguments c d a C t u

  enough_normalize : (c d : Calls) → Suffice extra c d → (C : Context) (t : Term) (u : ℕ)
      → Enough extra (normalize_body c C t u) (normalize_body d C t (u + extra))
  unfolding normalize_body
  enough_normalize c d a C t u = search (enough, enough_parts c d a, a.whnf) depth 8

  -- The calls

  enough_turn_of : (c d : Calls) → Suffice extra c d → Suffice extra (turn V c) (turn V d)
  enough_turn_of c d a = record {
    whnf = λ f C t u. enough_spend extra 1 (whnf_body V c f C t) (whnf_body V d f C t) u (λ v. enough_whnf V extra c d a f C t v);
    equal = λ C l r u. enough_spend extra 1 (equal_body V c C l r) (equal_body V d C l r) u (λ v. enough_equal c d a C l r v);
    infer = λ m C t u. enough_spend extra 1 (infer_body V c m C t) (infer_body V d m C t) u (λ v. enough_infer V extra c d a m C t v);
    normalize = λ C t u. enough_spend extra 1 (normalize_body c C t) (normalize_body d C t) u (λ v. enough_normalize c d a C t v);
  }

  pub calls_suffice : (n deeper : ℕ) → Suffice extra (calls V n) (calls V (n + deeper))
  calls_suffice zero deeper = record { whnf = λ f C t u. tt; equal = λ C a b u. tt; infer = λ m C t u. tt; normalize = λ C t u. tt }
  calls_suffice (suc n) deeper =
      let e : suc (n + deeper) ≡ suc n + deeper = omega arith in
      subst (λ d. Suffice extra (calls V (suc n)) (calls V d)) e (enough_turn_of (calls V n) (calls V (n + deeper)) (calls_suffice n deeper))
