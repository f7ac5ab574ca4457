-- Equality: never refused, and what it waits for.
use Rattle.std.proofs.Common.{◌^◌, ◌&&◌, ℕ, zero, suc, Bool, true, false, nat_lt, List, [], ◌∷◌, Option, Some, None}
use Rattle.lf_core.specs.Term.{Path, Universe, Term, sort, const, app, lam, pi, lit, proj}
use Rattle.lf_core.specs.Same.{same}
use Rattle.lf_core.specs.Spine.{head_of, arguments_of}
use Rattle.lf_rules.specs.Environment.{Context, nat_succ}
use Rattle.lf_core.specs.declared.constant.Detail.{Detail}
use Rattle.lf_core.specs.declared.constant.Detail.TheVariants.{Ctor}
use Rattle.lf_core.specs.declared.constant.TaskKey.{TaskKey}
use Rattle.lf_checker.specs.View.{View, KnownBody, value, opaque, unresolved}
use Rattle.lf_checker.specs.Run.{Run, ◌>>=◌, gives}
use Rattle.lf_checker.specs.Calls.{Calls, Seen, known, unknown, missing, see}
use Rattle.lf_checker.specs.Whnf.{turn_limit}
use Rattle.lf_checker.specs.Equal.{
  Verdict,
  decided,
  again,
  undecided,
  decided_by,
  or_else,
  decides,
  when_true,
  and_then,
  equal_binders,
  by_form,
  by_whnf,
  proposition_of,
  proves,
  by_proofs,
  expanded,
  expansion_of,
  eta_expansion,
  against_left,
  against_right,
  by_eta,
  by_predecessors,
  by_literals,
  equal_heads,
  equal_all,
  by_arguments,
  Built,
  built_detail,
  built_seen,
  built_of,
  equal_fields,
  eta_at,
  eta_against,
  type_form,
  eta_built,
  against_built,
  by_structures,
  Definition,
  of_body,
  definition_seen,
  definition_of,
  by_height,
  by_unfolding,
  by_types,
  by_heads,
  equal_turn,
  equal_loop,
  equal_body,
}
use Rattle.lf_extension_laws.proofs.Only.{
  Only,
  SeenIn,
  BodyIn,
  Reads,
  Asks,
  only_then,
  only_spend,
  only_caught,
  only_named,
  only_choose,
  only_put,
  only_made,
  only_opening,
}
use Rattle.lf_extension_laws.proofs.OnlyWhnf.{only_structure}

ruleset only = (only_then, only_spend, only_caught, only_named, only_choose, only_put, only_made, only_opening)

module _ (V : View) (Key : TaskKey → Type 0) (reads : Reads V Key) (may : Bool) where
  -- equal

  only_decided : (v : Verdict) (m : Run Verdict) (u : ℕ) → Only may Key (m u) → Only may Key (decided_by v m u)
  only_decided undecided m u h = h
  only_decided (decided r) m u h = tt
  only_decided (again s t) m u h = tt

  only_or : (m n : Run Verdict) (u : ℕ) → Only may Key (m u) → ((v : ℕ) → Only may Key (n v)) → Only may Key (or_else m n u)
  only_or m n u h g = only_then may Key (m u) (λ v. decided_by v n) h (λ v w. only_decided v n w (g w))

  only_and : (r : Bool) (m : Run Bool) (u : ℕ) → Only may Key (m u) → Only may Key (and_then r m u)
  only_and true m u h = h
  only_and false m u h = tt

  only_binders : (c : Calls) → Asks Key c → (C : Context) (A b B e : Term) (u : ℕ) → Only may Key (equal_binders c C A b B e u)
  only_binders c a C A b B e u = search (only, only_and, a.equal) depth 12

  only_form : (c : Calls) → Asks Key c → (C : Context) (l r : Term) (u : ℕ) → Only may Key (by_form c C l r u)
  only_form c a C (sort m) (sort n) u = tt
  only_form c a C (pi y A b) (pi z B e) u = search (only, only_binders c a) depth 6
  only_form c a C (lam y A b) (lam z B e) u = search (only, only_binders c a) depth 6
  only_form c a C _ _ u = tt

  only_by_whnf : (c : Calls) → Asks Key c → (C : Context) (l r : Term) (u : ℕ) → Only may Key (by_whnf c C l r u)
  only_by_whnf c a C l r u = search (only, a.whnf) depth 8

  only_proves : (c : Calls) → Asks Key c → (C : Context) (r : Term) (o : Option Term) (u : ℕ) → Only may Key (proves c C r o u)
  only_proves c a C r None u = tt
  only_proves c a C r (Some P) u = search (only, a.infer, a.equal) depth 10

  only_proposition : (c : Calls) → Asks Key c → (C : Context) (l : Term) (u : ℕ) → Only may Key (proposition_of c C l u)
  only_proposition c a C l u = search (only, a.infer, a.whnf) depth 10

  only_proofs : (c : Calls) → Asks Key c → (C : Context) (l r : Term) (u : ℕ) → Only may Key (by_proofs c C l r u)
  only_proofs c a C l r u = search (only, only_proposition c a, only_proves c a) depth 10

  only_expanded : (t W : Term) (u : ℕ) → Only may Key (expanded t W u)
  only_expanded t (pi x A B) u = search (only) depth 6
  only_expanded t _ u = tt

  only_expansion_of : (c : Calls) → Asks Key c → (C : Context) (t : Term) (o : Option Term) (u : ℕ) → Only may Key (expansion_of c C t o u)
  only_expansion_of c a C t (Some T) u = search (only, only_expanded, a.whnf) depth 8
  only_expansion_of c a C t None u = tt

  only_expansion : (c : Calls) → Asks Key c → (C : Context) (t : Term) (u : ℕ) → Only may Key (eta_expansion c C t u)
  only_expansion c a C t u = search (only, only_expansion_of c a, a.infer) depth 8

  only_left : (c : Calls) → Asks Key c → (C : Context) (l : Term) (o : Option Term) (u : ℕ) → Only may Key (against_left c C l o u)
  only_left c a C l (Some e) u = search (only, a.equal) depth 6
  only_left c a C l None u = tt

  only_right : (c : Calls) → Asks Key c → (C : Context) (l : Term) (o : Option Term) (u : ℕ) → Only may Key (against_right c C l o u)
  only_right c a C l (Some e) u = search (only, a.equal) depth 6
  only_right c a C l None u = tt

  only_to_left : (c : Calls) → Asks Key c → (C : Context) (l r : Term) (u : ℕ) → Only may Key ((eta_expansion c C r >>= λ e. against_left c C l e) u)
  only_to_left c a C l r u = search (only, only_expansion c a, only_left c a) depth 8

  only_to_right : (c : Calls) → Asks Key c → (C : Context) (l r : Term) (u : ℕ) → Only may Key ((eta_expansion c C l >>= λ e. against_right c C r e) u)
  only_to_right c a C l r u = search (only, only_expansion c a, only_right c a) depth 8

  only_eta : (c : Calls) → Asks Key c → (C : Context) (l r : Term) (u : ℕ) → Only may Key (by_eta c C l r u)
  only_eta c a C (lam y A b) (lam z B e) u = tt
  only_eta c a C (lam y A b) r u = only_to_left c a C (lam y A b) r u
  only_eta c a C l (lam z B e) u = only_to_right c a C l (lam z B e) u
  only_eta c a C l r u = tt

  only_predecessors : (n : ℕ) (f : Term) (m : Run Bool) (u : ℕ) → Only may Key (m u) → Only may Key (by_predecessors n f m u)
  only_predecessors n f m u h = only_choose may Key (same f nat_succ && nat_lt n (2 ^ 128)) (decides m) (gives undecided) u
      (only_then may Key (m u) (λ r. gives (decided r)) h (λ r v. tt)) tt

  only_literals : (c : Calls) → Asks Key c → (C : Context) (l r : Term) (u : ℕ) → Only may Key (by_literals c C l r u)
  only_literals c a C (lit (suc n)) (app f t) u = only_predecessors (suc n) f (c.equal C (lit n) t) u (a.equal may C (lit n) t u)
  only_literals c a C (app f t) (lit (suc n)) u = only_predecessors (suc n) f (c.equal C t (lit n)) u (a.equal may C t (lit n) u)
  only_literals c a C (lit m) (lit n) u = tt
  only_literals c a C (lit zero) (const n ls) u = tt
  only_literals c a C (const n ls) (lit zero) u = tt
  only_literals c a C _ _ u = tt

  only_all : (c : Calls) → Asks Key c → (C : Context) (xs ys : List Term) (u : ℕ) → Only may Key (equal_all c C xs ys u)
  only_all c a C (x ∷ xs) (y ∷ ys) u =
      let rest : (v : ℕ) → Only may Key (equal_all c C xs ys v) = λ v. only_all c a C xs ys v in
      search (only, only_and, rest, a.equal) depth 8
  only_all c a C [] [] u = tt
  only_all c a C _ _ u = tt

  only_heads : (c : Calls) → Asks Key c → (C : Context) (l r : Term) (u : ℕ) → Only may Key (equal_heads c C l r u)
  only_heads c a C (const n ls) (const k ms) u = tt
  only_heads c a C (proj S i t) (proj R j s) u = search (only, a.equal) depth 6
  only_heads c a C _ _ u = tt

  only_arguments : (c : Calls) → Asks Key c → (C : Context) (l r : Term) (u : ℕ) → Only may Key (by_arguments c C l r u)
  only_arguments c a C l r u = search (only, only_and, only_heads c a, only_all c a) depth 10

  -- eta for structures

  only_built_detail : (n : Path) (ms : List Universe) (ys : List Term) (d : Detail) (u : ℕ) → Only may Key (built_detail V n ms ys d u)
  only_built_detail n ms ys (Ctor i x o f) u = search (only, only_structure V Key reads may) depth 6
  only_built_detail n ms ys _ u = tt

  only_built_seen : (n : Path) (ms : List Universe) (ys : List Term) (q : Seen) (u : ℕ) → SeenIn Key q → Only may Key (built_seen V n ms ys q u)
  only_built_seen n ms ys (known c) u h = only_built_detail n ms ys c.detail u
  only_built_seen n ms ys unknown u h = tt
  only_built_seen n ms ys (missing k) u h = h

  only_built : (h : Term) (ys : List Term) (u : ℕ) → Only may Key (built_of V h ys u)
  only_built (const n ms) ys u = only_built_seen n ms ys (see V n) u (reads.sees n)
  only_built _ ys u = tt

  only_fields : (c : Calls) → Asks Key c → (C : Context) (S : Path) (i : ℕ) (y : Term) (xs : List Term) (u : ℕ) → Only may Key (equal_fields c C S i y xs u)
  only_fields c a C S i y [] u = tt
  only_fields c a C S i y (x ∷ xs) u =
      let rest : (v : ℕ) → Only may Key (equal_fields c C S (suc i) y xs v) = λ v. only_fields c a C S (suc i) y xs v in
      search (only, only_and, rest, a.equal) depth 10

  only_eta_at : (c : Calls) → Asks Key c → (C : Context) (b : Built) (y h : Term) (ps : List Term) (u : ℕ) → Only may Key (eta_at c C b y h ps u)
  only_eta_at c a C b y (const n ls) ps u = search (only, only_and, only_all c a, only_fields c a) depth 10
  only_eta_at c a C b y _ ps u = tt

  only_eta_against : (c : Calls) → Asks Key c → (C : Context) (b : Built) (y : Term) (o : Option Term) (u : ℕ) → Only may Key (eta_against c C b y o u)
  only_eta_against c a C b y (Some W) u = only_eta_at c a C b y (head_of W) (arguments_of W) u
  only_eta_against c a C b y None u = tt

  only_type_form : (c : Calls) → Asks Key c → (C : Context) (y : Term) (u : ℕ) → Only may Key (type_form c C y u)
  only_type_form c a C y u = search (only, a.infer, a.whnf) depth 8

  only_eta_built : (c : Calls) → Asks Key c → (C : Context) (y : Term) (o : Option Built) (u : ℕ) → Only may Key (eta_built c C y o u)
  only_eta_built c a C y (Some b) u = search (only, only_type_form c a, only_eta_against c a) depth 8
  only_eta_built c a C y None u = tt

  only_against_built : (c : Calls) → Asks Key c → (C : Context) (l r : Term) (u : ℕ) → Only may Key (against_built V c C l r u)
  only_against_built c a C l r u = search (only, only_built, only_eta_built c a) depth 8

  only_structures : (c : Calls) → Asks Key c → (C : Context) (l r : Term) (u : ℕ) → Only may Key (by_structures V c C l r u)
  only_structures c a C l r u = search (only, only_or, only_against_built c a) depth 10

  only_of_body : (b : KnownBody) (u : ℕ) → BodyIn Key b → Only may Key (of_body b u)
  only_of_body (value v h) u e = tt
  only_of_body opaque u e = tt
  only_of_body (unresolved k) u e = e

  only_definition_seen : (n : Path) (ls : List Universe) (q : Seen) (u : ℕ) → SeenIn Key q → Only may Key (definition_seen V n ls q u)
  only_definition_seen n ls (known k) u h = search (only, only_of_body, reads.bodies) depth 6
  only_definition_seen n ls unknown u h = tt
  only_definition_seen n ls (missing k) u h = h

  only_definition : (h : Term) (u : ℕ) → Only may Key (definition_of V h u)
  only_definition (const n ls) u = only_definition_seen n ls (see V n) u (reads.sees n)
  only_definition _ u = tt

  only_height : (l r : Term) (d e : Option Definition) (u : ℕ) → Only may Key (by_height l r d e u)
  only_height l r None None u = tt
  only_height l r (Some d) None u = search (only) depth 8
  only_height l r None (Some e) u = search (only) depth 8
  only_height l r (Some d) (Some e) u = search (only) depth 10

  pub only_unfolding : (l r : Term) (u : ℕ) → Only may Key (by_unfolding V l r u)
  only_unfolding l r u = search (only, only_definition, only_height) depth 8

  only_turn : (c : Calls) → Asks Key c → (C : Context) (l r : Term) (u : ℕ) → Only may Key (equal_turn V c C l r u)
  only_turn c a C l r u =
      let m5 : Run Verdict = by_heads V c C l r in
      let m4 : Run Verdict = or_else (by_types V c C l r) m5 in
      let m3 : Run Verdict = or_else (by_whnf c C l r) m4 in
      let m2 : Run Verdict = or_else (by_form c C l r) m3 in
      only_or (gives (when_true (same l r))) m2 u tt λ v1.
      only_or (by_form c C l r) m3 v1 (only_form c a C l r v1) λ v2.
      only_or (by_whnf c C l r) m4 v2 (only_by_whnf c a C l r v2) λ v3.
      only_or (by_types V c C l r) m5 v3
      (only_or (by_proofs c C l r) (or_else (by_eta c C l r) (by_structures V c C l r)) v3 (only_proofs c a C l r v3)
      (λ w. only_or (by_eta c C l r) (by_structures V c C l r) w (only_eta c a C l r w) (λ z. only_structures c a C l r z))) λ v4.
      only_or (by_literals c C l r) (or_else (by_arguments c C l r) (by_unfolding V l r)) v4 (only_literals c a C l r v4) λ v5.
      only_or (by_arguments c C l r) (by_unfolding V l r) v5 (only_arguments c a C l r v5) λ v6.
      only_unfolding l r v6

  only_equal_loop : (c : Calls) → Asks Key c → (C : Context) (n : ℕ) (l r : Term) (u : ℕ) → Only may Key (equal_loop V c C n l r u)
  only_equal_loop c a C zero l r u = tt
  only_equal_loop c a C (suc n) l r u = only_then may Key (equal_turn V c C l r u) _ (only_turn c a C l r u) (more (λ s t v. only_equal_loop c a C n s t v))
    where
      more : ((s t : Term) (v : ℕ) → Only may Key (equal_loop V c C n s t v)) → (p : Verdict) (v : ℕ)
          → Only may Key ((elim p as (λ z. Run Bool) [ decided q ↦ gives q | again s t ↦ equal_loop V c C n s t | undecided ↦ gives false ]) v)
      more g (decided q) v = tt
      more g (again s t) v = g s t v
      more g undecided v = tt

  pub only_equal : (c : Calls) → Asks Key c → (C : Context) (l r : Term) (u : ℕ) → Only may Key (equal_body V c C l r u)
  unfolding equal_body
  only_equal c a C l r u = only_equal_loop c a C turn_limit l r u
