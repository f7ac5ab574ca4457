-- Inference, normal forms, and with them the four functions: which of them refuse, and what they wait for.
use Rattle.std.proofs.Common.{ℕ, zero, suc, Bool, true, List, [], ◌∷◌, Option, Some, None}
use Rattle.lf_core.specs.Term.{Path, Universe, Term, bound, free, meta, sort, const, app, lam, pi, letin, lit, proj}
use Rattle.lf_core.specs.declared.constant.TaskKey.{TaskKey}
use Rattle.lf_rules.specs.Environment.{Context}
use Rattle.lf_checker.specs.View.{View}
use Rattle.lf_checker.specs.Run.{Run}
use Rattle.lf_checker.specs.Calls.{Mode, checked, unchecked, Calls, Seen, known, unknown, missing, see}
use Rattle.lf_checker.specs.Structures.{Structure}
use Rattle.lf_checker.specs.Whnf.{whnf_body}
use Rattle.lf_checker.specs.Equal.{equal_body}
use Rattle.lf_checker.specs.Infer.{
  of_context,
  of_metavariable,
  of_constant,
  on_sort,
  on_pi,
  sort_of,
  is_type,
  argument_fits,
  value_fits,
  domain_at,
  of_structure,
  on_structure,
  infer_body,
}
use Rattle.lf_checker.specs.Normalize.{normalize_all, normalize_body_of_binder, normalize_head, normalize_arguments, normalize_parts, normalize_body}
use Rattle.lf_checker.specs.Checker.{calls}
use Rattle.lf_extension_laws.proofs.Only.{
  Only,
  SeenIn,
  Reads,
  Asks,
  only_then,
  only_spend,
  only_caught,
  only_named,
  only_choose,
  only_put,
  only_made,
  only_opening,
}
use Rattle.lf_extension_laws.proofs.OnlyWhnf.{only_structure, only_whnf}
use Rattle.lf_extension_laws.proofs.OnlyEqual.{only_equal}

ruleset only = (only_then, only_spend, only_caught, only_named, only_choose, only_put, only_made, only_opening)

module _ (Key : TaskKey → Type 0) (may : Bool) where
  -- normalize

  only_normalize_all : (c : Calls) → Asks Key c → (C : Context) (xs : List Term) (u : ℕ) → Only may Key (normalize_all c C xs u)
  only_normalize_all c a C [] u = tt
  only_normalize_all c a C (x ∷ xs) u =
      let rest : (v : ℕ) → Only may Key (normalize_all c C xs v) = λ v. only_normalize_all c a C xs v in
      search (only, rest, a.normalize) depth 8

  only_binder : (c : Calls) → Asks Key c → (C : Context) (A b : Term) (u : ℕ) → Only may Key (normalize_body_of_binder c C A b u)
  only_binder c a C A b u = search (only, a.normalize) depth 8

  only_normalize_head : (c : Calls) → Asks Key c → (C : Context) (h : Term) (u : ℕ) → Only may Key (normalize_head c C h u)
  only_normalize_head c a C (proj S i t) u = search (only, a.normalize) depth 6
  only_normalize_head c a C _ u = tt

  only_normalize_arguments : (c : Calls) → Asks Key c → (C : Context) (t : Term) (u : ℕ) → Only may Key (normalize_arguments c C t u)
  only_normalize_arguments c a C t u = search (only, only_normalize_all c a, only_normalize_head c a) depth 10

  only_parts : (c : Calls) → Asks Key c → (C : Context) (t : Term) (u : ℕ) → Only may Key (normalize_parts c C t u)
  only_parts c a C (lam x A b) u = search (only, only_binder c a, a.normalize) depth 8
  only_parts c a C (pi x A b) u = search (only, only_binder c a, a.normalize) depth 8
  only_parts c a C t u = only_normalize_arguments c a C t u

  pub only_normalize : (c : Calls) → Asks Key c → (C : Context) (t : Term) (u : ℕ) → Only may Key (normalize_body c C t u)
  unfolding normalize_body
  only_normalize c a C t u = search (only, only_parts c a, a.whnf) depth 8

module _ (V : View) (Key : TaskKey → Type 0) (reads : Reads V Key) where
  only_of_context : (o : Option Term) (u : ℕ) → Only true Key (of_context o u)
  only_of_context (Some A) u = tt
  only_of_context None u = tt

  only_of_metavariable : (m : Mode) (k u : ℕ) → Only true Key (of_metavariable m k u)
  only_of_metavariable checked k u = tt
  only_of_metavariable (unchecked ts) k u = search (only_of_context)

  only_of_constant : (n : Path) (ls : List Universe) (q : Seen) (u : ℕ) → SeenIn Key q → Only true Key (of_constant n ls q u)
  only_of_constant n ls (known c) u h = search (only) depth 8
  only_of_constant n ls unknown u h = tt
  only_of_constant n ls (missing k) u h = h

  only_on_sort : (S W : Term) (u : ℕ) → Only true Key (on_sort S W u)
  only_on_sort S (sort l) u = tt
  only_on_sort S _ u = tt

  only_on_pi : {A : Type 0} (F P : Term) (f : Term → Term → Run A) (u : ℕ) → ((X B : Term) → Only true Key (f X B u))
      → Only true Key (on_pi F P f u)
  only_on_pi F (pi x X B) f u h = h X B
  only_on_pi F _ f u h = tt

  pub only_sort : (c : Calls) → Asks Key c → (m : Mode) (C : Context) (A : Term) (u : ℕ) → Only true Key (sort_of c m C A u)
  only_sort c a m C A u = search (only, a.infer, a.whnf, only_on_sort) depth 10

  only_is_type : (c : Calls) → Asks Key c → (m : Mode) (C : Context) (A : Term) (u : ℕ) → Only true Key (is_type c m C A u)
  only_is_type c a checked C A u = search (only, only_sort c a) depth 8
  only_is_type c a (unchecked ts) C A u = tt

  only_argument : (c : Calls) → Asks Key c → (m : Mode) (C : Context) (t A : Term) (u : ℕ) → Only true Key (argument_fits c m C t A u)
  only_argument c a checked C t A u = search (only, a.infer, a.equal) depth 10
  only_argument c a (unchecked ts) C t A u = tt

  only_value : (c : Calls) → Asks Key c → (m : Mode) (C : Context) (t A : Term) (u : ℕ) → Only true Key (value_fits c m C t A u)
  only_value c a checked C t A u = search (only, only_sort c a, a.infer, a.equal) depth 12
  only_value c a (unchecked ts) C t A u = tt

  only_domain : (has T : Term) (ys : List Term) (u : ℕ) → Only true Key (domain_at has T ys u)
  only_domain has (pi x A B) [] u = tt
  only_domain has (pi x A B) (y ∷ ys) u = search (only, λ (D : Term) (v : ℕ). only_domain has D ys v) depth 10
  only_domain has (bound i) ys u = tt
  only_domain has (free k) ys u = tt
  only_domain has (meta k) ys u = tt
  only_domain has (sort l) ys u = tt
  only_domain has (const n ls) ys u = tt
  only_domain has (app f t) ys u = tt
  only_domain has (lam x A b) ys u = tt
  only_domain has (letin x A v b) ys u = tt
  only_domain has (lit n) ys u = tt
  only_domain has (proj s i t) ys u = tt

  only_of_structure : (has : Term) (S : Path) (i : ℕ) (t : Term) (ls : List Universe) (ps : List Term) (o : Option Structure) (u : ℕ)
      → Only true Key (of_structure has S i t ls ps o u)
  only_of_structure has S i t ls ps (Some s) u = search (only, only_domain) depth 10
  only_of_structure has S i t ls ps None u = tt

  only_on_structure : (T : Term) (S : Path) (i : ℕ) (t h : Term) (ps : List Term) (u : ℕ) → Only true Key (on_structure V T S i t h ps u)
  only_on_structure T S i t (const n ls) ps u = search (only, only_structure V Key reads true, only_of_structure) depth 10
  only_on_structure T S i t _ ps u = tt

  only_infer : (c : Calls) → Asks Key c → (m : Mode) (C : Context) (t : Term) (u : ℕ) → Only true Key (infer_body V c m C t u)
  unfolding infer_body
  only_infer c a m C (bound i) u = tt
  only_infer c a m C (free k) u = search (only_of_context)
  only_infer c a m C (meta k) u = search (only_of_metavariable)
  only_infer c a m C (sort l) u = search (only)
  only_infer c a m C (const n ls) u = only_of_constant n ls (see V n) u (reads.sees n)
  only_infer c a m C (lit n) u = tt
  only_infer c a m C (app f y) u = search (only, only_argument c a, only_on_pi, a.infer, a.whnf) depth 14
  only_infer c a m C (lam y A b) u = search (only, only_is_type c a, a.infer) depth 16
  only_infer c a m C (pi y A B) u = search (only, only_sort c a) depth 16
  only_infer c a m C (letin y A v b) u = search (only, only_value c a, a.infer) depth 14
  only_infer c a m C (proj S i t) u = search (only, only_on_structure, a.infer, a.whnf) depth 12

  pub calls_ask : (n : ℕ) → Asks Key (calls V n)
  calls_ask zero = record { whnf = λ may d C t u. tt; equal = λ may C s t u. tt; infer = λ m C t u. tt; normalize = λ may C t u. tt }
  calls_ask (suc n) =
      let c : Calls = calls V n in
      let a : Asks Key c = calls_ask n in
      record {
        whnf = λ may d C t u. only_spend may Key 1 (whnf_body V c d C t) u (λ v. only_whnf V Key reads may c a d C t v);
        equal = λ may C s t u. only_spend may Key 1 (equal_body V c C s t) u (λ v. only_equal V Key reads may c a C s t v);
        infer = λ m C t u. only_spend true Key 1 (infer_body V c m C t) u (λ v. only_infer c a m C t v);
        normalize = λ may C t u. only_spend may Key 1 (normalize_body c C t) u (λ v. only_normalize Key may c a C t v);
      }
