-- Weak head forms: never refused, and what they wait for.
use Rattle.std.proofs.Common.{◌+◌, ℕ, zero, suc, Bool, true, false, List, [], ◌∷◌, Option, Some, None}
use Rattle.lf_core.specs.Term.{Path, Universe, Term, const, lam, letin, lit, proj}
use Rattle.lf_core.specs.Spine.{head_of, arguments_of}
use Rattle.lf_rules.specs.Environment.{Context}
use Rattle.lf_core.specs.Literal.{literal_operation}
use Rattle.lf_core.specs.declared.constant.Detail.{Detail}
use Rattle.lf_core.specs.declared.constant.Detail.TheVariants.{Ind, Ctor, Rec}
use Rattle.lf_core.specs.declared.constant.TaskKey.{TaskKey}
use Rattle.lf_core.specs.declared.literal.LitOut.{LitOut}
use Rattle.lf_checker.specs.View.{View, KnownBody, value, opaque, unresolved, body_of}
use Rattle.lf_checker.specs.Extends.{Shape}
use Rattle.lf_checker.specs.Run.{Run, gives}
use Rattle.lf_checker.specs.Calls.{Calls, Seen, known, unknown, missing, see}
use Rattle.lf_checker.specs.Structures.{Structure, by_type, structure_seen, constructor_seen, structure_of}
use Rattle.lf_checker.specs.Whnf.{
  Progress,
  stays,
  next,
  ends,
  Recursor,
  Split,
  split,
  shared,
  fire_rule,
  fire_detail,
  fire_seen,
  fire_head,
  fire,
  put_in,
  put_in_seen,
  like_k,
  or_like_k,
  at_major,
  recursor_turn,
  operated,
  on_numbers,
  operands,
  literal_turn,
  by_body,
  delta_turn,
  detail_turn,
  constant_turn,
  field_at,
  projected,
  by_field,
  projection_turn,
  head_turn,
  whnf_turn,
  turn_limit,
  whnf_loop,
  whnf_body,
}
use Rattle.lf_extension_laws.proofs.Only.{
  Only,
  SeenIn,
  BodyIn,
  Reads,
  Asks,
  only_then,
  only_spend,
  only_caught,
  only_named,
  only_choose,
  only_put,
  only_made,
  only_opening,
}

ruleset only = (only_then, only_spend, only_caught, only_named, only_choose, only_put, only_made, only_opening)

module _ (V : View) (Key : TaskKey → Type 0) (reads : Reads V Key) (may : Bool) where
  -- structures

  only_constructor_seen : (S : Path) (l p : ℕ) (n : Path) (q : Seen) (u : ℕ) → SeenIn Key q → Only may Key (constructor_seen S l p n q u)
  only_constructor_seen S l p n (known c) u h = tt
  only_constructor_seen S l p n unknown u h = tt
  only_constructor_seen S l p n (missing k) u h = h

  only_by_type : (S : Path) (k : Shape) (d : Detail) (u : ℕ) → Only may Key (by_type V S k d u)
  only_by_type S k (Ind p i (n ∷ []) g) u = search (only, only_constructor_seen, reads.sees) depth 6
  only_by_type S k _ u = tt

  only_structure_seen : (S : Path) (q : Seen) (u : ℕ) → SeenIn Key q → Only may Key (structure_seen V S q u)
  only_structure_seen S (known k) u h = only_by_type S k k.detail u
  only_structure_seen S unknown u h = tt
  only_structure_seen S (missing k) u h = h

  pub only_structure : (S : Path) (u : ℕ) → Only may Key (structure_of V S u)
  only_structure S u = only_structure_seen S (see V S) u (reads.sees S)

  -- whnf

  only_fire_rule : (r : Recursor) (ls : List Universe) (s : Split) (own : ℕ) (ys : List Term) (o : Option Term) (u : ℕ)
      → Only may Key (fire_rule r ls s own ys o u)
  only_fire_rule r ls s own ys (Some t) u = search (only) depth 8
  only_fire_rule r ls s own ys None u = tt

  only_fire_detail : (r : Recursor) (ls : List Universe) (s : Split) (ys : List Term) (d : Detail) (u : ℕ) → Only may Key (fire_detail r ls s ys d u)
  only_fire_detail r ls s ys (Ctor i x o f) u = search (only, only_fire_rule) depth 8
  only_fire_detail r ls s ys _ u = tt

  only_fire_seen : (r : Recursor) (ls : List Universe) (s : Split) (ys : List Term) (q : Seen) (u : ℕ) → SeenIn Key q → Only may Key (fire_seen r ls s ys q u)
  only_fire_seen r ls s ys (known c) u h = only_fire_detail r ls s ys c.detail u
  only_fire_seen r ls s ys unknown u h = tt
  only_fire_seen r ls s ys (missing k) u h = h

  only_fire_head : (r : Recursor) (ls : List Universe) (s : Split) (h : Term) (ys : List Term) (u : ℕ) → Only may Key (fire_head V r ls s h ys u)
  only_fire_head r ls s (const n ms) ys u = only_fire_seen r ls s ys (see V n) u (reads.sees n)
  only_fire_head r ls s _ ys u = tt

  only_fire : (r : Recursor) (ls : List Universe) (s : Split) (m : Term) (u : ℕ) → Only may Key (fire V r ls s m u)
  only_fire r ls s m u = only_fire_head r ls s (head_of m) (arguments_of m) u

  only_put_in : (c : Calls) → Asks Key c → (C : Context) (ls : List Universe) (r : Recursor) (s : Split) (w : Term) (n : Path) (u : ℕ)
      → Only may Key (put_in V c C ls r s w n u)
  only_put_in c a C ls r s w n u = search (only, only_fire, a.infer, a.equal) depth 14

  only_put_in_seen : (c : Calls) → Asks Key c → (C : Context) (ls : List Universe) (r : Recursor) (s : Split) (w : Term) (n : Path) (q : Seen) (u : ℕ)
      → SeenIn Key q
      → Only may Key (put_in_seen V c C ls r s w n q u)
  only_put_in_seen c a C ls r s w n (known d) u h = search (only, only_put_in c a) depth 6
  only_put_in_seen c a C ls r s w n unknown u h = tt
  only_put_in_seen c a C ls r s w n (missing k) u h = h

  only_like_k : (c : Calls) → Asks Key c → (C : Context) (ls : List Universe) (r : Recursor) (s : Split) (w ty : Term) (d : Detail) (u : ℕ)
      → Only may Key (like_k V c C ls r s w ty d u)
  only_like_k c a C ls r s w ty (Ind p i (n ∷ []) g) u = search (only, only_put_in_seen c a, reads.sees) depth 6
  only_like_k c a C ls r s w ty _ u = tt

  only_or_like_k : (c : Calls) → Asks Key c → (C : Context) (ls : List Universe) (r : Recursor) (s : Split) (w : Term) (type : Shape) (p : Progress) (u : ℕ)
      → Only may Key (or_like_k V c C ls r s w type p u)
  only_or_like_k c a C ls r s w type stays u = only_like_k c a C ls r s w type.ty type.detail u
  only_or_like_k c a C ls r s w type (next t) u = tt
  only_or_like_k c a C ls r s w type (ends t) u = tt

  only_major : (c : Calls) → Asks Key c → (C : Context) (ls : List Universe) (r : Recursor) (s : Split) (q : Seen) (u : ℕ) → SeenIn Key q
      → Only may Key (at_major V c C ls r s q u)
  only_major c a C ls r s (known k) u h = search (only, only_fire, only_or_like_k c a, a.whnf) depth 10
  only_major c a C ls r s unknown u h = tt
  only_major c a C ls r s (missing k) u h = h

  only_recursor : (c : Calls) → Asks Key c → (C : Context) (ls : List Universe) (r : Recursor) (o : Option Split) (u : ℕ)
      → Only may Key (recursor_turn V c C ls r o u)
  only_recursor c a C ls r (Some s) u = only_major c a C ls r s (see V r.ind) u (reads.sees r.ind)
  only_recursor c a C ls r None u = tt

  only_operated : (o : Option LitOut) (m : Run Progress) (u : ℕ) → Only may Key (m u) → Only may Key (operated o m u)
  only_operated (Some r) m u h = tt
  only_operated None m u h = h

  only_numbers : (n : Path) (p q : Option ℕ) (m : Run Progress) (u : ℕ) → ((v : ℕ) → Only may Key (m v)) → Only may Key (on_numbers n p q m u)
  only_numbers n (Some i) (Some j) m u h = only_operated (literal_operation n i j) m u (h u)
  only_numbers n (Some i) None m u h = h u
  only_numbers n None q m u h = h u

  only_operands : (c : Calls) → Asks Key c → (C : Context) (n : Path) (x y : Term) (m : Run Progress) (u : ℕ) → ((v : ℕ) → Only may Key (m v))
      → Only may Key (operands c C n x y m u)
  only_operands c a C n x y m u h = search (only, only_numbers, a.whnf, h) depth 10

  only_literal : (c : Calls) → Asks Key c → (C : Context) (n : Path) (ls : List Universe) (xs : List Term) (m : Run Progress) (u : ℕ)
      → ((v : ℕ) → Only may Key (m v)) → Only may Key (literal_turn c C n ls xs m u)
  only_literal c a C n [] (lit k ∷ []) m u h = search (only, h) depth 6
  only_literal c a C n [] (x ∷ y ∷ []) m u h = search (only, only_operands c a, h) depth 6
  only_literal c a C n _ _ m u h = h u

  only_body : (ls : List Universe) (xs : List Term) (b : KnownBody) (u : ℕ) → BodyIn Key b → Only may Key (by_body ls xs b u)
  only_body ls xs (value v h) u e = search (only) depth 6
  only_body ls xs opaque u e = tt
  only_body ls xs (unresolved k) u e = e

  only_delta : (d : Bool) (n : Path) (ls : List Universe) (xs : List Term) (u : ℕ) → Only may Key (delta_turn V d n ls xs u)
  only_delta true n ls xs u = only_body ls xs (body_of V n) u (reads.bodies n)
  only_delta false n ls xs u = tt

  only_detail : (c : Calls) → Asks Key c → (d : Bool) (C : Context) (n : Path) (ls : List Universe) (xs : List Term) (e : Detail) (u : ℕ)
      → Only may Key (detail_turn V c d C n ls xs e u)
  only_detail c a d C n ls xs (Rec ind params minors indices rules) u =
      let r : Recursor = record { ind = ind; params = params; minors = minors; indices = indices; rules = rules } in
      only_recursor c a C ls r (split (shared r + indices) xs) u
  only_detail c a d C n ls xs _ u = only_literal c a C n ls xs (delta_turn V d n ls xs) u (λ v. only_delta d n ls xs v)

  only_constant : (c : Calls) → Asks Key c → (d : Bool) (C : Context) (n : Path) (ls : List Universe) (xs : List Term) (q : Seen) (u : ℕ) → SeenIn Key q
      → Only may Key (constant_turn V c d C n ls xs q u)
  only_constant c a d C n ls xs (known k) u h = search (only, only_detail c a) depth 6
  only_constant c a d C n ls xs unknown u h = tt
  only_constant c a d C n ls xs (missing k) u h = h

  only_projected : (xs : List Term) (o : Option Term) (u : ℕ) → Only may Key (projected xs o u)
  only_projected xs (Some x) u = search (only) depth 6
  only_projected xs None u = tt

  only_by_field : (i : ℕ) (xs : List Term) (w : Term) (o : Option Structure) (u : ℕ) → Only may Key (by_field i xs w o u)
  only_by_field i xs w (Some s) u = only_projected xs (field_at s i (head_of w) (arguments_of w)) u
  only_by_field i xs w None u = tt

  only_projection : (c : Calls) → Asks Key c → (C : Context) (S : Path) (i : ℕ) (t : Term) (xs : List Term) (u : ℕ)
      → Only may Key (projection_turn V c C S i t xs u)
  only_projection c a C S i t xs u = search (only, only_structure, only_by_field, a.whnf) depth 8

  only_head : (c : Calls) → Asks Key c → (d : Bool) (C : Context) (h : Term) (xs : List Term) (u : ℕ) → Only may Key (head_turn V c d C h xs u)
  only_head c a d C (letin x A v b) xs u = search (only) depth 6
  only_head c a d C (lam x A b) (t ∷ xs) u = search (only) depth 6
  only_head c a d C (const n ls) xs u = only_constant c a d C n ls xs (see V n) u (reads.sees n)
  only_head c a d C (proj S i t) xs u = only_projection c a C S i t xs u
  only_head c a d C h xs u = tt

  only_loop : (c : Calls) → Asks Key c → (d : Bool) (C : Context) (n : ℕ) (t : Term) (u : ℕ) → Only may Key (whnf_loop V c d C n t u)
  only_loop c a d C zero t u = tt
  only_loop c a d C (suc n) t u = only_then may Key (whnf_turn V c d C t u) _ (only_head c a d C (head_of t) (arguments_of t) u)
      (more (λ s v. only_loop c a d C n s v))
    where
      more : ((s : Term) (v : ℕ) → Only may Key (whnf_loop V c d C n s v)) → (p : Progress) (v : ℕ)
          → Only may Key ((elim p as (λ z. Run Term) [ stays ↦ gives t | next s ↦ whnf_loop V c d C n s | ends s ↦ gives s ]) v)
      more g stays v = tt
      more g (next s) v = g s v
      more g (ends s) v = tt

  pub only_whnf : (c : Calls) → Asks Key c → (d : Bool) (C : Context) (t : Term) (u : ℕ) → Only may Key (whnf_body V c d C t u)
  unfolding whnf_body
  only_whnf c a d C t u = only_loop c a d C turn_limit t u
