-- Weak head forms and inference with more nesting and more units.
use Rattle.std.proofs.Common.{ℕ, zero, suc, ◌+◌, Bool, true, false, List, [], ◌∷◌, Option, Some, None, refl}
use Rattle.lf_core.specs.Term.{Path, Universe, Term, sort, const, app, lam, pi, letin, lit, proj, bound, free, meta}
use Rattle.lf_core.specs.Spine.{head_of, arguments_of}
use Rattle.lf_rules.specs.Environment.{Context}
use Rattle.lf_core.specs.Literal.{literal_operation}
use Rattle.lf_core.specs.declared.literal.LitOut.{LitOut}
use Rattle.lf_core.specs.declared.constant.Detail.{Detail}
use Rattle.lf_core.specs.declared.constant.Detail.TheVariants.{Ind, Ctor, Rec}
use Rattle.lf_checker.specs.View.{View, body_of, KnownBody, value, opaque, unresolved}
use Rattle.lf_checker.specs.Extends.{Shape}
use Rattle.lf_checker.specs.Run.{Run, ◌>>=◌, gives}
use Rattle.lf_checker.specs.Calls.{Mode, checked, unchecked, Calls, Seen, known, unknown, missing, see}
use Rattle.lf_checker.specs.Structures.{by_type, structure_seen, constructor_seen, structure_of, Structure}
use Rattle.lf_checker.specs.Whnf.{
  Progress,
  stays,
  next,
  ends,
  Recursor,
  Split,
  fire_seen,
  fire_head,
  fire,
  put_in,
  put_in_seen,
  like_k,
  or_like_k,
  at_major,
  shared,
  split,
  recursor_turn,
  operated,
  on_numbers,
  operands,
  literal_turn,
  by_body,
  delta_turn,
  detail_turn,
  constant_turn,
  projection_turn,
  head_turn,
  whnf_turn,
  turn_limit,
  whnf_loop,
  whnf_body,
  fire_rule,
  fire_detail,
  field_at,
  projected,
  by_field,
}
use Rattle.lf_checker.specs.Infer.{
  of_constant,
  sort_of,
  is_type,
  argument_fits,
  value_fits,
  on_structure,
  infer_body,
  of_context,
  of_metavariable,
  on_sort,
  on_pi,
  domain_at,
  of_structure,
}
use Rattle.lf_extension_laws.specs.Enough.{Enough, Suffice}
use Rattle.lf_extension_laws.proofs.Enough.{
  enough_done,
  enough_refused,
  enough_then,
  enough_spend,
  enough_caught,
  enough_named,
  enough_choose,
  enough_put,
  enough_made,
  enough_opening,
}

ruleset enough = (enough_done, enough_refused, enough_then, enough_spend, enough_caught, enough_named, enough_choose, enough_put, enough_made, enough_opening)

module _ (V : View) (extra : ℕ) where
  -- structures

  enough_constructor_seen : (S : Path) (l p : ℕ) (n : Path) (q : Seen) (u : ℕ)
      → Enough extra (constructor_seen S l p n q u) (constructor_seen S l p n q (u + extra))
  enough_constructor_seen S l p n (known c) u = refl
  enough_constructor_seen S l p n unknown u = refl
  enough_constructor_seen S l p n (missing k) u = refl

  enough_constructor : (S : Path) (l p : ℕ) (n : Path) (u : ℕ)
      → Enough extra (constructor_seen S l p n (see V n) u) (constructor_seen S l p n (see V n) (u + extra))
  enough_constructor S l p n u = enough_constructor_seen S l p n (see V n) u

  enough_by_type : (S : Path) (k : Shape) (e : Detail) (u : ℕ) → Enough extra (by_type V S k e u) (by_type V S k e (u + extra))
  enough_by_type S k (Ind p i (n ∷ []) g) u = search (enough, enough_constructor) depth 6
  enough_by_type S k _ u = refl

  enough_structure_seen : (S : Path) (q : Seen) (u : ℕ) → Enough extra (structure_seen V S q u) (structure_seen V S q (u + extra))
  enough_structure_seen S (known k) u = enough_by_type S k k.detail u
  enough_structure_seen S unknown u = refl
  enough_structure_seen S (missing k) u = refl

  pub enough_structure : (S : Path) (u : ℕ) → Enough extra (structure_of V S u) (structure_of V S (u + extra))
  enough_structure S u = enough_structure_seen S (see V S) u

  -- whnf

  enough_fire_rule : (r : Recursor) (ls : List Universe) (s : Split) (own : ℕ) (ys : List Term) (o : Option Term) (u : ℕ)
      → Enough extra (fire_rule r ls s own ys o u) (fire_rule r ls s own ys o (u + extra))
  enough_fire_rule r ls s own ys (Some t) u = search (enough) depth 8
  enough_fire_rule r ls s own ys None u = refl

  enough_fire_detail : (r : Recursor) (ls : List Universe) (s : Split) (ys : List Term) (e : Detail) (u : ℕ)
      → Enough extra (fire_detail r ls s ys e u) (fire_detail r ls s ys e (u + extra))
  enough_fire_detail r ls s ys (Ctor i x o f) u = search (enough, enough_fire_rule) depth 8
  enough_fire_detail r ls s ys _ u = refl

  enough_fire_seen : (r : Recursor) (ls : List Universe) (s : Split) (ys : List Term) (q : Seen) (u : ℕ)
      → Enough extra (fire_seen r ls s ys q u) (fire_seen r ls s ys q (u + extra))
  enough_fire_seen r ls s ys (known c) u = enough_fire_detail r ls s ys c.detail u
  enough_fire_seen r ls s ys unknown u = refl
  enough_fire_seen r ls s ys (missing k) u = refl

  enough_fire_head : (r : Recursor) (ls : List Universe) (s : Split) (h : Term) (ys : List Term) (u : ℕ)
      → Enough extra (fire_head V r ls s h ys u) (fire_head V r ls s h ys (u + extra))
  enough_fire_head r ls s (const n ms) ys u = enough_fire_seen r ls s ys (see V n) u
  enough_fire_head r ls s _ ys u = refl

  enough_fire : (r : Recursor) (ls : List Universe) (s : Split) (m : Term) (u : ℕ) → Enough extra (fire V r ls s m u) (fire V r ls s m (u + extra))
  enough_fire r ls s m u = enough_fire_head r ls s (head_of m) (arguments_of m) u

  enough_put_in : (c d : Calls) → Suffice extra c d → (C : Context) (ls : List Universe) (r : Recursor) (s : Split) (w : Term) (n : Path) (u : ℕ)
      → Enough extra (put_in V c C ls r s w n u) (put_in V d C ls r s w n (u + extra))
  enough_put_in c d a C ls r s w n u = search (enough, enough_fire, a.infer, a.equal) depth 14

  enough_put_in_seen : (c d : Calls) → Suffice extra c d
      → (C : Context) (ls : List Universe) (r : Recursor) (s : Split) (w : Term) (n : Path) (q : Seen) (u : ℕ)
      → Enough extra (put_in_seen V c C ls r s w n q u) (put_in_seen V d C ls r s w n q (u + extra))
  enough_put_in_seen c d a C ls r s w n (known k) u = search (enough, enough_put_in c d a)
  enough_put_in_seen c d a C ls r s w n unknown u = refl
  enough_put_in_seen c d a C ls r s w n (missing k) u = refl

  enough_see_put_in : (c d : Calls) → Suffice extra c d
      → (C : Context) (ls : List Universe) (r : Recursor) (s : Split) (w : Term) (n : Path) (u : ℕ)
      → Enough extra (put_in_seen V c C ls r s w n (see V n) u) (put_in_seen V d C ls r s w n (see V n) (u + extra))
  enough_see_put_in c d a C ls r s w n u =
      enough_put_in_seen c d a C ls r s w n (see V n) u

  enough_like_k : (c d : Calls) → Suffice extra c d
      → (C : Context) (ls : List Universe) (r : Recursor) (s : Split) (w ty : Term) (e : Detail) (u : ℕ)
      → Enough extra (like_k V c C ls r s w ty e u) (like_k V d C ls r s w ty e (u + extra))
  enough_like_k c d a C ls r s w ty (Ind p i (n ∷ []) g) u = search (enough, enough_see_put_in c d a)
  enough_like_k c d a C ls r s w ty _ u = refl

  enough_or_like_k : (c d : Calls) → Suffice extra c d
      → (C : Context) (ls : List Universe) (r : Recursor) (s : Split) (w : Term) (type : Shape) (p : Progress) (u : ℕ)
      → Enough extra (or_like_k V c C ls r s w type p u) (or_like_k V d C ls r s w type p (u + extra))
  enough_or_like_k c d a C ls r s w type stays u = enough_like_k c d a C ls r s w type.ty type.detail u
  enough_or_like_k c d a C ls r s w type (next t) u = refl
  enough_or_like_k c d a C ls r s w type (ends t) u = refl

  enough_major : (c d : Calls) → Suffice extra c d → (C : Context) (ls : List Universe) (r : Recursor) (s : Split) (q : Seen) (u : ℕ)
      → Enough extra (at_major V c C ls r s q u) (at_major V d C ls r s q (u + extra))
  enough_major c d a C ls r s (known k) u = search (enough, enough_fire, enough_or_like_k c d a, a.whnf) depth 10
  enough_major c d a C ls r s unknown u = refl
  enough_major c d a C ls r s (missing k) u = refl

  enough_recursor : (c d : Calls) → Suffice extra c d → (C : Context) (ls : List Universe) (r : Recursor) (o : Option Split) (u : ℕ)
      → Enough extra (recursor_turn V c C ls r o u) (recursor_turn V d C ls r o (u + extra))
  enough_recursor c d a C ls r None u = refl
  enough_recursor c d a C ls r (Some s) u =
      enough_major c d a C ls r s (see V r.ind) u

  enough_operated : (o : Option LitOut) (m n : Run Progress) (u : ℕ) → Enough extra (m u) (n (u + extra))
      → Enough extra (operated o m u) (operated o n (u + extra))
  enough_operated (Some r) m n u h = refl
  enough_operated None m n u h = h

  enough_numbers : (k : Path) (p q : Option ℕ) (m n : Run Progress) (u : ℕ) → ((v : ℕ) → Enough extra (m v) (n (v + extra)))
      → Enough extra (on_numbers k p q m u) (on_numbers k p q n (u + extra))
  enough_numbers k (Some i) (Some j) m n u h = enough_operated (literal_operation k i j) m n u (h u)
  enough_numbers k _ _ m n u h = h u

  enough_operands : (c d : Calls) → Suffice extra c d → (C : Context) (k : Path) (s t : Term) (m n : Run Progress) (u : ℕ)
      → ((v : ℕ) → Enough extra (m v) (n (v + extra)))
      → Enough extra (operands c C k s t m u) (operands d C k s t n (u + extra))
  enough_operands c d a C k s t m n u h = search (enough, enough_numbers, a.whnf, h) depth 10

  enough_literal : (c d : Calls) → Suffice extra c d → (C : Context) (k : Path) (ls : List Universe) (xs : List Term) (m n : Run Progress) (u : ℕ)
      → ((v : ℕ) → Enough extra (m v) (n (v + extra))) → Enough extra (literal_turn c C k ls xs m u) (literal_turn d C k ls xs n (u + extra))
  enough_literal c d a C k [] (lit i ∷ []) m n u h = search (enough, h)
  enough_literal c d a C k [] (s ∷ t ∷ []) m n u h = search (enough, enough_operands c d a, h)
  enough_literal c d a C k _ _ m n u h = h u

  enough_body : (ls : List Universe) (xs : List Term) (b : KnownBody) (u : ℕ) → Enough extra (by_body ls xs b u) (by_body ls xs b (u + extra))
  enough_body ls xs (value v h) u = search (enough) depth 6
  enough_body ls xs opaque u = refl
  enough_body ls xs (unresolved k) u = refl

  enough_by_body : (n : Path) (ls : List Universe) (xs : List Term) (u : ℕ)
      → Enough extra (by_body ls xs (body_of V n) u) (by_body ls xs (body_of V n) (u + extra))
  enough_by_body n ls xs u = enough_body ls xs (body_of V n) u

  enough_delta : (f : Bool) (n : Path) (ls : List Universe) (xs : List Term) (u : ℕ)
      → Enough extra (delta_turn V f n ls xs u) (delta_turn V f n ls xs (u + extra))
  enough_delta true n ls xs u = enough_by_body n ls xs u
  enough_delta false n ls xs u = refl

  enough_detail : (c d : Calls) → Suffice extra c d
      → (f : Bool) (C : Context) (n : Path) (ls : List Universe) (xs : List Term) (e : Detail) (u : ℕ)
      → Enough extra (detail_turn V c f C n ls xs e u) (detail_turn V d f C n ls xs e (u + extra))
  enough_detail c d a f C n ls xs (Rec ind params minors indices rules) u =
      let r : Recursor = record { ind = ind; params = params; minors = minors; indices = indices; rules = rules } in
      enough_recursor c d a C ls r (split (shared r + indices) xs) u
  enough_detail c d a f C n ls xs _ u = enough_literal c d a C n ls xs (delta_turn V f n ls xs) (delta_turn V f n ls xs) u (λ v. enough_delta f n ls xs v)

  enough_constant : (c d : Calls) → Suffice extra c d
      → (f : Bool) (C : Context) (n : Path) (ls : List Universe) (xs : List Term) (q : Seen) (u : ℕ)
      → Enough extra (constant_turn V c f C n ls xs q u) (constant_turn V d f C n ls xs q (u + extra))
  enough_constant c d a f C n ls xs (known k) u = search (enough, enough_detail c d a)
  enough_constant c d a f C n ls xs unknown u = refl
  enough_constant c d a f C n ls xs (missing k) u = refl

  enough_projected : (xs : List Term) (o : Option Term) (u : ℕ) → Enough extra (projected xs o u) (projected xs o (u + extra))
  enough_projected xs (Some y) u = search (enough) depth 6
  enough_projected xs None u = refl

  enough_by_field : (i : ℕ) (xs : List Term) (w : Term) (o : Option Structure) (u : ℕ) → Enough extra (by_field i xs w o u) (by_field i xs w o (u + extra))
  enough_by_field i xs w (Some s) u = enough_projected xs (field_at s i (head_of w) (arguments_of w)) u
  enough_by_field i xs w None u = refl

  enough_projection : (c d : Calls) → Suffice extra c d → (C : Context) (S : Path) (i : ℕ) (t : Term) (xs : List Term) (u : ℕ)
      → Enough extra (projection_turn V c C S i t xs u) (projection_turn V d C S i t xs (u + extra))
  enough_projection c d a C S i t xs u = search (enough, enough_structure, enough_by_field, a.whnf) depth 8

  enough_head : (c d : Calls) → Suffice extra c d → (f : Bool) (C : Context) (h : Term) (xs : List Term) (u : ℕ)
      → Enough extra (head_turn V c f C h xs u) (head_turn V d f C h xs (u + extra))
  enough_head c d a f C (letin y A v b) xs u = search (enough) depth 6
  enough_head c d a f C (lam y A b) (t ∷ xs) u = search (enough) depth 6
  enough_head c d a f C (const n ls) xs u =
      enough_constant c d a f C n ls xs (see V n) u
  enough_head c d a f C (proj S i t) xs u = enough_projection c d a C S i t xs u
  enough_head c d a f C h xs u = refl

  enough_loop : (c d : Calls) → Suffice extra c d → (f : Bool) (C : Context) (n : ℕ) (t : Term) (u : ℕ)
      → Enough extra (whnf_loop V c f C n t u) (whnf_loop V d f C n t (u + extra))
  enough_loop c d a f C zero t u = tt
  enough_loop c d a f C (suc n) t u =
      enough_then extra (whnf_turn V c f C t u) _ _ _ (enough_head c d a f C (head_of t) (arguments_of t) u)
      (more (λ s v. enough_loop c d a f C n s v))
    where
      more : ((s : Term) (v : ℕ) → Enough extra (whnf_loop V c f C n s v) (whnf_loop V d f C n s (v + extra))) → (p : Progress) (v : ℕ)
          → Enough extra ((elim p as (λ z. Run Term) [ stays ↦ gives t | next s ↦ whnf_loop V c f C n s | ends s ↦ gives s ]) v)
          ((elim p as (λ z. Run Term) [ stays ↦ gives t | next s ↦ whnf_loop V d f C n s | ends s ↦ gives s ]) (v + extra))
      more g stays v = refl
      more g (next s) v = g s v
      more g (ends s) v = refl

  pub enough_whnf : (c d : Calls) → Suffice extra c d → (f : Bool) (C : Context) (t : Term) (u : ℕ)
      → Enough extra (whnf_body V c f C t u) (whnf_body V d f C t (u + extra))
  unfolding whnf_body
  enough_whnf c d a f C t u = enough_loop c d a f C turn_limit t u

  -- infer

  enough_of_context : (o : Option Term) (u : ℕ) → Enough extra (of_context o u) (of_context o (u + extra))
  enough_of_context (Some A) u = refl
  enough_of_context None u = refl

  enough_of_metavariable : (m : Mode) (k u : ℕ) → Enough extra (of_metavariable m k u) (of_metavariable m k (u + extra))
  enough_of_metavariable checked k u = refl
  enough_of_metavariable (unchecked ts) k u = search (enough_of_context)

  enough_of_constant : (n : Path) (ls : List Universe) (q : Seen) (u : ℕ) → Enough extra (of_constant n ls q u) (of_constant n ls q (u + extra))
  enough_of_constant n ls (known c) u = search (enough) depth 8
  enough_of_constant n ls unknown u = refl
  enough_of_constant n ls (missing k) u = refl

  enough_on_sort : (S W : Term) (u : ℕ) → Enough extra (on_sort S W u) (on_sort S W (u + extra))
  enough_on_sort S (sort l) u = refl
  enough_on_sort S _ u = refl

  enough_on_pi : {A : Type 0} (F P : Term) (f g : Term → Term → Run A) (u : ℕ) → ((X B : Term) → Enough extra (f X B u) (g X B (u + extra)))
      → Enough extra (on_pi F P f u) (on_pi F P g (u + extra))
  enough_on_pi F (pi x X B) f g u h = h X B
  enough_on_pi F _ f g u h = refl

  pub enough_sort : (c d : Calls) → Suffice extra c d → (m : Mode) (C : Context) (A : Term) (u : ℕ)
      → Enough extra (sort_of c m C A u) (sort_of d m C A (u + extra))
  enough_sort c d a m C A u = search (enough, enough_on_sort, a.whnf, a.infer) depth 8

  enough_is_type : (c d : Calls) → Suffice extra c d → (m : Mode) (C : Context) (A : Term) (u : ℕ)
      → Enough extra (is_type c m C A u) (is_type d m C A (u + extra))
  enough_is_type c d a checked C A u = search (enough, enough_sort c d a)
  enough_is_type c d a (unchecked ts) C A u = refl

  enough_argument : (c d : Calls) → Suffice extra c d → (m : Mode) (C : Context) (t A : Term) (u : ℕ)
      → Enough extra (argument_fits c m C t A u) (argument_fits d m C t A (u + extra))
  enough_argument c d a checked C t A u = search (enough, a.infer, a.equal) depth 8
  enough_argument c d a (unchecked ts) C t A u = refl

  enough_value : (c d : Calls) → Suffice extra c d → (m : Mode) (C : Context) (t A : Term) (u : ℕ)
      → Enough extra (value_fits c m C t A u) (value_fits d m C t A (u + extra))
  enough_value c d a checked C t A u = search (enough, enough_sort c d a, a.infer, a.equal) depth 10
  enough_value c d a (unchecked ts) C t A u = refl

  enough_domain : (has T : Term) (ys : List Term) (u : ℕ) → Enough extra (domain_at has T ys u) (domain_at has T ys (u + extra))
  enough_domain has (pi x A B) [] u = refl
  enough_domain has (pi x A B) (y ∷ ys) u = search (enough, λ (D : Term) (v : ℕ). enough_domain has D ys v) depth 10
  enough_domain has (bound i) ys u = refl
  enough_domain has (free k) ys u = refl
  enough_domain has (meta k) ys u = refl
  enough_domain has (sort l) ys u = refl
  enough_domain has (const n ls) ys u = refl
  enough_domain has (app f t) ys u = refl
  enough_domain has (lam x A b) ys u = refl
  enough_domain has (letin x A v b) ys u = refl
  enough_domain has (lit n) ys u = refl
  enough_domain has (proj s i t) ys u = refl

  enough_of_structure : (has : Term) (S : Path) (i : ℕ) (t : Term) (ls : List Universe) (ps : List Term) (o : Option Structure) (u : ℕ)
      → Enough extra (of_structure has S i t ls ps o u) (of_structure has S i t ls ps o (u + extra))
  enough_of_structure has S i t ls ps (Some s) u = search (enough, enough_domain) depth 10
  enough_of_structure has S i t ls ps None u = refl

  enough_on_structure : (T : Term) (S : Path) (i : ℕ) (t h : Term) (ps : List Term) (u : ℕ)
      → Enough extra (on_structure V T S i t h ps u) (on_structure V T S i t h ps (u + extra))
  enough_on_structure T S i t (const n ls) ps u = search (enough, enough_structure, enough_of_structure) depth 10
  enough_on_structure T S i t _ ps u = refl

  pub enough_infer : (c d : Calls) → Suffice extra c d → (m : Mode) (C : Context) (t : Term) (u : ℕ)
      → Enough extra (infer_body V c m C t u) (infer_body V d m C t (u + extra))
  unfolding infer_body
  enough_infer c d a m C (const n ls) u = enough_of_constant n ls (see V n) u
  enough_infer c d a m C (app f y) u = search (enough, enough_on_pi, enough_argument c d a, a.infer, a.whnf) depth 14
  enough_infer c d a m C (lam y A b) u = search (enough, enough_is_type c d a, a.infer) depth 14
  enough_infer c d a m C (pi y A B) u = search (enough, enough_sort c d a) depth 14
  enough_infer c d a m C (letin y A v b) u = search (enough, enough_value c d a, a.infer) depth 12
  enough_infer c d a m C (proj S i t) u = search (enough, enough_on_structure, a.infer, a.whnf) depth 10
  enough_infer c d a m C (bound i) u = refl
  enough_infer c d a m C (free k) u = search (enough_of_context)
  enough_infer c d a m C (meta k) u = search (enough_of_metavariable)
  enough_infer c d a m C (sort l) u = search (enough)
  enough_infer c d a m C (lit n) u = refl
