-- The extension law, function by function.
use Rattle.std.proofs.Common.{ℕ, zero, suc, Bool, true, false, ◌+◌, ◌^◌, ◌&&◌, nat_eq, nat_lt, List, [], ◌∷◌, length, Option, Some, None, refl}
use Rattle.lf_core.specs.Term.{Path, Universe, Term, sort, const, app, lam, pi, letin, lit, proj}
use Rattle.lf_core.specs.Spine.{head_of, arguments_of}
use Rattle.lf_core.specs.Same.{same}
use Rattle.lf_rules.specs.Environment.{Context, nat_succ}
use Rattle.lf_core.specs.Literal.{literal_operation}
use Rattle.lf_core.specs.declared.literal.LitOut.{LitOut}
use Rattle.lf_core.specs.declared.constant.Detail.{Detail}
use Rattle.lf_core.specs.declared.constant.Detail.TheVariants.{Ind, Ctor, Rec}
use Rattle.lf_checker.specs.View.{View, body_of}
use Rattle.lf_checker.specs.Extends.{Shape, Tells}
use Rattle.lf_checker.specs.Run.{Run, ◌>>=◌, gives}
use Rattle.lf_checker.specs.Calls.{Mode, checked, unchecked, Calls, Seen, known, unknown, missing, see}
use Rattle.lf_checker.specs.Structures.{by_type, structure_seen, constructor_seen, structure_of}
use Rattle.lf_checker.specs.Whnf.{
  Progress,
  stays,
  next,
  ends,
  Recursor,
  Split,
  fire_seen,
  fire_head,
  fire,
  put_in,
  put_in_seen,
  like_k,
  or_like_k,
  at_major,
  shared,
  split,
  recursor_turn,
  operated,
  on_numbers,
  operands,
  literal_turn,
  by_body,
  delta_turn,
  detail_turn,
  constant_turn,
  projection_turn,
  head_turn,
  whnf_turn,
  turn_limit,
  whnf_loop,
  whnf_body,
}
use Rattle.lf_checker.specs.Infer.{of_constant, sort_of, is_type, argument_fits, value_fits, on_structure, infer_body}
use Rattle.lf_checker.specs.Equal.{
  Verdict,
  decided,
  again,
  undecided,
  decided_by,
  or_else,
  decides,
  when_true,
  and_then,
  equal_binders,
  by_form,
  by_whnf,
  proposition_of,
  proves,
  by_proofs,
  expansion_of,
  eta_expansion,
  against_left,
  against_right,
  by_eta,
  by_predecessors,
  by_literals,
  equal_heads,
  equal_all,
  by_arguments,
  Built,
  built_detail,
  built_seen,
  built_of,
  equal_fields,
  eta_at,
  eta_against,
  type_form,
  eta_built,
  against_built,
  by_structures,
  of_body,
  definition_seen,
  definition_of,
  by_unfolding,
  by_types,
  by_heads,
  equal_turn,
  equal_loop,
  equal_body,
}
use Rattle.lf_checker.specs.Normalize.{normalize_all, normalize_body_of_binder, normalize_head, normalize_arguments, normalize_parts, normalize_body}
use Rattle.lf_checker.specs.Checker.{turn, calls}
use Rattle.lf_extension_laws.specs.Extension.{Kept, Agree}
use Rattle.lf_extension_laws.proofs.Kept.{
  kept_self,
  kept_then,
  kept_caught,
  kept_named,
  kept_spend,
  kept_choose,
  kept_on_pi,
  see_kept,
  body_kept,
  kept_seen,
  kept_body,
}

ruleset kept = (kept_self, kept_then, kept_caught, kept_named, kept_spend, kept_choose, kept_on_pi)

-- structures

kept_constructor : (U V : View) → Tells V U → (S : Path) (l p : ℕ) (n : Path) (u : ℕ)
    → Kept (constructor_seen S l p n (see U n) u) (constructor_seen S l p n (see V n) u)
kept_constructor U V x S l p n u = kept_seen (see U n) (see V n) (λ q. constructor_seen S l p n q u) (λ q. constructor_seen S l p n q u) (λ i. refl)
    (λ q. kept_self (constructor_seen S l p n q u)) (see_kept U V x n)

kept_by_type : (U V : View) → Tells V U → (S : Path) (k : Shape) (e : Detail) (u : ℕ) → Kept (by_type U S k e u) (by_type V S k e u)
kept_by_type U V x S k (Ind p i (n ∷ []) g) u = search (kept, kept_constructor U V x) depth 6
kept_by_type U V x S k _ u = refl

kept_structure_seen : (U V : View) → Tells V U → (S : Path) (q : Seen) (u : ℕ) → Kept (structure_seen U S q u) (structure_seen V S q u)
kept_structure_seen U V x S (known k) u = kept_by_type U V x S k k.detail u
kept_structure_seen U V x S unknown u = refl
kept_structure_seen U V x S (missing k) u = tt

kept_structure : (U V : View) → Tells V U → (S : Path) (u : ℕ) → Kept (structure_of U S u) (structure_of V S u)
kept_structure U V x S u = kept_seen (see U S) (see V S) (λ q. structure_seen U S q u) (λ q. structure_seen V S q u) (λ k. refl)
    (λ q. kept_structure_seen U V x S q u) (see_kept U V x S)

-- whnf

kept_fire_seen : (r : Recursor) (ls : List Universe) (s : Split) (ys : List Term) (q : Seen) (u : ℕ) → Kept (fire_seen r ls s ys q u) (fire_seen r ls s ys q u)
kept_fire_seen r ls s ys q u = kept_self (fire_seen r ls s ys q u)

kept_fire_head : (U V : View) → Tells V U → (r : Recursor) (ls : List Universe) (s : Split) (h : Term) (ys : List Term) (u : ℕ)
    → Kept (fire_head U r ls s h ys u) (fire_head V r ls s h ys u)
kept_fire_head U V x r ls s (const n ms) ys u = kept_seen (see U n) (see V n) (λ q. fire_seen r ls s ys q u) (λ q. fire_seen r ls s ys q u) (λ k. refl)
    (λ q. kept_fire_seen r ls s ys q u) (see_kept U V x n)
kept_fire_head U V x r ls s _ ys u = refl

kept_fire : (U V : View) → Tells V U → (r : Recursor) (ls : List Universe) (s : Split) (m : Term) (u : ℕ) → Kept (fire U r ls s m u) (fire V r ls s m u)
kept_fire U V x r ls s m u = kept_fire_head U V x r ls s (head_of m) (arguments_of m) u

kept_put_in : (U V : View) (c d : Calls) → Tells V U → Agree c d → (C : Context) (ls : List Universe) (r : Recursor) (s : Split) (w : Term) (n : Path) (u : ℕ)
    → Kept (put_in U c C ls r s w n u) (put_in V d C ls r s w n u)
kept_put_in U V c d x a C ls r s w n u = search (kept, kept_fire U V x, a.infer, a.equal) depth 14

kept_put_in_seen : (U V : View) (c d : Calls) → Tells V U → Agree c d
    → (C : Context) (ls : List Universe) (r : Recursor) (s : Split) (w : Term) (n : Path) (q : Seen) (u : ℕ)
    → Kept (put_in_seen U c C ls r s w n q u) (put_in_seen V d C ls r s w n q u)
kept_put_in_seen U V c d x a C ls r s w n (known k) u = search (kept, kept_put_in U V c d x a)
kept_put_in_seen U V c d x a C ls r s w n unknown u = refl
kept_put_in_seen U V c d x a C ls r s w n (missing k) u = tt

kept_see_put_in : (U V : View) (c d : Calls) → Tells V U → Agree c d
    → (C : Context) (ls : List Universe) (r : Recursor) (s : Split) (w : Term) (n : Path) (u : ℕ)
    → Kept (put_in_seen U c C ls r s w n (see U n) u) (put_in_seen V d C ls r s w n (see V n) u)
kept_see_put_in U V c d x a C ls r s w n u =
    kept_seen (see U n) (see V n) (λ q. put_in_seen U c C ls r s w n q u) (λ q. put_in_seen V d C ls r s w n q u) (λ k. refl)
    (λ q. kept_put_in_seen U V c d x a C ls r s w n q u) (see_kept U V x n)

kept_like_k : (U V : View) (c d : Calls) → Tells V U → Agree c d
    → (C : Context) (ls : List Universe) (r : Recursor) (s : Split) (w ty : Term) (e : Detail) (u : ℕ)
    → Kept (like_k U c C ls r s w ty e u) (like_k V d C ls r s w ty e u)
kept_like_k U V c d x a C ls r s w ty (Ind p i (n ∷ []) g) u = search (kept, kept_see_put_in U V c d x a)
kept_like_k U V c d x a C ls r s w ty _ u = refl

kept_or_like_k : (U V : View) (c d : Calls) → Tells V U → Agree c d
    → (C : Context) (ls : List Universe) (r : Recursor) (s : Split) (w : Term) (type : Shape) (p : Progress) (u : ℕ)
    → Kept (or_like_k U c C ls r s w type p u) (or_like_k V d C ls r s w type p u)
kept_or_like_k U V c d x a C ls r s w type stays u = kept_like_k U V c d x a C ls r s w type.ty type.detail u
kept_or_like_k U V c d x a C ls r s w type (next t) u = refl
kept_or_like_k U V c d x a C ls r s w type (ends t) u = refl

kept_major : (U V : View) (c d : Calls) → Tells V U → Agree c d → (C : Context) (ls : List Universe) (r : Recursor) (s : Split) (q : Seen) (u : ℕ)
    → Kept (at_major U c C ls r s q u) (at_major V d C ls r s q u)
kept_major U V c d x a C ls r s (known k) u = search (kept, kept_fire U V x, kept_or_like_k U V c d x a, a.whnf) depth 10
kept_major U V c d x a C ls r s unknown u = refl
kept_major U V c d x a C ls r s (missing k) u = tt

kept_recursor : (U V : View) (c d : Calls) → Tells V U → Agree c d → (C : Context) (ls : List Universe) (r : Recursor) (o : Option Split) (u : ℕ)
    → Kept (recursor_turn U c C ls r o u) (recursor_turn V d C ls r o u)
kept_recursor U V c d x a C ls r None u = refl
kept_recursor U V c d x a C ls r (Some s) u =
    kept_seen (see U r.ind) (see V r.ind) (λ q. at_major U c C ls r s q u) (λ q. at_major V d C ls r s q u) (λ k. refl)
    (λ q. kept_major U V c d x a C ls r s q u) (see_kept U V x r.ind)

kept_operated : (o : Option LitOut) (m n : Run Progress) (u : ℕ) → Kept (m u) (n u) → Kept (operated o m u) (operated o n u)
kept_operated (Some r) m n u h = refl
kept_operated None m n u h = h

kept_numbers : (k : Path) (p q : Option ℕ) (m n : Run Progress) (u : ℕ) → ((v : ℕ) → Kept (m v) (n v)) → Kept (on_numbers k p q m u) (on_numbers k p q n u)
kept_numbers k (Some i) (Some j) m n u h = kept_operated (literal_operation k i j) m n u (h u)
kept_numbers k _ _ m n u h = h u

kept_operands : (c d : Calls) → Agree c d → (C : Context) (k : Path) (s t : Term) (m n : Run Progress) (u : ℕ) → ((v : ℕ) → Kept (m v) (n v))
    → Kept (operands c C k s t m u) (operands d C k s t n u)
kept_operands c d a C k s t m n u h = search (kept, kept_numbers, a.whnf, h) depth 10

kept_literal : (c d : Calls) → Agree c d → (C : Context) (k : Path) (ls : List Universe) (xs : List Term) (m n : Run Progress) (u : ℕ)
    → ((v : ℕ) → Kept (m v) (n v)) → Kept (literal_turn c C k ls xs m u) (literal_turn d C k ls xs n u)
kept_literal c d a C k [] (lit i ∷ []) m n u h = search (kept, h)
kept_literal c d a C k [] (s ∷ t ∷ []) m n u h = search (kept, kept_operands c d a, h)
kept_literal c d a C k _ _ m n u h = h u

kept_by_body : (U V : View) → Tells V U → (n : Path) (ls : List Universe) (xs : List Term) (u : ℕ)
    → Kept (by_body ls xs (body_of U n) u) (by_body ls xs (body_of V n) u)
kept_by_body U V x n ls xs u = kept_body (body_of U n) (body_of V n) (λ b. by_body ls xs b u) (λ b. by_body ls xs b u) (λ k. refl)
    (λ b. kept_self (by_body ls xs b u)) (body_kept U V x n)

kept_delta : (U V : View) → Tells V U → (f : Bool) (n : Path) (ls : List Universe) (xs : List Term) (u : ℕ)
    → Kept (delta_turn U f n ls xs u) (delta_turn V f n ls xs u)
kept_delta U V x true n ls xs u = kept_by_body U V x n ls xs u
kept_delta U V x false n ls xs u = refl

kept_detail : (U V : View) (c d : Calls) → Tells V U → Agree c d
    → (f : Bool) (C : Context) (n : Path) (ls : List Universe) (xs : List Term) (e : Detail) (u : ℕ)
    → Kept (detail_turn U c f C n ls xs e u) (detail_turn V d f C n ls xs e u)
kept_detail U V c d x a f C n ls xs (Rec ind params minors indices rules) u =
    let r : Recursor = record { ind = ind; params = params; minors = minors; indices = indices; rules = rules } in
    kept_recursor U V c d x a C ls r (split (shared r + indices) xs) u
kept_detail U V c d x a f C n ls xs _ u = kept_literal c d a C n ls xs (delta_turn U f n ls xs) (delta_turn V f n ls xs) u (λ v. kept_delta U V x f n ls xs v)

kept_constant : (U V : View) (c d : Calls) → Tells V U → Agree c d
    → (f : Bool) (C : Context) (n : Path) (ls : List Universe) (xs : List Term) (q : Seen) (u : ℕ)
    → Kept (constant_turn U c f C n ls xs q u) (constant_turn V d f C n ls xs q u)
kept_constant U V c d x a f C n ls xs (known k) u = search (kept, kept_detail U V c d x a)
kept_constant U V c d x a f C n ls xs unknown u = refl
kept_constant U V c d x a f C n ls xs (missing k) u = tt

kept_projection : (U V : View) (c d : Calls) → Tells V U → Agree c d → (C : Context) (S : Path) (i : ℕ) (t : Term) (xs : List Term) (u : ℕ)
    → Kept (projection_turn U c C S i t xs u) (projection_turn V d C S i t xs u)
kept_projection U V c d x a C S i t xs u = search (kept, kept_structure U V x, a.whnf) depth 8

kept_head : (U V : View) (c d : Calls) → Tells V U → Agree c d → (f : Bool) (C : Context) (h : Term) (xs : List Term) (u : ℕ)
    → Kept (head_turn U c f C h xs u) (head_turn V d f C h xs u)
kept_head U V c d x a f C (letin y A v b) xs u = kept_self (head_turn U c f C (letin y A v b) xs u)
kept_head U V c d x a f C (lam y A b) (t ∷ xs) u = kept_self (head_turn U c f C (lam y A b) (t ∷ xs) u)
kept_head U V c d x a f C (const n ls) xs u =
    kept_seen (see U n) (see V n) (λ q. constant_turn U c f C n ls xs q u) (λ q. constant_turn V d f C n ls xs q u) (λ k. refl)
    (λ q. kept_constant U V c d x a f C n ls xs q u) (see_kept U V x n)
kept_head U V c d x a f C (proj S i t) xs u = kept_projection U V c d x a C S i t xs u
kept_head U V c d x a f C h xs u = refl

kept_loop : (U V : View) (c d : Calls) → Tells V U → Agree c d → (f : Bool) (C : Context) (n : ℕ) (t : Term) (u : ℕ)
    → Kept (whnf_loop U c f C n t u) (whnf_loop V d f C n t u)
kept_loop U V c d x a f C zero t u = refl
kept_loop U V c d x a f C (suc n) t u =
    kept_then (whnf_turn U c f C t u) (whnf_turn V d f C t u) _ _ (kept_head U V c d x a f C (head_of t) (arguments_of t) u)
    (more (λ s v. kept_loop U V c d x a f C n s v))
  where
    more : ((s : Term) (v : ℕ) → Kept (whnf_loop U c f C n s v) (whnf_loop V d f C n s v)) → (p : Progress) (v : ℕ)
        → Kept ((elim p as (λ z. Run Term) [ stays ↦ gives t | next s ↦ whnf_loop U c f C n s | ends s ↦ gives s ]) v)
        ((elim p as (λ z. Run Term) [ stays ↦ gives t | next s ↦ whnf_loop V d f C n s | ends s ↦ gives s ]) v)
    more g stays v = refl
    more g (next s) v = g s v
    more g (ends s) v = refl

kept_whnf : (U V : View) (c d : Calls) → Tells V U → Agree c d → (f : Bool) (C : Context) (t : Term) (u : ℕ)
    → Kept (whnf_body U c f C t u) (whnf_body V d f C t u)
unfolding whnf_body
kept_whnf U V c d x a f C t u = kept_loop U V c d x a f C turn_limit t u

-- infer

pub kept_sort : (c d : Calls) → Agree c d → (m : Mode) (C : Context) (A : Term) (u : ℕ) → Kept (sort_of c m C A u) (sort_of d m C A u)
kept_sort c d a m C A u = search (kept, a.whnf, a.infer) depth 8

kept_is_type : (c d : Calls) → Agree c d → (m : Mode) (C : Context) (A : Term) (u : ℕ) → Kept (is_type c m C A u) (is_type d m C A u)
kept_is_type c d a checked C A u = search (kept, kept_sort c d a)
kept_is_type c d a (unchecked ts) C A u = refl

kept_argument : (c d : Calls) → Agree c d → (m : Mode) (C : Context) (t A : Term) (u : ℕ) → Kept (argument_fits c m C t A u) (argument_fits d m C t A u)
kept_argument c d a checked C t A u = search (kept, a.infer, a.equal) depth 8
kept_argument c d a (unchecked ts) C t A u = refl

kept_value : (c d : Calls) → Agree c d → (m : Mode) (C : Context) (t A : Term) (u : ℕ) → Kept (value_fits c m C t A u) (value_fits d m C t A u)
kept_value c d a checked C t A u = search (kept, kept_sort c d a, a.infer, a.equal) depth 10
kept_value c d a (unchecked ts) C t A u = refl

kept_on_structure : (U V : View) → Tells V U → (T : Term) (S : Path) (i : ℕ) (t h : Term) (ps : List Term) (u : ℕ)
    → Kept (on_structure U T S i t h ps u) (on_structure V T S i t h ps u)
kept_on_structure U V x T S i t (const n ls) ps u = search (kept, kept_structure U V x) depth 8
kept_on_structure U V x T S i t _ ps u = refl

kept_infer : (U V : View) (c d : Calls) → Tells V U → Agree c d → (m : Mode) (C : Context) (t : Term) (u : ℕ)
    → Kept (infer_body U c m C t u) (infer_body V d m C t u)
unfolding infer_body
kept_infer U V c d x a m C (const n ls) u = kept_seen (see U n) (see V n) (λ q. of_constant n ls q u) (λ q. of_constant n ls q u) (λ k. refl)
    (λ q. kept_self (of_constant n ls q u)) (see_kept U V x n)
kept_infer U V c d x a m C (app f y) u = search (kept, kept_argument c d a, a.infer, a.whnf) depth 12
kept_infer U V c d x a m C (lam y A b) u = search (kept, kept_is_type c d a, a.infer) depth 14
kept_infer U V c d x a m C (pi y A B) u = search (kept, kept_sort c d a) depth 14
kept_infer U V c d x a m C (letin y A v b) u = search (kept, kept_value c d a, a.infer) depth 12
kept_infer U V c d x a m C (proj S i t) u = search (kept, kept_on_structure U V x, a.infer, a.whnf) depth 10
kept_infer U V c d x a m C t u = kept_self (infer_body U c m C t u)

-- equal

kept_decided : (v : Verdict) (m n : Run Verdict) (u : ℕ) → Kept (m u) (n u) → Kept (decided_by v m u) (decided_by v n u)
kept_decided undecided m n u h = h
kept_decided (decided r) m n u h = refl
kept_decided (again s t) m n u h = refl

kept_or : (m n k l : Run Verdict) (u : ℕ) → Kept (m u) (k u) → ((v : ℕ) → Kept (n v) (l v)) → Kept (or_else m n u) (or_else k l u)
kept_or m n k l u h g = kept_then (m u) (k u) _ _ h (λ v w. kept_decided v n l w (g w))

kept_and : (r : Bool) (m n : Run Bool) (u : ℕ) → Kept (m u) (n u) → Kept (and_then r m u) (and_then r n u)
kept_and true m n u h = h
kept_and false m n u h = refl

kept_binders : (c d : Calls) → Agree c d → (C : Context) (A b B e : Term) (u : ℕ) → Kept (equal_binders c C A b B e u) (equal_binders d C A b B e u)
kept_binders c d a C A b B e u = search (kept, kept_and, a.equal) depth 12

kept_form : (c d : Calls) → Agree c d → (C : Context) (l r : Term) (u : ℕ) → Kept (by_form c C l r u) (by_form d C l r u)
kept_form c d a C (sort m) (sort n) u = refl
kept_form c d a C (pi y A b) (pi z B e) u = search (kept, kept_binders c d a)
kept_form c d a C (lam y A b) (lam z B e) u = search (kept, kept_binders c d a)
kept_form c d a C _ _ u = refl

kept_by_whnf : (c d : Calls) → Agree c d → (C : Context) (l r : Term) (u : ℕ) → Kept (by_whnf c C l r u) (by_whnf d C l r u)
kept_by_whnf c d a C l r u = search (kept, a.whnf) depth 8

kept_proposition : (c d : Calls) → Agree c d → (C : Context) (l : Term) (u : ℕ) → Kept (proposition_of c C l u) (proposition_of d C l u)
kept_proposition c d a C l u = search (kept, a.infer, a.whnf) depth 10

kept_proves : (c d : Calls) → Agree c d → (C : Context) (r : Term) (o : Option Term) (u : ℕ) → Kept (proves c C r o u) (proves d C r o u)
kept_proves c d a C r None u = refl
kept_proves c d a C r (Some P) u = search (kept, a.infer, a.equal) depth 10

kept_proofs : (c d : Calls) → Agree c d → (C : Context) (l r : Term) (u : ℕ) → Kept (by_proofs c C l r u) (by_proofs d C l r u)
kept_proofs c d a C l r u = search (kept, kept_proposition c d a, kept_proves c d a) depth 8

kept_expansion_of : (c d : Calls) → Agree c d → (C : Context) (t : Term) (o : Option Term) (u : ℕ) → Kept (expansion_of c C t o u) (expansion_of d C t o u)
kept_expansion_of c d a C t (Some T) u = search (kept, a.whnf) depth 8
kept_expansion_of c d a C t None u = refl

kept_expansion : (c d : Calls) → Agree c d → (C : Context) (t : Term) (u : ℕ) → Kept (eta_expansion c C t u) (eta_expansion d C t u)
kept_expansion c d a C t u = search (kept, kept_expansion_of c d a, a.infer) depth 8

kept_left : (c d : Calls) → Agree c d → (C : Context) (l : Term) (o : Option Term) (u : ℕ) → Kept (against_left c C l o u) (against_left d C l o u)
kept_left c d a C l (Some e) u = search (kept, a.equal)
kept_left c d a C l None u = refl

kept_right : (c d : Calls) → Agree c d → (C : Context) (l : Term) (o : Option Term) (u : ℕ) → Kept (against_right c C l o u) (against_right d C l o u)
kept_right c d a C l (Some e) u = search (kept, a.equal)
kept_right c d a C l None u = refl

kept_to_left : (c d : Calls) → Agree c d → (C : Context) (l r : Term) (u : ℕ)
    → Kept ((eta_expansion c C r >>= λ e. against_left c C l e) u) ((eta_expansion d C r >>= λ e. against_left d C l e) u)
kept_to_left c d a C l r u = search (kept, kept_expansion c d a, kept_left c d a) depth 8

kept_to_right : (c d : Calls) → Agree c d → (C : Context) (l r : Term) (u : ℕ)
    → Kept ((eta_expansion c C l >>= λ e. against_right c C r e) u) ((eta_expansion d C l >>= λ e. against_right d C r e) u)
kept_to_right c d a C l r u = search (kept, kept_expansion c d a, kept_right c d a) depth 8

kept_eta : (c d : Calls) → Agree c d → (C : Context) (l r : Term) (u : ℕ) → Kept (by_eta c C l r u) (by_eta d C l r u)
kept_eta c d a C (lam y A b) (lam z B e) u = refl
kept_eta c d a C (lam y A b) r u = kept_to_left c d a C (lam y A b) r u
kept_eta c d a C l (lam z B e) u = kept_to_right c d a C l (lam z B e) u
kept_eta c d a C l r u = refl

kept_predecessors : (n : ℕ) (f : Term) (m k : Run Bool) (u : ℕ) → Kept (m u) (k u) → Kept (by_predecessors n f m u) (by_predecessors n f k u)
kept_predecessors n f m k u h = kept_choose (same f nat_succ && nat_lt n (2 ^ 128)) (decides m) (gives undecided) (decides k) (gives undecided) u
    (kept_then (m u) (k u) _ _ h (λ r v. refl)) refl

kept_literals : (c d : Calls) → Agree c d → (C : Context) (l r : Term) (u : ℕ) → Kept (by_literals c C l r u) (by_literals d C l r u)
kept_literals c d a C (lit (suc n)) (app f t) u = kept_predecessors (suc n) f (c.equal C (lit n) t) (d.equal C (lit n) t) u (a.equal C (lit n) t u)
kept_literals c d a C (app f t) (lit (suc n)) u = kept_predecessors (suc n) f (c.equal C t (lit n)) (d.equal C t (lit n)) u (a.equal C t (lit n) u)
kept_literals c d a C (lit m) (lit n) u = refl
kept_literals c d a C (lit zero) (const n ls) u = refl
kept_literals c d a C (const n ls) (lit zero) u = refl
kept_literals c d a C _ _ u = refl

kept_all : (c d : Calls) → Agree c d → (C : Context) (xs ys : List Term) (u : ℕ) → Kept (equal_all c C xs ys u) (equal_all d C xs ys u)
kept_all c d a C (x ∷ xs) (y ∷ ys) u =
    let rest : (v : ℕ) → Kept (equal_all c C xs ys v) (equal_all d C xs ys v) = λ v. kept_all c d a C xs ys v in
    search (kept, kept_and, rest, a.equal) depth 8
kept_all c d a C [] [] u = refl
kept_all c d a C _ _ u = refl

kept_equal_heads : (c d : Calls) → Agree c d → (C : Context) (l r : Term) (u : ℕ) → Kept (equal_heads c C l r u) (equal_heads d C l r u)
kept_equal_heads c d a C (const n ls) (const k ms) u = refl
kept_equal_heads c d a C (proj S i t) (proj R j s) u = search (kept, a.equal) depth 6
kept_equal_heads c d a C _ _ u = refl

kept_arguments : (c d : Calls) → Agree c d → (C : Context) (l r : Term) (u : ℕ) → Kept (by_arguments c C l r u) (by_arguments d C l r u)
kept_arguments c d a C l r u = search (kept, kept_and, kept_equal_heads c d a, kept_all c d a) depth 10

-- eta for structures

kept_built_detail : (U V : View) → Tells V U → (n : Path) (ms : List Universe) (ys : List Term) (e : Detail) (u : ℕ)
    → Kept (built_detail U n ms ys e u) (built_detail V n ms ys e u)
kept_built_detail U V x n ms ys (Ctor i k o f) u = search (kept, kept_structure U V x) depth 6
kept_built_detail U V x n ms ys _ u = refl

kept_built_seen : (U V : View) → Tells V U → (n : Path) (ms : List Universe) (ys : List Term) (q : Seen) (u : ℕ)
    → Kept (built_seen U n ms ys q u) (built_seen V n ms ys q u)
kept_built_seen U V x n ms ys (known c) u = kept_built_detail U V x n ms ys c.detail u
kept_built_seen U V x n ms ys unknown u = refl
kept_built_seen U V x n ms ys (missing k) u = tt

kept_built : (U V : View) → Tells V U → (h : Term) (ys : List Term) (u : ℕ) → Kept (built_of U h ys u) (built_of V h ys u)
kept_built U V x (const n ms) ys u = kept_seen (see U n) (see V n) (λ q. built_seen U n ms ys q u) (λ q. built_seen V n ms ys q u) (λ k. refl)
    (λ q. kept_built_seen U V x n ms ys q u) (see_kept U V x n)
kept_built U V x _ ys u = refl

kept_fields : (c d : Calls) → Agree c d → (C : Context) (S : Path) (i : ℕ) (y : Term) (xs : List Term) (u : ℕ)
    → Kept (equal_fields c C S i y xs u) (equal_fields d C S i y xs u)
kept_fields c d a C S i y [] u = refl
kept_fields c d a C S i y (z ∷ xs) u =
    let rest : (v : ℕ) → Kept (equal_fields c C S (suc i) y xs v) (equal_fields d C S (suc i) y xs v) = λ v. kept_fields c d a C S (suc i) y xs v in
    search (kept, kept_and, rest, a.equal) depth 10

kept_eta_at : (c d : Calls) → Agree c d → (C : Context) (b : Built) (y h : Term) (ps : List Term) (u : ℕ) → Kept (eta_at c C b y h ps u) (eta_at d C b y h ps u)
kept_eta_at c d a C b y (const n ls) ps u = search (kept, kept_and, kept_all c d a, kept_fields c d a) depth 10
kept_eta_at c d a C b y _ ps u = refl

kept_eta_against : (c d : Calls) → Agree c d → (C : Context) (b : Built) (y : Term) (o : Option Term) (u : ℕ)
    → Kept (eta_against c C b y o u) (eta_against d C b y o u)
kept_eta_against c d a C b y (Some W) u = kept_eta_at c d a C b y (head_of W) (arguments_of W) u
kept_eta_against c d a C b y None u = refl

kept_type_form : (c d : Calls) → Agree c d → (C : Context) (y : Term) (u : ℕ) → Kept (type_form c C y u) (type_form d C y u)
kept_type_form c d a C y u = search (kept, a.infer, a.whnf) depth 8

kept_eta_built : (c d : Calls) → Agree c d → (C : Context) (y : Term) (o : Option Built) (u : ℕ) → Kept (eta_built c C y o u) (eta_built d C y o u)
kept_eta_built c d a C y (Some b) u = search (kept, kept_type_form c d a, kept_eta_against c d a) depth 8
kept_eta_built c d a C y None u = refl

kept_against_built : (U V : View) (c d : Calls) → Tells V U → Agree c d → (C : Context) (l r : Term) (u : ℕ)
    → Kept (against_built U c C l r u) (against_built V d C l r u)
kept_against_built U V c d x a C l r u = search (kept, kept_built U V x, kept_eta_built c d a) depth 8

kept_structures : (U V : View) (c d : Calls) → Tells V U → Agree c d → (C : Context) (l r : Term) (u : ℕ)
    → Kept (by_structures U c C l r u) (by_structures V d C l r u)
kept_structures U V c d x a C l r u = search (kept, kept_or, kept_against_built U V c d x a) depth 10

kept_definition_seen : (U V : View) → Tells V U → (n : Path) (ls : List Universe) (q : Seen) (u : ℕ)
    → Kept (definition_seen U n ls q u) (definition_seen V n ls q u)
kept_definition_seen U V x n ls (known k) u =
    kept_choose (nat_eq (length ls) (length k.levels)) (of_body (body_of U n)) (gives None) (of_body (body_of V n)) (gives None) u
    (kept_body (body_of U n) (body_of V n) (λ b. of_body b u) (λ b. of_body b u) (λ i. refl) (λ b. kept_self (of_body b u)) (body_kept U V x n)) refl
kept_definition_seen U V x n ls unknown u = refl
kept_definition_seen U V x n ls (missing k) u = tt

kept_definition : (U V : View) → Tells V U → (h : Term) (u : ℕ) → Kept (definition_of U h u) (definition_of V h u)
kept_definition U V x (const n ls) u = kept_seen (see U n) (see V n) (λ q. definition_seen U n ls q u) (λ q. definition_seen V n ls q u) (λ k. refl)
    (λ q. kept_definition_seen U V x n ls q u) (see_kept U V x n)
kept_definition U V x _ u = refl

kept_unfolding : (U V : View) → Tells V U → (l r : Term) (u : ℕ) → Kept (by_unfolding U l r u) (by_unfolding V l r u)
kept_unfolding U V x l r u = search (kept, kept_definition U V x) depth 8

kept_types : (U V : View) (c d : Calls) → Tells V U → Agree c d → (C : Context) (l r : Term) (u : ℕ) → Kept (by_types U c C l r u) (by_types V d C l r u)
kept_types U V c d x a C l r u =
    kept_or (by_proofs c C l r) (or_else (by_eta c C l r) (by_structures U c C l r)) (by_proofs d C l r) (or_else (by_eta d C l r) (by_structures V d C l r)) u
    (kept_proofs c d a C l r u) λ v.
    kept_or (by_eta c C l r) (by_structures U c C l r) (by_eta d C l r) (by_structures V d C l r) v (kept_eta c d a C l r v)
    (λ w. kept_structures U V c d x a C l r w)

kept_heads : (U V : View) (c d : Calls) → Tells V U → Agree c d → (C : Context) (l r : Term) (u : ℕ) → Kept (by_heads U c C l r u) (by_heads V d C l r u)
kept_heads U V c d x a C l r u =
    kept_or (by_literals c C l r) (or_else (by_arguments c C l r) (by_unfolding U l r)) (by_literals d C l r)
    (or_else (by_arguments d C l r) (by_unfolding V l r)) u (kept_literals c d a C l r u) λ v.
    kept_or (by_arguments c C l r) (by_unfolding U l r) (by_arguments d C l r) (by_unfolding V l r) v (kept_arguments c d a C l r v)
    (λ w. kept_unfolding U V x l r w)

kept_turn : (U V : View) (c d : Calls) → Tells V U → Agree c d → (C : Context) (l r : Term) (u : ℕ) → Kept (equal_turn U c C l r u) (equal_turn V d C l r u)
kept_turn U V c d x a C l r u =
    let m4 : Run Verdict = or_else (by_types U c C l r) (by_heads U c C l r) in
    let n4 : Run Verdict = or_else (by_types V d C l r) (by_heads V d C l r) in
    let m3 : Run Verdict = or_else (by_whnf c C l r) m4 in
    let n3 : Run Verdict = or_else (by_whnf d C l r) n4 in
    let m2 : Run Verdict = or_else (by_form c C l r) m3 in
    let n2 : Run Verdict = or_else (by_form d C l r) n3 in
    let first : Run Verdict = gives (when_true (same l r)) in
    kept_or first m2 first n2 u refl λ v1.
    kept_or (by_form c C l r) m3 (by_form d C l r) n3 v1 (kept_form c d a C l r v1) λ v2.
    kept_or (by_whnf c C l r) m4 (by_whnf d C l r) n4 v2 (kept_by_whnf c d a C l r v2) λ v3.
    kept_or (by_types U c C l r) (by_heads U c C l r) (by_types V d C l r) (by_heads V d C l r) v3 (kept_types U V c d x a C l r v3) λ v4.
    kept_heads U V c d x a C l r v4

kept_equal_loop : (U V : View) (c d : Calls) → Tells V U → Agree c d → (C : Context) (n : ℕ) (l r : Term) (u : ℕ)
    → Kept (equal_loop U c C n l r u) (equal_loop V d C n l r u)
kept_equal_loop U V c d x a C zero l r u = refl
kept_equal_loop U V c d x a C (suc n) l r u =
    kept_then (equal_turn U c C l r u) (equal_turn V d C l r u) _ _ (kept_turn U V c d x a C l r u) (more (λ s t v. kept_equal_loop U V c d x a C n s t v))
  where
    more : ((s t : Term) (v : ℕ) → Kept (equal_loop U c C n s t v) (equal_loop V d C n s t v)) → (p : Verdict) (v : ℕ)
        → Kept ((elim p as (λ z. Run Bool) [ decided q ↦ gives q | again s t ↦ equal_loop U c C n s t | undecided ↦ gives false ]) v)
        ((elim p as (λ z. Run Bool) [ decided q ↦ gives q | again s t ↦ equal_loop V d C n s t | undecided ↦ gives false ]) v)
    more g (decided q) v = refl
    more g (again s t) v = g s t v
    more g undecided v = refl

kept_equal : (U V : View) (c d : Calls) → Tells V U → Agree c d → (C : Context) (l r : Term) (u : ℕ) → Kept (equal_body U c C l r u) (equal_body V d C l r u)
unfolding equal_body
kept_equal U V c d x a C l r u = kept_equal_loop U V c d x a C turn_limit l r u

-- normalize

kept_normalize_all : (c d : Calls) → Agree c d → (C : Context) (xs : List Term) (u : ℕ) → Kept (normalize_all c C xs u) (normalize_all d C xs u)
kept_normalize_all c d a C [] u = refl
kept_normalize_all c d a C (x ∷ xs) u =
    let rest : (v : ℕ) → Kept (normalize_all c C xs v) (normalize_all d C xs v) = λ v. kept_normalize_all c d a C xs v in
    search (kept, rest, a.normalize) depth 8

kept_normalize_binder : (c d : Calls) → Agree c d → (C : Context) (A b : Term) (u : ℕ)
    → Kept (normalize_body_of_binder c C A b u) (normalize_body_of_binder d C A b u)
kept_normalize_binder c d a C A b u = search (kept, a.normalize) depth 8

kept_normalize_head : (c d : Calls) → Agree c d → (C : Context) (h : Term) (u : ℕ) → Kept (normalize_head c C h u) (normalize_head d C h u)
kept_normalize_head c d a C (proj S i t) u = search (kept, a.normalize) depth 6
kept_normalize_head c d a C _ u = refl

kept_normalize_arguments : (c d : Calls) → Agree c d → (C : Context) (t : Term) (u : ℕ) → Kept (normalize_arguments c C t u) (normalize_arguments d C t u)
kept_normalize_arguments c d a C t u = search (kept, kept_normalize_all c d a, kept_normalize_head c d a) depth 10

kept_parts : (c d : Calls) → Agree c d → (C : Context) (t : Term) (u : ℕ) → Kept (normalize_parts c C t u) (normalize_parts d C t u)
kept_parts c d a C (lam x A b) u = search (kept, kept_normalize_binder c d a, a.normalize) depth 8
kept_parts c d a C (pi x A b) u = search (kept, kept_normalize_binder c d a, a.normalize) depth 8
kept_parts c d a C t u = kept_normalize_arguments c d a C t u

kept_normalize : (c d : Calls) → Agree c d → (C : Context) (t : Term) (u : ℕ) → Kept (normalize_body c C t u) (normalize_body d C t u)
unfolding normalize_body
kept_normalize c d a C t u = search (kept, kept_parts c d a, a.whnf) depth 8

-- The calls, and the declarations.

turn_kept : (U V : View) (c d : Calls) → Tells V U → Agree c d → Agree (turn U c) (turn V d)
turn_kept U V c d x a = record {
  whnf = λ f C t u. kept_spend 1 _ _ u (λ v. kept_whnf U V c d x a f C t v);
  equal = λ C l r u. kept_spend 1 _ _ u (λ v. kept_equal U V c d x a C l r v);
  infer = λ m C t u. kept_spend 1 _ _ u (λ v. kept_infer U V c d x a m C t v);
  normalize = λ C t u. kept_spend 1 _ _ u (λ v. kept_normalize c d a C t v);
}

pub calls_kept : (U V : View) → Tells V U → (n : ℕ) → Agree (calls U n) (calls V n)
calls_kept U V x zero = record { whnf = λ f C t u. refl; equal = λ C a b u. refl; infer = λ m C t u. refl; normalize = λ C t u. refl }
calls_kept U V x (suc n) = turn_kept U V (calls U n) (calls V n) x (calls_kept U V x n)
