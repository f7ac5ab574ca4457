-- A turn at the head of a term is what the head asks for, done.
use Rattle.std.proofs.Common.{◌≡◌, ℕ, zero, suc, Bool, true, false, List, [], ◌∷◌, refl}
use Rattle.std.specs.Prelude.{◌&&◌, ◌^◌, nat_lt, nat_eq, is_some, length, Option, Some, None}
use Rattle.lf_core.specs.Same.{same}
use Rattle.lf_core.specs.Substitution.{instantiate}
use Rattle.lf_core.specs.Literal.{operation_of}
use Rattle.lf_core.specs.Term.{Path, Universe, Term, bound, free, meta, sort, const, app, lam, pi, letin, lit, proj}
use Rattle.lf_core.specs.Spine.{head_of, arguments_of}
use Rattle.lf_rules.specs.Environment.{Context, nat_succ}
use Rattle.lf_core.specs.declared.constant.Detail.{Detail}
use Rattle.lf_core.specs.declared.constant.Detail.TheVariants.{Plain, Ind, Ctor, Rec}
use Rattle.lf_checker.specs.View.{View}
use Rattle.lf_checker.specs.Run.{Answer, done, refused, out, need, Run, go_on, gives, choose, made_before}
use Rattle.lf_checker.specs.Calls.{Calls, Seen, known, unknown, missing, see}
use Rattle.lf_checker.specs.Whnf.{
  Progress,
  stays,
  next,
  ends,
  operands,
  whnf_turn,
  head_turn,
  constant_turn,
  detail_turn,
  literal_turn,
  delta_turn,
  on_numbers,
  operated,
  projection_turn,
  Recursor,
  Split,
  put_in,
  put_in_seen,
  like_k,
  is_fieldless,
  is_prop_level,
}
use Rattle.lf_check.specs.Steps.{Step, ready, operate, readied, literal_step, detail_step, constant_step, head_step, do_step, computed, projected}
use Rattle.lf_rules.specs.Structure.{result_level}
use Rattle.lf_steps.specs.Steps.{fieldless, fieldless_seen, put_or_stay}

module _ (V : View) (c : Calls) (d : Bool) (C : Context) where
  readied_done : (o : Answer Progress) → o ≡ go_on (go_on o (λ p. gives (ready p))) (do_step V c d C)
  readied_done (done p u) = refl
  readied_done (refused e u) = refl
  readied_done out = refl
  readied_done (need k) = refl

  next_done : (o : Answer Term) → go_on o (λ t. gives (next t)) ≡ go_on (go_on o (λ t. gives (ready (next t)))) (do_step V c d C)
  next_done (done p u) = refl
  next_done (refused e u) = refl
  next_done out = refl
  next_done (need k) = refl

  chosen : (b : Bool) (m n : Run Progress) (m' n' : Run Step) (u : ℕ) → m u ≡ go_on (m' u) (do_step V c d C) → n u ≡ go_on (n' u) (do_step V c d C)
      → choose b m n u ≡ go_on (choose b m' n' u) (do_step V c d C)
  chosen true m n m' n' u p q = p
  chosen false m n m' n' u p q = q

  one : (n : Path) (x : Term) (u : ℕ) → literal_turn c C n [] (x ∷ []) (delta_turn V d n [] (x ∷ [])) u
      ≡ go_on (literal_step n [] (x ∷ []) (delta_turn V d n [] (x ∷ [])) u) (do_step V c d C)
  one n (lit k) u =
      let rest = delta_turn V d n [] (lit k ∷ []) in
      chosen (same (const n []) nat_succ && nat_lt (suc k) (2 ^ 128)) (gives (ends (lit (suc k)))) rest (gives (ready (ends (lit (suc k))))) (readied rest) u
      refl (readied_done (rest u))
  one n (bound i) u = readied_done (delta_turn V d n [] (bound i ∷ []) u)
  one n (free k) u = readied_done (delta_turn V d n [] (free k ∷ []) u)
  one n (meta k) u = readied_done (delta_turn V d n [] (meta k ∷ []) u)
  one n (sort l) u = readied_done (delta_turn V d n [] (sort l ∷ []) u)
  one n (const m ms) u = readied_done (delta_turn V d n [] (const m ms ∷ []) u)
  one n (app f a) u = readied_done (delta_turn V d n [] (app f a ∷ []) u)
  one n (lam y A b) u = readied_done (delta_turn V d n [] (lam y A b ∷ []) u)
  one n (pi y A b) u = readied_done (delta_turn V d n [] (pi y A b ∷ []) u)
  one n (letin y A v b) u = readied_done (delta_turn V d n [] (letin y A v b ∷ []) u)
  one n (proj s i t) u = readied_done (delta_turn V d n [] (proj s i t ∷ []) u)

  pair : (n : Path) (x y : Term) (u : ℕ) → let rest = delta_turn V d n [] (x ∷ y ∷ []) in
      choose (is_some (operation_of n)) (operands c C n x y rest) rest u
      ≡ go_on (choose (is_some (operation_of n)) (gives (operate n x y)) (readied rest) u) (do_step V c d C)
  pair n x y u =
      let rest = delta_turn V d n [] (x ∷ y ∷ []) in
      chosen (is_some (operation_of n)) (operands c C n x y rest) rest (gives (operate n x y)) (readied rest) u refl (readied_done (rest u))

  two : (n : Path) (x y : Term) (u : ℕ) → literal_turn c C n [] (x ∷ y ∷ []) (delta_turn V d n [] (x ∷ y ∷ [])) u
      ≡ go_on (literal_step n [] (x ∷ y ∷ []) (delta_turn V d n [] (x ∷ y ∷ [])) u) (do_step V c d C)
  two n (lit k) y u = pair n (lit k) y u
  two n (bound i) y u = pair n (bound i) y u
  two n (free k) y u = pair n (free k) y u
  two n (meta k) y u = pair n (meta k) y u
  two n (sort l) y u = pair n (sort l) y u
  two n (const m ms) y u = pair n (const m ms) y u
  two n (app f a) y u = pair n (app f a) y u
  two n (lam w A b) y u = pair n (lam w A b) y u
  two n (pi w A b) y u = pair n (pi w A b) y u
  two n (letin w A v b) y u = pair n (letin w A v b) y u
  two n (proj s i t) y u = pair n (proj s i t) y u

  literal : (n : Path) (ls : List Universe) (xs : List Term) (u : ℕ)
      → literal_turn c C n ls xs (delta_turn V d n ls xs) u ≡ go_on (literal_step n ls xs (delta_turn V d n ls xs) u) (do_step V c d C)
  literal n (l ∷ ls) xs u = readied_done (delta_turn V d n (l ∷ ls) xs u)
  literal n [] [] u = readied_done (delta_turn V d n [] [] u)
  literal n [] (x ∷ []) u = one n x u
  literal n [] (x ∷ y ∷ []) u = two n x y u
  literal n [] (lit k ∷ y ∷ z ∷ zs) u = readied_done (delta_turn V d n [] (lit k ∷ y ∷ z ∷ zs) u)
  literal n [] (bound i ∷ y ∷ z ∷ zs) u = readied_done (delta_turn V d n [] (bound i ∷ y ∷ z ∷ zs) u)
  literal n [] (free k ∷ y ∷ z ∷ zs) u = readied_done (delta_turn V d n [] (free k ∷ y ∷ z ∷ zs) u)
  literal n [] (meta k ∷ y ∷ z ∷ zs) u = readied_done (delta_turn V d n [] (meta k ∷ y ∷ z ∷ zs) u)
  literal n [] (sort l ∷ y ∷ z ∷ zs) u = readied_done (delta_turn V d n [] (sort l ∷ y ∷ z ∷ zs) u)
  literal n [] (const m ms ∷ y ∷ z ∷ zs) u = readied_done (delta_turn V d n [] (const m ms ∷ y ∷ z ∷ zs) u)
  literal n [] (app f a ∷ y ∷ z ∷ zs) u = readied_done (delta_turn V d n [] (app f a ∷ y ∷ z ∷ zs) u)
  literal n [] (lam w A b ∷ y ∷ z ∷ zs) u = readied_done (delta_turn V d n [] (lam w A b ∷ y ∷ z ∷ zs) u)
  literal n [] (pi w A b ∷ y ∷ z ∷ zs) u = readied_done (delta_turn V d n [] (pi w A b ∷ y ∷ z ∷ zs) u)
  literal n [] (letin w A v b ∷ y ∷ z ∷ zs) u = readied_done (delta_turn V d n [] (letin w A v b ∷ y ∷ z ∷ zs) u)
  literal n [] (proj s i t ∷ y ∷ z ∷ zs) u = readied_done (delta_turn V d n [] (proj s i t ∷ y ∷ z ∷ zs) u)

  detail : (n : Path) (ls : List Universe) (xs : List Term) (k : Detail) (u : ℕ)
      → detail_turn V c d C n ls xs k u ≡ go_on (detail_step V d n ls xs k u) (do_step V c d C)
  detail n ls xs Plain u = literal n ls xs u
  detail n ls xs (Ind params indices ctors large) u = literal n ls xs u
  detail n ls xs (Ctor ind index own fields) u = literal n ls xs u
  detail n ls xs (Rec ind params minors indices rules) u = refl

  constant : (n : Path) (ls : List Universe) (xs : List Term) (s : Seen) (u : ℕ)
      → constant_turn V c d C n ls xs s u ≡ go_on (constant_step V d n ls xs s u) (do_step V c d C)
  constant n ls xs (known k) u =
      chosen (nat_eq (length ls) (length k.levels)) (detail_turn V c d C n ls xs k.detail) (gives stays) (detail_step V d n ls xs k.detail)
      (gives (ready stays)) u (detail n ls xs k.detail u) refl
  constant n ls xs unknown u = refl
  constant n ls xs (missing k) u = refl

  at_head : (h : Term) (xs : List Term) (u : ℕ) → head_turn V c d C h xs u ≡ go_on (head_step V d h xs u) (do_step V c d C)
  at_head (letin x A v b) xs u = next_done (made_before xs (instantiate b v) u)
  at_head (lam x A b) [] u = refl
  at_head (lam x A b) (a ∷ xs) u = next_done (made_before xs (instantiate b a) u)
  at_head (const n ls) xs u = constant n ls xs (see V n) u
  at_head (proj s i t) xs u = refl
  at_head (bound i) xs u = refl
  at_head (free k) xs u = refl
  at_head (meta k) xs u = refl
  at_head (sort l) xs u = refl
  at_head (app f a) xs u = refl
  at_head (pi x A b) xs u = refl
  at_head (lit n) xs u = refl

pub turn_is : (V : View) (c : Calls) (d : Bool) (C : Context) (t : Term) (u : ℕ)
    → whnf_turn V c d C t u ≡ go_on (head_step V d (head_of t) (arguments_of t) u) (do_step V c d C)
turn_is V c d C t u = at_head V c d C (head_of t) (arguments_of t) u

pub on_numbers_is : (n : Path) (p q : Option ℕ) (rest : Run Progress) → on_numbers n p q rest ≡ operated (computed n p q) rest
on_numbers_is n (Some i) (Some j) rest = refl
on_numbers_is n (Some i) None rest = refl
on_numbers_is n None (Some j) rest = refl
on_numbers_is n None None rest = refl

pub projection_is : (V : View) (c : Calls) (C : Context) (S : Path) (i : ℕ) (t : Term) (xs : List Term) (u : ℕ)
    → projection_turn V c C S i t xs u ≡ go_on (c.whnf true C t u) (λ w. projected V S i w xs)
projection_is V c C S i t xs u = refl

-- Which constructor may take the place of the major premise, and then whether it does.
kept : (V : View) (c : Calls) (C : Context) (ls : List Universe) (r : Recursor) (s : Split) (w : Term) (n : Path) (b : Bool) (u : ℕ)
    → choose b (put_in V c C ls r s w n) (gives stays) u ≡ go_on (choose b (gives (Some n)) (gives None) u) (put_or_stay V c C ls r s w)
kept V c C ls r s w n true u = refl
kept V c C ls r s w n false u = refl

seen_in : (V : View) (c : Calls) (C : Context) (ls : List Universe) (r : Recursor) (s : Split) (w : Term) (n : Path) (k : Seen) (u : ℕ)
    → put_in_seen V c C ls r s w n k u ≡ go_on (fieldless_seen r n k u) (put_or_stay V c C ls r s w)
seen_in V c C ls r s w n (known d) u = kept V c C ls r s w n (is_fieldless r d.detail) u
seen_in V c C ls r s w n unknown u = refl
seen_in V c C ls r s w n (missing k) u = refl

in_prop : (V : View) (c : Calls) (C : Context) (ls : List Universe) (r : Recursor) (s : Split) (w : Term) (n : Path) (b : Bool) (u : ℕ)
    → choose b (put_in_seen V c C ls r s w n (see V n)) (gives stays) u
    ≡ go_on (choose b (fieldless_seen r n (see V n)) (gives None) u) (put_or_stay V c C ls r s w)
in_prop V c C ls r s w n true u = seen_in V c C ls r s w n (see V n) u
in_prop V c C ls r s w n false u = refl

pub like_k_is : (V : View) (c : Calls) (C : Context) (ls : List Universe) (r : Recursor) (s : Split) (w ty : Term) (d : Detail) (u : ℕ)
    → like_k V c C ls r s w ty d u ≡ go_on (fieldless V r ty d u) (put_or_stay V c C ls r s w)
like_k_is V c C ls r s w ty Plain u = refl
like_k_is V c C ls r s w ty (Ctor ind index own fields) u = refl
like_k_is V c C ls r s w ty (Rec ind params minors indices rules) u = refl
like_k_is V c C ls r s w ty (Ind params indices [] large) u = refl
like_k_is V c C ls r s w ty (Ind params indices (n ∷ []) large) u = in_prop V c C ls r s w n (is_prop_level (result_level ty)) u
like_k_is V c C ls r s w ty (Ind params indices (n ∷ m ∷ ms) large) u = refl
