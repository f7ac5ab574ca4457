-- Views that tell the same of every name make the same calls: each of the checker's functions reads a view by `see` and `body_of` alone.
use Rattle.std.proofs.Common.{◌≡◌, ℕ, zero, suc, Bool, true, false, List, [], ◌∷◌, refl}
use Rattle.std.specs.Prelude.{◌+◌, ◌&&◌, nat_eq, Option, Some, None, length, take, drop}
use Rattle.lf_core.specs.Term.{Path, Universe, Term, bound, free, meta, sort, const, app, lam, pi, letin, lit, proj}
use Rattle.lf_core.specs.Same.{same, same_path}
use Rattle.lf_core.specs.Spine.{apply, head_of, arguments_of}
use Rattle.lf_core.specs.declared.constant.Detail.{Detail}
use Rattle.lf_core.specs.declared.constant.Detail.TheVariants.{Plain, Ind, Ctor, Rec}
use Rattle.lf_rules.specs.Environment.{Context}
use Rattle.lf_rules.specs.Structure.{result_level}
use Rattle.lf_checker.specs.View.{View, body_of}
use Rattle.lf_checker.specs.Extends.{Shape}
use Rattle.lf_checker.specs.Run.{Run, ◌>>=◌, gives, refuse, choose, spend, attempt, put}
use Rattle.lf_checker.specs.declared.fault.TypeFault.TheVariants.{NotStructure}
use Rattle.lf_checker.specs.Calls.{Mode, checked, Calls, Seen, known, unknown, missing, see}
use Rattle.lf_checker.specs.Structures as structures
use Rattle.lf_checker.specs.Structures.{structure_of}
use Rattle.lf_checker.specs.Whnf as whnf
use Rattle.lf_checker.specs.Whnf.{Progress, stays, next, ends, Recursor, Split, split, is_true, literal_constructor, turn_limit, whnf_body}
use Rattle.lf_checker.specs.Equal as equal
use Rattle.lf_checker.specs.Equal.{Verdict, decided, again, undecided, or_else, if_true, when_true, equal_body}
use Rattle.lf_checker.specs.Infer as infer
use Rattle.lf_checker.specs.Infer.{infer_body, sort_of, is_type, on_pi, argument_fits, value_fits, of_context, of_metavariable, of_constant}
use Rattle.lf_checker.specs.Normalize.{normalize_body}
use Rattle.lf_checker.specs.Checker.{calls}

pub record Alike (V W : View) : Type 0 where
  pub sees : (n : Path) → see V n ≡ see W n
  pub bodies : (n : Path) → body_of V n ≡ body_of W n

-- ---- Structures.

by_type_is : {V W : View} (h : Alike V W) (S : Path) (k : Shape) (d : Detail) → structures.by_type V S k d ≡ structures.by_type W S k d
by_type_is h S k Plain = refl
by_type_is h S k (Ind params indices [] large) = refl
by_type_is h S k (Ind params indices (n ∷ []) large) = λ i. choose (nat_eq indices 0 && structures.is_successor (result_level k.ty))
    (structures.constructor_seen S (length k.levels) params n (h.sees n i)) (gives None)
by_type_is h S k (Ind params indices (n ∷ m ∷ ns) large) = refl
by_type_is h S k (Ctor ind index own fields) = refl
by_type_is h S k (Rec ind params minors indices rules) = refl

structure_seen_is : {V W : View} (h : Alike V W) (S : Path) (x : Seen) → structures.structure_seen V S x ≡ structures.structure_seen W S x
structure_seen_is h S (known k) = by_type_is h S k k.detail
structure_seen_is h S unknown = refl
structure_seen_is h S (missing k) = refl

structure_is : {V W : View} (h : Alike V W) (S : Path) → structure_of V S ≡ structure_of W S
structure_is h S = λ i. structure_seen_is h S (h.sees S i) i

-- ---- Weak head forms.

fire_head_is : {V W : View} (h : Alike V W) (r : Recursor) (ls : List Universe) (s : Split) (t : Term) (ys : List Term)
    → whnf.fire_head V r ls s t ys ≡ whnf.fire_head W r ls s t ys
fire_head_is h r ls s (const n ms) ys = λ i. whnf.fire_seen r ls s ys (h.sees n i)
fire_head_is h r ls s (bound k) ys = refl
fire_head_is h r ls s (free k) ys = refl
fire_head_is h r ls s (meta k) ys = refl
fire_head_is h r ls s (sort l) ys = refl
fire_head_is h r ls s (app f a) ys = refl
fire_head_is h r ls s (lam x A b) ys = refl
fire_head_is h r ls s (pi x A b) ys = refl
fire_head_is h r ls s (letin x A v b) ys = refl
fire_head_is h r ls s (lit k) ys = refl
fire_head_is h r ls s (proj k j t) ys = refl

fire_is : {V W : View} (h : Alike V W) (r : Recursor) (ls : List Universe) (s : Split) (m : Term) → whnf.fire V r ls s m ≡ whnf.fire W r ls s m
fire_is h r ls s m = fire_head_is h r ls s (head_of m) (arguments_of m)

put_in_is : {V W : View} (h : Alike V W) (c : Calls) (C : Context) (ls : List Universe) (r : Recursor) (s : Split) (w : Term) (n : Path)
    → whnf.put_in V c C ls r s w n ≡ whnf.put_in W c C ls r s w n
put_in_is h c C ls r s w n = λ i. do
  ctor ← put (apply (const n (drop 1 ls)) (take r.params s.before))
  same_type ← attempt do
    S ← c.infer checked C w
    T ← c.infer checked C ctor
    c.equal C S T
  choose (is_true same_type) (fire_is h r ls s ctor i) (gives stays)

put_in_seen_is : {V W : View} (h : Alike V W) (c : Calls) (C : Context) (ls : List Universe) (r : Recursor) (s : Split) (w : Term) (n : Path) (x : Seen)
    → whnf.put_in_seen V c C ls r s w n x ≡ whnf.put_in_seen W c C ls r s w n x
put_in_seen_is h c C ls r s w n (known d) = λ i. choose (whnf.is_fieldless r d.detail) (put_in_is h c C ls r s w n i) (gives stays)
put_in_seen_is h c C ls r s w n unknown = refl
put_in_seen_is h c C ls r s w n (missing k) = refl

like_k_is : {V W : View} (h : Alike V W) (c : Calls) (C : Context) (ls : List Universe) (r : Recursor) (s : Split) (w ty : Term) (d : Detail)
    → whnf.like_k V c C ls r s w ty d ≡ whnf.like_k W c C ls r s w ty d
like_k_is h c C ls r s w ty Plain = refl
like_k_is h c C ls r s w ty (Ind params indices [] large) = refl
like_k_is h c C ls r s w ty (Ind params indices (n ∷ []) large) = λ i. choose (whnf.is_prop_level (result_level ty))
    (put_in_seen_is h c C ls r s w n (h.sees n i) i) (gives stays)
like_k_is h c C ls r s w ty (Ind params indices (n ∷ m ∷ ns) large) = refl
like_k_is h c C ls r s w ty (Ctor ind index own fields) = refl
like_k_is h c C ls r s w ty (Rec ind params minors indices rules) = refl

or_like_k_is : {V W : View} (h : Alike V W) (c : Calls) (C : Context) (ls : List Universe) (r : Recursor) (s : Split) (w : Term) (type : Shape) (p : Progress)
    → whnf.or_like_k V c C ls r s w type p ≡ whnf.or_like_k W c C ls r s w type p
or_like_k_is h c C ls r s w type stays = like_k_is h c C ls r s w type.ty type.detail
or_like_k_is h c C ls r s w type (next t) = refl
or_like_k_is h c C ls r s w type (ends t) = refl

at_major_is : {V W : View} (h : Alike V W) (c : Calls) (C : Context) (ls : List Universe) (r : Recursor) (s : Split) (x : Seen)
    → whnf.at_major V c C ls r s x ≡ whnf.at_major W c C ls r s x
at_major_is h c C ls r s (known type) = λ i. do
  w ← c.whnf true C s.major
  p ← fire_is h r ls s (literal_constructor w) i
  or_like_k_is h c C ls r s w type p i
at_major_is h c C ls r s unknown = refl
at_major_is h c C ls r s (missing k) = refl

recursor_turn_is : {V W : View} (h : Alike V W) (c : Calls) (C : Context) (ls : List Universe) (r : Recursor) (s : Option Split)
    → whnf.recursor_turn V c C ls r s ≡ whnf.recursor_turn W c C ls r s
recursor_turn_is h c C ls r None = refl
recursor_turn_is h c C ls r (Some s) = λ i. at_major_is h c C ls r s (h.sees r.ind i) i

projection_turn_is : {V W : View} (h : Alike V W) (c : Calls) (C : Context) (S : Path) (j : ℕ) (t : Term) (xs : List Term)
    → whnf.projection_turn V c C S j t xs ≡ whnf.projection_turn W c C S j t xs
projection_turn_is h c C S j t xs = λ i. do
  w ← c.whnf true C t
  s ← structure_is h S i
  whnf.by_field j xs w s

delta_turn_is : {V W : View} (h : Alike V W) (d : Bool) (n : Path) (ls : List Universe) (xs : List Term)
    → whnf.delta_turn V d n ls xs ≡ whnf.delta_turn W d n ls xs
delta_turn_is h true n ls xs = λ i. whnf.by_body ls xs (h.bodies n i)
delta_turn_is h false n ls xs = refl

detail_turn_is : {V W : View} (h : Alike V W) (c : Calls) (d : Bool) (C : Context) (n : Path) (ls : List Universe) (xs : List Term) (k : Detail)
    → whnf.detail_turn V c d C n ls xs k ≡ whnf.detail_turn W c d C n ls xs k
detail_turn_is h c d C n ls xs Plain = λ i. whnf.literal_turn c C n ls xs (delta_turn_is h d n ls xs i)
detail_turn_is h c d C n ls xs (Ind params indices names large) = λ i. whnf.literal_turn c C n ls xs (delta_turn_is h d n ls xs i)
detail_turn_is h c d C n ls xs (Ctor ind index own fields) = λ i. whnf.literal_turn c C n ls xs (delta_turn_is h d n ls xs i)
detail_turn_is h c d C n ls xs (Rec ind params minors indices rules) =
    let r : Recursor = record { ind = ind; params = params; minors = minors; indices = indices; rules = rules } in
    recursor_turn_is h c C ls r (split (whnf.shared r + indices) xs)

constant_turn_is : {V W : View} (h : Alike V W) (c : Calls) (d : Bool) (C : Context) (n : Path) (ls : List Universe) (xs : List Term) (x : Seen)
    → whnf.constant_turn V c d C n ls xs x ≡ whnf.constant_turn W c d C n ls xs x
constant_turn_is h c d C n ls xs (known k) = λ i. choose (nat_eq (length ls) (length k.levels)) (detail_turn_is h c d C n ls xs k.detail i) (gives stays)
constant_turn_is h c d C n ls xs unknown = refl
constant_turn_is h c d C n ls xs (missing k) = refl

head_turn_is : {V W : View} (h : Alike V W) (c : Calls) (d : Bool) (C : Context) (t : Term) (xs : List Term)
    → whnf.head_turn V c d C t xs ≡ whnf.head_turn W c d C t xs
head_turn_is h c d C (const n ls) xs = λ i. constant_turn_is h c d C n ls xs (h.sees n i) i
head_turn_is h c d C (proj S j t) xs = projection_turn_is h c C S j t xs
head_turn_is h c d C (letin x A v b) xs = refl
head_turn_is h c d C (lam x A b) [] = refl
head_turn_is h c d C (lam x A b) (a ∷ xs) = refl
head_turn_is h c d C (bound k) xs = refl
head_turn_is h c d C (free k) xs = refl
head_turn_is h c d C (meta k) xs = refl
head_turn_is h c d C (sort l) xs = refl
head_turn_is h c d C (app f a) xs = refl
head_turn_is h c d C (pi x A b) xs = refl
head_turn_is h c d C (lit k) xs = refl

abbrev turn_on : Term → (Term → Run Term) → Progress → Run Term
turn_on t rest p = elim p [ stays ↦ gives t | next s ↦ rest s | ends s ↦ gives s ]

turn_then : (t : Term) (rest rest' : Term → Run Term) → ((s : Term) → rest s ≡ rest' s) → (p : Progress) → turn_on t rest p ≡ turn_on t rest' p
turn_then t rest rest' e stays = refl
turn_then t rest rest' e (next s) = e s
turn_then t rest rest' e (ends s) = refl

whnf_loop_is : {V W : View} (h : Alike V W) (c : Calls) (d : Bool) (C : Context) (n : ℕ) (t : Term) → whnf.whnf_loop V c d C n t ≡ whnf.whnf_loop W c d C n t
whnf_loop_is h c d C zero t = refl
whnf_loop_is {V} {W} h c d C (suc n) t = λ i. head_turn_is h c d C (head_of t) (arguments_of t) i
    >>= (λ p. turn_then t (whnf.whnf_loop V c d C n) (whnf.whnf_loop W c d C n) (whnf_loop_is h c d C n) p i)

whnf_body_is : {V W : View} (h : Alike V W) (c : Calls) (d : Bool) (C : Context) (t : Term) → whnf_body V c d C t ≡ whnf_body W c d C t
unfolding whnf_body
whnf_body_is h c d C t = whnf_loop_is h c d C turn_limit t

-- ---- Equality.

built_detail_is : {V W : View} (h : Alike V W) (n : Path) (ms : List Universe) (ys : List Term) (d : Detail)
    → equal.built_detail V n ms ys d ≡ equal.built_detail W n ms ys d
built_detail_is h n ms ys Plain = refl
built_detail_is h n ms ys (Ind params indices names large) = refl
built_detail_is h n ms ys (Rec ind params minors indices rules) = refl
built_detail_is h n ms ys (Ctor ind index own fields) = λ i. do
  s ← structure_is h ind i
  gives (equal.built_by ind n ms ys s)

built_seen_is : {V W : View} (h : Alike V W) (n : Path) (ms : List Universe) (ys : List Term) (x : Seen)
    → equal.built_seen V n ms ys x ≡ equal.built_seen W n ms ys x
built_seen_is h n ms ys (known c) = built_detail_is h n ms ys c.detail
built_seen_is h n ms ys unknown = refl
built_seen_is h n ms ys (missing k) = refl

built_is : {V W : View} (h : Alike V W) (t : Term) (ys : List Term) → equal.built_of V t ys ≡ equal.built_of W t ys
built_is h (const n ms) ys = λ i. built_seen_is h n ms ys (h.sees n i) i
built_is h (bound k) ys = refl
built_is h (free k) ys = refl
built_is h (meta k) ys = refl
built_is h (sort l) ys = refl
built_is h (app f a) ys = refl
built_is h (lam x A b) ys = refl
built_is h (pi x A b) ys = refl
built_is h (letin x A v b) ys = refl
built_is h (lit k) ys = refl
built_is h (proj k j t) ys = refl

against_built_is : {V W : View} (h : Alike V W) (c : Calls) (C : Context) (x y : Term) → equal.against_built V c C x y ≡ equal.against_built W c C x y
against_built_is h c C x y = λ i. do
  b ← built_is h (head_of x) (arguments_of x) i
  equal.eta_built c C y b

by_structures_is : {V W : View} (h : Alike V W) (c : Calls) (C : Context) (a b : Term) → equal.by_structures V c C a b ≡ equal.by_structures W c C a b
by_structures_is h c C a b = λ i. or_else (if_true (against_built_is h c C a b i)) (if_true (against_built_is h c C b a i))

definition_seen_is : {V W : View} (h : Alike V W) (n : Path) (ls : List Universe) (x : Seen) → equal.definition_seen V n ls x ≡ equal.definition_seen W n ls x
definition_seen_is h n ls (known c) = λ i. choose (nat_eq (length ls) (length c.levels)) (equal.of_body (h.bodies n i)) (gives None)
definition_seen_is h n ls unknown = refl
definition_seen_is h n ls (missing k) = refl

definition_is : {V W : View} (h : Alike V W) (t : Term) → equal.definition_of V t ≡ equal.definition_of W t
definition_is h (const n ls) = λ i. definition_seen_is h n ls (h.sees n i) i
definition_is h (bound k) = refl
definition_is h (free k) = refl
definition_is h (meta k) = refl
definition_is h (sort l) = refl
definition_is h (app f a) = refl
definition_is h (lam x A b) = refl
definition_is h (pi x A b) = refl
definition_is h (letin x A v b) = refl
definition_is h (lit k) = refl
definition_is h (proj k j t) = refl

by_unfolding_is : {V W : View} (h : Alike V W) (a b : Term) → equal.by_unfolding V a b ≡ equal.by_unfolding W a b
by_unfolding_is h a b = λ i. do
  d ← definition_is h (head_of a) i
  e ← definition_is h (head_of b) i
  equal.by_height a b d e

equal_turn_is : {V W : View} (h : Alike V W) (c : Calls) (C : Context) (a b : Term) → equal.equal_turn V c C a b ≡ equal.equal_turn W c C a b
equal_turn_is h c C a b = λ i. or_else (gives (when_true (same a b))) (or_else (equal.by_form c C a b) (or_else (equal.by_whnf c C a b)
    (or_else (or_else (equal.by_proofs c C a b) (or_else (equal.by_eta c C a b) (by_structures_is h c C a b i)))
    (or_else (equal.by_literals c C a b) (or_else (equal.by_arguments c C a b) (by_unfolding_is h a b i))))))

abbrev verdict_on : (Term → Term → Run Bool) → Verdict → Run Bool
verdict_on rest v = elim v [ decided r ↦ gives r | again a b ↦ rest a b | undecided ↦ gives false ]

verdict_then : (rest rest' : Term → Term → Run Bool) → ((a b : Term) → rest a b ≡ rest' a b) → (v : Verdict) → verdict_on rest v ≡ verdict_on rest' v
verdict_then rest rest' e (decided r) = refl
verdict_then rest rest' e (again a b) = e a b
verdict_then rest rest' e undecided = refl

equal_loop_is : {V W : View} (h : Alike V W) (c : Calls) (C : Context) (n : ℕ) (a b : Term) → equal.equal_loop V c C n a b ≡ equal.equal_loop W c C n a b
equal_loop_is h c C zero a b = refl
equal_loop_is {V} {W} h c C (suc n) a b = λ i. equal_turn_is h c C a b i
    >>= (λ v. verdict_then (equal.equal_loop V c C n) (equal.equal_loop W c C n) (equal_loop_is h c C n) v i)

equal_body_is : {V W : View} (h : Alike V W) (c : Calls) (C : Context) (a b : Term) → equal_body V c C a b ≡ equal_body W c C a b
unfolding equal_body
equal_body_is h c C a b = equal_loop_is h c C turn_limit a b

-- ---- Types.

on_structure_is : {V W : View} (h : Alike V W) (has : Term) (S : Path) (j : ℕ) (t w : Term) (ps : List Term)
    → infer.on_structure V has S j t w ps ≡ infer.on_structure W has S j t w ps
on_structure_is h has S j t (const n ls) ps = λ i. choose (same_path n S) (do
  s ← structure_is h S i
  infer.of_structure has S j t ls ps s) (refuse (NotStructure has))
on_structure_is h has S j t (bound k) ps = refl
on_structure_is h has S j t (free k) ps = refl
on_structure_is h has S j t (meta k) ps = refl
on_structure_is h has S j t (sort l) ps = refl
on_structure_is h has S j t (app f a) ps = refl
on_structure_is h has S j t (lam x A b) ps = refl
on_structure_is h has S j t (pi x A b) ps = refl
on_structure_is h has S j t (letin x A v b) ps = refl
on_structure_is h has S j t (lit k) ps = refl
on_structure_is h has S j t (proj k l u) ps = refl

infer_body_is : {V W : View} (h : Alike V W) (c : Calls) (m : Mode) (C : Context) (t : Term) → infer_body V c m C t ≡ infer_body W c m C t
unfolding infer_body
infer_body_is h c m C (const n ls) = λ i. of_constant n ls (h.sees n i)
infer_body_is h c m C (proj S j t) = λ i. do
  T ← c.infer m C t
  W ← c.whnf true C T
  on_structure_is h T S j t (head_of W) (arguments_of W) i
infer_body_is h c m C (bound k) = refl
infer_body_is h c m C (free k) = refl
infer_body_is h c m C (meta k) = refl
infer_body_is h c m C (sort l) = refl
infer_body_is h c m C (lit k) = refl
infer_body_is h c m C (app f a) = refl
infer_body_is h c m C (lam x A b) = refl
infer_body_is h c m C (pi x A b) = refl
infer_body_is h c m C (letin x A v b) = refl

-- ---- All calls.

pub calls_alike : {V W : View} (h : Alike V W) (n : ℕ) → calls V n ≡ calls W n
calls_alike h zero = refl
calls_alike h (suc n) = λ i. record {
  whnf = λ d C t. spend 1 (whnf_body_is h (calls_alike h n i) d C t i);
  equal = λ C a b. spend 1 (equal_body_is h (calls_alike h n i) C a b i);
  infer = λ m C t. spend 1 (infer_body_is h (calls_alike h n i) m C t i);
  normalize = λ C t. spend 1 (normalize_body (calls_alike h n i) C t);
}
