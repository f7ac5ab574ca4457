-- The weak head form: reduction at the head, in one call, until no rule applies.
use Rattle.std.specs.Prelude.{
  ℕ,
  zero,
  suc,
  ◌+◌,
  ◌^◌,
  Bool,
  true,
  false,
  ◌&&◌,
  nat_eq,
  nat_lt,
  if◌then◌else◌,
  Option,
  Some,
  None,
  is_some,
  List,
  [],
  ◌∷◌,
  length,
  slice_get,
  take,
  drop,
}
use Rattle.lf_core.specs.Term.{Path, Universe, level_zero, Term, const, app, lam, letin, lit, proj}
use Rattle.lf_core.specs.Same.{same, same_path}
use Rattle.lf_core.specs.Substitution.{instantiate, level_instantiate}
use Rattle.lf_core.specs.Spine.{apply, head_of, arguments_of}
use Rattle.lf_rules.specs.Environment.{Context, nat_zero, nat_succ}
use Rattle.lf_core.specs.Literal.{operation_of, literal_operation}
use Rattle.lf_core.specs.declared.literal.LitOut.{LitOut}
use Rattle.lf_rules.specs.Step.{literal_term, by_rule}
use Rattle.lf_rules.specs.Structure.{result_level}
use Rattle.lf_core.specs.declared.constant.Detail.{Detail}
use Rattle.lf_core.specs.declared.constant.Detail.TheVariants.{Plain, Ind, Ctor, Rec}
use Rattle.lf_checker.specs.View.{View, KnownBody, value, opaque, unresolved, body_of}
use Rattle.lf_checker.specs.Extends.{Shape}
use Rattle.lf_checker.specs.LevelTest.{is_same}
use Rattle.lf_checker.specs.Run.{Run, ◌>>=◌, gives, gives_up, needs, choose, attempt, put, made, made_before}
use Rattle.lf_checker.specs.Calls.{checked, Calls, Seen, known, unknown, missing, see}
use Rattle.lf_checker.specs.Structures.{Structure, structure_of, is_built}

pub data Progress : Type 0 where
  stays : Progress
  next : Term → Progress
  -- the successor of a literal, after which nothing is left to do
  ends : Term → Progress

abbrev pub goes : Run Term → Run Progress
goes m = do
  t ← m
  gives (next t)

-- ---- A recursor.

pub record Recursor : Type 0 where
  pub ind : Path
  pub params : ℕ
  pub minors : ℕ
  pub indices : ℕ
  pub rules : List Term

-- The arguments of a recursor round its major premise.
pub record Split : Type 0 where
  pub before : List Term
  pub major : Term
  pub after : List Term

abbrev pub one_before : Term → Option Split → Option Split
one_before x None = None
one_before x (Some s) = Some (record { before = x ∷ s.before; major = s.major; after = s.after })

abbrev pub split : ℕ → List Term → Option Split
split n [] = None
split zero (x ∷ xs) = Some (record { before = []; major = x; after = xs })
split (suc n) (x ∷ xs) = one_before x (split n xs)

-- The constructor that a literal below 2^128 is.
abbrev pub literal_constructor : Term → Term
literal_constructor (lit zero) = nat_zero
literal_constructor (lit (suc n)) = if nat_lt (suc n) (2 ^ 128) then app nat_succ (lit n) else lit (suc n)
literal_constructor t = t

-- The parameters, motive and minor premises, which a rule takes.
abbrev pub shared : Recursor → ℕ
shared r = r.params + 1 + r.minors

abbrev pub fire_rule : Recursor → List Universe → Split → ℕ → List Term → Option Term → Run Progress
fire_rule r ls s own ys (Some rule) = goes (made (apply (by_rule rule ls (shared r) s.before (drop own ys)) s.after))
fire_rule r ls s own ys None = gives stays

abbrev pub fire_detail : Recursor → List Universe → Split → List Term → Detail → Run Progress
fire_detail r ls s ys (Ctor ind index own fields) = choose (same_path ind r.ind && nat_eq (length ys) (own + fields))
    (fire_rule r ls s own ys (slice_get r.rules index)) (gives stays)
fire_detail r ls s ys _ = gives stays

abbrev pub fire_seen : Recursor → List Universe → Split → List Term → Seen → Run Progress
fire_seen r ls s ys (known c) = fire_detail r ls s ys c.detail
fire_seen r ls s ys unknown = gives stays
fire_seen r ls s ys (missing k) = needs k

-- The rule of the constructor that heads the major premise, where it is one of the recursor's type with all its arguments.
abbrev pub fire_head : View → Recursor → List Universe → Split → Term → List Term → Run Progress
fire_head V r ls s (const n ms) ys = fire_seen r ls s ys (see V n)
fire_head V r ls s h ys = gives stays

abbrev pub fire : View → Recursor → List Universe → Split → Term → Run Progress
fire V r ls s m = fire_head V r ls s (head_of m) (arguments_of m)

abbrev pub is_true : Option Bool → Bool
is_true (Some true) = true
is_true (Some false) = false
is_true None = false

-- The constructor without fields takes the place of a major premise that has its type.
abbrev pub put_in : View → Calls → Context → List Universe → Recursor → Split → Term → Path → Run Progress
put_in V c C ls r s w n = do
  ctor ← put (apply (const n (drop 1 ls)) (take r.params s.before))
  same_type ← attempt do
    S ← c.infer checked C w
    T ← c.infer checked C ctor
    c.equal C S T
  choose (is_true same_type) (fire V r ls s ctor) (gives stays)

-- A constructor of the recursor's type that has its parameters and no fields.
abbrev pub is_fieldless : Recursor → Detail → Bool
is_fieldless r (Ctor ind index own fields) = same_path ind r.ind && (nat_eq own r.params && nat_eq fields 0)
is_fieldless r Plain = false
is_fieldless r (Ind params indices names large) = false
is_fieldless r (Rec ind params minors indices rules) = false

abbrev pub put_in_seen : View → Calls → Context → List Universe → Recursor → Split → Term → Path → Seen → Run Progress
put_in_seen V c C ls r s w n (known d) = choose (is_fieldless r d.detail) (put_in V c C ls r s w n) (gives stays)
put_in_seen V c C ls r s w n unknown = gives stays
put_in_seen V c C ls r s w n (missing k) = needs k

abbrev pub is_prop_level : Option Universe → Bool
is_prop_level (Some l) = is_same l level_zero
is_prop_level None = false

-- A type declared in `Prop` with one constructor.
abbrev pub like_k : View → Calls → Context → List Universe → Recursor → Split → Term → Term → Detail → Run Progress
like_k V c C ls r s w ty (Ind params indices (n ∷ []) large) = choose (is_prop_level (result_level ty)) (put_in_seen V c C ls r s w n (see V n)) (gives stays)
like_k V c C ls r s w ty _ = gives stays

abbrev pub or_like_k : View → Calls → Context → List Universe → Recursor → Split → Term → Shape → Progress → Run Progress
or_like_k V c C ls r s w type stays = like_k V c C ls r s w type.ty type.detail
or_like_k V c C ls r s w type p = gives p

abbrev pub at_major : View → Calls → Context → List Universe → Recursor → Split → Seen → Run Progress
at_major V c C ls r s (known type) = do
  w ← c.whnf true C s.major
  p ← fire V r ls s (literal_constructor w)
  or_like_k V c C ls r s w type p
at_major V c C ls r s unknown = gives stays
at_major V c C ls r s (missing k) = needs k

abbrev pub recursor_turn : View → Calls → Context → List Universe → Recursor → Option Split → Run Progress
recursor_turn V c C ls r None = gives stays
recursor_turn V c C ls r (Some s) = at_major V c C ls r s (see V r.ind)

-- ---- Literals.

abbrev pub as_number : Term → Option ℕ
as_number (lit n) = Some n
as_number (const n ls) = if same (const n ls) nat_zero then Some 0 else None
as_number _ = None

abbrev pub operated : Option LitOut → Run Progress → Run Progress
operated (Some r) rest = gives (next (literal_term r))
operated None rest = rest

abbrev pub on_numbers : Path → Option ℕ → Option ℕ → Run Progress → Run Progress
on_numbers n (Some i) (Some j) rest = operated (literal_operation n i j) rest
on_numbers n _ _ rest = rest

abbrev pub operands : Calls → Context → Path → Term → Term → Run Progress → Run Progress
operands c C n x y rest = do
  a ← c.whnf true C x
  b ← c.whnf true C y
  on_numbers n (as_number a) (as_number b) rest

-- An operation on two literals, the successor of a literal that stands there, and else the rest.
abbrev pub literal_turn : Calls → Context → Path → List Universe → List Term → Run Progress → Run Progress
literal_turn c C n [] (lit k ∷ []) rest = choose (same (const n []) nat_succ && nat_lt (suc k) (2 ^ 128)) (gives (ends (lit (suc k)))) rest
literal_turn c C n [] (x ∷ y ∷ []) rest = choose (is_some (operation_of n)) (operands c C n x y rest) rest
literal_turn c C n ls xs rest = rest

-- ---- Projections.

-- The field, where the term of the projection is the structure's constructor with all its arguments.
abbrev pub field_at : Structure → ℕ → Term → List Term → Option Term
field_at s i (const n ms) ys = if is_built s n ys then slice_get (drop s.params ys) i else None
field_at s i h ys = None

-- A field stands there: it is put before the arguments at no cost.
abbrev pub projected : List Term → Option Term → Run Progress
projected xs (Some x) = goes (put (apply x xs))
projected xs None = gives stays

abbrev pub by_field : ℕ → List Term → Term → Option Structure → Run Progress
by_field i xs w (Some s) = projected xs (field_at s i (head_of w) (arguments_of w))
by_field i xs w None = gives stays

abbrev pub projection_turn : View → Calls → Context → Path → ℕ → Term → List Term → Run Progress
projection_turn V c C S i t xs = do
  w ← c.whnf true C t
  s ← structure_of V S
  by_field i xs w s

-- ---- Turns.

abbrev pub by_body : List Universe → List Term → KnownBody → Run Progress
by_body ls xs (value v h) = goes (made_before xs (level_instantiate ls v))
by_body ls xs opaque = gives stays
by_body ls xs (unresolved k) = needs k

abbrev pub delta_turn : View → Bool → Path → List Universe → List Term → Run Progress
delta_turn V true n ls xs = by_body ls xs (body_of V n)
delta_turn V false n ls xs = gives stays

abbrev pub detail_turn : View → Calls → Bool → Context → Path → List Universe → List Term → Detail → Run Progress
detail_turn V c d C n ls xs (Rec ind params minors indices rules) =
    let r : Recursor = record { ind = ind; params = params; minors = minors; indices = indices; rules = rules } in
    recursor_turn V c C ls r (split (shared r + indices) xs)
detail_turn V c d C n ls xs _ = literal_turn c C n ls xs (delta_turn V d n ls xs)

abbrev pub constant_turn : View → Calls → Bool → Context → Path → List Universe → List Term → Seen → Run Progress
constant_turn V c d C n ls xs (known k) = choose (nat_eq (length ls) (length k.levels)) (detail_turn V c d C n ls xs k.detail) (gives stays)
constant_turn V c d C n ls xs unknown = gives stays
constant_turn V c d C n ls xs (missing k) = needs k

-- The first rule that applies to this head with these arguments.
abbrev pub head_turn : View → Calls → Bool → Context → Term → List Term → Run Progress
head_turn V c d C (letin x A v b) xs = goes (made_before xs (instantiate b v))
head_turn V c d C (lam x A b) (a ∷ xs) = goes (made_before xs (instantiate b a))
head_turn V c d C (const n ls) xs = constant_turn V c d C n ls xs (see V n)
head_turn V c d C (proj S i t) xs = projection_turn V c C S i t xs
head_turn V c d C h xs = gives stays

abbrev pub whnf_turn : View → Calls → Bool → Context → Term → Run Progress
whnf_turn V c d C t = head_turn V c d C (head_of t) (arguments_of t)

-- More turns than a budget has units: each that goes on costs one at least.
unfoldable pub turn_limit : ℕ
turn_limit = 18446744073709551615

abbrev pub whnf_loop : View → Calls → Bool → Context → ℕ → Term → Run Term
whnf_loop V c d C zero t = gives_up
whnf_loop V c d C (suc n) t = do
  p ← whnf_turn V c d C t
  elim p [ stays ↦ gives t | next s ↦ whnf_loop V c d C n s | ends s ↦ gives s ]

unfoldable pub whnf_body : View → Calls → Bool → Context → Term → Run Term
whnf_body V c d C t = whnf_loop V c d C turn_limit t
