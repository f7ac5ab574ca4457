-- The plain checker: weak head forms, equality, types and normal forms as functions of view, context, term and budget, with no cache.
-- Each call costs a unit at its start and is nested one deeper while it runs; each term made by substitution costs its nodes.
-- The rules are in docs/language.md; that they agree with equality and typing is a law (crate lf_checker_laws). This project's own.
use Rattle.std.specs.Prelude.{ℕ, zero, suc, ◌+◌, Bool, true, false, not, ◌&&◌, nat_lt, Option, Some, None, [], max, min}
use Rattle.lf_core.specs.Term.{Path, Universe, Term, bound, free, meta, sort, const, app, lam, pi, letin, lit, proj}
use Rattle.lf_core.specs.Summary.{level_has_metavariable, levels_have_metavariable}
use Rattle.lf_rules.specs.Environment.{Context}
use Rattle.lf_core.specs.declared.constant.ConstInfo.{ConstInfo}
use Rattle.lf_checker.specs.View.{View, There, there, not_there, not_known, there_of, KnownBody, value, opaque, unresolved, body_of}
use Rattle.lf_checker.specs.Run.{Run, ◌>>=◌, gives, gives_up, refuse, needs, choose, spend}
use Rattle.lf_checker.specs.declared.fault.TypeFault.TheVariants.{NotClosed, Duplicate, Value}
use Rattle.lf_checker.specs.Calls.{checked, Calls, Seen, known, unknown, missing, see}
use Rattle.lf_checker.specs.Whnf.{whnf_body}
use Rattle.lf_checker.specs.Equal.{equal_body}
use Rattle.lf_checker.specs.Infer.{infer_body, sort_of}
use Rattle.lf_checker.specs.Normalize.{normalize_body}

abbrev pub no_calls : Calls
no_calls = record { whnf = λ d C t. gives_up; equal = λ C a b. gives_up; infer = λ m C t. gives_up; normalize = λ C t. gives_up }

abbrev pub turn : View → Calls → Calls
turn V c = record {
  whnf = λ d C t. spend 1 (whnf_body V c d C t);
  equal = λ C a b. spend 1 (equal_body V c C a b);
  infer = λ m C t. spend 1 (infer_body V c m C t);
  normalize = λ C t. spend 1 (normalize_body c C t);
}

-- The four functions, where so many nested calls are still allowed.
abbrev pub calls : View → ℕ → Calls
calls V zero = no_calls
calls V (suc n) = turn V (calls V n)

abbrev pub whnf : View → ℕ → Context → Term → Run Term
whnf V depth C t = (calls V depth).whnf true C t

abbrev pub equal : View → ℕ → Context → Term → Term → Run Bool
equal V depth C a b = (calls V depth).equal C a b

abbrev pub infer : View → ℕ → Context → Term → Run Term
infer V depth C t = (calls V depth).infer checked C t

abbrev pub normalize : View → ℕ → Context → Term → Run Term
normalize V depth C t = (calls V depth).normalize C t

-- ---- Declarations.

-- No metavariable of terms or of levels, no free variable, and each loose bound variable below d.
abbrev pub is_closed_under : ℕ → Term → Bool
is_closed_under d (bound i) = nat_lt i d
is_closed_under d (free k) = false
is_closed_under d (meta k) = false
is_closed_under d (sort l) = not (level_has_metavariable l)
is_closed_under d (const n ls) = not (levels_have_metavariable ls)
is_closed_under d (app f a) = is_closed_under d f && is_closed_under d a
is_closed_under d (lam x A b) = is_closed_under d A && is_closed_under (suc d) b
is_closed_under d (pi x A B) = is_closed_under d A && is_closed_under (suc d) B
is_closed_under d (letin x A v b) = is_closed_under d A && (is_closed_under d v && is_closed_under (suc d) b)
is_closed_under d (lit n) = true
is_closed_under d (proj s i t) = is_closed_under d t

abbrev pub is_closed : Term → Bool
is_closed t = is_closed_under 0 t

abbrev pub unless_there : {A : Type 0} → Path → There → Run A → Run A
unless_there n (there p) m = refuse (Duplicate n p)
unless_there n (not_known k) m = needs k
unless_there n not_there m = m

-- The level of the sort of a stated type.
abbrev pub add_header : View → ℕ → Path → Term → Run Universe
add_header V depth n ty = choose (is_closed ty) (unless_there n (there_of V n) (sort_of (calls V depth) checked [] ty)) (refuse NotClosed)

abbrev pub body_height : KnownBody → Run ℕ
body_height (value v h) = gives h
body_height opaque = gives 0
body_height (unresolved k) = needs k

abbrev pub seen_height : View → Path → Seen → Run ℕ
seen_height V n (known c) = body_height (body_of V n)
seen_height V n unknown = gives 0
seen_height V n (missing k) = needs k

-- The greatest height of the definitions in a term, read from the left.
abbrev pub greatest_height : View → Term → Run ℕ
greatest_height V (const n ls) = seen_height V n (see V n)
greatest_height V (app f a) = do
  g ← greatest_height V f
  h ← greatest_height V a
  gives (max g h)
greatest_height V (lam x A b) = do
  g ← greatest_height V A
  h ← greatest_height V b
  gives (max g h)
greatest_height V (pi x A b) = do
  g ← greatest_height V A
  h ← greatest_height V b
  gives (max g h)
greatest_height V (letin x A v b) = do
  g ← greatest_height V A
  h ← greatest_height V v
  i ← greatest_height V b
  gives (max g (max h i))
greatest_height V (proj s i t) = greatest_height V t
greatest_height V (bound i) = gives 0
greatest_height V (free k) = gives 0
greatest_height V (meta k) = gives 0
greatest_height V (sort l) = gives 0
greatest_height V (lit n) = gives 0

abbrev pub height_of : View → Term → Run ℕ
height_of V v = do
  h ← greatest_height V v
  gives (min (h + 1) 4294967295)

abbrev pub is_value_closed : Option Term → Bool
is_value_closed (Some v) = is_closed v
is_value_closed None = true

abbrev pub check_value : View → ℕ → Term → Option Term → Run ℕ
check_value V depth ty None = gives 0
check_value V depth ty (Some v) = do
  X ← (calls V depth).infer checked [] v
  fits ← (calls V depth).equal [] X ty
  choose fits (height_of V v) (refuse (Value X ty))

-- A constant's value checked against its type, with the height that it has.
abbrev pub add_decl : View → ℕ → ConstInfo → Run ℕ
add_decl V depth c = choose (is_closed c.ty && is_value_closed c.value) (unless_there c.name (there_of V c.name) (check_value V depth c.ty c.value))
    (refuse NotClosed)
