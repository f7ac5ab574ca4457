-- The normal form: the weak head form, and then its parts.
use Rattle.std.specs.Prelude.{suc, ◌^◌, true, ◌&&◌, nat_lt, if◌then◌else◌, List, [], ◌∷◌, length}
use Rattle.lf_core.specs.Term.{Term, const, app, lam, pi, lit, proj}
use Rattle.lf_core.specs.Same.{same}
use Rattle.lf_core.specs.Substitution.{abstract}
use Rattle.lf_core.specs.Spine.{apply, head_of, arguments_of}
use Rattle.lf_rules.specs.Environment.{Context, with, nat_zero, nat_succ}
use Rattle.lf_checker.specs.Run.{Run, ◌>>=◌, gives, put, made, opening}
use Rattle.lf_checker.specs.Calls.{Calls}

abbrev pub normalize_all : Calls → Context → List Term → Run (List Term)
normalize_all c C [] = gives []
normalize_all c C (x ∷ xs) = do
  y ← c.normalize C x
  ys ← normalize_all c C xs
  gives (y ∷ ys)

-- `Nat.zero` as 0, and the successor of a literal as the next one.
abbrev pub as_literal : Term → Term
as_literal (const n ls) = if same (const n ls) nat_zero then lit 0 else const n ls
as_literal (app f (lit k)) = if same f nat_succ && nat_lt (suc k) (2 ^ 128) then lit (suc k) else app f (lit k)
as_literal t = t

abbrev pub normalize_body_of_binder : Calls → Context → Term → Term → Run Term
normalize_body_of_binder c C A b = do
  o ← opening C b
  n ← c.normalize (with C A) o
  made (abstract n (length C))

-- A projection's term.
abbrev pub normalize_head : Calls → Context → Term → Run Term
normalize_head c C (proj S i t) = do
  n ← c.normalize C t
  gives (proj S i n)
normalize_head c C h = gives h

abbrev pub normalize_arguments : Calls → Context → Term → Run Term
normalize_arguments c C t = do
  xs ← normalize_all c C (arguments_of t)
  h ← normalize_head c C (head_of t)
  s ← put (apply h xs)
  gives (as_literal s)

abbrev pub normalize_parts : Calls → Context → Term → Run Term
normalize_parts c C (lam x A b) = do
  B ← c.normalize C A
  d ← normalize_body_of_binder c C A b
  put (lam x B d)
normalize_parts c C (pi x A b) = do
  B ← c.normalize C A
  d ← normalize_body_of_binder c C A b
  put (pi x B d)
normalize_parts c C t = normalize_arguments c C t

unfoldable pub normalize_body : Calls → Context → Term → Run Term
normalize_body c C t = do
  w ← c.whnf true C t
  normalize_parts c C w
