-- Identifiers and universe levels in terms.
use Rattle.std.specs.Prelude.{ℕ, zero, suc, Bool, false, not, nat_eq, nat_lt, if◌then◌else◌, Option, Some, None, is_some, List, [], ◌∷◌, length}
use Rattle.lf_core.specs.Term.{Path, Universe, level_zero, level_succ, level_max, level_imax, level_param, Term, free, const}
use Rattle.lf_core.specs.Same.{same_path}
use Rattle.lf_core.specs.Substitution.{level_instantiate}
use Rattle.lf_core.specs.declared.constant.TaskKey.{TaskKey}
use Rattle.lf_rules.specs.Recursor.{parameters_from}
use Rattle.lf_syntax.specs.declared.leaf.Ident.{Ident}
use Rattle.lf_syntax.specs.declared.leaf.Num.{Num}
use Rattle.lf_syntax.specs.Tree as written
use Rattle.lf_syntax.specs.Tree.{LevelTree, LevelTrees}
use Rattle.lf_checker.specs.View.{View, placed_of}
use Rattle.lf_checker.specs.Extends.{Shape}
use Rattle.lf_checker.specs.Calls.{Seen, known, unknown, missing, see}
use Rattle.lf_elaboration.specs.Scope.{candidates_of, local_named}
use Rattle.lf_elaboration.specs.Messages as says
use Rattle.lf_elaboration.specs.Run.{◌>>=◌, ◌>>◌, gives, needs, choose, made}
use Rattle.lf_elaboration.specs.Unifier.{type_in}
use Rattle.lf_elaboration.specs.Part.{Part, Locals, Run, Typed, fresh_level, ask, error}

-- ---- Levels. A numeral is at most 32, each by itself.

abbrev pub greatest_numeral : ℕ
greatest_numeral = 32

abbrev pub successors : ℕ → Universe → Universe
successors zero l = l
successors (suc n) l = level_succ (successors n l)

abbrev pub numeral_on : Num → Universe → Run Universe
numeral_on n l = choose (nat_lt greatest_numeral n.value) (error n.at says.level_above_32) (gives (successors n.value l))

-- The place of a level's name among those of the part.
abbrev pub position_from : ℕ → List Path → Path → Option ℕ
position_from k [] x = None
position_from k (n ∷ ns) x = if same_path n x then Some k else position_from (suc k) ns x

abbrev pub parameter_at : Ident → Option ℕ → Run Universe
parameter_at x (Some k) = gives (level_param k)
parameter_at x None = error x.at (says.unknown_level x.name)

abbrev pub named_level : List Path → Ident → Run Universe
named_level names x = parameter_at x (position_from 0 names x.name)

-- `max a b c` is the maximum of a and of `max b c`.
abbrev pub maximum : Universe → Option Universe → Universe
maximum l None = l
maximum l (Some m) = level_max l m

-- A level, where the part has these level names.
abbrev mutual
  pub level_of : List Path → LevelTree → Run Universe
  level_of names (written.level_number n) = numeral_on n level_zero
  level_of names (written.level_name x) = named_level names x
  level_of names (written.level_plus at l n) = level_of names l >>= (λ b. numeral_on n b)
  level_of names (written.level_max at ls) = greatest_of names ls >>= (λ m. gives (maximum level_zero m))
  level_of names (written.level_imax at l m) = level_of names l >>= (λ a. level_of names m >>= (λ b. gives (level_imax a b)))

  pub greatest_of : List Path → LevelTrees → Run (Option Universe)
  greatest_of names written.no_level = gives None
  greatest_of names (written.level_and l ls) = level_of names l >>= (λ a. greatest_of names ls >>= (λ m. gives (Some (maximum a m))))

abbrev pub levels_of : List Path → List LevelTree → Run (List Universe)
levels_of names [] = gives []
levels_of names (l ∷ ls) = do
  a ← level_of names l
  bs ← levels_of names ls
  gives (a ∷ bs)

abbrev pub fresh_levels : ℕ → Run (List Universe)
fresh_levels zero = gives []
fresh_levels (suc n) = do
  l ← fresh_level
  ls ← fresh_levels n
  gives (l ∷ ls)

-- The written levels, of which there have to be as many as the constant has names; none written are fresh ones.
abbrev pub levels_at : List Path → Ident → Path → ℕ → List LevelTree → Run (List Universe)
levels_at names x n k [] = fresh_levels k
levels_at names x n k (l ∷ ls) = choose (nat_eq (length (l ∷ ls)) k) (levels_of names (l ∷ ls)) (error x.at (says.wrong_level_count n))

-- In an inductive command the type is at the command's own level names.
abbrev pub own_levels_at : List Path → Ident → Path → List LevelTree → Run (List Universe)
own_levels_at names x n [] = gives (parameters_from 0 (length names))
own_levels_at names x n (l ∷ ls) = levels_at names x n (length names) (l ∷ ls)

-- ---- What an identifier stands for: the first candidate that is found.

pub data Meaning : Type 0 where
  -- the type of the inductive command itself
  own_type : Path → Meaning
  constant : Path → Shape → Meaning
  nothing : Meaning
  waits : TaskKey → Meaning

abbrev pub is_own : Option Path → Path → Bool
is_own None n = false
is_own (Some own) n = same_path own n

abbrev pub or_next : Path → Seen → Meaning → Meaning
or_next n (known c) m = constant n c
or_next n unknown m = m
or_next n (missing k) m = waits k

abbrev pub first_found : View → Option Path → List Path → Meaning
first_found V own [] = nothing
first_found V own (n ∷ ns) = if is_own own n then own_type n else or_next n (see V n) (first_found V own ns)

abbrev pub meaning_of : Part → Path → Meaning
meaning_of P x = first_found P.view P.own (candidates_of P.scope P.inside x)

-- A constant that is no entry was made when it was asked for.
abbrev pub is_realized : View → Path → Bool
is_realized V n = not (is_some (placed_of V n))

abbrev pub ask_if_realized : View → Path → Run (Unit {0})
ask_if_realized V n = choose (is_realized V n) (ask n) (gives tt)

abbrev pub constant_at : Path → List Universe → Term → Run Typed
constant_at n ls ty = do
  T ← made (level_instantiate ls ty)
  gives (record { term = const n ls; ty = T })

-- The own type has a type only once it is known.
abbrev pub own_at : Path → Ident → List Universe → Seen → Run Typed
own_at n x ls (known c) = constant_at n ls c.ty
own_at n x ls unknown = error x.at (says.unknown_constant n)
own_at n x ls (missing k) = needs k

abbrev pub of_meaning : Part → Ident → List LevelTree → Meaning → Run Typed
of_meaning P x ls (constant n c) = do
  ask_if_realized P.view n
  ms ← levels_at P.levels x n (length c.levels) ls
  constant_at n ms c.ty
of_meaning P x ls (own_type n) = do
  ms ← own_levels_at P.levels x n ls
  own_at n x ms (see P.view n)
of_meaning P x ls nothing = error x.at (says.unknown_identifier x.name)
of_meaning P x ls (waits k) = needs k

-- The innermost local of the name, which has no levels; else a constant.
abbrev pub of_local : Part → Locals → Ident → List LevelTree → Option ℕ → Run Typed
of_local P L x ls (Some k) = gives (record { term = free k; ty = type_in L.types k })
of_local P L x ls None = of_meaning P x ls (meaning_of P x.name)

abbrev pub identifier : Part → Locals → Ident → List LevelTree → Run Typed
identifier P L x ls = of_local P L x ls (local_named L.names x.name)

-- A constant by its name alone, at fresh levels: what operators and `sorry` stand for.
abbrev pub by_name : Part → ℕ → Path → Seen → Run Typed
by_name P at n (known c) = do
  ls ← fresh_levels (length c.levels)
  constant_at n ls c.ty
by_name P at n unknown = error at (says.unknown_identifier n)
by_name P at n (missing k) = needs k

abbrev pub constant_named : Part → ℕ → Path → Run Typed
constant_named P at n = by_name P at n (see P.view n)
