-- Metavariables as the list of their changes: what is made, what is assigned, and a term with its assigned metavariables put in.
-- This project's own; metavariables with the contexts that they are made for are those of the field (Miller 1991, "A Logic Programming Language
-- with Lambda-Abstraction, Function Variables, and Simple Unification").
use Rattle.std.specs.Prelude.{
  ℕ,
  zero,
  suc,
  ◌-◌,
  ◌+◌,
  Bool,
  false,
  not,
  ◌&&◌,
  ◌||◌,
  nat_eq,
  nat_lt,
  nat_le,
  if◌then◌else◌,
  Option,
  Some,
  None,
  is_some,
  List,
  [],
  ◌∷◌,
  length,
  map,
  slice_get,
}
use Rattle.lf_core.specs.Term.{
  Universe,
  level_zero,
  level_succ,
  level_max,
  level_imax,
  level_param,
  level_meta,
  Term,
  bound,
  free,
  meta,
  sort,
  const,
  app,
  lam,
  pi,
  letin,
  lit,
  proj,
}
use Rattle.lf_core.specs.Substitution.{instantiate}
use Rattle.lf_elaboration.specs.declared.change.Change.{Change}
use Rattle.lf_elaboration.specs.declared.change.Change.TheVariants.{Made, LevelMade, Assigned, LevelAssigned}

abbrev pub Changes : Type 0
Changes = List Change

-- ---- What is made

-- Its type, the number of locals of the context that it is made for, and the place of the node that made it.
pub record Metavariable : Type 0 where
  pub ty : Term
  pub locals : ℕ
  pub at : ℕ

abbrev pub metavariables : Changes → List Metavariable
metavariables [] = []
metavariables (Made A n p ∷ cs) = record { ty = A; locals = n; at = p } ∷ metavariables cs
metavariables (LevelMade ∷ cs) = metavariables cs
metavariables (Assigned m t ∷ cs) = metavariables cs
metavariables (LevelAssigned m l ∷ cs) = metavariables cs

abbrev pub count : Changes → ℕ
count cs = length (metavariables cs)

abbrev pub level_count : Changes → ℕ
level_count [] = 0
level_count (LevelMade ∷ cs) = level_count cs + 1
level_count (Made A n p ∷ cs) = level_count cs
level_count (Assigned m t ∷ cs) = level_count cs
level_count (LevelAssigned m l ∷ cs) = level_count cs

-- The types that they are made with.
abbrev pub types_of : Changes → List Term
types_of cs = map (λ m. m.ty) (metavariables cs)

-- ---- What is assigned

abbrev pub value : Changes → ℕ → Option Term
value [] m = None
value (Assigned k t ∷ cs) m = if nat_eq k m then Some t else value cs m
value (Made A n p ∷ cs) m = value cs m
value (LevelMade ∷ cs) m = value cs m
value (LevelAssigned k l ∷ cs) m = value cs m

abbrev pub level_value : Changes → ℕ → Option Universe
level_value [] m = None
level_value (LevelAssigned k l ∷ cs) m = if nat_eq k m then Some l else level_value cs m
level_value (Made A n p ∷ cs) m = level_value cs m
level_value (LevelMade ∷ cs) m = level_value cs m
level_value (Assigned k t ∷ cs) m = level_value cs m

-- ---- Putting in. A metavariable at the head of an application is reduced with its arguments: they are put, from the left, for the leading
-- lambdas of its value, in which assigned metavariables are put in already. A redex that this makes stays.

-- A level with these for its metavariables.
abbrev pub level_with : (ℕ → Universe) → Universe → Universe
level_with f level_zero = level_zero
level_with f (level_succ l) = level_succ (level_with f l)
level_with f (level_max l m) = level_max (level_with f l) (level_with f m)
level_with f (level_imax l m) = level_imax (level_with f l) (level_with f m)
level_with f (level_param k) = level_param k
level_with f (level_meta k) = f k

-- A term, and how many of its leading lambdas an application of it still reduces.
pub record Put : Type 0 where
  pub term : Term
  pub lambdas : ℕ

abbrev pub as_it_is : Term → Put
as_it_is t = record { term = t; lambdas = 0 }

abbrev pub leading_lambdas : Term → ℕ
leading_lambdas (lam x A b) = suc (leading_lambdas b)
leading_lambdas (bound i) = 0
leading_lambdas (free k) = 0
leading_lambdas (meta k) = 0
leading_lambdas (sort l) = 0
leading_lambdas (const c ls) = 0
leading_lambdas (app f a) = 0
leading_lambdas (pi x A B) = 0
leading_lambdas (letin x A v b) = 0
leading_lambdas (lit n) = 0
leading_lambdas (proj s i t) = 0

-- An application, reduced where the function is a lambda.
abbrev pub reduced : Term → Term → Term
reduced (lam x A b) a = instantiate b a
reduced (bound i) a = app (bound i) a
reduced (free k) a = app (free k) a
reduced (meta k) a = app (meta k) a
reduced (sort l) a = app (sort l) a
reduced (const c ls) a = app (const c ls) a
reduced (app f b) a = app (app f b) a
reduced (pi x A B) a = app (pi x A B) a
reduced (letin x A v b) a = app (letin x A v b) a
reduced (lit n) a = app (lit n) a
reduced (proj s i t) a = app (proj s i t) a

abbrev pub put_before : Put → Term → Put
put_before f a = if nat_eq f.lambdas 0 then as_it_is (app f.term a) else record { term = reduced f.term a; lambdas = f.lambdas - 1 }

-- A term with these for its metavariables of levels and of terms.
abbrev pub with_values : (ℕ → Universe) → (ℕ → Put) → Term → Put
with_values g f (meta k) = f k
with_values g f (app h a) = put_before (with_values g f h) (with_values g f a).term
with_values g f (bound i) = as_it_is (bound i)
with_values g f (free k) = as_it_is (free k)
with_values g f (sort l) = as_it_is (sort (level_with g l))
with_values g f (const c ls) = as_it_is (const c (map (level_with g) ls))
with_values g f (lam x A b) = as_it_is (lam x (with_values g f A).term (with_values g f b).term)
with_values g f (pi x A B) = as_it_is (pi x (with_values g f A).term (with_values g f B).term)
with_values g f (letin x A v b) = as_it_is (letin x (with_values g f A).term (with_values g f v).term (with_values g f b).term)
with_values g f (lit n) = as_it_is (lit n)
with_values g f (proj s i t) = as_it_is (proj s i (with_values g f t).term)

abbrev pub level_or : ℕ → (Universe → Universe) → Option Universe → Universe
level_or k f None = level_meta k
level_or k f (Some l) = f l

abbrev pub put_or : ℕ → (Term → Put) → Option Term → Put
put_or k f None = as_it_is (meta k)
put_or k f (Some t) = record { term = (f t).term; lambdas = leading_lambdas (f t).term }

-- Along at most n assignments, one within the other.
unfoldable pub level_at : Changes → ℕ → ℕ → Universe
level_at cs zero k = level_meta k
level_at cs (suc n) k = level_or k (level_with (level_at cs n)) (level_value cs k)

unfoldable pub term_at : Changes → ℕ → ℕ → Put
term_at cs zero k = as_it_is (meta k)
term_at cs (suc n) k = put_or k (with_values (level_at cs n) (term_at cs n)) (value cs k)

-- More than there are metavariables: none occurs in its own value, so no chain of assignments is as long.
unfoldable pub chain_limit : ℕ
chain_limit = 4294967295

abbrev pub put_level : Changes → Universe → Universe
put_level cs l = level_with (level_at cs chain_limit) l

-- A term with its assigned metavariables, of terms and of levels, put in.
abbrev pub put_in : Changes → Term → Term
put_in cs t = (with_values (level_at cs chain_limit) (term_at cs chain_limit) t).term

-- An assigned metavariable stands in a level, in levels, in a term.
abbrev pub level_has_assigned : Changes → Universe → Bool
level_has_assigned cs level_zero = false
level_has_assigned cs (level_succ l) = level_has_assigned cs l
level_has_assigned cs (level_max l m) = level_has_assigned cs l || level_has_assigned cs m
level_has_assigned cs (level_imax l m) = level_has_assigned cs l || level_has_assigned cs m
level_has_assigned cs (level_param k) = false
level_has_assigned cs (level_meta k) = is_some (level_value cs k)

abbrev pub levels_have_assigned : Changes → List Universe → Bool
levels_have_assigned cs [] = false
levels_have_assigned cs (l ∷ ls) = level_has_assigned cs l || levels_have_assigned cs ls

abbrev pub has_assigned : Changes → Term → Bool
has_assigned cs (bound i) = false
has_assigned cs (free k) = false
has_assigned cs (meta k) = is_some (value cs k)
has_assigned cs (sort l) = level_has_assigned cs l
has_assigned cs (const c ls) = levels_have_assigned cs ls
has_assigned cs (app f a) = has_assigned cs f || has_assigned cs a
has_assigned cs (lam x A b) = has_assigned cs A || has_assigned cs b
has_assigned cs (pi x A B) = has_assigned cs A || has_assigned cs B
has_assigned cs (letin x A v b) = has_assigned cs A || (has_assigned cs v || has_assigned cs b)
has_assigned cs (lit n) = false
has_assigned cs (proj s i t) = has_assigned cs t

-- ---- What an assignment asks

abbrev pub occurs_in_level : ℕ → Universe → Bool
occurs_in_level m level_zero = false
occurs_in_level m (level_succ l) = occurs_in_level m l
occurs_in_level m (level_max k l) = occurs_in_level m k || occurs_in_level m l
occurs_in_level m (level_imax k l) = occurs_in_level m k || occurs_in_level m l
occurs_in_level m (level_param k) = false
occurs_in_level m (level_meta k) = nat_eq k m

abbrev pub occurs : ℕ → Term → Bool
occurs m (bound i) = false
occurs m (free k) = false
occurs m (meta k) = nat_eq k m
occurs m (sort l) = false
occurs m (const c ls) = false
occurs m (app f a) = occurs m f || occurs m a
occurs m (lam x A b) = occurs m A || occurs m b
occurs m (pi x A B) = occurs m A || occurs m B
occurs m (letin x A v b) = occurs m A || (occurs m v || occurs m b)
occurs m (lit n) = false
occurs m (proj s i t) = occurs m t

abbrev pub or_first : Option ℕ → Option ℕ → Option ℕ
or_first (Some k) o = Some k
or_first None o = o

-- The first free variable, from the left, that is none of the first n locals.
abbrev pub outside : ℕ → Term → Option ℕ
outside n (bound i) = None
outside n (free k) = if nat_lt k n then None else Some k
outside n (meta k) = None
outside n (sort l) = None
outside n (const c ls) = None
outside n (app f a) = or_first (outside n f) (outside n a)
outside n (lam x A b) = or_first (outside n A) (outside n b)
outside n (pi x A B) = or_first (outside n A) (outside n B)
outside n (letin x A v b) = or_first (outside n A) (or_first (outside n v) (outside n b))
outside n (lit i) = None
outside n (proj s i t) = outside n t

-- Why a value isn't taken: the metavariable stands in it, or a variable of which its context knows nothing; or it has a value already.
pub data Unassigned : Type 0 where
  circular : Unassigned
  out_of_scope : ℕ → Unassigned
  has_value : Unassigned

abbrev pub unless_outside : Option ℕ → Option Unassigned
unless_outside None = None
unless_outside (Some k) = Some (out_of_scope k)

abbrev pub locals_of : Option Metavariable → ℕ
locals_of None = 0
locals_of (Some m) = m.locals

-- The number of locals that the values of a metavariable may speak of.
abbrev pub scope_of : Changes → ℕ → ℕ
scope_of cs m = locals_of (slice_get (metavariables cs) m)

abbrev pub refused : Changes → ℕ → Term → Option Unassigned
refused cs m t =
    if is_some (value cs m) then Some has_value else
    if occurs m (put_in cs t) then Some circular else
    unless_outside (outside (scope_of cs m) (put_in cs t))

abbrev pub level_refused : Changes → ℕ → Universe → Option Unassigned
level_refused cs m l =
    if is_some (level_value cs m) then Some has_value else
    if occurs_in_level m (put_level cs l) then Some circular else
    None

-- ---- What is left open. Metavariables are numbered from k on in these lists; the answer is the place of the first.

abbrev pub unassigned_from : Changes → ℕ → ℕ → List Metavariable → Option ℕ
unassigned_from cs start k [] = None
unassigned_from cs start k (m ∷ ms) = if nat_le start k && not (is_some (value cs k)) then Some m.at else unassigned_from cs start (suc k) ms

-- One of those from number start on that isn't assigned.
abbrev pub unassigned : Changes → ℕ → Option ℕ
unassigned cs start = unassigned_from cs start 0 (metavariables cs)

abbrev pub level_unassigned_from : Changes → ℕ → ℕ → Bool
level_unassigned_from cs k zero = false
level_unassigned_from cs k (suc n) = not (is_some (level_value cs k)) || level_unassigned_from cs (suc k) n

-- A metavariable of levels from number start on that isn't assigned.
abbrev pub level_unassigned : Changes → ℕ → Bool
level_unassigned cs start = level_unassigned_from cs start (level_count cs - start)

-- A variable must not outlive its binder. A value may name a metavariable of an inner context, which is then assigned a variable of it; so,
-- where the local of number n closes, those made for at most n locals are looked at, with their values put in.
abbrev pub speaks_outside : Changes → ℕ → Option Term → Bool
speaks_outside cs n None = false
speaks_outside cs n (Some t) = is_some (outside n (put_in cs t))

abbrev pub escaping_from : Changes → ℕ → ℕ → List Metavariable → Option ℕ
escaping_from cs n k [] = None
escaping_from cs n k (m ∷ ms) = if nat_le m.locals n && speaks_outside cs m.locals (value cs k) then Some m.at else escaping_from cs n (suc k) ms

abbrev pub escaping : Changes → ℕ → Option ℕ
escaping cs n = escaping_from cs n 0 (metavariables cs)
