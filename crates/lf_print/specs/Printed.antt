-- Terms as text: all arguments, without `@` and levels; in parentheses where a form's level is below the one that its place asks for.
-- A constant that is an operator is printed so where it has exactly its number of arguments. This project's own.
use Rattle.std.specs.Prelude.{
  ℕ,
  zero,
  suc,
  ◌+◌,
  ◌-◌,
  ◌==◌,
  ◌||◌,
  ◌&&◌,
  not,
  nat_lt,
  nat_le,
  Bool,
  true,
  false,
  if◌then◌else◌,
  List,
  [],
  ◌∷◌,
  ◌++◌,
  slice_get,
  Option,
  Some,
  None,
  flat_map,
  decimal,
}
use Rattle.lf_core.specs.Term.{
  Path,
  Universe,
  level_zero,
  level_succ,
  level_max,
  level_imax,
  level_param,
  level_meta,
  Term,
  bound,
  free,
  meta,
  sort,
  const,
  app,
  lam,
  pi,
  letin,
  lit,
  proj,
}
use Rattle.lf_name.specs.declared.binder.BinderKind.{BinderKind}
use Rattle.lf_name.specs.declared.binder.BinderKind.TheVariants.{Explicit, Implicit, Inst}
use Rattle.lf_print.specs.Mark.{mark_text}
use Rattle.lf_print.specs.Operators.{operation_of, relation_of, is_negation, mark_of}
use Rattle.lf_print.specs.declared.mark.Mark.{Mark}
use Rattle.lf_print.specs.declared.mark.Mark.TheVariants.{
  OpenParen,
  CloseParen,
  OpenBrace,
  CloseBrace,
  OpenBracket,
  CloseBracket,
  Space,
  Dot,
  Hole,
  Colon,
  Comma,
  ForAll,
  Fun,
  Maps,
  LetIn,
  Assign,
  Then,
  Prop,
  TypeZero,
  TypeOf,
  SortOf,
  Plus,
  Max,
  Imax,
  Not,
  Cut,
}
use Rattle.lf_text.specs.Operators.{op_level, left_of, right_of}
use Rattle.lf_text.specs.declared.operator.Op.{Op}
use Rattle.lf_text.specs.declared.operator.Op.TheVariants as op

abbrev pub when : Bool → Mark → List ℕ
when true m = mark_text m
when false m = []

abbrev pub in_parentheses : Bool → List ℕ → List ℕ
in_parentheses b t = when b OpenParen ++ (t ++ when b CloseParen)

-- ---- Names

abbrev pub behind_dot : List ℕ → List ℕ
behind_dot part = mark_text Dot ++ part

abbrev pub path_text : Path → List ℕ
path_text [] = []
path_text (part ∷ parts) = part ++ flat_map behind_dot parts

abbrev pub name_text : Option Path → List ℕ
name_text (Some n) = path_text n
name_text None = mark_text Hole

-- ---- Levels, and sorts. A level as a part of another, or of a sort, stands in parentheses unless it is a number or a name.

-- A level with n more, that is a name or isn't.
abbrev pub sum_text : Bool → ℕ → Bool → List ℕ → List ℕ
sum_text part n atom t = if n == 0 then in_parentheses (not atom && part) t else in_parentheses part
    (in_parentheses (not atom) t ++ (mark_text Plus ++ decimal n))

-- The level under n successors.
abbrev pub level_text : List Path → Bool → ℕ → Universe → List ℕ
level_text ls part n level_zero = decimal n
level_text ls part n (level_succ l) = level_text ls part (n + 1) l
level_text ls part n (level_param k) = sum_text part n true (name_text (slice_get ls k))
level_text ls part n (level_max l m) = sum_text part n false (mark_text Max ++ (level_text ls true 0 l ++ (mark_text Space ++ level_text ls true 0 m)))
level_text ls part n (level_imax l m) = sum_text part n false (mark_text Imax ++ (level_text ls true 0 l ++ (mark_text Space ++ level_text ls true 0 m)))
level_text ls part n (level_meta k) = sum_text part n true (mark_text Hole)

abbrev pub sort_text : List Path → Universe → List ℕ
sort_text ls level_zero = mark_text Prop
sort_text ls (level_succ level_zero) = mark_text TypeZero
sort_text ls (level_succ l) = mark_text TypeOf ++ level_text ls true 0 l
sort_text ls l = mark_text SortOf ++ level_text ls true 0 l

-- ---- Terms

-- Whether the variable of the binder that is d binders out is used.
abbrev pub is_used : ℕ → Term → Bool
is_used d (bound i) = i == d
is_used d (app f a) = is_used d f || is_used d a
is_used d (lam x A b) = is_used d A || is_used (suc d) b
is_used d (pi x A B) = is_used d A || is_used (suc d) B
is_used d (letin x A v b) = is_used d A || (is_used d v || is_used (suc d) b)
is_used d (proj s i t) = is_used d t
is_used d (free k) = false
is_used d (meta k) = false
is_used d (sort l) = false
is_used d (const c ls) = false
is_used d (lit n) = false

abbrev pub is_explicit : BinderKind → Bool
is_explicit Explicit = true
is_explicit Implicit = false
is_explicit Inst = false

abbrev pub opening : BinderKind → Mark
opening Explicit = OpenParen
opening Implicit = OpenBrace
opening Inst = OpenBracket

abbrev pub closing : BinderKind → Mark
closing Explicit = CloseParen
closing Implicit = CloseBrace
closing Inst = CloseBracket

abbrev pub binder_text : BinderKind → Path → List ℕ → List ℕ
binder_text kind x A = mark_text (opening kind) ++ (path_text x ++ (mark_text Colon ++ (A ++ mark_text (closing kind))))

abbrev pub applied : ℕ → List ℕ → List ℕ → List ℕ
applied p f a = in_parentheses (nat_lt 1023 p) (f ++ (mark_text Space ++ a))

-- The place of a function, which asks for 1023, has more arguments, so no operator stands there.
abbrev pub infixed : ℕ → Option Op → (ℕ → List ℕ) → (ℕ → List ℕ) → List ℕ → List ℕ
infixed p None left right plain = plain
infixed p (Some o) left right plain = if p == 1023 then plain else in_parentheses (nat_lt (op_level o) p)
    (left (left_of o) ++ (mark_text (mark_of o) ++ right (right_of o)))

abbrev pub negated : ℕ → Bool → List ℕ → List ℕ → List ℕ
negated p false a plain = plain
negated p true a plain = if p == 1023 then plain else in_parentheses (nat_lt 40 p) (mark_text Not ++ a)

-- Under these names of free variables and of levels, at a place that asks for this level, under binders of these names, the innermost first.
abbrev pub printed : List Path → List Path → ℕ → List Path → Term → List ℕ
printed fs ls p xs (bound i) = name_text (slice_get xs i)
printed fs ls p xs (free k) = name_text (slice_get fs k)
printed fs ls p xs (meta k) = mark_text Hole
printed fs ls p xs (sort l) = sort_text ls l
printed fs ls p xs (const c ms) = path_text c
printed fs ls p xs (lit n) = decimal n
printed fs ls p xs (proj s i t) = printed fs ls 1024 xs t ++ (mark_text Dot ++ decimal (i + 1))
printed fs ls p xs (app (const c ms) a) = negated p (is_negation c) (printed fs ls 40 xs a) (applied p (path_text c) (printed fs ls 1024 xs a))
printed fs ls p xs (app (app (const c ms) a) b) =
    infixed p (operation_of c) (λ q. printed fs ls q xs a) (λ q. printed fs ls q xs b)
    (applied p (printed fs ls 1023 xs (app (const c ms) a)) (printed fs ls 1024 xs b))
printed fs ls p xs (app (app (app (const c ms) A) a) b) =
    infixed p (relation_of c) (λ q. printed fs ls q xs a) (λ q. printed fs ls q xs b)
    (applied p (printed fs ls 1023 xs (app (app (const c ms) A) a)) (printed fs ls 1024 xs b))
printed fs ls p xs (app f a) = applied p (printed fs ls 1023 xs f) (printed fs ls 1024 xs a)
printed fs ls p xs (lam x A b) = in_parentheses (nat_lt 25 p)
    (mark_text Fun ++ (binder_text x.kind x.name (printed fs ls 0 xs A) ++ (mark_text Maps ++ printed fs ls 0 (x.name ∷ xs) b)))
printed fs ls p xs (pi x A B) =
    if is_explicit x.kind && not (is_used 0 B)
    then in_parentheses (nat_lt (op_level op.Arrow) p)
    (printed fs ls (left_of op.Arrow) xs A ++ (mark_text (mark_of op.Arrow) ++ printed fs ls (right_of op.Arrow) (x.name ∷ xs) B))
    else in_parentheses (nat_lt 25 p) (mark_text ForAll
    ++ (binder_text x.kind x.name (printed fs ls 0 xs A) ++ (mark_text Comma ++ printed fs ls 0 (x.name ∷ xs) B)))
printed fs ls p xs (letin x A v b) =
    in_parentheses (nat_lt 25 p) (mark_text LetIn ++
    (path_text x.name ++ (mark_text Colon ++ (printed fs ls 0 xs A ++ (mark_text Assign ++ (printed fs ls 0 xs v
    ++ (mark_text Then ++ printed fs ls 0 (x.name ∷ xs) b)))))))

-- ---- The limit, in code points

-- A byte that begins a code point.
abbrev pub is_lead : ℕ → Bool
is_lead b = nat_lt b 128 || nat_le 192 b

-- A text that has more than n code points is cut behind them.
abbrev pub cut : ℕ → List ℕ → List ℕ
cut n [] = []
cut n (b ∷ bs) = if is_lead b then (if n == 0 then mark_text Cut else b ∷ cut (n - 1) bs) else b ∷ cut n bs

abbrev pub limit : ℕ
limit = 2000

-- The text of a term under these names of free variables and of levels.
abbrev pub print_text : List Path → List Path → Term → List ℕ
print_text fs ls t = cut limit (printed fs ls 0 [] t)

-- The text of a term without free variables, however long.
abbrev pub term_text : List Path → Term → List ℕ
term_text ls t = printed [] ls 0 [] t
