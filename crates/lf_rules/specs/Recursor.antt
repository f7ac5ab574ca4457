-- The recursor of an inductive declaration: its type and its rules, as a function of the declaration (Lean 4 reference manual,
-- "Inductive Types", on recursors; Carneiro 2019, chapter 2). Names and kinds of binders are this project's.
use Rattle.std.specs.Prelude.{ℕ, zero, suc, ◌+◌, Bool, false, ◌||◌, if◌then◌else◌, None, List, [], ◌∷◌, ◌++◌, length, drop, codes, decimal}
use Rattle.lf_core.specs.Term.{Path, Universe, level_zero, level_param, Term, bound, free, sort, const, lam, pi}
use Rattle.lf_core.specs.Same.{same_path}
use Rattle.lf_core.specs.Substitution.{level_instantiate}
use Rattle.lf_core.specs.Spine.{apply, head_of, arguments_of}
use Rattle.lf_rules.specs.Telescope.{Local, Telescope, variables, pis_over, lambdas_over, Opened, open_pis, pi_count, open_all, implicit, explicit}
use Rattle.lf_name.specs.declared.binder.BinderKind.TheVariants.{Explicit, Implicit}
use Rattle.lf_core.specs.declared.constant.ConstInfo.{ConstInfo}
use Rattle.lf_core.specs.declared.constant.ConstKind.TheVariants.{Recursor}
use Rattle.lf_core.specs.declared.constant.CtorInfo.{CtorInfo}
use Rattle.lf_core.specs.declared.constant.Detail.TheVariants.{Rec}
use Rattle.lf_core.specs.declared.constant.IndDecl.{IndDecl}

-- ---- A declaration opened: its parameters are the free variables from 0 on.

pub record Case : Type 0 where
  pub constructor : Path
  -- pis over the fields, and then the type at its parameters and indices
  pub body : Term

pub record Family : Type 0 where
  pub name : Path
  -- the levels at which the type stands in these terms
  pub levels : List Universe
  pub params : Telescope
  -- pis over the indices, and then a sort
  pub rest : Term
  pub cases : List Case

abbrev pub cases_of : ℕ → List CtorInfo → List Case
cases_of p [] = []
cases_of p (c ∷ cs) = record { constructor = c.name; body = (open_pis 0 p c.ty).rest } ∷ cases_of p cs

abbrev pub family : List Universe → IndDecl → Family
family ls d =
    let o : Opened = open_pis 0 d.params d.ty in
    record { name = d.name; levels = ls; params = o.locals; rest = o.rest; cases = cases_of d.params d.ctors }

-- The type at its parameters, before its indices.
abbrev pub self : Family → Term
self f = apply (const f.name f.levels) (variables 0 f.params)

-- The indices of the type at its parameters and indices.
abbrev pub indices_of : Family → Term → List Term
indices_of f t = drop (length f.params) (arguments_of t)

abbrev pub is_constant : Path → Term → Bool
is_constant n (const c ls) = same_path c n
is_constant n t = false

-- A field whose type is pis that end in the declared type.
abbrev pub is_recursive : Family → Term → Bool
is_recursive f (pi x A B) = is_recursive f B
is_recursive f t = is_constant f.name (head_of t)

-- ---- The motive.

abbrev pub named : List ℕ → Path
named word = word ∷ []

abbrev pub motive : Family → Term
motive f = free (length f.params)

-- The major premise, a member t of the type at indices that begin at k.
abbrev pub major : Family → ℕ → Telescope → Local
major f k is = record { binder = record { name = named (codes "t"); kind = Explicit }; ty = apply (self f) (variables k is) }

abbrev pub motive_local : Family → Universe → Local
motive_local f s =
    let p : ℕ = length f.params in
    let is : Telescope = (open_all p f.rest).locals in
    record { binder = record { name = named (codes "motive"); kind = Implicit }; ty = pis_over p (explicit is ++ major f p is ∷ []) (sort s) }

-- The motive at the indices of the type t, and at a member x of it.
abbrev pub motive_at : Family → Term → Term → Term
motive_at f t x = apply (motive f) (indices_of f t ++ x ∷ [])

-- ---- Minor premises: the fields, and then a hypothesis for each recursive field.

-- The variables of the n innermost binders, from the outside in.
abbrev pub innermost : ℕ → List Term
innermost zero = []
innermost (suc n) = bound n ∷ innermost n

-- What the motive says of the field x under all pis of its type, of which n are passed.
abbrev pub hypothesis : Family → Term → ℕ → Term → Term
hypothesis f x n (pi z A B) = pi z A (hypothesis f x (suc n) B)
hypothesis f x n t = motive_at f t (apply x (innermost n))

abbrev pub hypothesis_name : Path → Path
hypothesis_name [] = []
hypothesis_name (word ∷ []) = (word ++ codes "_ih") ∷ []
hypothesis_name (word ∷ next ∷ words) = word ∷ hypothesis_name (next ∷ words)

-- Those of fields that begin at i.
abbrev pub hypotheses : Family → ℕ → Telescope → Telescope
hypotheses f i [] = []
hypotheses f i (x ∷ xs) =
    if is_recursive f x.ty
    then record { binder = record { name = hypothesis_name x.binder.name; kind = Explicit }; ty = hypothesis f (free i) 0 x.ty } ∷ hypotheses f (suc i) xs
    else hypotheses f (suc i) xs

abbrev pub minor_type : Family → Case → Term
minor_type f c =
    let k : ℕ = suc (length f.params) in
    let o : Opened = open_all k c.body in
    pis_over k (o.locals ++ hypotheses f k o.locals) (motive_at f o.rest (apply (const c.constructor f.levels) (variables 0 f.params ++ variables k o.locals)))

abbrev pub last_part : Path → Path
last_part [] = []
last_part (word ∷ []) = word ∷ []
last_part (word ∷ next ∷ words) = last_part (next ∷ words)

abbrev pub minors : Family → List Case → Telescope
minors f [] = []
minors f (c ∷ cs) = record { binder = record { name = last_part c.constructor; kind = Explicit }; ty = minor_type f c } ∷ minors f cs

-- ---- The type: parameters, motive and minor premises, which its rules share, and then indices and the major premise.

abbrev pub shared : Family → Universe → Telescope
shared f s = implicit f.params ++ motive_local f s ∷ minors f f.cases

abbrev pub recursor_type : Family → Universe → Term
recursor_type f s =
    let q : ℕ = length (shared f s) in
    let is : Telescope = (open_all q f.rest).locals in
    pis_over 0 (shared f s ++ implicit is ++ major f q is ∷ []) (apply (motive f) (variables q is ++ free (q + length is) ∷ []))

-- ---- The rules: a minor premise at the fields, and at what the recursor gives for the recursive ones.

-- The recursor as its rules call it.
pub record Called : Type 0 where
  pub name : Path
  pub levels : List Universe

-- What the recursor gives for the field x under all pis of its type, of which n are passed.
abbrev pub recursive_call : Family → Universe → Called → Term → ℕ → Term → Term
recursive_call f s r x n (pi z A B) = lam z A (recursive_call f s r x (suc n) B)
recursive_call f s r x n t = apply (const r.name r.levels) (variables 0 (shared f s) ++ indices_of f t ++ apply x (innermost n) ∷ [])

abbrev pub recursive_calls : Family → Universe → Called → ℕ → Telescope → List Term
recursive_calls f s r i [] = []
recursive_calls f s r i (x ∷ xs) = if is_recursive f x.ty then recursive_call f s r (free i) 0 x.ty ∷ recursive_calls f s r (suc i) xs else recursive_calls f s
    r (suc i) xs

-- That of the constructor whose minor premise is the variable m.
abbrev pub rule : Family → Universe → Called → ℕ → Case → Term
rule f s r m c =
    let q : ℕ = length (shared f s) in
    let xs : Telescope = (open_all q c.body).locals in
    lambdas_over 0 (shared f s ++ xs) (apply (free m) (variables q xs ++ recursive_calls f s r q xs))

abbrev pub rules : Family → Universe → Called → ℕ → List Case → List Term
rules f s r m [] = []
rules f s r m (c ∷ cs) = rule f s r m c ∷ rules f s r (suc m) cs

-- ---- Levels. The motive's comes first, where the type eliminates into every sort.

-- n parameters from k on.
abbrev pub parameters_from : ℕ → ℕ → List Universe
parameters_from k zero = []
parameters_from k (suc n) = level_param k ∷ parameters_from (suc k) n

abbrev pub ctors_at : List Universe → List CtorInfo → List CtorInfo
ctors_at ls [] = []
ctors_at ls (c ∷ cs) = record { name = c.name; ty = level_instantiate ls c.ty } ∷ ctors_at ls cs

abbrev pub declaration_at : List Universe → IndDecl → IndDecl
declaration_at ls d = record { name = d.name; levels = d.levels; params = d.params; ty = level_instantiate ls d.ty; ctors = ctors_at ls d.ctors }

abbrev pub is_among : Path → List Path → Bool
is_among n [] = false
is_among n (m ∷ ms) = same_path n m || is_among n ms

-- `u`, or else the first of `u_1`, `u_2` and so on that is no level of the type; more are not tried than there are levels.
abbrev pub numbered_level : ℕ → ℕ → List Path → Path
numbered_level k zero taken = named (codes "u_" ++ decimal k)
numbered_level k (suc n) taken = if is_among (named (codes "u_" ++ decimal k)) taken then numbered_level (suc k) n taken else named (codes "u_" ++ decimal k)

abbrev pub motive_level_name : List Path → Path
motive_level_name taken = if is_among (named (codes "u")) taken then numbered_level 1 (length taken) taken else named (codes "u")

-- ---- The recursor.

abbrev pub recursor_name : IndDecl → Path
recursor_name d = d.name ++ codes "rec" ∷ []

abbrev pub recursor_levels : IndDecl → Bool → List Path
recursor_levels d large = if large then motive_level_name d.levels ∷ d.levels else d.levels

abbrev pub motive_level : Bool → Universe
motive_level large = if large then level_param 0 else level_zero

-- The declaration in the recursor's levels.
abbrev pub recursor_family : IndDecl → Bool → Family
recursor_family d large =
    let ls : List Universe = parameters_from (if large then 1 else 0) (length d.levels) in
    family ls (declaration_at ls d)

abbrev pub recursor_called : IndDecl → Bool → Called
recursor_called d large = record { name = recursor_name d; levels = parameters_from 0 (length (recursor_levels d large)) }

abbrev pub recursor_rules : IndDecl → Bool → List Term
recursor_rules d large = rules (recursor_family d large) (motive_level large) (recursor_called d large) (suc d.params) (recursor_family d large).cases

abbrev pub recursor_of : IndDecl → Bool → ConstInfo
recursor_of d large =
    let f : Family = recursor_family d large in
    record {
      name = recursor_name d;
      kind = Recursor;
      levels = recursor_levels d large;
      ty = recursor_type f (motive_level large);
      value = None;
      height = 0;
      detail = Rec d.name d.params (length f.cases) (pi_count f.rest) (recursor_rules d large);
    }
