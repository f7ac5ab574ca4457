-- Rewriting as a matter of terms alone: the motive of a rewriting, and the subterms that a rule is tried on.
use Rattle.std.specs.Prelude.{ℕ, suc, Bool, false, ◌&&◌, ◌||◌, nat_eq, nat_lt, if◌then◌else◌, Option, Some, None, is_some, List, [], ◌∷◌, ◌++◌, length, filter}
use Rattle.lf_core.specs.Term.{Path, Term, bound, free, meta, sort, const, app, lam, pi, letin, lit, proj}
use Rattle.lf_core.specs.Same.{same, same_path}
use Rattle.lf_core.specs.Spine.{head_of, arguments_of}
use Rattle.lf_core.specs.Summary.{loose_bound}
use Rattle.lf_elaboration.specs.Forms.{
  Instance,
  as_constant,
  as_variable,
  as_metavariable,
  as_sort,
  as_application,
  as_lambda,
  as_pi,
  as_literal,
  as_projection,
  is_bound,
  is_let,
}
use Rattle.lf_elaboration.specs.Unifier.{same_number}

-- The part stands in a term: it is the same tree as one of its subterms.
abbrev pub stands_in : Term → Term → Bool
stands_in p (bound i) = same (bound i) p
stands_in p (free k) = same (free k) p
stands_in p (meta k) = same (meta k) p
stands_in p (sort l) = same (sort l) p
stands_in p (const c ls) = same (const c ls) p
stands_in p (app f a) = same (app f a) p || (stands_in p f || stands_in p a)
stands_in p (lam x A b) = same (lam x A b) p || (stands_in p A || stands_in p b)
stands_in p (pi x A B) = same (pi x A B) p || (stands_in p A || stands_in p B)
stands_in p (letin x A v b) = same (letin x A v b) p || (stands_in p A || (stands_in p v || stands_in p b))
stands_in p (lit n) = same (lit n) p
stands_in p (proj s i t) = same (proj s i t) p || stands_in p t

-- Under d binders: each subterm that is the part is the variable that the outermost missing binder binds. Loose variables stay loose.
abbrev pub replaced : ℕ → Term → Term → Term
replaced d p (bound i) = if same (bound i) p then bound d else (if nat_lt i d then bound i else bound (suc i))
replaced d p (free k) = if same (free k) p then bound d else free k
replaced d p (meta k) = if same (meta k) p then bound d else meta k
replaced d p (sort l) = if same (sort l) p then bound d else sort l
replaced d p (const c ls) = if same (const c ls) p then bound d else const c ls
replaced d p (app f a) = if same (app f a) p then bound d else app (replaced d p f) (replaced d p a)
replaced d p (lam x A b) = if same (lam x A b) p then bound d else lam x (replaced d p A) (replaced (suc d) p b)
replaced d p (pi x A B) = if same (pi x A B) p then bound d else pi x (replaced d p A) (replaced (suc d) p B)
replaced d p (letin x A v b) = if same (letin x A v b) p then bound d else letin x (replaced d p A) (replaced d p v) (replaced (suc d) p b)
replaced d p (lit n) = if same (lit n) p then bound d else lit n
replaced d p (proj s i t) = if same (proj s i t) p then bound d else proj s i (replaced d p t)

-- The goal with a loose variable for each subterm that is the part, where there is one.
abbrev pub motive : Term → Term → Option Term
motive goal p = if stands_in p goal then Some (replaced 0 p goal) else None

-- ---- The subterms on which a rule is tried

-- In pre-order: a term before its parts, the function before the argument, and other parts from the left.
abbrev pub subterms : Term → List Term
subterms (bound i) = bound i ∷ []
subterms (free k) = free k ∷ []
subterms (meta k) = meta k ∷ []
subterms (sort l) = sort l ∷ []
subterms (const c ls) = const c ls ∷ []
subterms (app f a) = app f a ∷ subterms f ++ subterms a
subterms (lam x A b) = lam x A b ∷ subterms A ++ subterms b
subterms (pi x A B) = pi x A B ∷ subterms A ++ subterms B
subterms (letin x A v b) = letin x A v b ∷ subterms A ++ (subterms v ++ subterms b)
subterms (lit n) = lit n ∷ []
subterms (proj s i t) = proj s i t ∷ subterms t

abbrev pub names_constant : Path → Option Instance → Bool
names_constant c (Some d) = same_path c d.name
names_constant c None = false

-- Constants of one name, the same variable or literal, and else terms of one form.
abbrev pub same_head : Term → Term → Bool
same_head (const c ls) h = names_constant c (as_constant h)
same_head (free k) h = same_number k (as_variable h)
same_head (lit n) h = same_number n (as_literal h)
same_head (bound i) h = is_bound h
same_head (meta k) h = is_some (as_metavariable h)
same_head (sort l) h = is_some (as_sort h)
same_head (app f a) h = is_some (as_application h)
same_head (lam x A b) h = is_some (as_lambda h)
same_head (pi x A B) h = is_some (as_pi h)
same_head (letin x A v b) h = is_let h
same_head (proj s i t) h = is_some (as_projection h)

abbrev pub is_like : Term → Term → Bool
is_like l t =
    nat_eq (loose_bound t) 0 && (same_head (head_of t) (head_of l) && nat_eq (length (arguments_of t)) (length (arguments_of l)))

-- Those without loose variables that have the head of l and as many arguments.
abbrev pub places_for : Term → Term → List Term
places_for l goal = filter (is_like l) (subterms goal)
