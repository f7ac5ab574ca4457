-- A declaration at its own levels is itself.
use Rattle.std.proofs.Common.{◌≡◌, ℕ, zero, suc, ◌+◌, List, [], ◌∷◌, length, refl, ap, arith}
use Rattle.std.specs.Prelude.{map, slice_get, unwrap_or}
use Rattle.lf_core.specs.Term.{
  Universe,
  level_zero,
  level_succ,
  level_max,
  level_imax,
  level_param,
  level_meta,
  Term,
  bound,
  free,
  meta,
  sort,
  const,
  app,
  lam,
  pi,
  letin,
  lit,
  proj,
}
use Rattle.lf_core.specs.Substitution.{level_substitute, level_instantiate}
use Rattle.lf_core.specs.declared.constant.CtorInfo.{CtorInfo}
use Rattle.lf_core.specs.declared.constant.IndDecl.{IndDecl}
use Rattle.lf_rules.specs.Recursor.{family, parameters_from, declaration_at, ctors_at}
use Rattle.lf_rules.specs.Inductive.{own_family}

parameter_at : (k n i m : ℕ) → m ≡ i + k → unwrap_or (slice_get (parameters_from k n) i) (level_param m) ≡ level_param m
parameter_at k zero i m h = refl
parameter_at k (suc n) zero m h = ap level_param (omega (arith, h))
parameter_at k (suc n) (suc i) m h = parameter_at (suc k) n i m (omega (arith, h))

level_same : (n : ℕ) (l : Universe) → level_substitute (parameters_from 0 n) l ≡ l
level_same n level_zero = refl
level_same n (level_succ l) = ap level_succ (level_same n l)
level_same n (level_max l m) = λ i. level_max (level_same n l i) (level_same n m i)
level_same n (level_imax l m) = λ i. level_imax (level_same n l i) (level_same n m i)
level_same n (level_param k) = parameter_at 0 n k k (omega arith)
level_same n (level_meta k) = refl

levels_same : (n : ℕ) (ls : List Universe) → map (level_substitute (parameters_from 0 n)) ls ≡ ls
levels_same n [] = refl
levels_same n (l ∷ ls) = λ i. level_same n l i ∷ levels_same n ls i

term_same : (n : ℕ) (t : Term) → level_instantiate (parameters_from 0 n) t ≡ t
term_same n (bound i) = refl
term_same n (free k) = refl
term_same n (meta k) = refl
term_same n (sort l) = ap sort (level_same n l)
term_same n (const c ls) = ap (const c) (levels_same n ls)
term_same n (app f a) = λ i. app (term_same n f i) (term_same n a i)
term_same n (lam x A b) = λ i. lam x (term_same n A i) (term_same n b i)
term_same n (pi x A b) = λ i. pi x (term_same n A i) (term_same n b i)
term_same n (letin x A v b) = λ i. letin x (term_same n A i) (term_same n v i) (term_same n b i)
term_same n (lit m) = refl
term_same n (proj s i t) = ap (proj s i) (term_same n t)

ctors_same : (n : ℕ) (cs : List CtorInfo) → ctors_at (parameters_from 0 n) cs ≡ cs
ctors_same n [] = refl
ctors_same n (c ∷ cs) = λ i. record { name = c.name; ty = term_same n c.ty i } ∷ ctors_same n cs i

declaration_same : (d : IndDecl) → declaration_at (parameters_from 0 (length d.levels)) d ≡ d
declaration_same d = λ i. record {
  name = d.name;
  levels = d.levels;
  params = d.params;
  ty = term_same (length d.levels) d.ty i;
  ctors = ctors_same (length d.levels) d.ctors i;
}

pub own_is : (d : IndDecl)
    → family (parameters_from 0 (length d.levels)) (declaration_at (parameters_from 0 (length d.levels)) d) ≡ own_family d
own_is d = ap (family (parameters_from 0 (length d.levels))) (declaration_same d)
