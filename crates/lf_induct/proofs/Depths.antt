-- A declaration's constants are given where its recursor isn't too deep, which it is where there are more constructors than a term may be deep.
use Rattle.std.proofs.Common.{◌≡◌, ◌≤◌, ◌<◌, ℕ, suc, ◌+◌, Bool, true, false, ◌||◌, List, [], ◌∷◌, ◌++◌, length, refl, ap, sym, ◌∙◌, subst, arith}
use Rattle.std.specs.Prelude.{nat_lt}
use Rattle.std.proofs.lemmas.Bool.{lt-ltb}
use Rattle.std.proofs.lemmas.List.{length-append}
use Rattle.std.proofs.Math.Nat.{le-max_right}
use Rattle.lf_core.specs.Term.{Term, Universe, free}
use Rattle.lf_core.specs.Spine.{apply}
use Rattle.lf_core.specs.Size.{depth}
use Rattle.lf_core.specs.declared.constant.CtorInfo.{CtorInfo}
use Rattle.lf_core.specs.declared.constant.IndDecl.{IndDecl}
use Rattle.lf_core.specs.Substitution.{abstract}
use Rattle.lf_subst.proofs.Sizes.{abstract_depth_is}
use Rattle.lf_rules.specs.Telescope.{Telescope, variables, pis_over, implicit, open_all}
use Rattle.lf_rules.specs.Recursor.{
  Case,
  Family,
  cases_of,
  ctors_at,
  minors,
  motive,
  motive_local,
  major,
  shared,
  recursor_of,
  recursor_type,
  recursor_family,
  recursor_rules,
  motive_level,
}
use Rattle.lf_rules.specs.Inductive.{declared_constants}
use Rattle.lf_checker.specs.Run.{Run, out, go_on, gives, gives_up, choose}
use Rattle.lf_checker.specs.Admission.{put_all}
use Rattle.lf_induct.specs.Parts.{any_deep, is_deep, given}

deep_first : {A : Type 0} (b : Bool) (t : Term) (ts : List Term) (m : Run A) (u : ℕ) → put_all ts m u ≡ choose (any_deep ts) gives_up m u
    → go_on (choose b gives_up (gives t) u) (λ s. put_all ts m) ≡ choose (b || any_deep ts) gives_up m u
deep_first true t ts m u h = refl
deep_first false t ts m u h = h

pub put_all_is : {A : Type 0} (ts : List Term) (m : Run A) (u : ℕ) → put_all ts m u ≡ choose (any_deep ts) gives_up m u
put_all_is [] m u = refl
put_all_is (t ∷ ts) m u = deep_first (nat_lt 1024 (depth t)) t ts m u (put_all_is ts m u)

pub given_is : (d : IndDecl) (large : Bool) (u : ℕ)
    → given d large u ≡ choose (is_deep (recursor_of d large)) gives_up (gives (declared_constants d large)) u
unfolding given
given_is d large u = put_all_is (recursor_type (recursor_family d large) (motive_level large) ∷ recursor_rules d large) (gives (declared_constants d large)) u

-- Pis over a telescope are as deep as it is long.
pis_deep : (k : ℕ) (xs : Telescope) (t : Term) → length xs ≤ depth (pis_over k xs t)
pis_deep k [] t = omega arith
pis_deep k (x ∷ xs) t =
    let h = pis_deep (suc k) xs t in
    let a = abstract_depth_is (pis_over (suc k) xs t) k in
    let m = le-max_right (depth x.ty) (depth (abstract (pis_over (suc k) xs t) k)) in
    omega (arith, h, a, m)

minors_many : (f : Family) (cs : List Case) → length (minors f cs) ≡ length cs
minors_many f [] = refl
minors_many f (c ∷ cs) = ap suc (minors_many f cs)

cases_many : (p : ℕ) (ls : List Universe) (cs : List CtorInfo) → length (cases_of p (ctors_at ls cs)) ≡ length cs
cases_many p ls [] = refl
cases_many p ls (c ∷ cs) = ap suc (cases_many p ls cs)

later_long : {X : Type 0} (xs ys : List X) → length ys ≤ length (xs ++ ys)
later_long xs ys = let h = length-append xs ys in omega (arith, h)

earlier_long : {X : Type 0} (xs ys : List X) → length xs ≤ length (xs ++ ys)
earlier_long xs ys = let h = length-append xs ys in omega (arith, h)

shared_long : (f : Family) (s : Universe) → length f.cases ≤ length (shared f s)
shared_long f s =
    let h = later_long (implicit f.params) (motive_local f s ∷ minors f f.cases) in
    let m = minors_many f f.cases in
    omega (arith, h, m)

deep_as : (t : Term) (xs : Telescope) (b : Term) → t ≡ pis_over 0 xs b → length xs ≤ depth t
deep_as t xs b e = subst (λ w. length xs ≤ depth w) (sym e) (pis_deep 0 xs b)

type_deep : (f : Family) (s : Universe) → length f.cases ≤ depth (recursor_type f s)
type_deep f s =
    let q = length (shared f s) in
    let is = (open_all q f.rest).locals in
    let h = shared_long f s in
    let i = earlier_long (shared f s) (implicit is) in
    let m = earlier_long (shared f s ++ implicit is) (major f q is ∷ []) in
    let p = deep_as (recursor_type f s) ((shared f s ++ implicit is) ++ major f q is ∷ []) (apply (motive f) (variables q is ++ free (q + length is) ∷ []))
    refl in
    omega (arith, h, i, m, p)

deep_type : (b c : Bool) → b ≡ true → (b || c) ≡ true
deep_type true c h = refl
deep_type false c h = cc

gives_none : {A : Type 0} (b : Bool) (m : Run A) (u : ℕ) → b ≡ true → choose b gives_up m u ≡ out
gives_none true m u h = refl
gives_none false m u h = cc

pub too_many : (d : IndDecl) (large : Bool) (u : ℕ) → 1024 < length d.ctors → given d large u ≡ out
too_many d large u h =
    let f = recursor_family d large in
    let c = cases_many d.params f.levels d.ctors in
    let t = type_deep f (motive_level large) in
    let deep = lt-ltb 1024 (depth (recursor_type f (motive_level large))) (omega (arith, h, c, t)) in
    given_is d large u ∙ gives_none (is_deep (recursor_of d large)) _ u (deep_type _ _ deep)
