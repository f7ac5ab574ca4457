-- What a view finds is an entry or a kept answer of that name.
use Rattle.std.proofs.Common.{◌≡◌, ◌⊎◌, inl, inr, ℕ, Bool, true, false, ◌&&◌, if◌then◌else◌, Option, Some, None, List, [], ◌∷◌, refl, subst, Contains}
use Rattle.std.proofs.lemmas.Bool.{cond_both}
use Rattle.lf_core.specs.Term.{Path}
use Rattle.lf_core.specs.Same.{same_path}
use Rattle.lf_core.specs.Suffix.{suffix_of, fits_kind}
use Rattle.lf_core.specs.declared.suffix.Suffix.{Suffix}
use Rattle.lf_core.specs.declared.constant.ConstInfo.{ConstInfo}
use Rattle.lf_inductive_laws.proofs.Contained.{first_contained, later_contained}
use Rattle.lf_checker.specs.View.{
  View,
  Entry,
  stands_before,
  find_entry,
  answer_of,
  has_failed,
  branch_over,
  parent_of,
  last_of,
  Lookup,
  found,
  absent,
  need_body,
  by_answer,
  by_parent,
  by_suffix,
  by_branch,
  by_entry,
  lookup_of,
}
use Rattle.lf_name.proofs.Names.{path_is}
use Rattle.lf_checker_laws.proofs.Views.{found_is}
use Rattle.lf_derivation_laws.specs.Lists.{OwnNames}

abbrev pub AnEntry : View → Path → ConstInfo → Type 0
AnEntry V n c = (e : Entry) × Contains V.entries e × (e.info ≡ c) × (e.info.name ≡ n)

abbrev pub AnAnswer : View → Path → ConstInfo → Type 0
AnAnswer V n c = (e : Entry) × Contains V.realized e × (e.info ≡ c) × (e.info.name ≡ n)

entry_is : (es : List Entry) (n : Path) (e : Entry) → find_entry es n ≡ Some e → Contains es e × (e.info.name ≡ n)
entry_is [] n e q = absurd (cc)
entry_is (x ∷ es) n e q =
    cond_both (same_path x.info.name n) (Some x) (find_entry es n) (λ o. o ≡ Some e → Contains (x ∷ es) e × (e.info.name ≡ n))
    (λ b p. let s : x ≡ e = cc in subst (λ y. Contains (x ∷ es) y × (y.info.name ≡ n)) s (first_contained x es, path_is x.info.name n b))
    (λ b p. let r = entry_is es n e p in (later_contained x e es r.0, r.1)) q

of_answer : (V : View) (n : Path) (c : ConstInfo) (o : Option Entry) (f : Bool) → find_entry V.realized n ≡ o → by_answer o f ≡ found c → AnAnswer V n c
of_answer V n c (Some a) f e q = let r = entry_is V.realized n a e in (a, r.0, found_is a.info c q, r.1)
of_answer V n c None true e q = absurd (cc)
of_answer V n c None false e q = absurd (cc)

under_open : (V : View) (n : Path) (s : Suffix) (c : ConstInfo) (o : Option ℕ) → branch_over V.branches (parent_of n) ≡ o → by_parent V n s None ≡ found c → ⊥
under_open V n s c (Some p) e q = let r : by_parent V n s None ≡ need_body p = rw e refl in cc
under_open V n s c None e q = let r : by_parent V n s None ≡ absent = rw e refl in cc

of_parent : (V : View) (n : Path) (s : Suffix) (c : ConstInfo) (o : Option Entry) → by_parent V n s o ≡ found c → AnAnswer V n c
of_parent V n s c (Some p) q =
    cond_both (fits_kind s p.info.kind && stands_before V.position p.position) (answer_of V n) absent (λ l. l ≡ found c → AnAnswer V n c)
    (λ b. of_answer V n c (find_entry V.realized n) (has_failed V.failed n) refl) (λ b r. absurd (cc)) q
of_parent V n s c None q = absurd (under_open V n s c (branch_over V.branches (parent_of n)) refl q)

of_suffix : (V : View) (n : Path) (c : ConstInfo) (o : Option Suffix) → by_suffix V n o ≡ found c → AnAnswer V n c
of_suffix V n c None q = absurd (cc)
of_suffix V n c (Some s) q =
    cond_both V.for_base absent (by_parent V n s (find_entry V.entries (parent_of n))) (λ l. l ≡ found c → AnAnswer V n c) (λ b r. absurd (cc))
    (λ b. of_parent V n s c (find_entry V.entries (parent_of n))) q

of_branch : (V : View) (n : Path) (c : ConstInfo) (o : Option ℕ) → by_branch V n o ≡ found c → AnAnswer V n c
of_branch V n c (Some p) q = absurd (cc)
of_branch V n c None q = of_suffix V n c (suffix_of (last_of n)) q

pub entry_or_answer : (V : View) (n : Path) (c : ConstInfo) → lookup_of V n ≡ found c → AnEntry V n c ⊎ AnAnswer V n c
entry_or_answer V n c q = at (find_entry V.entries n) refl q
  where
    at : (o : Option Entry) → find_entry V.entries n ≡ o → by_entry V n o ≡ found c → AnEntry V n c ⊎ AnAnswer V n c
    at (Some e) p r = let s = entry_is V.entries n e p in inl (e, s.0, found_is e.info c r, s.1)
    at None p r = inr (of_branch V n c (branch_over V.branches n) r)

pub own_names : OwnNames
own_names V n c q = at (entry_or_answer V n c q)
  where
    at : AnEntry V n c ⊎ AnAnswer V n c → c.name ≡ n
    at (inl (e, w, i, m)) = subst (λ x. x.name ≡ n) i m
    at (inr (e, w, i, m)) = subst (λ x. x.name ≡ n) i m
