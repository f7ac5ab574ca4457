-- A branch that is open for a name shows in what is looked up: a child that is no entry waits for it. So where a view tells more than another,
-- and no branch is open for a name in the other, none is in the view.
use Rattle.std.proofs.Common.{
  ◌≡◌,
  ℕ,
  ◌+◌,
  ◌<◌,
  ◌≤◌,
  Bool,
  true,
  false,
  if◌then◌else◌,
  List,
  [],
  ◌∷◌,
  ◌++◌,
  length,
  Option,
  Some,
  None,
  refl,
  sym,
  ap,
  subst,
  ◌∙◌,
  arith,
  length-append,
}
use Rattle.lf_core.specs.Term.{Path}
use Rattle.lf_core.specs.Same.{same_path}
use Rattle.lf_core.specs.Suffix.{suffix_of, equation_of}
use Rattle.lf_name.proofs.Names.{path_is}
use Rattle.lf_checker.specs.View.{
  View,
  Entry,
  OpenBranch,
  find_entry,
  find_branch,
  branch_over,
  is_child,
  parent_of,
  last_of,
  absent,
  need_body,
  by_suffix,
  by_branch,
  by_entry,
  lookup_of,
}
use Rattle.lf_checker.specs.Extends.{SameLookup, Tells}

-- ---- A name and one part more

abbrev child : Path → List ℕ → Path
child n x = n ++ x ∷ []

parent_is : (n : Path) (x : List ℕ) → parent_of (child n x) ≡ n
parent_is [] x = refl
parent_is (y ∷ []) x = refl
parent_is (y ∷ z ∷ n) x = ap (λ m. y ∷ m) (parent_is (z ∷ n) x)

last_is : (n : Path) (x : List ℕ) → last_of (child n x) ≡ x
last_is [] x = refl
last_is (y ∷ []) x = refl
last_is (y ∷ z ∷ n) x = last_is (z ∷ n) x

child_is : (p n : Path) (x : List ℕ) → is_child p (child n x) ≡ same_path p n
child_is p [] x = refl
child_is p (y ∷ n) x = ap (same_path p) (parent_is (y ∷ n) x)

over_is : (bs : List OpenBranch) (n : Path) (x : List ℕ) → branch_over bs (child n x) ≡ find_branch bs n
over_is [] n x = refl
over_is (b ∷ bs) n x =
    ap (λ c. if c then Some b.position else branch_over bs (child n x)) (child_is b.prefix n x)
    ∙ ap (λ o. if same_path b.prefix n then Some b.position else o) (over_is bs n x)

-- ---- A part that is no suffix and in which no entry's name ends: it is longer than all these.

abbrev longer_part : List Entry → List ℕ
longer_part [] = 0 ∷ []
longer_part (e ∷ es) = 0 ∷ (last_of e.info.name ++ longer_part es)

abbrev AllShorter : ℕ → List Entry → Type 0
AllShorter k [] = Unit {0}
AllShorter k (e ∷ es) = (length (last_of e.info.name) < k) × AllShorter k es

shorter_still : (j k : ℕ) (es : List Entry) → j ≤ k → AllShorter j es → AllShorter k es
shorter_still j k [] l h = tt
shorter_still j k (e ∷ es) l h = let s : length (last_of e.info.name) < j = h.0 in (omega arith, shorter_still j k es l h.1)

all_shorter : (es : List Entry) → AllShorter (length (longer_part es)) es
all_shorter [] = tt
all_shorter (e ∷ es) =
    let sum : length (last_of e.info.name ++ longer_part es) ≡ length (last_of e.info.name) + length (longer_part es)
    = length-append (last_of e.info.name) (longer_part es) in
    (omega (arith, sum), shorter_still (length (longer_part es)) (length (longer_part (e ∷ es))) es (omega (arith, sum)) (all_shorter es))

not_named : (es : List Entry) (n : Path) → AllShorter (length (last_of n)) es → find_entry es n ≡ None
not_named [] n h = refl
not_named (e ∷ es) n h = at (same_path e.info.name n) refl (not_named es n h.1)
  where
    at : (b : Bool) → same_path e.info.name n ≡ b → find_entry es n ≡ None → (if b then Some e else find_entry es n) ≡ None
    at true q g =
        let s : length (last_of e.info.name) < length (last_of n) = h.0 in
        let same : length (last_of e.info.name) ≡ length (last_of n) = ap (λ m. length (last_of m)) (path_is e.info.name n q) in
        absurd (omega (arith, s, same))
    at false q g = g

no_suffix : (x : List ℕ) → suffix_of (0 ∷ x) ≡ None
unfolding suffix_of equation_of
no_suffix [] = refl
no_suffix (a ∷ []) = refl
no_suffix (a ∷ b ∷ []) = refl
no_suffix (a ∷ b ∷ c ∷ []) = refl
no_suffix (a ∷ b ∷ c ∷ d ∷ []) = refl
no_suffix (a ∷ b ∷ c ∷ d ∷ e ∷ x) = refl

longer_no_suffix : (es : List Entry) → suffix_of (longer_part es) ≡ None
longer_no_suffix [] = no_suffix []
longer_no_suffix (e ∷ es) = no_suffix (last_of e.info.name ++ longer_part es)

-- ---- The child that ends in it: absent without the branch, and else not.

abbrev other_child : View → Path → Path
other_child U n = child n (longer_part U.entries)

no_entry : (U : View) (n : Path) → find_entry U.entries (other_child U n) ≡ None
no_entry U n =
    not_named U.entries (other_child U n)
    (subst (λ x. AllShorter (length x) U.entries) (sym (last_is n (longer_part U.entries))) (all_shorter U.entries))

closed_is_absent : (U : View) (n : Path) → find_branch U.branches n ≡ None → lookup_of U (other_child U n) ≡ absent
closed_is_absent U n h =
    let x : List ℕ = longer_part U.entries in
    ap (by_entry U (child n x)) (no_entry U n) ∙ ap (by_branch U (child n x)) (over_is U.branches n x ∙ h)
    ∙ ap (by_suffix U (child n x)) (ap suffix_of (last_is n x) ∙ longer_no_suffix U.entries)

open_is_not_absent : (V : View) (n : Path) (x : List ℕ) (p : ℕ) → find_branch V.branches n ≡ Some p → absent ≡ lookup_of V (child n x) → ⊥
open_is_not_absent V n x p h = at (find_entry V.entries (child n x))
  where
    at : (o : Option Entry) → absent ≡ by_entry V (child n x) o → ⊥
    at (Some e) g = cc
    at None g = let waits : by_entry V (child n x) None ≡ need_body p = ap (by_branch V (child n x)) (over_is V.branches n x ∙ h) in
        let none : absent ≡ need_body p = g ∙ waits in cc

pub still_closed : (U V : View) → Tells V U → (n : Path) → find_branch U.branches n ≡ None → find_branch V.branches n ≡ None
still_closed U V x n h = at (find_branch V.branches n) refl
  where
    at : (o : Option ℕ) → find_branch V.branches n ≡ o → find_branch V.branches n ≡ None
    at (Some p) q = absurd (open_is_not_absent V n (longer_part U.entries) p q
        (subst (λ l. SameLookup l (lookup_of V (other_child U n))) (closed_is_absent U n h) (x.lookups (other_child U n))))
    at None q = q
