-- What a lookup, a value and a definition's body of a view wait for is what the view needs.
use Rattle.std.proofs.Common.{◌≡◌, ℕ, zero, suc, Bool, true, false, if◌then◌else◌, List, [], ◌∷◌, Option, Some, None, Contains, refl, sym, subst, ◌∙◌, arith}
use Rattle.std.specs.Prelude.{◌&&◌}
use Rattle.lf_core.specs.Term.{Path, Term}
use Rattle.lf_core.specs.Same.{same_path}
use Rattle.lf_core.specs.Suffix.{suffix_of, fits_kind, is_definition}
use Rattle.lf_core.specs.declared.suffix.Suffix.{Suffix}
use Rattle.lf_core.specs.declared.constant.ConstInfo.{ConstInfo}
use Rattle.lf_core.specs.declared.constant.TaskKey.{TaskKey}
use Rattle.lf_core.specs.declared.constant.TaskKey.TheVariants.{Body, Real}
use Rattle.lf_checker.specs.View.{
  View,
  Entry,
  OpenBranch,
  stands_before,
  find_entry,
  find_branch,
  has_failed,
  parent_of,
  last_of,
  is_child,
  branch_over,
  Lookup,
  found,
  absent,
  need_body,
  need_real,
  by_answer,
  answer_of,
  by_parent,
  by_suffix,
  by_branch,
  by_entry,
  lookup_of,
  KnownBody,
  value,
  opaque,
  unresolved,
  known_body,
  own_value,
  value_in,
  found_value,
  value_of,
  found_body,
  body_of,
  there_by,
}
use Rattle.lf_checker.specs.Calls.{seen_as}
use Rattle.lf_extension_laws.specs.Needs.{IsWanted}
use Rattle.lf_extension_laws.proofs.Only.{SeenIn, BodyIn, ThereIn, Reads}

contains_first : {A : Type 0} (x : A) (xs : List A) → Contains (x ∷ xs) x
contains_first x xs = (zero, omega arith, refl)

contains_later : {A : Type 0} (x z : A) (xs : List A) → Contains xs z → Contains (x ∷ xs) z
contains_later x z xs h = let l = h.1 in (suc h.0, omega arith, h.2)

abbrev At : List OpenBranch → ℕ → Type 0
At bs p = (b : OpenBranch) × Contains bs b × (b.position ≡ p)

later : (b : OpenBranch) (bs : List OpenBranch) (p : ℕ) → At bs p → At (b ∷ bs) p
later b bs p h = (h.0, contains_later b h.0 bs h.1, h.2)

over_is : (bs : List OpenBranch) (n : Path) (p : ℕ) → branch_over bs n ≡ Some p → At bs p
over_is [] n p h = absurd (cc)
over_is (b ∷ bs) n p h = at (over_is bs n p) (is_child b.prefix n) h
  where
    at : (branch_over bs n ≡ Some p → At bs p) → (c : Bool) → (if c then Some b.position else branch_over bs n) ≡ Some p → At (b ∷ bs) p
    at r true e = let q : b.position ≡ p = cc in (b, contains_first b bs, q)
    at r false e = later b bs p (r e)

find_is : (bs : List OpenBranch) (n : Path) (p : ℕ) → find_branch bs n ≡ Some p → At bs p
find_is [] n p h = absurd (cc)
find_is (b ∷ bs) n p h = at (find_is bs n p) (same_path b.prefix n) h
  where
    at : (find_branch bs n ≡ Some p → At bs p) → (c : Bool) → (if c then Some b.position else find_branch bs n) ≡ Some p → At (b ∷ bs) p
    at r true e = let q : b.position ≡ p = cc in (b, contains_first b bs, q)
    at r false e = later b bs p (r e)

module _ (V : View) (n : Path) where
  answer_is : (o : Option Entry) (b : Bool) (p : ℕ) → by_answer o b ≡ need_body p → At V.branches p
  answer_is (Some e) b p h = absurd (cc)
  answer_is None true p h = absurd (cc)
  answer_is None false p h = absurd (cc)

  parent_is : (s : Suffix) (o : Option Entry) (p : ℕ) → by_parent V n s o ≡ need_body p → At V.branches p
  parent_is s (Some d) p h = at (fits_kind s d.info.kind && stands_before V.position d.position) h
    where
      at : (b : Bool) → (if b then answer_of V n else absent) ≡ need_body p → At V.branches p
      at true e = answer_is (find_entry V.realized n) (has_failed V.failed n) p e
      at false e = absurd (cc)
  parent_is s None p h = at (branch_over V.branches (parent_of n)) refl
    where
      at : (o : Option ℕ) → branch_over V.branches (parent_of n) ≡ o → At V.branches p
      at (Some q) e =
          let f : by_parent V n s None ≡ need_body q = rw e refl in
          let g : need_body q ≡ need_body p = sym f ∙ h in
          let i : q ≡ p = cc in
          subst (At V.branches) i (over_is V.branches (parent_of n) q e)
      at None e =
          let f : by_parent V n s None ≡ absent = rw e refl in
          let g : absent ≡ need_body p = sym f ∙ h in
          absurd (cc)

  suffix_is : (o : Option Suffix) (p : ℕ) → by_suffix V n o ≡ need_body p → At V.branches p
  suffix_is (Some s) p h = at V.for_base h
    where
      at : (b : Bool) → (if b then absent else by_parent V n s (find_entry V.entries (parent_of n))) ≡ need_body p → At V.branches p
      at true e = absurd (cc)
      at false e = parent_is s (find_entry V.entries (parent_of n)) p e
  suffix_is None p h = absurd (cc)

  branch_is : (o : Option ℕ) → branch_over V.branches n ≡ o → (p : ℕ) → by_branch V n o ≡ need_body p → At V.branches p
  branch_is (Some q) e p h = let i : q ≡ p = cc in subst (At V.branches) i (over_is V.branches n q e)
  branch_is None e p h = suffix_is (suffix_of (last_of n)) p h

  entry_is : (o : Option Entry) (p : ℕ) → by_entry V n o ≡ need_body p → At V.branches p
  entry_is (Some e) p h = absurd (cc)
  entry_is None p h = branch_is (branch_over V.branches n) refl p h

  pub lookup_wants : (p : ℕ) → lookup_of V n ≡ need_body p → IsWanted V (Body p)
  lookup_wants p h = entry_is (find_entry V.entries n) p h

  own_wants : (c : ConstInfo) (k : TaskKey) → value_in V c ≡ unresolved k → IsWanted V k
  own_wants c k g = open_branch (find_branch V.branches c.name) refl g
    where
      none : (v : Option Term) → known_body v c.height ≡ unresolved k → IsWanted V k
      none (Some t) f = absurd (cc)
      none None f = absurd (cc)

      open_branch : (o : Option ℕ) → find_branch V.branches c.name ≡ o → own_value c o ≡ unresolved k → IsWanted V k
      open_branch (Some p) e f = let i : Body p ≡ k = cc in subst (IsWanted V) i (find_is V.branches c.name p e)
      open_branch None e f = none c.value f

  pub value_wants : (k : TaskKey) → value_of V n ≡ unresolved k → IsWanted V k
  value_wants k h = at (lookup_of V n) refl h
    where
      at : (l : Lookup) → lookup_of V n ≡ l → found_value V n l ≡ unresolved k → IsWanted V k
      at (found c) e g = own_wants c k g
      at absent e g = absurd (cc)
      at (need_body p) e g = let i : Body p ≡ k = cc in subst (IsWanted V) i (lookup_wants p e)
      at need_real e g = let i : Real n ≡ k = cc in subst (IsWanted V) i e

  pub body_wants : (k : TaskKey) → body_of V n ≡ unresolved k → IsWanted V k
  body_wants k h = at (lookup_of V n) refl h
    where
      of_kind : (c : ConstInfo) (b : Bool) → (if b then value_in V c else opaque) ≡ unresolved k → IsWanted V k
      of_kind c true g = own_wants c k g
      of_kind c false g = absurd (cc)

      at : (l : Lookup) → lookup_of V n ≡ l → found_body V n l ≡ unresolved k → IsWanted V k
      at (found c) e g = of_kind c (is_definition c.kind) g
      at absent e g = absurd (cc)
      at (need_body p) e g = let i : Body p ≡ k = cc in subst (IsWanted V) i (lookup_wants p e)
      at need_real e g = let i : Real n ≡ k = cc in subst (IsWanted V) i e

pub reads_wanted : (V : View) → Reads V (IsWanted V)
reads_wanted V = record {
  sees = λ n. seen n (lookup_of V n) refl;
  bodies = λ n. body n (body_of V n) refl;
  theres = λ n. place n (find_entry V.entries n) (lookup_of V n) refl;
}
  where
    seen : (n : Path) (l : Lookup) → lookup_of V n ≡ l → SeenIn (IsWanted V) (seen_as n l)
    seen n (found c) e = tt
    seen n absent e = tt
    seen n (need_body p) e = lookup_wants V n p e
    seen n need_real e = e

    body : (n : Path) (b : KnownBody) → body_of V n ≡ b → BodyIn (IsWanted V) b
    body n (value v h) e = tt
    body n opaque e = tt
    body n (unresolved k) e = body_wants V n k e

    place : (n : Path) (o : Option Entry) (l : Lookup) → lookup_of V n ≡ l → ThereIn (IsWanted V) (there_by l o)
    place n (Some d) l e = tt
    place n None (found c) e = tt
    place n None absent e = tt
    place n None (need_body p) e = lookup_wants V n p e
    place n None need_real e = tt
