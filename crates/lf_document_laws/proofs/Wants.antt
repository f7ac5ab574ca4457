-- What a view needs, for such keys; and that a constant that is added to the view adds no need, where it isn't of an earlier command, or is of a
-- kind that has no realizable names.
use Rattle.std.proofs.Common.{◌≡◌, ℕ, Bool, true, false, ◌&&◌, if◌then◌else◌, List, [], ◌∷◌, Option, Some, None, refl, sym, ap, subst, ◌∙◌}
use Rattle.lf_core.specs.Term.{Path}
use Rattle.lf_core.specs.Same.{same_path}
use Rattle.lf_core.specs.Suffix.{suffix_of, fits_kind}
use Rattle.lf_core.specs.declared.suffix.Suffix.{Suffix}
use Rattle.lf_core.specs.declared.suffix.Suffix.TheVariants.{Eq1, EqDef, Inj, InjEq, EqAt}
use Rattle.lf_core.specs.declared.constant.ConstInfo.{ConstInfo}
use Rattle.lf_core.specs.declared.constant.ConstKind.TheVariants.{Inductive}
use Rattle.lf_core.specs.declared.constant.TaskKey.{TaskKey}
use Rattle.lf_core.specs.declared.constant.TaskKey.TheVariants.{Head, Body, Real}
use Rattle.lf_checker.specs.View.{
  View,
  Entry,
  find_entry,
  branch_over,
  parent_of,
  last_of,
  stands_before,
  found,
  absent,
  need_real,
  by_parent,
  by_suffix,
  by_branch,
  by_entry,
  lookup_of,
  KnownBody,
  value,
  opaque,
  unresolved,
  body_of,
  There,
  there,
  not_there,
  not_known,
  there_of,
  pushed,
}
use Rattle.lf_checker.specs.Run as checker
use Rattle.lf_checker.specs.Calls.{Seen, known, unknown, missing, see}
use Rattle.lf_extension_laws.specs.Needs.{IsWanted, Waits}
use Rattle.lf_extension_laws.proofs.Only.{Only, SeenIn, BodyIn, ThereIn, Reads}
use Rattle.lf_extension_laws.proofs.Wanted.{reads_wanted}
use Rattle.lf_document.specs.StructureCommand.{pushed_all}
use Rattle.lf_document_laws.proofs.Pushed.{find_other, find_first, find_last}

-- What the view needs is such a key.
abbrev pub Wants : View → (TaskKey → Type 0) → Type 0
Wants V Key = (k : TaskKey) → IsWanted V k → Key k

module _ (V : View) (Key : TaskKey → Type 0) (wants : Wants V Key) where
  seen_in : (s : Seen) → SeenIn (IsWanted V) s → SeenIn Key s
  seen_in (known c) h = tt
  seen_in unknown h = tt
  seen_in (missing k) h = wants k h

  body_in : (b : KnownBody) → BodyIn (IsWanted V) b → BodyIn Key b
  body_in (value v i) h = tt
  body_in opaque h = tt
  body_in (unresolved k) h = wants k h

  there_in : (t : There) → ThereIn (IsWanted V) t → ThereIn Key t
  there_in (there p) h = tt
  there_in not_there h = tt
  there_in (not_known k) h = wants k h

  pub reads_of : Reads V Key
  reads_of = record {
    sees = λ n. seen_in (see V n) ((reads_wanted V).sees n);
    bodies = λ n. body_in (body_of V n) ((reads_wanted V).bodies n);
    theres = λ n. there_in (there_of V n) ((reads_wanted V).theres n);
  }

  pub only_of : {A : Type 0} (o : checker.Answer A) → Waits V o → Only true Key o
  only_of (checker.done x u) h = tt
  only_of (checker.refused e u) h = tt
  only_of checker.out h = tt
  only_of (checker.need k) h = wants k h

-- ---- A constant that has no realizable names there

abbrev pub Childless : View → ConstInfo → ℕ → Type 0
Childless U c p = (s : Suffix) → (fits_kind s c.kind && stands_before U.position p) ≡ false

and_false : (b : Bool) → (b && false) ≡ false
and_false true = refl
and_false false = refl

pub own_childless : (U : View) (c : ConstInfo) (p : ℕ) → stands_before U.position p ≡ false → Childless U c p
own_childless U c p h s = rw (h, and_false (fits_kind s c.kind)) refl

no_suffix : (s : Suffix) → fits_kind s Inductive ≡ false
no_suffix Eq1 = refl
no_suffix EqDef = refl
no_suffix Inj = refl
no_suffix InjEq = refl
no_suffix (EqAt k) = refl

pub type_childless : (U : View) (c : ConstInfo) (p : ℕ) → c.kind ≡ Inductive → Childless U c p
type_childless U c p h s = ap (λ k. fits_kind s k && stands_before U.position p) h ∙ ap (λ b. b && stands_before U.position p) (no_suffix s)

module _ (U : View) (c : ConstInfo) (p : ℕ) (h : Childless U c p) where
  abbrev entry : Entry
  entry = record { info = c; position = p }

  as_before : (n : Path) (s : Suffix) (o : Option Entry) → by_parent (pushed U c p) n s o ≡ by_parent U n s o
  as_before n s (Some e) = refl
  as_before n s None = refl

  own_is_absent : (n : Path) (s : Suffix) → by_parent (pushed U c p) n s (Some entry) ≡ absent
  own_is_absent n s = rw (h s) refl

  parent_before : (n : Path) (s : Suffix) → by_parent (pushed U c p) n s (find_entry (pushed U c p).entries (parent_of n)) ≡ need_real
      → by_parent U n s (find_entry U.entries (parent_of n)) ≡ need_real
  parent_before n s g = at (find_entry U.entries (parent_of n)) refl
    where
      none : find_entry U.entries (parent_of n) ≡ None → (b : Bool) → same_path c.name (parent_of n) ≡ b → by_parent U n s None ≡ need_real
      none q true r =
          let own : by_parent (pushed U c p) n s (Some entry) ≡ need_real
          = sym (ap (by_parent (pushed U c p) n s) (find_last U.entries entry (parent_of n) r q)) ∙ g in
          let not : absent ≡ need_real = sym (own_is_absent n s) ∙ own in absurd (cc)
      none q false r =
          sym (as_before n s None) ∙ sym (ap (by_parent (pushed U c p) n s) (find_other U.entries entry (parent_of n) r ∙ q)) ∙ g

      at : (o : Option Entry) → find_entry U.entries (parent_of n) ≡ o → by_parent U n s o ≡ need_real
      at (Some d) q =
          sym (as_before n s (Some d)) ∙ sym (ap (by_parent (pushed U c p) n s) (find_first U.entries entry d (parent_of n) q ∙ q)) ∙ g
      at None q = none q (same_path c.name (parent_of n)) refl

  suffix_before : (n : Path) (o : Option Suffix) → by_suffix (pushed U c p) n o ≡ need_real → by_suffix U n o ≡ need_real
  suffix_before n None g = g
  suffix_before n (Some s) g = at U.for_base g
    where
      at : (b : Bool) → (if b then absent else by_parent (pushed U c p) n s (find_entry (pushed U c p).entries (parent_of n))) ≡ need_real
          → (if b then absent else by_parent U n s (find_entry U.entries (parent_of n))) ≡ need_real
      at true k = k
      at false k = parent_before n s k

  branch_before : (n : Path) (o : Option ℕ) → by_branch (pushed U c p) n o ≡ need_real → by_branch U n o ≡ need_real
  branch_before n (Some q) g = g
  branch_before n None g = suffix_before n (suffix_of (last_of n)) g

  lookup_before : (n : Path) → lookup_of (pushed U c p) n ≡ need_real → lookup_of U n ≡ need_real
  lookup_before n g = at (find_entry U.entries n) refl
    where
      none : (o : Option Entry) → by_entry (pushed U c p) n o ≡ need_real → by_entry U n None ≡ need_real
      none (Some e) k = absurd (cc)
      none None k = branch_before n (branch_over U.branches n) k

      at : (o : Option Entry) → find_entry U.entries n ≡ o → by_entry U n o ≡ need_real
      at (Some d) q =
          let there : found d.info ≡ need_real = sym (ap (by_entry (pushed U c p) n) (find_first U.entries entry d n q ∙ q)) ∙ g in absurd (cc)
      at None q = none (find_entry (pushed U c p).entries n) g

  pub wants_pushed : (Key : TaskKey → Type 0) → Wants U Key → Wants (pushed U c p) Key
  wants_pushed Key w (Head i) g = absurd g
  wants_pushed Key w (Body i) g = w (Body i) g
  wants_pushed Key w (Real n) g = w (Real n) (lookup_before n g)

-- Constants may be added at a position, to each view of such a position of its own.
abbrev pub MayAdd : (TaskKey → Type 0) → ℕ → ℕ → Type 0
MayAdd Key limit p = (W : View) → W.position ≡ limit → (c : ConstInfo) → Wants W Key → Wants (pushed W c p) Key

-- Where they aren't of an earlier command.
pub own_may : (Key : TaskKey → Type 0) (limit p : ℕ) → stands_before limit p ≡ false → MayAdd Key limit p
own_may Key limit p own W e c w = wants_pushed W c p (own_childless W c p (subst (λ i. stands_before i p ≡ false) (sym e) own)) Key w

pub wants_all : (Key : TaskKey → Type 0) (cs : List ConstInfo) (U : View) (p : ℕ) → MayAdd Key U.position p → Wants U Key → Wants (pushed_all U cs p) Key
wants_all Key [] U p may w = w
wants_all Key (c ∷ cs) U p may w = wants_all Key cs (pushed U c p) p may (may U refl c w)

pub may_still : (Key : TaskKey → Type 0) (cs : List ConstInfo) (U : View) (p : ℕ) → MayAdd Key U.position p → MayAdd Key (pushed_all U cs p).position p
may_still Key [] U p may = may
may_still Key (c ∷ cs) U p may = may_still Key cs (pushed U c p) p may
