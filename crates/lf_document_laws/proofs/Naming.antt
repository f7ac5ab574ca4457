-- The extension law of the tests of names.
use Rattle.std.proofs.Common.{◌≡◌, ℕ, Bool, true, false, ◌&&◌, nat_lt, if◌then◌else◌, Option, Some, None, length, refl, sym, ap, subst}
use Rattle.lf_core.specs.Term.{Path}
use Rattle.lf_core.specs.Suffix.{suffix_of, fits_kind}
use Rattle.lf_core.specs.declared.constant.TaskKey.{TaskKey}
use Rattle.lf_core.specs.declared.suffix.Suffix.{Suffix}
use Rattle.lf_syntax.specs.declared.leaf.Ident.{Ident}
use Rattle.lf_checker.specs.View.{View, There, there, not_there, not_known, stands_before, parent_of, last_of, there_of}
use Rattle.lf_checker.specs.Extends.{Tells}
use Rattle.lf_checker.specs.Calls.{Seen, known, unknown, missing, see}
use Rattle.lf_extension_laws.proofs.Kept.{SameSeen, see_kept}
use Rattle.lf_extension_laws.proofs.Extended_declarations.{SameThere, there_kept}
use Rattle.lf_branch.specs.Branch.{Verdict, not_owned, reserved, duplicate, waits, taken, by_there}
use Rattle.lf_elaboration.specs.Variables.{repeated_level}
use Rattle.lf_document.specs.Task.{Log, Task, Ended}
use Rattle.lf_document.specs.Setting.{Declaration}
use Rattle.lf_document.specs.Naming.{by_parent, by_suffix, verdict, if_taken, unless_repeated, at_most, if_named}
use Rattle.lf_document_laws.specs.Extension.{Kept}
use Rattle.lf_document_laws.proofs.Kept.{kept_choose}

-- A verdict that isn't a need is the other verdict.
abbrev pub SameVerdict : Verdict → Verdict → Type 0
SameVerdict (waits k) w = Unit {0}
SameVerdict not_owned w = not_owned ≡ w
SameVerdict reserved w = reserved ≡ w
SameVerdict (duplicate p) w = duplicate p ≡ w
SameVerdict taken w = taken ≡ w

pub there_told : (s t : There) → SameThere s t → SameVerdict (by_there s) (by_there t)
there_told (there p) t h = ap by_there h
there_told not_there t h = ap by_there h
there_told (not_known k) t h = tt

reserved_or : (b : Bool) (v w : Verdict) → SameVerdict v w → SameVerdict (if b then reserved else v) (if b then reserved else w)
reserved_or true v w h = refl
reserved_or false v w h = h

module _ (U V : View) (x : Tells V U) where
  parent_told : (s : Suffix) (a b : There) → SameThere a b → (q r : Seen) → SameSeen q r → (v w : Verdict) → SameVerdict v w
      → SameVerdict (by_parent U s a q v) (by_parent V s b r w)
  parent_told s (there p) b h (known c) r e v w k =
      subst (λ d. SameVerdict (by_parent U s (there p) (known c) v) (by_parent V s d r w)) h
      (subst (λ d. SameVerdict (by_parent U s (there p) (known c) v) (by_parent V s (there p) d w)) e
      (subst (λ i. SameVerdict (if fits_kind s c.kind && stands_before U.position p then reserved else v)
      (if fits_kind s c.kind && stands_before i p then reserved else w)) (sym x.position)
      (reserved_or (fits_kind s c.kind && stands_before U.position p) v w k)))
  parent_told s (there p) b h unknown r e v w k =
      subst (λ d. SameVerdict v (by_parent V s d r w)) h (subst (λ d. SameVerdict v (by_parent V s (there p) d w)) e k)
  parent_told s (there p) b h (missing m) r e v w k = tt
  parent_told s not_there b h q r e v w k = subst (λ d. SameVerdict v (by_parent V s d r w)) h k
  parent_told s (not_known m) b h q r e v w k = tt

  suffix_told : (n : Path) (o : Option Suffix) (v w : Verdict) → SameVerdict v w → SameVerdict (by_suffix U n o v) (by_suffix V n o w)
  suffix_told n (Some s) v w h =
      parent_told s (there_of U (parent_of n)) (there_of V (parent_of n)) (there_kept U V x (parent_of n)) (see U (parent_of n)) (see V (parent_of n))
      (see_kept U V x (parent_of n)) v w h
  suffix_told n None v w h = h

  pub verdict_told : (n : Path) → SameVerdict (verdict U n) (verdict V n)
  verdict_told n =
      suffix_told n (suffix_of (last_of n)) (by_there (there_of U n)) (by_there (there_of V n)) (there_told (there_of U n) (there_of V n) (there_kept U V x n))

-- ---- What follows

pub kept_taken : {A : Type 0} (at : ℕ) (n : Path) (v w : Verdict) (m k : Task (Ended A)) (g : Log) → SameVerdict v w → Kept (m g) (k g)
    → Kept (if_taken at n v m g) (if_taken at n w k g)
kept_taken at n (waits i) w m k g e h = tt
kept_taken at n not_owned w m k g e h = subst (λ d. Kept (m g) (if_taken at n d k g)) e h
kept_taken at n reserved w m k g e h = subst (λ d. Kept (if_taken at n reserved m g) (if_taken at n d k g)) e refl
kept_taken at n (duplicate p) w m k g e h = subst (λ d. Kept (if_taken at n (duplicate p) m g) (if_taken at n d k g)) e refl
kept_taken at n taken w m k g e h = subst (λ d. Kept (m g) (if_taken at n d k g)) e h

kept_repeated : {A : Type 0} (o : Option Ident) (m k : Task (Ended A)) (g : Log) → Kept (m g) (k g) → Kept (unless_repeated o m g) (unless_repeated o k g)
kept_repeated (Some x) m k g h = refl
kept_repeated None m k g h = h

pub kept_at_most : {A : Type 0} (limit at n : ℕ) (m k : Task (Ended A)) (g : Log) → Kept (m g) (k g) → Kept (at_most limit at n m g) (at_most limit at n k g)
kept_at_most limit at n m k g h = kept_choose (nat_lt limit n) _ m _ k g refl h

pub kept_named : {A : Type 0} (U V : View) → Tells V U → (limit : ℕ) (D : Declaration) (m k : Task (Ended A)) (g : Log) → Kept (m g) (k g)
    → Kept (if_named U limit D m g) (if_named V limit D k g)
kept_named U V x limit D m k g h =
    kept_taken D.at D.name (verdict U D.name) (verdict V D.name) _ _ g (verdict_told U V x D.name)
    (kept_repeated (repeated_level D.written) _ _ g (kept_at_most limit D.at (length D.levels) m k g h))

-- ---- Where the test is passed the name isn't there.

passed : (d : Verdict) → (reserved ≡ d → ⊥) → ((k : TaskKey) → waits k ≡ d → ⊥) → (U : View) (s : Suffix) (a : There) (q : Seen) (v : Verdict)
    → by_parent U s a q v ≡ d → v ≡ d
passed d r w U s (there p) (known c) v h = at (fits_kind s c.kind && stands_before U.position p) h
  where
    at : (b : Bool) → (if b then reserved else v) ≡ d → v ≡ d
    at true g = absurd (r g)
    at false g = g
passed d r w U s (there p) unknown v h = h
passed d r w U s (there p) (missing k) v h = absurd (w k h)
passed d r w U s not_there q v h = h
passed d r w U s (not_known k) q v h = absurd (w k h)

passed_suffix : (d : Verdict) → (reserved ≡ d → ⊥) → ((k : TaskKey) → waits k ≡ d → ⊥) → (U : View) (n : Path) (o : Option Suffix) (v : Verdict)
    → by_suffix U n o v ≡ d → v ≡ d
passed_suffix d r w U n (Some s) v h = passed d r w U s (there_of U (parent_of n)) (see U (parent_of n)) v h
passed_suffix d r w U n None v h = h

taken_there : (s : There) → by_there s ≡ taken → s ≡ not_there
taken_there (there p) h = absurd (cc)
taken_there not_there h = refl
taken_there (not_known k) h = absurd (cc)

owned_there : (s : There) → by_there s ≡ not_owned → ⊥
owned_there (there p) h = cc
owned_there not_there h = cc
owned_there (not_known k) h = cc

pub is_new : (U : View) (n : Path) → verdict U n ≡ taken → there_of U n ≡ not_there
is_new U n h = taken_there (there_of U n) (passed_suffix taken (λ e. cc) (λ k e. cc) U n (suffix_of (last_of n)) (by_there (there_of U n)) h)

never_unowned : (U : View) (n : Path) → verdict U n ≡ not_owned → ⊥
never_unowned U n h =
    owned_there (there_of U n) (passed_suffix not_owned (λ e. cc) (λ k e. cc) U n (suffix_of (last_of n)) (by_there (there_of U n)) h)

kept_if_new : {A : Type 0} (U : View) (at : ℕ) (n : Path) (v w : Verdict) (m k : Task (Ended A)) (g : Log) → verdict U n ≡ v → SameVerdict v w
    → (there_of U n ≡ not_there → Kept (m g) (k g)) → Kept (if_taken at n v m g) (if_taken at n w k g)
kept_if_new U at n (waits i) w m k g q e h = tt
kept_if_new U at n not_owned w m k g q e h = absurd (never_unowned U n q)
kept_if_new U at n reserved w m k g q e h = subst (λ d. Kept (if_taken at n reserved m g) (if_taken at n d k g)) e refl
kept_if_new U at n (duplicate p) w m k g q e h = subst (λ d. Kept (if_taken at n (duplicate p) m g) (if_taken at n d k g)) e refl
kept_if_new U at n taken w m k g q e h = subst (λ d. Kept (m g) (if_taken at n d k g)) e (h (is_new U n q))

-- What follows has to be kept where the name is new.
pub kept_named_new : {A : Type 0} (U V : View) → Tells V U → (limit : ℕ) (D : Declaration) (m k : Task (Ended A)) (g : Log)
    → (there_of U D.name ≡ not_there → Kept (m g) (k g)) → Kept (if_named U limit D m g) (if_named V limit D k g)
kept_named_new U V x limit D m k g h =
    kept_if_new U D.at D.name (verdict U D.name) (verdict V D.name) _ _ g refl (verdict_told U V x D.name)
    (λ e. kept_repeated (repeated_level D.written) _ _ g (kept_at_most limit D.at (length D.levels) m k g (h e)))
