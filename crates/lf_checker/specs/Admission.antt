-- Whether an inductive declaration is admitted, as a function of the checker's form: its tests in their order, with their costs. Opening a
-- binder costs the nodes of what is made; the tests of form and the recursor cost nothing. This project's own.
use Rattle.std.specs.Prelude.{ℕ, suc, Bool, true, false, not, ◌&&◌, ◌||◌, nat_eq, nat_le, Option, Some, None, List, [], ◌∷◌, length}
use Rattle.lf_core.specs.Term.{Path, Universe, level_zero, level_succ, Term, free, pi}
use Rattle.lf_core.specs.Same.{same}
use Rattle.lf_core.specs.Spine.{apply}
use Rattle.lf_rules.specs.Environment.{Context, with}
use Rattle.lf_rules.specs.Structure.{result_level}
use Rattle.lf_rules.specs.Telescope.{Telescope, pi_count}
use Rattle.lf_rules.specs.Recursor.{Family, self, indices_of, is_among, recursor_name, recursor_type, recursor_family, motive_level, recursor_rules}
use Rattle.lf_rules.specs.Inductive.{own_family, type_alone, declared_constants}
use Rattle.lf_core.specs.declared.constant.ConstInfo.{ConstInfo}
use Rattle.lf_core.specs.declared.constant.CtorInfo.{CtorInfo}
use Rattle.lf_core.specs.declared.constant.IndDecl.{IndDecl}
use Rattle.lf_checker.specs.View.{View, there_of, pushed}
use Rattle.lf_checker.specs.LevelTest.{is_same, is_at_most}
use Rattle.lf_checker.specs.Run.{Run, ◌>>=◌, gives, refuse, choose, under, put, opening}
use Rattle.lf_checker.specs.declared.fault.TypeFault.TheVariants.{NotClosed, NotPositive, BadResult, LevelTooHigh, BadType, Duplicate}
use Rattle.lf_checker.specs.Calls.{checked, Calls}
use Rattle.lf_checker.specs.Structures.{mentions}
use Rattle.lf_checker.specs.Infer.{sort_of}
use Rattle.lf_checker.specs.Checker.{calls, is_closed, unless_there}

-- ---- Tests of form.

abbrev pub any_mentions : Path → List Term → Bool
any_mentions n [] = false
any_mentions n (t ∷ ts) = mentions n t || any_mentions n ts

abbrev pub is_at_indices : Family → Term → Bool
is_at_indices f t = same t (apply (self f) (indices_of f t)) &&
    (nat_eq (length (indices_of f t)) (pi_count f.rest) && not (any_mentions f.name (indices_of f t)))

abbrev pub ends_at_indices : Family → Term → Bool
ends_at_indices f (pi x A B) = not (mentions f.name A) && ends_at_indices f B
ends_at_indices f t = is_at_indices f t

abbrev pub is_positive : Family → Term → Bool
is_positive f A = not (mentions f.name A) || ends_at_indices f A

abbrev pub is_low : Universe → Universe → Bool
is_low l r = is_same r level_zero || is_at_most l r

-- ---- A constructor, whose name is n: the levels of its fields, and the indices at its end.

pub record Read : Type 0 where
  pub levels : List Universe
  pub indices : List Term

abbrev pub admit_end : Calls → Family → Path → Context → Term → Run Read
admit_end c f n C t = choose (is_at_indices f t) (do
  l ← sort_of c checked C t
  gives (record { levels = []; indices = indices_of f t })) (refuse (BadResult n))

abbrev pub with_field : Universe → Read → Read
with_field l k = record { levels = l ∷ k.levels; indices = k.indices }

-- The fields from the one of number i on, of which there are as many as t has pis.
abbrev pub admit_fields : Calls → Family → Universe → Path → ℕ → ℕ → Context → Term → Run Read
admit_fields c f r n i (suc m) C (pi x A B) = do
  l ← sort_of c checked C A
  choose (is_positive f A) (choose (is_low l r) (do
    o ← opening C B
    k ← under x.name (admit_fields c f r n (suc i) m (with C A) o)
    gives (with_field l k)) (refuse (LevelTooHigh n i))) (refuse (NotPositive n i))
admit_fields c f r n i m C t = admit_end c f n C t

abbrev pub admit_constructor : Calls → Family → Universe → Path → Telescope → Context → Term → Run Read
admit_constructor c f r n [] C t = admit_fields c f r n 1 (pi_count t) C t
admit_constructor c f r n (x ∷ xs) C (pi y A B) = choose (same x.ty A) (do
  o ← opening C B
  under y.name (admit_constructor c f r n xs (with C A) o)) (refuse (BadResult n))
admit_constructor c f r n (x ∷ xs) C t = refuse (BadResult n)

abbrev pub admit_constructors : Calls → Family → Universe → List CtorInfo → Run (List Read)
admit_constructors c f r [] = gives []
admit_constructors c f r (k ∷ ks) = do
  read ← admit_constructor c f r k.name f.params [] k.ty
  rest ← admit_constructors c f r ks
  gives (read ∷ rest)

-- ---- Whether it eliminates into every sort.

abbrev pub is_never_zero : Universe → Bool
is_never_zero r = is_at_most (level_succ level_zero) r

abbrev pub is_index : ℕ → List Term → Bool
is_index k [] = false
is_index k (t ∷ ts) = same (free k) t || is_index k ts

abbrev pub are_proofs_or_indices : ℕ → List Universe → List Term → Bool
are_proofs_or_indices k [] is = true
are_proofs_or_indices k (l ∷ ls) is = (is_same l level_zero || is_index k is) && are_proofs_or_indices (suc k) ls is

abbrev pub eliminates_everywhere : Family → Universe → List Read → Bool
eliminates_everywhere f r [] = true
eliminates_everywhere f r (k ∷ []) = is_never_zero r || are_proofs_or_indices (length f.params) k.levels k.indices
eliminates_everywhere f r (k ∷ j ∷ ks) = is_never_zero r

-- ---- The declaration.

abbrev pub put_all : {A : Type 0} → List Term → Run A → Run A
put_all [] m = m
put_all (t ∷ ts) m = do
  s ← put t
  put_all ts m

-- Its constants, where the recursor's type and then its rules aren't too deep.
abbrev pub given : IndDecl → Bool → Run (List ConstInfo)
given d large = put_all (recursor_type (recursor_family d large) (motive_level large) ∷ recursor_rules d large) (gives (declared_constants d large))

abbrev pub on_result : {A : Type 0} → Option Universe → (Universe → Run A) → Run A
on_result (Some r) f = f r
on_result None f = refuse BadType

-- The view in which constructors are judged.
abbrev pub view_with_type : View → IndDecl → View
view_with_type V d = pushed V (type_alone d) V.position

abbrev pub admit : View → ℕ → IndDecl → Run (List ConstInfo)
admit V depth d = do
  l ← sort_of (calls V depth) checked [] d.ty
  choose (nat_le d.params (pi_count d.ty)) (on_result (result_level d.ty) λ r. do
    reads ← admit_constructors (calls (view_with_type V d) depth) (own_family d) r d.ctors
    given d (eliminates_everywhere (own_family d) r reads)) (refuse BadType)

abbrev pub are_closed : List CtorInfo → Bool
are_closed [] = true
are_closed (c ∷ cs) = is_closed c.ty && are_closed cs

-- Each constructor's name is new: not there, and not among those of the declaration that are taken.
abbrev pub unless_taken : {A : Type 0} → View → List Path → List CtorInfo → Run A → Run A
unless_taken V taken [] m = m
unless_taken V taken (c ∷ cs) m = unless_there c.name (there_of V c.name)
    (choose (is_among c.name taken) (refuse (Duplicate c.name V.position)) (unless_taken V (c.name ∷ taken) cs m))

-- The names are tested in order: the type's, the constructors', the recursor's.
abbrev pub unless_declared : {A : Type 0} → View → IndDecl → Run A → Run A
unless_declared V d m = unless_there d.name (there_of V d.name)
    (unless_taken V (d.name ∷ recursor_name d ∷ []) d.ctors (unless_there (recursor_name d) (there_of V (recursor_name d)) m))

-- The constants that an inductive declaration adds: its type, its constructors and its recursor.
abbrev pub add_inductive : View → ℕ → IndDecl → Run (List ConstInfo)
add_inductive V depth d = choose (is_closed d.ty && are_closed d.ctors) (unless_declared V d (admit V depth d)) (refuse NotClosed)
