-- What the answers of the code say.
use Rattle.std.specs.Prelude.{◌≡◌, ◌≢◌, ℕ, false, IsTrue, IfSome, IsSomeAnd, Option, Some, None, List, [], ◌∷◌, ◌++◌, All, AllPairs}
use Rattle.lf_core.specs.Term.{Path}
use Rattle.lf_core.specs.Suffix.{fits_kind, suffix_of}
use Rattle.lf_core.specs.declared.suffix.Suffix.{Suffix}
use Rattle.lf_core.specs.declared.constant.ConstInfo.{ConstInfo}
use Rattle.lf_core.specs.declared.constant.TaskKey.TheVariants.{Body}
use Rattle.lf_checker.specs.View as view
use Rattle.lf_checker.specs.View.{KnownBody, value, opaque, unresolved, lookup_of, find_entry, find_branch, has_failed, placed_of, parent_of, last_of}
use Rattle.lf_env.specs.declared.answer.Lookup.{Lookup}
use Rattle.lf_env.specs.declared.answer.Lookup.TheVariants.{Found, Absent, NeedBody, NeedReal}
use Rattle.lf_env.specs.declared.answer.BodyOf.{BodyOf}
use Rattle.lf_env.specs.declared.answer.BodyOf.TheVariants.{Value, Opaque, NeedBody as AfterBody}

-- No two of the constants have one name.
abbrev pub DistinctNames : List ConstInfo → Type 0
DistinctNames cs = AllPairs (λ c d. c.name ≢ d.name) cs

abbrev pub told : Lookup → view.Lookup
told (Found c) = view.found c.now
told Absent = view.absent
told (NeedBody p) = view.need_body p
told NeedReal = view.need_real

-- The suffix fits the parent.
abbrev pub FitsParent : Option Suffix → Option view.Entry → Type 0
FitsParent (Some s) (Some e) = IsTrue (fits_kind s e.info.kind)
FitsParent (Some s) None = ⊥
FitsParent None o = ⊥

-- The view knows a constant of this name.
abbrev pub IsKnown : view.View → Path → Type 0
IsKnown V n = (c : ConstInfo) × (lookup_of V n ≡ view.found c)

-- The code's answer is this body, but for the height of a value.
abbrev pub Shows : BodyOf → KnownBody → Type 0
Shows (Value v) (value w height) = v.now ≡ w
Shows Opaque opaque = Unit {0}
Shows (AfterBody p) (unresolved (Body q)) = p ≡ q
Shows _ _ = ⊥

-- The name is an entry of this position.
abbrev pub HasEntryAt : view.View → Path → ℕ → Type 0
HasEntryAt V n p = IsSomeAnd (placed_of V n) (λ place. place.0 ≡ p)

-- A branch can be joined with these constants: the last is its header's, whose branch is open at the position; the others are new, and no two of
-- one name.
pub record CanJoin (V : view.View) (p : ℕ) (cs : List ConstInfo) : Type 0 where
  pub helpers : List ConstInfo
  pub header : ConstInfo
  pub are : cs ≡ helpers ++ header ∷ []
  pub open_there : find_branch V.branches header.name ≡ Some p
  pub fresh : All (λ c. find_entry V.entries c.name ≡ None) helpers
  pub distinct : DistinctNames helpers

-- A name that can be answered: it has no entry and no answer, and ends in a suffix that its parent's kind fits.
pub record CanAnswer (V : view.View) (n : Path) (made : Option ConstInfo) : Type 0 where
  pub no_entry : find_entry V.entries n ≡ None
  pub not_realized : find_entry V.realized n ≡ None
  pub not_failed : has_failed V.failed n ≡ false
  pub fitting : FitsParent (suffix_of (last_of n)) (find_entry V.entries (parent_of n))
  pub named : IfSome made (λ c. c.name ≡ n)
