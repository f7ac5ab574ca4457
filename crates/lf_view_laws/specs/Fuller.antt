-- When a view is another with more branches joined and more answers kept.
use Rattle.std.specs.Prelude.{◌≡◌, ◌⊎◌, ℕ, true, false, List, [], ◌∷◌, ◌++◌, filter, Option, Some, None, All, Contains}
use Rattle.lf_core.specs.Term.{Path}
use Rattle.lf_core.specs.declared.constant.ConstInfo.{ConstInfo}
use Rattle.lf_checker.specs.View.{
  View,
  Entry,
  OpenBranch,
  Failed,
  is_axiom,
  is_child,
  placed_of,
  base_view,
  pushed,
  opened_branch,
  joined_branch,
  answered,
  origin_of,
  view_at,
  view_real_at,
}
use Rattle.lf_checker.specs.Extends.{shape_of, Extends}
use Rattle.lf_env.specs.Answer.{DistinctNames, CanJoin, CanAnswer}
use Rattle.lf_env.specs.Layer.{branch_of}

-- Two entries of one name are one.
abbrev pub HasNamesOnce : List Entry → Type 0
HasNamesOnce es = (d e : Entry) → Contains es d → Contains es e → d.info.name ≡ e.info.name → d ≡ e

-- An entry of this name and position shows the same beside its body.
pub record ShownBy (es : List Entry) (e : Entry) : Type 0 where
  pub entry : Entry
  pub within : Contains es entry
  pub position : entry.position ≡ e.position
  pub shape : shape_of entry.info ≡ shape_of e.info

-- The body of an open branch may add this entry.
pub record ChildOf (bs : List OpenBranch) (e : Entry) : Type 0 where
  pub branch : OpenBranch
  pub within : Contains bs branch
  pub child : is_child branch.prefix e.info.name ≡ true
  pub position : branch.position ≡ e.position

abbrev pub axioms_of : List Entry → List Entry
axioms_of es = filter (λ e. is_axiom e.info.kind) es

-- V has what U has, and what bodies add whose branches are open in U alone, and perhaps more answers. No name has two entries or answers in V.
pub record Fuller (V U : View) : Type 0 where
  pub position : V.position ≡ U.position
  pub for_base : V.for_base ≡ U.for_base
  pub entries : (e : Entry) → Contains U.entries e → Contains V.entries e ⊎ (Contains U.branches (branch_of e) × ShownBy V.entries e)
  pub no_others : (e : Entry) → Contains V.entries e → ShownBy U.entries e ⊎ ChildOf U.branches e
  pub branches : (b : OpenBranch) → Contains V.branches b → Contains U.branches b
  pub realized : (e : Entry) → Contains U.realized e → Contains V.realized e
  pub failed : (f : Failed) → Contains U.failed f → Contains V.failed f
  pub axioms : axioms_of V.entries ≡ axioms_of U.entries
  pub entries_once : HasNamesOnce V.entries
  pub realized_once : HasNamesOnce V.realized
  pub one_answer : (f : Failed) (e : Entry) → Contains V.failed f → Contains V.realized e → f.name ≡ e.info.name → ⊥

-- The branch can be joined with these constants: helpers are children of the header's name, whose entry stands at the position and shows the
-- same; none is an axiom.
pub record JoinsChildren (V : View) (p : ℕ) (cs : List ConstInfo) : Type 0 where
  pub can : CanJoin V p cs
  pub children : All (λ c. is_child can.header.name c.name ≡ true) can.helpers
  pub header : ShownBy V.entries (record { info = can.header; position = p })
  pub no_axiom : All (λ c. is_axiom c.kind ≡ false) cs

-- The constants with which a branch was joined in V stand there; the helpers are all the children of the header's name that U lacks.
pub record IsJoined (V U : View) (p : ℕ) (cs : List ConstInfo) : Type 0 where
  pub helpers : List ConstInfo
  pub header : ConstInfo
  pub are : cs ≡ helpers ++ header ∷ []
  pub stand : All (λ c. Contains V.entries (record { info = c; position = p })) cs
  pub closed : (q : ℕ) → Contains V.branches (record { prefix = header.name; position = q }) → ⊥
  pub all : (e : Entry) → Contains V.entries e → is_child header.name e.info.name ≡ true → ShownBy U.entries e ⊎ Contains helpers e.info
  pub no_axiom : All (λ c. is_axiom c.kind ≡ false) cs

-- The name's answer is this one.
abbrev pub IsAnswer : View → Path → ℕ → Option ConstInfo → Type 0
IsAnswer V n p (Some c) = Contains V.realized (record { info = c; position = p })
IsAnswer V n p None = Contains V.failed (record { name = n; position = p })

-- The fuller view extends the other, also as both are at each position; and calls of both, a join or an answer in the fuller one alone, and one
-- that the other makes later, leave it the fuller.
pub record FullerViews : Type 0 where
  pub extends : (V U : View) → Fuller V U → Extends V U
  pub at : (V U : View) → Fuller V U → (p : ℕ) → Fuller (view_at V p) (view_at U p)
  pub real_at : (V U : View) → Fuller V U → (p : ℕ) → Fuller (view_real_at V p) (view_real_at U p)
  pub base : (cs : List ConstInfo) → DistinctNames cs → Fuller (base_view cs) (base_view cs)
  pub push : (V U : View) → Fuller V U → (c : ConstInfo) (p : ℕ) → placed_of V c.name ≡ None → Fuller (pushed V c p) (pushed U c p)
  pub open_both : (V U : View) → Fuller V U → (n : Path) (p : ℕ) → Fuller (opened_branch V n p) (opened_branch U n p)
  pub join : (V U : View) → Fuller V U → (p : ℕ) (cs : List ConstInfo) → JoinsChildren V p cs → Fuller (joined_branch V p cs) U
  pub join_later : (V U : View) → Fuller V U → (p : ℕ) (cs : List ConstInfo) → IsJoined V U p cs → Fuller V (joined_branch U p cs)
  pub answer : (V U : View) → Fuller V U → (n : Path) (made : Option ConstInfo) → CanAnswer V n made → Fuller (answered V n made) U
  pub answer_later : (V U : View) → Fuller V U → (n : Path) (made : Option ConstInfo) → IsAnswer V n (origin_of U n) made → Fuller V (answered U n made)
