-- Views: the constants that are known at a place of a document, with those that are still to be made. This project's own.
use Rattle.std.specs.Prelude.{ℕ, suc, Bool, true, false, not, ◌&&◌, ◌||◌, nat_eq, nat_lt, if◌then◌else◌, Option, Some, None, List, [], ◌∷◌, ◌++◌, map, filter}
use Rattle.lf_core.specs.Term.{Path, Term}
use Rattle.lf_core.specs.Same.{same_path}
use Rattle.lf_core.specs.Suffix.{suffix_of, fits_kind, is_definition}
use Rattle.lf_core.specs.declared.constant.ConstInfo.{ConstInfo}
use Rattle.lf_core.specs.declared.constant.ConstKind.{ConstKind}
use Rattle.lf_core.specs.declared.constant.ConstKind.TheVariants.{Axiom, Def, Theorem, Inductive, Constructor, Recursor}
use Rattle.lf_core.specs.declared.constant.TaskKey.{TaskKey}
use Rattle.lf_core.specs.declared.constant.TaskKey.TheVariants.{Body, Real}
use Rattle.lf_core.specs.declared.suffix.Suffix.{Suffix}

-- A constant and the position of its command; the base has the greatest position and stands before all others.
pub record Entry : Type 0 where
  pub info : ConstInfo
  pub position : ℕ

-- A branch that isn't joined yet: the body of this constant, of the command at this position, may still add children of its name.
pub record OpenBranch : Type 0 where
  pub prefix : Path
  pub position : ℕ

-- A realizable name of which no constant could be made, with the position of its parent's command.
pub record Failed : Type 0 where
  pub name : Path
  pub position : ℕ

pub record View : Type 0 where
  pub entries : List Entry
  pub branches : List OpenBranch
  -- the constants that were made on demand, at the positions of their parents' commands
  pub realized : List Entry
  pub failed : List Failed
  pub position : ℕ
  -- made for the realized constants of the base
  pub for_base : Bool

abbrev pub base_position : ℕ
base_position = 4294967295

-- Of the base, or of a command before the position.
abbrev pub stands_before : ℕ → ℕ → Bool
stands_before limit p = nat_eq p base_position || nat_lt p limit

abbrev pub find_entry : List Entry → Path → Option Entry
find_entry [] n = None
find_entry (e ∷ es) n = if same_path e.info.name n then Some e else find_entry es n

-- The position of the branch that is open for this name.
abbrev pub find_branch : List OpenBranch → Path → Option ℕ
find_branch [] n = None
find_branch (b ∷ bs) n = if same_path b.prefix n then Some b.position else find_branch bs n

abbrev pub has_failed : List Failed → Path → Bool
has_failed [] n = false
has_failed (f ∷ fs) n = if same_path f.name n then true else has_failed fs n

-- All parts of a name but the last, and the last.
abbrev pub parent_of : Path → Path
parent_of [] = []
parent_of (x ∷ []) = []
parent_of (x ∷ y ∷ xs) = x ∷ parent_of (y ∷ xs)

abbrev pub last_of : Path → List ℕ
last_of [] = []
last_of (x ∷ []) = x
last_of (x ∷ y ∷ xs) = last_of (y ∷ xs)

-- The second name is the first and one part more.
abbrev pub is_child : Path → Path → Bool
is_child prefix [] = false
is_child prefix (x ∷ xs) = same_path prefix (parent_of (x ∷ xs))

-- The position of the branch of which the name would be a child.
abbrev pub branch_over : List OpenBranch → Path → Option ℕ
branch_over [] n = None
branch_over (b ∷ bs) n = if is_child b.prefix n then Some b.position else branch_over bs n

abbrev pub is_axiom : ConstKind → Bool
is_axiom Axiom = true
is_axiom Def = false
is_axiom Theorem = false
is_axiom Inductive = false
is_axiom Constructor = false
is_axiom Recursor = false

pub data Lookup : Type 0 where
  found : ConstInfo → Lookup
  absent : Lookup
  need_body : ℕ → Lookup
  need_real : Lookup

-- A realizable name: its constant; that none could be made; or the need to try.
abbrev pub by_answer : Option Entry → Bool → Lookup
by_answer (Some e) failed = found e.info
by_answer None true = absent
by_answer None false = need_real

abbrev pub answer_of : View → Path → Lookup
answer_of V n = by_answer (find_entry V.realized n) (has_failed V.failed n)

-- A name that ends in a suffix, by its parent: of a fitting kind and an earlier command, or a child that isn't known yet.
abbrev pub by_parent : View → Path → Suffix → Option Entry → Lookup
by_parent V n s (Some parent) = if fits_kind s parent.info.kind && stands_before V.position parent.position then answer_of V n else absent
by_parent V n s None = under_branch (branch_over V.branches (parent_of n))
  where
    under_branch : Option ℕ → Lookup
    under_branch (Some p) = need_body p
    under_branch None = absent

-- In the view that is made for the base no name is realizable.
abbrev pub by_suffix : View → Path → Option Suffix → Lookup
by_suffix V n (Some s) = if V.for_base then absent else by_parent V n s (find_entry V.entries (parent_of n))
by_suffix V n None = absent

abbrev pub by_branch : View → Path → Option ℕ → Lookup
by_branch V n (Some p) = need_body p
by_branch V n None = by_suffix V n (suffix_of (last_of n))

abbrev pub by_entry : View → Path → Option Entry → Lookup
by_entry V n (Some e) = found e.info
by_entry V n None = by_branch V n (branch_over V.branches n)

-- The constant of this name: an entry; else a child of an open branch; else a realizable name; else none.
abbrev pub lookup_of : View → Path → Lookup
lookup_of V n = by_entry V n (find_entry V.entries n)

-- A value with its height, where it is known; that there is none to be had; or the task that has to be done first.
pub data KnownBody : Type 0 where
  value : Term → ℕ → KnownBody
  opaque : KnownBody
  unresolved : TaskKey → KnownBody

abbrev pub known_body : Option Term → ℕ → KnownBody
known_body (Some v) h = value v h
known_body None h = opaque

abbrev pub own_value : ConstInfo → Option ℕ → KnownBody
own_value c (Some p) = unresolved (Body p)
own_value c None = known_body c.value c.height

-- The value of a constant, which isn't known while its branch is open.
abbrev pub value_in : View → ConstInfo → KnownBody
value_in V c = own_value c (find_branch V.branches c.name)

abbrev pub found_value : View → Path → Lookup → KnownBody
found_value V n (found c) = value_in V c
found_value V n absent = opaque
found_value V n (need_body p) = unresolved (Body p)
found_value V n need_real = unresolved (Real n)

abbrev pub value_of : View → Path → KnownBody
value_of V n = found_value V n (lookup_of V n)

-- What a constant unfolds to: a definition to its value, the others to nothing.
abbrev pub body_in : View → ConstInfo → KnownBody
body_in V c = if is_definition c.kind then value_in V c else opaque

abbrev pub found_body : View → Path → Lookup → KnownBody
found_body V n (found c) = body_in V c
found_body V n absent = opaque
found_body V n (need_body p) = unresolved (Body p)
found_body V n need_real = unresolved (Real n)

abbrev pub body_of : View → Path → KnownBody
body_of V n = found_body V n (lookup_of V n)

-- Whether a name is there, as the test of a duplicate asks: a realized name never is.
pub data There : Type 0 where
  there : ℕ → There
  not_there : There
  not_known : TaskKey → There

abbrev pub no_entry : Lookup → There
no_entry (need_body p) = not_known (Body p)
no_entry _ = not_there

abbrev pub there_by : Lookup → Option Entry → There
there_by l (Some e) = there e.position
there_by l None = no_entry l

abbrev pub there_of : View → Path → There
there_of V n = there_by (lookup_of V n) (find_entry V.entries n)

-- An entry's position, and its place in the order of the entries.
abbrev pub placed_from : ℕ → List Entry → Path → Option (ℕ × ℕ)
placed_from i [] n = None
placed_from i (e ∷ es) n = if same_path e.info.name n then Some (e.position, i) else placed_from (suc i) es n

abbrev pub placed_of : View → Path → Option (ℕ × ℕ)
placed_of V n = placed_from 0 V.entries n

-- The views that calls make.
abbrev pub base_entries : List ConstInfo → List Entry
base_entries [] = []
base_entries (c ∷ cs) = record { info = c; position = base_position } ∷ base_entries cs

abbrev pub base_view : List ConstInfo → View
base_view cs = record { entries = base_entries cs; branches = []; realized = []; failed = []; position = 0; for_base = false }

abbrev pub pushed : View → ConstInfo → ℕ → View
pushed V c p = record V { entries = V.entries ++ record { info = c; position = p } ∷ [] }

abbrev pub opened_branch : View → Path → ℕ → View
opened_branch V prefix p = record V { branches = V.branches ++ record { prefix = prefix; position = p } ∷ [] }

-- The entry of this constant's name shows the constant, and the branch of the name is no longer open.
abbrev pub with_constant : ConstInfo → Entry → Entry
with_constant c e = if same_path e.info.name c.name then record e { info = c } else e

abbrev pub closed_branch : View → ConstInfo → View
closed_branch V c = record V { entries = map (with_constant c) V.entries; branches = filter (λ b. not (same_path b.prefix c.name)) V.branches }

-- The constants that a branch added, in order, and the constant that its header stands for, which is the last.
abbrev pub joined_branch : View → ℕ → List ConstInfo → View
joined_branch V p [] = V
joined_branch V p (c ∷ []) = closed_branch V c
joined_branch V p (c ∷ d ∷ cs) = joined_branch (pushed V c p) p (d ∷ cs)

-- The position of the command that a realizable name belongs to, that of its parent.
abbrev pub position_of : Option Entry → ℕ
position_of (Some e) = e.position
position_of None = base_position

abbrev pub origin_of : View → Path → ℕ
origin_of V n = position_of (find_entry V.entries (parent_of n))

abbrev pub answered : View → Path → Option ConstInfo → View
answered V n (Some c) = record V { realized = V.realized ++ record { info = c; position = origin_of V n } ∷ [] }
answered V n None = record V { failed = V.failed ++ record { name = n; position = origin_of V n } ∷ [] }

abbrev pub entries_before : ℕ → List Entry → List Entry
entries_before limit es = filter (λ e. stands_before limit e.position) es

abbrev pub branches_before : ℕ → List OpenBranch → List OpenBranch
branches_before limit bs = filter (λ b. stands_before limit b.position) bs

abbrev pub failed_before : ℕ → List Failed → List Failed
failed_before limit fs = filter (λ f. stands_before limit f.position) fs

-- What stands before a position.
abbrev pub view_at : View → ℕ → View
view_at V p = record {
  entries = entries_before p V.entries;
  branches = branches_before p V.branches;
  realized = entries_before p V.realized;
  failed = failed_before p V.failed;
  position = p;
  for_base = false;
}

-- Where the realized names of a command are made: it sees what stands at or before it, and answers that stand before. Those of the base see
-- the base alone, before which no answer and no command stands.
abbrev pub view_real_at : View → ℕ → View
view_real_at V origin = if nat_eq origin base_position
    then record { entries = entries_before 0 V.entries; branches = branches_before 0 V.branches; realized = []; failed = []; position = 0; for_base = true }
    else record {
      entries = entries_before (suc origin) V.entries;
      branches = branches_before (suc origin) V.branches;
      realized = entries_before origin V.realized;
      failed = failed_before origin V.failed;
      position = origin;
      for_base = false;
    }
