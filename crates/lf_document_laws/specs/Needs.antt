-- What tasks wait for, and that what they tell grows; and that what is waited for has a lower rank.
use Rattle.std.specs.Prelude.{◌≡◌, ℕ, true, Option, Contains}
use Rattle.lf_core.specs.Term.{Path}
use Rattle.lf_core.specs.declared.constant.TaskKey.{TaskKey}
use Rattle.lf_core.specs.declared.constant.TaskKey.TheVariants.{Head, Body, Real}
use Rattle.lf_syntax.specs.declared.command.Command.{Command}
use Rattle.lf_checker.specs.View.{View, OpenBranch, base_position, origin_of, view_at, view_real_at}
use Rattle.lf_extension_laws.specs.Needs.{IsWanted}
use Rattle.lf_elaboration.specs.Scope.{Scope}
use Rattle.lf_elaboration_laws.specs.Extension.{AreDistinct}
use Rattle.lf_elaboration_laws.specs.Unifier.{Begins}
use Rattle.lf_document.specs.Task.{Log, Attempt, done, need}
use Rattle.lf_document.specs.Setting.{Setting}
use Rattle.lf_document.specs.Constants.{Header}
use Rattle.lf_document.specs.TaskValue.{Outcome, has, waits_for, head, head_value, body, body_value, real_value}
use Rattle.lf_document.specs.Rank.{rank_of, is_lower}
use Rattle.lf_document_laws.specs.Extension.{IsOwn}

-- What was told before is told still, first.
pub record Grew (g l : Log) : Type 0 where
  pub messages : Begins g.messages l.messages
  pub nodes : Begins g.nodes l.nodes
  pub asked : Begins g.asked l.asked

-- Of an attempt whose needs are such keys.
abbrev pub Lasts : (TaskKey → Type 0) → {A : Type 0} → Log → Attempt A → Type 0
Lasts Key g (done x l) = Grew g l
Lasts Key g (need k) = Key k

abbrev pub OutcomeWaits : (TaskKey → Type 0) → Outcome → Type 0
OutcomeWaits Key (has v) = Unit {0}
OutcomeWaits Key (waits_for k) = Key k

-- What is waited for is what the command's view needs, whatever the command adds to it.
pub record TasksLast : Type 0 where
  pub heads : (X : Setting) → IsOwn X → (c : Command) (g : Log) → Lasts (IsWanted X.view) g (head X c g)
  pub bodies : (X : Setting) → IsOwn X → (c : Command) (h : Option Header) (g : Log) → Lasts (IsWanted X.view) g (body X c h g)

-- Of the whole values, with the names that stand in what is made.
pub record ValuesWait : Type 0 where
  pub heads : (X : Setting) → IsOwn X → (c : Command) → OutcomeWaits (IsWanted X.view) (head_value X c)
  pub bodies : (X : Setting) → IsOwn X → (c : Command) (h : Option Header) → OutcomeWaits (IsWanted X.view) (body_value X c h)
  pub reals : (V : View) (units : ℕ) (n : Path) → OutcomeWaits (IsWanted V) (real_value V units n)

-- ---- Ranks

-- No branch is open of the base.
abbrev pub OfCommands : View → Type 0
OfCommands V = (b : OpenBranch) → Contains V.branches b → b.position ≡ base_position → ⊥

-- The position of a realized constant's parent.
abbrev pub origin_in : View → TaskKey → ℕ
origin_in V (Head i) = 0
origin_in V (Body i) = 0
origin_in V (Real n) = origin_of V n

-- By the origins of the whole view, so that a task has one rank for all that wait for it.
abbrev pub ComesBefore : View → ℕ × ℕ → TaskKey → Type 0
ComesBefore V r k = is_lower (rank_of k (origin_in V k)) r ≡ true

abbrev pub at_position : View → Scope → ℕ → ℕ → Setting
at_position V s p budget = record { view = view_at V p; scope = s; position = p; budget = budget }

-- Over the view at a command's position, and that at the origin of a realized constant, where no two entries have one name.
pub record NeedsHaveLowerRank : Type 0 where
  pub heads : (V : View) → AreDistinct V.entries → OfCommands V → (s : Scope) (p budget : ℕ) → IsOwn (at_position V s p budget) → (c : Command)
      → OutcomeWaits (ComesBefore V (rank_of (Head p) 0)) (head_value (at_position V s p budget) c)
  pub bodies : (V : View) → AreDistinct V.entries → OfCommands V → (s : Scope) (p budget : ℕ) → IsOwn (at_position V s p budget) → (c : Command)
      (h : Option Header)
      → OutcomeWaits (ComesBefore V (rank_of (Body p) 0)) (body_value (at_position V s p budget) c h)
  pub reals : (V : View) → AreDistinct V.entries → OfCommands V → (origin units : ℕ) (n : Path)
      → OutcomeWaits (ComesBefore V (rank_of (Real n) origin)) (real_value (view_real_at V origin) units n)
