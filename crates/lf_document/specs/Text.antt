-- What a text means: its commands by the grammar, elaborated over the constants of the prelude, with so many units for each part. A text has one
-- list of commands, and so one value of each task, one joined environment and one report.
use Rattle.std.specs.Prelude.{◌≡◌, ℕ, List}
use Rattle.lf_core.specs.declared.constant.ConstInfo.{ConstInfo}
use Rattle.lf_core.specs.declared.constant.TaskKey.{TaskKey}
use Rattle.lf_syntax.specs.declared.command.Command.{Command}
use Rattle.lf_syntax.specs.Document.{CommandsOf}
use Rattle.lf_document.specs.TaskValue.{TaskValue}
use Rattle.lf_document.specs.Sequential.{Ground, over_base, value_for}
use Rattle.lf_document.specs.Prelude.{IsBase}
use Rattle.lf_document.specs.Joined.{Joined, joined_document}
use Rattle.lf_document.specs.Report.{report_of}

-- The commands of a text, and the base.
pub record Read (text : List ℕ) : Type 0 where
  pub commands : List Command
  pub written : CommandsOf text commands
  pub base : List ConstInfo
  pub prelude : IsBase base

abbrev pub ground_for : {text : List ℕ} → Read text → ℕ → Ground
ground_for T units = over_base T.base units

-- The value of a task of the text.
abbrev pub IsValueOf : List ℕ → ℕ → TaskKey → TaskValue → Type 0
IsValueOf text units k v = (T : Read text) × v ≡ value_for (ground_for T units) T.commands k

-- The joined environment of the text.
abbrev pub IsJoinedOf : List ℕ → ℕ → Joined → Type 0
IsJoinedOf text units J = (T : Read text) × J ≡ joined_document (ground_for T units) text T.commands

-- The report of the text, as bytes.
abbrev pub IsReportOf : List ℕ → ℕ → List ℕ → Type 0
IsReportOf text units bytes = (J : Joined) × IsJoinedOf text units J × bytes ≡ report_of J
