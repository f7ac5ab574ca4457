-- Lines by what they are made of.
use Rattle.std.specs.Prelude.{ℕ, Bool, true, false, List, [], ◌++◌, codes, decimal}
use Rattle.lf_core.specs.declared.constant.ConstInfo.{ConstInfo}
use Rattle.lf_document.specs.Report.{line_feed}

abbrev pub counts_text : ℕ → ℕ → List ℕ
counts_text errors warnings = decimal errors ++ (codes " errors, " ++ (decimal warnings ++ (codes " warnings" ++ line_feed)))

-- A line, where the test holds.
abbrev pub line_if : (ConstInfo → List ℕ) → ConstInfo → Bool → List ℕ
line_if line c true = line c
line_if line c false = []
