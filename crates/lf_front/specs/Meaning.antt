-- What a run means: the bytes written and the status, by the words and the bytes that are read.
use Rattle.std.specs.Prelude.{◌≡◌, ℕ, List, [], ◌∷◌, ◌++◌, codes}
use Rattle.lf_rules.specs.Environment.{Environment}
use Rattle.lf_front.specs.declared.status.Status.{Status}
use Rattle.lf_front.specs.declared.status.Status.TheVariants as status
use Rattle.lf_front.specs.Declares.{Accepts}
use Rattle.lf_front.specs.Report.{report_of}

-- The words are two, and the second is `check`. The first is the program's name.
abbrev pub AsksForCheck : List (List ℕ) → Type 0
AsksForCheck words = (name : List ℕ) × (words ≡ name ∷ codes "check" ∷ [])

abbrev pub bad_words : List ℕ
bad_words = codes "fault: bad words" ++ 10 ∷ []

abbrev pub not_built : List ℕ
not_built = codes "fault: not built" ++ 10 ∷ []

-- These words over these bytes mean this text and this status.
abbrev pub Means : List (List ℕ) → List ℕ → List ℕ → Status → Type 0
Means words bytes text status.Clean = AsksForCheck words × ((axioms : Environment) × Accepts bytes axioms × (text ≡ report_of axioms))
Means words bytes text status.NotBuilt = AsksForCheck words × ((axioms : Environment) → Accepts bytes axioms → ⊥) × (text ≡ not_built)
Means words bytes text status.BadWords = (AsksForCheck words → ⊥) × (text ≡ bad_words)
Means words bytes text _ = ⊥

abbrev pub status_code : Status → ℕ
status_code status.Clean = 0
status_code status.BadWords = 2
status_code status.ReadFault = 3
status_code status.WriteFault = 4
status_code status.NoMemory = 5
status_code status.NotBuilt = 9
