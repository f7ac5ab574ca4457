-- What a run leaves and answers.
use Rattle.std.specs.Prelude.{◌≡◌, ◌++◌, ℕ, Bool, true, List, [], Option, IfSome}
use Rattle.lf_base.specs.Outside.{Begins, Holds, IsAtEnd, Moves}
use Rattle.lf_front.specs.declared.status.Status.{Status}
use Rattle.lf_front.specs.declared.status.Status.TheVariants as status

-- What a call finds and leaves outside: what the source has left and the sink holds, before and after it, where they tell it, and whether
-- their faults rose.
pub record Outside : Type 0 where
  pub left : Option (List ℕ)
  pub left' : Option (List ℕ)
  pub source_rose : Bool
  pub held : Option (List ℕ)
  pub held' : Option (List ℕ)
  pub sink_rose : Bool

abbrev pub Meaning : Type 1
Meaning = List ℕ → List ℕ → Status → Type 0

-- What is written is a beginning of each text that the bytes mean.
abbrev pub WritesPart : Outside → Meaning → Type 0
WritesPart o means = IfSome o.left (λ bytes. (part : List ℕ) × Holds o.held o.held' part ×
    ((text : List ℕ) (s : Status) → means bytes text s → Begins part text))

-- The bytes written and the status are what all that the source had means.
abbrev pub WritesAllOf : Outside → Meaning → Status → Type 0
WritesAllOf o means answer = IfSome o.left (λ bytes. (text : List ℕ) × means bytes text answer × Holds o.held o.held' text)

-- Each status, with its cause and what was written. What bytes that were read settle of the text: nothing, since the report needs all of them.
abbrev pub RunGives : Meaning → Outside → Status → Type 0
RunGives means o status.Clean = WritesAllOf o means status.Clean × IsAtEnd o.left'
RunGives means o status.NotBuilt = WritesAllOf o means status.NotBuilt
RunGives means o status.BadWords = WritesAllOf o means status.BadWords × (o.left' ≡ o.left)
RunGives means o status.ReadFault = (o.source_rose ≡ true) × ((read : List ℕ) × Moves o.left o.left' read) × (o.held' ≡ o.held)
RunGives means o status.WriteFault = (o.sink_rose ≡ true) × WritesPart o means
RunGives means o status.NoMemory = WritesPart o means
