-- What a source and a sink tell, and what moving bytes through them gives. This project's own.
use Rattle.std.specs.Prelude.{◌≡◌, ◌≤◌, ◌<◌, ◌==◌, ◌||◌, ◌++◌, ◌+◌, ℕ, Bool, true, List, [], length, take, drop, min, Option, IfSome, nat_lt, option_map}
use Rattle.lf_base.specs.declared.source.ReadOut.{ReadOut}
use Rattle.lf_base.specs.declared.source.ReadOut.TheVariants as read
use Rattle.lf_base.specs.declared.sink.WriteOut.{WriteOut}
use Rattle.lf_base.specs.declared.sink.WriteOut.TheVariants as write
use Rattle.lf_base.specs.declared.whole.ReadAll.{ReadAll}
use Rattle.lf_base.specs.declared.whole.ReadAll.TheVariants as whole
use Rattle.lf_base.specs.declared.whole.WriteAll.{WriteAll}
use Rattle.lf_base.specs.declared.whole.WriteAll.TheVariants as all

-- A count rose in a call: it is greater after it than before, or stands at its type's end.
abbrev pub rose : ℕ → ℕ → Bool
rose before after = nat_lt before after || after == 18446744073709551615

-- A count of stops rose: it is greater after the call than before, or stands at its type's end.
abbrev pub Rises : ℕ → ℕ → Type 0
Rises before after = min (before + 1) 18446744073709551615 ≤ after

-- These bytes were moved out of what was left, where the source tells its bytes.
abbrev pub Moves : Option (List ℕ) → Option (List ℕ) → List ℕ → Type 0
Moves left left' bytes = left ≡ option_map (λ rest. bytes ++ rest) left'

-- Nothing is left to be read, where the source tells its bytes.
abbrev pub IsAtEnd : Option (List ℕ) → Type 0
IsAtEnd left = IfSome left (λ bytes. bytes ≡ [])

-- What one read gives, by the bytes left and the faults before and after it, and the buffer after it.
abbrev pub ReadGives : Option (List ℕ) → Option (List ℕ) → ℕ → ℕ → List ℕ → ReadOut → Type 0
ReadGives left left' faults faults' buffer (read.Bytes n) = (1 ≤ n) × (n ≤ length buffer) × Moves left left' (take n buffer)
ReadGives left left' faults faults' buffer read.End = IsAtEnd left × (left' ≡ left)
ReadGives left left' faults faults' buffer read.Failed = (rose faults faults' ≡ true) × (left' ≡ left)

-- The sink took these bytes beside what it held, where it tells its bytes.
abbrev pub Holds : Option (List ℕ) → Option (List ℕ) → List ℕ → Type 0
Holds held held' bytes = held' ≡ option_map (λ before. before ++ bytes) held

-- What one write gives, by the bytes held and the faults before and after it, and the piece that was offered.
abbrev pub WriteGives : Option (List ℕ) → Option (List ℕ) → ℕ → ℕ → List ℕ → WriteOut → Type 0
WriteGives held held' faults faults' piece (write.Took n) = (1 ≤ n) × (n ≤ length piece) × Holds held held' (take n piece)
WriteGives held held' faults faults' piece write.Failed = (rose faults faults' ≡ true) × (held' ≡ held)

-- The first list is a beginning of the second.
abbrev pub Begins : List ℕ → List ℕ → Type 0
Begins xs ys = (rest : List ℕ) × (ys ≡ xs ++ rest)

-- What reading to the end gives: at most `limit` bytes, or one more that shows that there are more.
abbrev pub ReadsAll : ℕ → Option (List ℕ) → Option (List ℕ) → ℕ → ℕ → ReadAll → Type 0
ReadsAll limit left left' faults faults' (whole.Whole text) = (length text.items ≤ limit) × Moves left left' text.items × IsAtEnd left'
ReadsAll limit left left' faults faults' whole.TooLong = IfSome left (λ bytes. limit < length bytes)
    × (left' ≡ option_map (λ bytes. drop (limit + 1) bytes) left)
ReadsAll limit left left' faults faults' whole.Failed = (rose faults faults' ≡ true) × ((bytes : List ℕ) × Moves left left' bytes)
ReadsAll limit left left' faults faults' whole.NoMemory = Unit {0}

-- What writing a whole text gives: all of it is taken, or a fault rose and a beginning of it is.
abbrev pub WritesAll : Option (List ℕ) → Option (List ℕ) → ℕ → ℕ → List ℕ → WriteAll → Type 0
WritesAll held held' faults faults' text all.Done = Holds held held' text
WritesAll held held' faults faults' text all.Failed = (rose faults faults' ≡ true) × ((part : List ℕ) × Begins part text × Holds held held' part)
