-- What the code tells of the names of the fields' definitions, and what the command does at it.
use Rattle.std.specs.Prelude.{ℕ, Bool, true, false, List, [], ◌∷◌, ◌++◌}
use Rattle.lf_core.specs.Term.{Path}
use Rattle.lf_rules.specs.Recursor.{is_among}
use Rattle.lf_syntax.specs.declared.leaf.Ident.{Ident}
use Rattle.lf_checker.specs.View.{View, There, there, not_there, not_known, there_of}
use Rattle.lf_elaboration.specs.Run.{gives, needs}
use Rattle.lf_elaboration.specs.Part.{Run}
use Rattle.lf_msg.specs.declared.naming.NamingError.TheVariants.{Duplicate}
use Rattle.lf_msg.specs.declared.diagnostic.Diagnostic.TheVariants.{Naming}
use Rattle.lf_document.specs.Task.{Judged, wrong}
use Rattle.lf_fields.specs.declared.taken.FieldNames.{FieldNames}
use Rattle.lf_fields.specs.declared.taken.FieldNames.TheVariants.{New, Taken, Waits}

-- The command goes on, or it is wrong at a field, or it waits.
abbrev pub meant : {A : Type 0} → FieldNames → Run (Judged A) → Run (Judged A)
meant New m = m
meant (Taken at n) m = gives (wrong at (Naming (Duplicate n)))
meant (Waits k) m = needs k

-- ---- Devices of the proof

abbrev pub placed : ℕ → Path → There → FieldNames
placed at n (there p) = Taken at n
placed at n (not_known k) = Waits k
placed at n not_there = New

-- A name that is new to the view may still be among those that are taken.
abbrev pub beside : FieldNames → ℕ → Path → Bool → FieldNames
beside (Taken p q) at n b = Taken p q
beside (Waits k) at n b = Waits k
beside New at n true = Taken at n
beside New at n false = New

-- Of a field at this place, the definition of which has this name.
abbrev pub one : View → List Path → ℕ → Path → FieldNames
one V taken at n = beside (placed at n (there_of V n)) at n (is_among n taken)

abbrev pub and_then : FieldNames → FieldNames → FieldNames
and_then New v = v
and_then (Taken at n) v = Taken at n
and_then (Waits k) v = Waits k

abbrev pub all : View → Path → List Path → List Ident → FieldNames
all V n taken [] = New
all V n taken (f ∷ fs) = and_then (one V taken f.at (n ++ f.name)) (all V n ((n ++ f.name) ∷ taken) fs)
