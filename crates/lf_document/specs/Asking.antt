-- The realized names that stand in the types and values of what a head or a body makes are asked for, behind those that elaboration asked for:
-- constant by constant, the type before the value, from the left.
use Rattle.std.specs.Prelude.{if◌then◌else◌, Option, Some, None, List, [], ◌∷◌, ◌++◌}
use Rattle.lf_core.specs.Term.{Path, Term}
use Rattle.lf_core.specs.declared.constant.ConstInfo.{ConstInfo}
use Rattle.lf_rules.specs.Recursor.{is_among}
use Rattle.lf_checker.specs.View.{View}
use Rattle.lf_checker.specs.Calls.{Seen, known, unknown, missing, see}
use Rattle.lf_elaboration.specs.Identifiers.{is_realized}
use Rattle.lf_elaboration.specs.Axioms.{names_in}
use Rattle.lf_document.specs.Task.{Log, Task, done, ◌>>◌, gives, needs, choose}
use Rattle.lf_document.specs.Constants.{Header, Valued, Made}

abbrev pub asked_in : Path → Log → Log
asked_in n g = if is_among n g.asked then g else record g { asked = g.asked ++ n ∷ [] }

abbrev pub ask : Path → Task (Unit {0})
ask n = λ g. done tt (asked_in n g)

-- A name that the view doesn't know is one that the command itself makes.
abbrev pub ask_seen : View → Path → Seen → Task (Unit {0})
ask_seen V n (known c) = choose (is_realized V n) (ask n) (gives tt)
ask_seen V n unknown = gives tt
ask_seen V n (missing k) = needs k

abbrev pub ask_all : View → List Path → Task (Unit {0})
ask_all V [] = gives tt
ask_all V (n ∷ ns) = ask_seen V n (see V n) >> ask_all V ns

abbrev pub names_of_value : Option Term → List Path
names_of_value None = []
names_of_value (Some t) = names_in t

abbrev pub names_of_constants : List ConstInfo → List Path
names_of_constants [] = []
names_of_constants (c ∷ cs) = names_in c.ty ++ (names_of_value c.value ++ names_of_constants cs)

abbrev pub names_of_header : Option Header → List Path
names_of_header None = []
names_of_header (Some h) = names_in h.info.ty

abbrev pub names_of_body : Option Valued → List Path
names_of_body None = []
names_of_body (Some v) = names_in v.term

-- A header's type is made by the head, and its value by the body.
abbrev pub names_of : Made → List Path
names_of m = names_of_header m.header ++ (names_of_constants m.entries ++ names_of_body m.value)

abbrev pub ask_for : View → Made → Task (Unit {0})
ask_for V m = ask_all V (names_of m)
