-- The report of a text, as bytes: its messages, a line for each of its constants, a line for each realized constant, and the counts.
use Rattle.std.specs.Prelude.{ℕ, Bool, true, false, not, List, [], ◌∷◌, ◌++◌, codes, decimal, drop, filter, flat_map, count_by}
use Rattle.lf_core.specs.declared.constant.ConstInfo.{ConstInfo}
use Rattle.lf_core.specs.declared.constant.ConstKind.{ConstKind}
use Rattle.lf_core.specs.declared.constant.ConstKind.TheVariants.{Axiom, Def, Theorem, Inductive, Constructor, Recursor}
use Rattle.lf_rules.specs.Recursor.{is_among}
use Rattle.lf_text.specs.Place.{line_of, column_of}
use Rattle.lf_print.specs.Printed.{print_text}
use Rattle.lf_msg.specs.Names.{dotted}
use Rattle.lf_msg.specs.Texts.{severity_text}
use Rattle.lf_msg.specs.declared.message.Severity.{Severity}
use Rattle.lf_msg.specs.declared.message.Severity.TheVariants.{Error, Warning, Info}
use Rattle.lf_msg.specs.declared.message.Message.{Message}
use Rattle.lf_document.specs.Constants.{is_marked}
use Rattle.lf_document.specs.Joined.{Joined}

abbrev pub line_feed : List ℕ
line_feed = 10 ∷ []

-- ---- line:column: severity: text

abbrev pub message_line : List ℕ → Message → List ℕ
message_line text m = decimal (line_of text m.at) ++ (codes ":" ++ (decimal (column_of text m.at) ++ (codes ": " ++ (severity_text m.severity
    ++ (codes ": " ++ (m.text ++ line_feed))))))

-- ---- kind name : type, and ` (sorry)` behind it where the constant is marked

abbrev pub kind_text : ConstKind → List ℕ
kind_text Axiom = codes "axiom"
kind_text Def = codes "def"
kind_text Theorem = codes "theorem"
kind_text Inductive = codes "inductive"
kind_text Constructor = codes "constructor"
kind_text Recursor = codes "recursor"

abbrev pub mark_text : Bool → List ℕ
mark_text true = codes " (sorry)"
mark_text false = []

abbrev pub typed_text : ConstInfo → List ℕ
typed_text c = dotted c.name ++ (codes " : " ++ print_text [] c.levels c.ty)

abbrev pub constant_line : ConstInfo → List ℕ
constant_line c = kind_text c.kind ++ (codes " " ++ (typed_text c ++ (mark_text (is_marked c) ++ line_feed)))

abbrev pub realized_line : ConstInfo → List ℕ
realized_line c = codes "realized " ++ (typed_text c ++ line_feed)

-- ---- Which constants have lines: of the text those that aren't realized, and of all those that are

abbrev pub stands_realized : Joined → ConstInfo → Bool
stands_realized J c = is_among c.name J.realized

abbrev pub own_constants : Joined → List ConstInfo
own_constants J = filter (λ c. not (stands_realized J c)) (drop J.base J.constants)

abbrev pub realized_constants : Joined → List ConstInfo
realized_constants J = filter (stands_realized J) (drop J.base J.constants)

-- ---- E errors, W warnings

abbrev pub is_error : Message → Bool
is_error m = is_error_by m.severity
  where
    is_error_by : Severity → Bool
    is_error_by Error = true
    is_error_by Warning = false
    is_error_by Info = false

abbrev pub is_warning : Message → Bool
is_warning m = is_warning_by m.severity
  where
    is_warning_by : Severity → Bool
    is_warning_by Warning = true
    is_warning_by Error = false
    is_warning_by Info = false

abbrev pub error_count : Joined → ℕ
error_count J = count_by is_error J.messages

abbrev pub warning_count : Joined → ℕ
warning_count J = count_by is_warning J.messages

abbrev pub counts_line : Joined → List ℕ
counts_line J = decimal (error_count J) ++ (codes " errors, " ++ (decimal (warning_count J) ++ (codes " warnings" ++ line_feed)))

-- ---- All

abbrev pub report_of : Joined → List ℕ
report_of J = flat_map (message_line J.text) J.messages ++ (flat_map constant_line (own_constants J)
    ++ (flat_map realized_line (realized_constants J) ++ counts_line J))
