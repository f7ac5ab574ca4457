-- The report: a line for each axiom, and the line of counts. Printing follows our docs/language.md, "Printing".
use Rattle.std.specs.Prelude.{
  ℕ,
  zero,
  suc,
  ◌==◌,
  ◌||◌,
  nat_lt,
  Bool,
  true,
  false,
  if◌then◌else◌,
  List,
  [],
  ◌∷◌,
  ◌++◌,
  slice_get,
  Option,
  Some,
  None,
  flat_map,
  codes,
}
use Rattle.std.specs.Fmt.{decimal}
use Rattle.lf_core.specs.Term.{Path, Universe, level_zero, level_succ, Term, bound, free, meta, sort, const, app, lam, pi, letin, lit, proj}
use Rattle.lf_rules.specs.Environment.{Environment}
use Rattle.lf_core.specs.declared.constant.ConstInfo.{ConstInfo}
use Rattle.lf_front.specs.Lexemes.{arrow, for_all}

-- The first part, and each further one behind a dot.
abbrev pub behind_dot : List ℕ → List ℕ
behind_dot part = 46 ∷ part

abbrev pub dotted : Path → List ℕ
dotted [] = []
dotted (part ∷ parts) = part ++ flat_map behind_dot parts

-- Whether the variable of the binder that is d binders out is used.
abbrev pub is_used : ℕ → Term → Bool
is_used d (bound i) = i == d
is_used d (app f a) = is_used d f || is_used d a
is_used d (lam x A b) = is_used d A || is_used (suc d) b
is_used d (pi x A B) = is_used d A || is_used (suc d) B
is_used d (letin x A v b) = is_used d A || (is_used d v || is_used (suc d) b)
is_used d (free k) = false
is_used d (meta k) = false
is_used d (sort l) = false
is_used d (const c ls) = false
is_used d (lit n) = false
is_used d (proj s i t) = is_used d t

abbrev pub number_of : Universe → ℕ
number_of (level_succ l) = suc (number_of l)
number_of _ = 0

abbrev pub type_text : ℕ → List ℕ
type_text zero = codes "Type"
type_text (suc n) = codes "Type " ++ decimal (suc n)

abbrev pub sort_text : ℕ → List ℕ
sort_text zero = codes "Prop"
sort_text (suc n) = type_text n

abbrev pub name_text : Option Path → List ℕ
name_text (Some name) = dotted name
name_text None = codes "?"

abbrev pub in_parentheses : Bool → List ℕ → List ℕ
in_parentheses true text = codes "(" ++ text ++ codes ")"
in_parentheses false text = text

abbrev pub pi_text : Bool → Path → List ℕ → List ℕ → List ℕ → List ℕ → List ℕ
pi_text true name domain body left right = for_all ++ codes " (" ++ dotted name ++ codes " : " ++ domain ++ codes "), " ++ body
pi_text false name domain body left right = left ++ codes " " ++ arrow ++ codes " " ++ right

-- The text of a term at a place that asks for this level, under binders of these names, the innermost first. A pi has level 25; one whose variable
-- isn't used is an arrow.
abbrev pub printed : ℕ → List Path → Term → List ℕ
printed level names (bound i) = name_text (slice_get names i)
printed level names (sort l) = sort_text (number_of l)
printed level names (const c ls) = dotted c
printed level names (pi x A B) = in_parentheses (nat_lt 25 level)
    (pi_text (is_used 0 B) x.name (printed 0 names A) (printed 0 (x.name ∷ names) B) (printed 26 names A) (printed 25 (x.name ∷ names) B))
printed level names _ = codes "?"

abbrev pub line_of : ConstInfo → List ℕ
line_of c = codes "axiom " ++ dotted c.name ++ codes " : " ++ printed 0 [] c.ty ++ 10 ∷ []

abbrev pub report_of : Environment → List ℕ
report_of E = flat_map line_of E ++ codes "0 errors, 0 warnings" ++ 10 ∷ []
