-- Tokens that finish each stack in which symbols are followed by what they ask.
use Rattle.std.proofs.Common.{◌≡◌, ℕ, List, [], ◌∷◌, ◌++◌, Bool, true, false, ◌&&◌, Option, Some, None, refl, sym, true≢false, nat_eq, eq-eqb}
use Rattle.lf_text.specs.declared.word.Word.TheVariants as words
use Rattle.lf_text.specs.declared.word.Spelling.TheVariants as spelt
use Rattle.lf_syntax.specs.declared.leaf.Ident.{Ident}
use Rattle.lf_text.specs.declared.operator.Op.TheVariants.{Arrow}
use Rattle.lf_syntax.specs.Tree.{level_name}
use Rattle.lf_syntax.specs.declared.pattern.Pattern.TheVariants.{Constructor}
use Rattle.lf_syntax.specs.Predictive.{Grammar, Quiet, Reads, nothing, left_out, taken}
use Rattle.lf_text.specs.declared.word.Spelling.{Spelling}
use Rattle.lf_syntax.specs.Piece as piece
use Rattle.lf_text.specs.declared.word.Word.{Word}
use Rattle.lf_syntax.specs.Piece.{Class, Piece, word_code}
use Rattle.lf_syntax.specs.Symbol.{
  Symbol,
  Tree,
  arguments_to,
  any_name,
  any_names,
  arguments,
  arrow_token,
  binder,
  binder_end,
  binder_name,
  binder_names,
  block,
  command,
  ctors,
  def_rest,
  group,
  group_close,
  group_end,
  group_names,
  helper,
  helpers,
  imax_rest,
  implicit_end,
  item,
  lambda_binder,
  lambda_binders,
  level,
  level_atom,
  level_atoms,
  level_names,
  max_rest,
  more_helpers,
  more_items,
  more_level_names,
  more_levels,
  more_rules,
  number_token,
  one_part,
  one_parts,
  operators,
  optional_name,
  parameters,
  plus_option,
  rw_rule,
  term,
  token,
  type_option,
  where_option,
  written_levels,
  alternatives,
  axioms_word,
  bracket,
  bracket_name,
  def_body,
  field,
  fields_option,
  more_fields,
  numeral_one,
  pattern,
  pattern_rest,
}
use Rattle.lf_syntax.specs.Row.{Prod, then, if_true, first_row}
use Rattle.lf_syntax.specs.Build.{is_underscore, underscore_at}
use Rattle.lf_syntax.specs.Rows.{group_names_rows_by}
use Rattle.lf_syntax.specs.Grammar.{grammar}
use Rattle.lf_grammar_lemmas.proofs.Follow.{
  Next,
  at_end,
  closer,
  at_colon,
  other,
  Asks,
  nothing_more,
  calm_next,
  no_colon,
  asks,
  allows,
  next_of,
  next,
  settled,
}

abbrev pub of_word : Word → Piece
of_word w = record { class = piece.word w; at = 0; «end» = 0; nesting = 0 }

abbrev pub of_name : Spelling → Piece
of_name s = record { class = piece.name s []; at = 0; «end» = 0; nesting = 0 }

-- Tokens with which nothing optional begins.
pub data Closer : Type 0 where
  c_right_paren c_right_brace c_right_bracket c_assign c_comma c_semicolon c_fat_arrow c_layout_close : Closer

abbrev pub closer_word : Closer → Word
closer_word c_right_paren = words.RightParen
closer_word c_right_brace = words.RightBrace
closer_word c_right_bracket = words.RightBracket
closer_word c_assign = words.Assign
closer_word c_comma = words.Comma
closer_word c_semicolon = words.Semicolon
closer_word c_fat_arrow = words.FatArrow
closer_word c_layout_close = words.LayoutClose

-- Nothing follows, or a closer; where the Bool is true, also a colon.
pub data Calm : Bool → List Piece → Type 0 where
  ended : {b : Bool} → Calm b []
  closed : {b : Bool} (c : Closer) (ts : List Piece) → Calm b (of_word (closer_word c) ∷ ts)
  colon_behind : (ts : List Piece) → Calm true (of_word words.Colon ∷ ts)

abbrev pub Behind : Asks → List Piece → Type 0
Behind nothing_more ts = Unit {0}
Behind calm_next ts = Calm true ts
Behind no_colon ts = Calm false ts

-- Symbols, one after another.
pub both : {g : Grammar} {xs ys : List g.S} {ts us rest : List g.T} → Reads g xs ts us → Reads g ys us rest → Reads g (xs ++ ys) ts rest
both nothing e = e
both (left_out v h q d) e = left_out v h q (both d e)
both (taken t p h b d) e = taken t p h b (both d e)

-- What behind a first token is read.
abbrev Follows : {V : Type 0} → Option (Prod V) → List Piece → List Piece → Type 0
Follows (Some p) ts us = Reads grammar p.body ts us
Follows None ts us = ⊥

took_by : (x : Symbol) (t : Piece) (ts us : List Piece) (o : Option (Prod (Tree x))) → grammar.begin x t ≡ o → Follows o ts us
    → Reads grammar (x ∷ []) (t ∷ ts) us
took_by x t ts us (Some p) e b = taken t p e b nothing
took_by x t ts us None e b = absurd b

took : (x : Symbol) (t : Piece) (ts us : List Piece) → Follows (grammar.begin x t) ts us → Reads grammar (x ∷ []) (t ∷ ts) us
took x t ts us b = took_by x t ts us (grammar.begin x t) refl b

-- What is left out before a closer.

quiet_optional_name : (ts : List Piece) → Calm true ts → Quiet grammar optional_name ts
quiet_optional_name _ ended = tt
quiet_optional_name _ (closed c_right_paren ts) = refl
quiet_optional_name _ (closed _ ts) = refl
quiet_optional_name _ (colon_behind ts) = refl

leave_optional_name : (ts : List Piece) → Calm true ts → Reads grammar (optional_name ∷ []) ts ts
leave_optional_name ts h = left_out None refl (quiet_optional_name ts h) nothing

quiet_any_names : (ts : List Piece) → Calm true ts → Quiet grammar any_names ts
quiet_any_names _ ended = tt
quiet_any_names _ (closed c_right_paren ts) = refl
quiet_any_names _ (closed _ ts) = refl
quiet_any_names _ (colon_behind ts) = refl

leave_any_names : (ts : List Piece) → Calm true ts → Reads grammar (any_names ∷ []) ts ts
leave_any_names ts h = left_out [] refl (quiet_any_names ts h) nothing

quiet_one_parts : (ts : List Piece) → Calm true ts → Quiet grammar one_parts ts
quiet_one_parts _ ended = tt
quiet_one_parts _ (closed c_right_paren ts) = refl
quiet_one_parts _ (closed _ ts) = refl
quiet_one_parts _ (colon_behind ts) = refl

leave_one_parts : (ts : List Piece) → Calm true ts → Reads grammar (one_parts ∷ []) ts ts
leave_one_parts ts h = left_out [] refl (quiet_one_parts ts h) nothing

quiet_binder_names : (ts : List Piece) → Calm true ts → Quiet grammar binder_names ts
quiet_binder_names _ ended = tt
quiet_binder_names _ (closed c_right_paren ts) = refl
quiet_binder_names _ (closed _ ts) = refl
quiet_binder_names _ (colon_behind ts) = refl

leave_binder_names : (ts : List Piece) → Calm true ts → Reads grammar (binder_names ∷ []) ts ts
leave_binder_names ts h = left_out [] refl (quiet_binder_names ts h) nothing

quiet_level_names : (ts : List Piece) → Calm true ts → Quiet grammar level_names ts
quiet_level_names _ ended = tt
quiet_level_names _ (closed c_right_paren ts) = refl
quiet_level_names _ (closed _ ts) = refl
quiet_level_names _ (colon_behind ts) = refl

leave_level_names : (ts : List Piece) → Calm true ts → Reads grammar (level_names ∷ []) ts ts
leave_level_names ts h = left_out [] refl (quiet_level_names ts h) nothing

quiet_parameters : (ts : List Piece) → Calm true ts → Quiet grammar parameters ts
quiet_parameters _ ended = tt
quiet_parameters _ (closed c_right_paren ts) = refl
quiet_parameters _ (closed _ ts) = refl
quiet_parameters _ (colon_behind ts) = refl

leave_parameters : (ts : List Piece) → Calm true ts → Reads grammar (parameters ∷ []) ts ts
leave_parameters ts h = left_out [] refl (quiet_parameters ts h) nothing

quiet_lambda_binders : (ts : List Piece) → Calm true ts → Quiet grammar lambda_binders ts
quiet_lambda_binders _ ended = tt
quiet_lambda_binders _ (closed c_right_paren ts) = refl
quiet_lambda_binders _ (closed _ ts) = refl
quiet_lambda_binders _ (colon_behind ts) = refl

leave_lambda_binders : (ts : List Piece) → Calm true ts → Reads grammar (lambda_binders ∷ []) ts ts
leave_lambda_binders ts h = left_out [] refl (quiet_lambda_binders ts h) nothing

quiet_type_option : (ts : List Piece) → Calm false ts → Quiet grammar type_option ts
quiet_type_option _ ended = tt
quiet_type_option _ (closed c_right_paren ts) = refl
quiet_type_option _ (closed _ ts) = refl

leave_type_option : (ts : List Piece) → Calm false ts → Reads grammar (type_option ∷ []) ts ts
leave_type_option ts h = left_out None refl (quiet_type_option ts h) nothing

quiet_where_option : (ts : List Piece) → Calm true ts → Quiet grammar where_option ts
quiet_where_option _ ended = tt
quiet_where_option _ (closed c_right_paren ts) = refl
quiet_where_option _ (closed _ ts) = refl
quiet_where_option _ (colon_behind ts) = refl

leave_where_option : (ts : List Piece) → Calm true ts → Reads grammar (where_option ∷ []) ts ts
leave_where_option ts h = left_out tt refl (quiet_where_option ts h) nothing

quiet_ctors : (ts : List Piece) → Calm false ts → Quiet grammar ctors ts
quiet_ctors _ ended = tt
quiet_ctors _ (closed c_right_paren ts) = refl
quiet_ctors _ (closed _ ts) = refl

leave_ctors : (ts : List Piece) → Calm false ts → Reads grammar (ctors ∷ []) ts ts
leave_ctors ts h = left_out [] refl (quiet_ctors ts h) nothing

quiet_helpers : (ts : List Piece) → Calm true ts → Quiet grammar helpers ts
quiet_helpers _ ended = tt
quiet_helpers _ (closed c_right_paren ts) = refl
quiet_helpers _ (closed _ ts) = refl
quiet_helpers _ (colon_behind ts) = refl

leave_helpers : (ts : List Piece) → Calm true ts → Reads grammar (helpers ∷ []) ts ts
leave_helpers ts h = left_out [] refl (quiet_helpers ts h) nothing

quiet_arguments : (ts : List Piece) → Calm true ts → Quiet grammar arguments ts
quiet_arguments _ ended = tt
quiet_arguments _ (closed c_right_paren ts) = refl
quiet_arguments _ (closed _ ts) = refl
quiet_arguments _ (colon_behind ts) = refl

leave_arguments : (ts : List Piece) → Calm true ts → Reads grammar (arguments ∷ []) ts ts
leave_arguments ts h = left_out [] refl (quiet_arguments ts h) nothing

quiet_operators : (l m : ℕ) (ts : List Piece) → Calm true ts → Quiet grammar (operators l m) ts
quiet_operators l m _ ended = tt
quiet_operators l m _ (closed c_right_paren ts) = refl
quiet_operators l m _ (closed _ ts) = refl
quiet_operators l m _ (colon_behind ts) = refl

leave_operators : (l m : ℕ) (ts : List Piece) → Calm true ts → Reads grammar ((operators l m) ∷ []) ts ts
leave_operators l m ts h = left_out [] refl (quiet_operators l m ts h) nothing

quiet_binder_end : (ts : List Piece) → Calm true ts → Quiet grammar binder_end ts
quiet_binder_end _ ended = tt
quiet_binder_end _ (closed c_right_paren ts) = refl
quiet_binder_end _ (closed _ ts) = refl
quiet_binder_end _ (colon_behind ts) = refl

leave_binder_end : (ts : List Piece) → Calm true ts → Reads grammar (binder_end ∷ []) ts ts
leave_binder_end ts h = left_out (arguments_to []) refl (quiet_binder_end ts h) nothing

quiet_written_levels : (ts : List Piece) → Calm true ts → Quiet grammar written_levels ts
quiet_written_levels _ ended = tt
quiet_written_levels _ (closed c_right_paren ts) = refl
quiet_written_levels _ (closed _ ts) = refl
quiet_written_levels _ (colon_behind ts) = refl

leave_written_levels : (ts : List Piece) → Calm true ts → Reads grammar (written_levels ∷ []) ts ts
leave_written_levels ts h = left_out [] refl (quiet_written_levels ts h) nothing

quiet_plus_option : (ts : List Piece) → Calm true ts → Quiet grammar plus_option ts
quiet_plus_option _ ended = tt
quiet_plus_option _ (closed c_right_paren ts) = refl
quiet_plus_option _ (closed _ ts) = refl
quiet_plus_option _ (colon_behind ts) = refl

leave_plus_option : (ts : List Piece) → Calm true ts → Reads grammar (plus_option ∷ []) ts ts
leave_plus_option ts h = left_out None refl (quiet_plus_option ts h) nothing

quiet_level_atoms : (ts : List Piece) → Calm true ts → Quiet grammar level_atoms ts
quiet_level_atoms _ ended = tt
quiet_level_atoms _ (closed c_right_paren ts) = refl
quiet_level_atoms _ (closed _ ts) = refl
quiet_level_atoms _ (colon_behind ts) = refl

leave_level_atoms : (ts : List Piece) → Calm true ts → Reads grammar (level_atoms ∷ []) ts ts
leave_level_atoms ts h = left_out [] refl (quiet_level_atoms ts h) nothing

quiet_max_rest : (x : Ident) (ts : List Piece) → Calm true ts → Quiet grammar (max_rest x) ts
quiet_max_rest x _ ended = tt
quiet_max_rest x _ (closed c_right_paren ts) = refl
quiet_max_rest x _ (closed _ ts) = refl
quiet_max_rest x _ (colon_behind ts) = refl

leave_max_rest : (x : Ident) (ts : List Piece) → Calm true ts → Reads grammar ((max_rest x) ∷ []) ts ts
leave_max_rest x ts h = left_out (level_name x) refl (quiet_max_rest x ts h) nothing

quiet_imax_rest : (x : Ident) (ts : List Piece) → Calm true ts → Quiet grammar (imax_rest x) ts
quiet_imax_rest x _ ended = tt
quiet_imax_rest x _ (closed c_right_paren ts) = refl
quiet_imax_rest x _ (closed _ ts) = refl
quiet_imax_rest x _ (colon_behind ts) = refl

leave_imax_rest : (x : Ident) (ts : List Piece) → Calm true ts → Reads grammar ((imax_rest x) ∷ []) ts ts
leave_imax_rest x ts h = left_out (level_name x) refl (quiet_imax_rest x ts h) nothing

quiet_fields_option : (ts : List Piece) → Calm true ts → Quiet grammar fields_option ts
quiet_fields_option _ ended = tt
quiet_fields_option _ (closed c_right_paren ts) = refl
quiet_fields_option _ (closed _ ts) = refl
quiet_fields_option _ (colon_behind ts) = refl

leave_fields_option : (ts : List Piece) → Calm true ts → Reads grammar (fields_option ∷ []) ts ts
leave_fields_option ts h = left_out [] refl (quiet_fields_option ts h) nothing

quiet_alternatives : (ts : List Piece) → Calm true ts → Quiet grammar alternatives ts
quiet_alternatives _ ended = tt
quiet_alternatives _ (closed c_right_paren ts) = refl
quiet_alternatives _ (closed _ ts) = refl
quiet_alternatives _ (colon_behind ts) = refl

leave_alternatives : (ts : List Piece) → Calm true ts → Reads grammar (alternatives ∷ []) ts ts
leave_alternatives ts h = left_out [] refl (quiet_alternatives ts h) nothing

quiet_pattern_rest : (x : Ident) (ts : List Piece) → Calm true ts → Quiet grammar (pattern_rest x) ts
quiet_pattern_rest x _ ended = tt
quiet_pattern_rest x _ (closed c_right_paren ts) = refl
quiet_pattern_rest x _ (closed _ ts) = refl
quiet_pattern_rest x _ (colon_behind ts) = refl

leave_pattern_rest : (x : Ident) (ts : List Piece) → Calm true ts → Reads grammar (pattern_rest x ∷ []) ts ts
leave_pattern_rest x ts h = left_out (Constructor x []) refl (quiet_pattern_rest x ts h) nothing

one_row : (p : Prod (Unit {0})) (b : Bool) → b ≡ true → (elim (if_true b p) as (λ _. Option (Prod (Unit {0}))) [ Some q ↦ Some q | None ↦ None ]) ≡ Some p
one_row p true e = refl
one_row p false e = absurd (true≢false (sym e))

take_token : (w : Word) (ts : List Piece) → Reads grammar (token w ∷ []) (of_word w ∷ ts) ts
take_token w ts =
    let p : Prod (Unit {0}) = then [] (tt {0}) in
    taken (of_word w) p (one_row p (nat_eq (word_code w) (word_code w)) (eq-eqb (word_code w) (word_code w) refl)) nothing nothing

take_term : (l : ℕ) (ts : List Piece) → Calm true ts → Reads grammar (term l ∷ []) (of_word words.Underscore ∷ ts) ts
take_term l ts h = took (term l) (of_word words.Underscore) ts ts (both (leave_arguments ts h) (leave_operators l 100 ts h))

-- The fewest tokens of each symbol.
abbrev pub tokens_for : Symbol → List Piece
tokens_for command = of_word words.Section ∷ []
tokens_for (token w) = of_word w ∷ []
tokens_for arrow_token = record { class = piece.operator Arrow; at = 0; «end» = 0; nesting = 0 } ∷ []
tokens_for number_token = record { class = piece.number 0 1; at = 0; «end» = 0; nesting = 0 } ∷ []
tokens_for any_name = of_name spelt.Plain ∷ []
tokens_for one_part = of_name spelt.Plain ∷ []
tokens_for binder_name = of_word words.Underscore ∷ []
tokens_for optional_name = []
tokens_for any_names = []
tokens_for one_parts = []
tokens_for binder_names = []
tokens_for level_names = []
tokens_for more_level_names = of_word words.RightBrace ∷ []
tokens_for binder = of_word words.LeftParen ∷ of_word words.Underscore ∷ of_word words.Colon ∷ of_word words.Underscore ∷ of_word words.RightParen ∷ []
tokens_for parameters = []
tokens_for lambda_binder = of_word words.Underscore ∷ []
tokens_for lambda_binders = []
tokens_for implicit_end = of_word words.RightBrace ∷ []
tokens_for def_rest = of_word words.Assign ∷ of_word words.Underscore ∷ []
tokens_for type_option = []
tokens_for where_option = []
tokens_for ctors = []
tokens_for helpers = []
tokens_for helper = of_name spelt.Plain ∷ of_word words.Colon ∷ of_word words.Underscore ∷ of_word words.Assign ∷ of_word words.Underscore ∷ []
tokens_for more_helpers = of_word words.LayoutClose ∷ []
tokens_for (term l) = of_word words.Underscore ∷ []
tokens_for arguments = []
tokens_for (operators l m) = []
tokens_for (group at) = of_word words.Underscore ∷ of_word words.RightParen ∷ []
tokens_for group_end = of_word words.RightParen ∷ []
tokens_for group_close = of_word words.RightParen ∷ []
tokens_for binder_end = []
tokens_for written_levels = []
tokens_for more_levels = of_word words.RightBrace ∷ []
tokens_for level = record { class = piece.number 0 1; at = 0; «end» = 0; nesting = 0 } ∷ []
tokens_for plus_option = []
tokens_for level_atom = record { class = piece.number 0 1; at = 0; «end» = 0; nesting = 0 } ∷ []
tokens_for level_atoms = []
tokens_for (max_rest x) = []
tokens_for (imax_rest x) = []
tokens_for block = of_word words.LayoutOpen ∷ of_name spelt.Rfl ∷ of_word words.LayoutClose ∷ []
tokens_for more_items = of_word words.LayoutClose ∷ []
tokens_for item = of_name spelt.Rfl ∷ []
tokens_for rw_rule = of_word words.Underscore ∷ []
tokens_for more_rules = of_word words.RightBracket ∷ []
tokens_for (bracket at) = of_word words.Underscore ∷ of_word words.RightBracket ∷ []
tokens_for (bracket_name at x) = of_word words.RightBracket ∷ []
tokens_for def_body = of_word words.Assign ∷ of_word words.Underscore ∷ []
tokens_for fields_option = []
tokens_for field = of_name spelt.Plain ∷ of_word words.Colon ∷ of_word words.Underscore ∷ []
tokens_for more_fields = of_word words.LayoutClose ∷ []
tokens_for axioms_word = of_name spelt.Axioms ∷ []
tokens_for alternatives = []
tokens_for pattern = record { class = piece.number 0 1; at = 0; «end» = 0; nesting = 0 } ∷ []
tokens_for (pattern_rest x) = []
tokens_for numeral_one = record { class = piece.number 1 1; at = 0; «end» = 0; nesting = 0 } ∷ []
tokens_for (group_names at before x) = of_word words.RightParen ∷ []

calmer : (ts : List Piece) → Calm false ts → Calm true ts
calmer _ ended = ended
calmer _ (closed c ts) = closed c ts

finish_binder : (ts : List Piece) → Reads grammar (binder ∷ []) (tokens_for binder ++ ts) ts
finish_binder ts =
    let a : List Piece = of_word words.RightParen ∷ ts in
    let b : List Piece = of_word words.Underscore ∷ a in
    let c : List Piece = of_word words.Colon ∷ b in
    took binder (of_word words.LeftParen) (of_word words.Underscore ∷ c) ts
    (both (took binder_name (of_word words.Underscore) c c nothing) (both (leave_binder_names c (colon_behind b)) (both (take_token words.Colon b)
    (both (take_term 0 a (closed c_right_paren ts)) (take_token words.RightParen ts)))))

finish_helper : (ts : List Piece) → Calm true ts → Reads grammar (helper ∷ []) (tokens_for helper ++ ts) ts
finish_helper ts h =
    let a : List Piece = of_word words.Underscore ∷ ts in
    let b : List Piece = of_word words.Assign ∷ a in
    let c : List Piece = of_word words.Underscore ∷ b in
    let d : List Piece = of_word words.Colon ∷ c in
    took helper (of_name spelt.Plain) d ts
    (both (leave_parameters d (colon_behind c)) (both (take_token words.Colon c)
    (both (take_term 0 b (closed c_assign a)) (both (take_token words.Assign a) (take_term 0 ts h)))))

group_names_close : (b : Bool) (at : ℕ) (before : List Ident) (x : Ident) (ts : List Piece) → Calm true ts →
    Follows (first_row (group_names_rows_by b at before x) (piece.word words.RightParen) 0) ts ts
group_names_close true at before x ts h = leave_arguments ts h
group_names_close false at before x ts h = leave_arguments ts h

finish_group_names : (at : ℕ) (before : List Ident) (x : Ident) (ts : List Piece) → Calm true ts
    → Reads grammar (group_names at before x ∷ []) (of_word words.RightParen ∷ ts) ts
finish_group_names at before x ts h =
    took (group_names at before x) (of_word words.RightParen) ts ts (group_names_close (is_underscore x.name) at before x ts h)

pub finish : (x : Symbol) (ts : List Piece) → Behind (asks x) ts → Reads grammar (x ∷ []) (tokens_for x ++ ts) ts
finish command ts h = took command (of_word words.Section) ts ts (leave_optional_name ts (calmer ts h))
finish (token w) ts h = take_token w ts
finish arrow_token ts h = took arrow_token (record { class = piece.operator Arrow; at = 0; «end» = 0; nesting = 0 }) ts ts nothing
finish number_token ts h = took number_token (record { class = piece.number 0 1; at = 0; «end» = 0; nesting = 0 }) ts ts nothing
finish any_name ts h = took any_name (of_name spelt.Plain) ts ts nothing
finish one_part ts h = took one_part (of_name spelt.Plain) ts ts nothing
finish binder_name ts h = took binder_name (of_word words.Underscore) ts ts nothing
finish optional_name ts h = leave_optional_name ts h
finish any_names ts h = leave_any_names ts h
finish one_parts ts h = leave_one_parts ts h
finish binder_names ts h = leave_binder_names ts h
finish level_names ts h = leave_level_names ts h
finish more_level_names ts h = took more_level_names (of_word words.RightBrace) ts ts nothing
finish binder ts h = finish_binder ts
finish parameters ts h = leave_parameters ts h
finish lambda_binder ts h = took lambda_binder (of_word words.Underscore) ts ts nothing
finish lambda_binders ts h = leave_lambda_binders ts h
finish implicit_end ts h = took implicit_end (of_word words.RightBrace) ts ts nothing
finish def_rest ts h = took def_rest (of_word words.Assign) (of_word words.Underscore ∷ ts) ts (take_term 0 ts h)
finish type_option ts h = leave_type_option ts h
finish where_option ts h = leave_where_option ts h
finish ctors ts h = leave_ctors ts h
finish helpers ts h = leave_helpers ts h
finish helper ts h = finish_helper ts h
finish more_helpers ts h = took more_helpers (of_word words.LayoutClose) ts ts nothing
finish (term l) ts h = take_term l ts h
finish arguments ts h = leave_arguments ts h
finish (operators l m) ts h = leave_operators l m ts h
finish (group at) ts h = took (group at) (of_word words.Underscore) (of_word words.RightParen ∷ ts) ts (finish_group_names at [] (underscore_at 0) ts h)
finish group_end ts h = took group_end (of_word words.RightParen) ts ts (leave_arguments ts h)
finish group_close ts h = took group_close (of_word words.RightParen) ts ts (leave_binder_end ts h)
finish binder_end ts h = leave_binder_end ts h
finish written_levels ts h = leave_written_levels ts h
finish more_levels ts h = took more_levels (of_word words.RightBrace) ts ts nothing
finish level ts h = took level (record { class = piece.number 0 1; at = 0; «end» = 0; nesting = 0 }) ts ts (leave_plus_option ts h)
finish plus_option ts h = leave_plus_option ts h
finish level_atom ts h = took level_atom (record { class = piece.number 0 1; at = 0; «end» = 0; nesting = 0 }) ts ts nothing
finish level_atoms ts h = leave_level_atoms ts h
finish (max_rest x) ts h = leave_max_rest x ts h
finish (imax_rest x) ts h = leave_imax_rest x ts h
finish block ts h = took block (of_word words.LayoutOpen) (of_name spelt.Rfl ∷ of_word words.LayoutClose ∷ ts) ts
    (both (took item (of_name spelt.Rfl) (of_word words.LayoutClose ∷ ts) (of_word words.LayoutClose ∷ ts) nothing)
    (took more_items (of_word words.LayoutClose) ts ts nothing))
finish more_items ts h = took more_items (of_word words.LayoutClose) ts ts nothing
finish item ts h = took item (of_name spelt.Rfl) ts ts nothing
finish rw_rule ts h = took rw_rule (of_word words.Underscore) ts ts (both (leave_arguments ts h) (leave_operators 0 100 ts h))
finish more_rules ts h = took more_rules (of_word words.RightBracket) ts ts nothing
finish (bracket at) ts h = took (bracket at) (of_word words.Underscore) (of_word words.RightBracket ∷ ts) ts
    (both (leave_arguments (of_word words.RightBracket ∷ ts) (closed c_right_bracket ts))
    (both (leave_operators 0 100 (of_word words.RightBracket ∷ ts) (closed c_right_bracket ts)) (take_token words.RightBracket ts)))
finish (bracket_name at x) ts h = took (bracket_name at x) (of_word words.RightBracket) ts ts nothing
finish def_body ts h = took def_body (of_word words.Assign) (of_word words.Underscore ∷ ts) ts (both (take_term 0 ts h) (leave_helpers ts h))
finish fields_option ts h = leave_fields_option ts h
finish field ts h = took field (of_name spelt.Plain) (of_word words.Colon ∷ of_word words.Underscore ∷ ts) ts
    (both (leave_one_parts (of_word words.Colon ∷ of_word words.Underscore ∷ ts) (colon_behind (of_word words.Underscore ∷ ts)))
    (both (take_token words.Colon (of_word words.Underscore ∷ ts)) (take_term 0 ts h)))
finish more_fields ts h = took more_fields (of_word words.LayoutClose) ts ts nothing
finish axioms_word ts h = took axioms_word (of_name spelt.Axioms) ts ts nothing
finish alternatives ts h = leave_alternatives ts h
finish pattern ts h = took pattern (record { class = piece.number 0 1; at = 0; «end» = 0; nesting = 0 }) ts ts nothing
finish (pattern_rest x) ts h = leave_pattern_rest x ts h
finish numeral_one ts h = took numeral_one (record { class = piece.number 1 1; at = 0; «end» = 0; nesting = 0 }) ts ts nothing
finish (group_names at before x) ts h = finish_group_names at before x ts h

-- The tokens that finish a stack.
abbrev pub closing : List Symbol → List Piece
closing [] = []
closing (x ∷ xs) = tokens_for x ++ closing xs

pub data NextIs : Next → List Piece → Type 0 where
  is_end : NextIs at_end []
  is_closer : (c : Closer) (ts : List Piece) → NextIs closer (of_word (closer_word c) ∷ ts)
  is_colon : (ts : List Piece) → NextIs at_colon (of_word words.Colon ∷ ts)
  is_other : {ts : List Piece} → NextIs other ts

word_is : (w : Word) (ts : List Piece) → NextIs (next_of (token w) other) (of_word w ∷ ts)
word_is words.RightParen ts = is_closer c_right_paren ts
word_is words.RightBrace ts = is_closer c_right_brace ts
word_is words.RightBracket ts = is_closer c_right_bracket ts
word_is words.Assign ts = is_closer c_assign ts
word_is words.Comma ts = is_closer c_comma ts
word_is words.Semicolon ts = is_closer c_semicolon ts
word_is words.FatArrow ts = is_closer c_fat_arrow ts
word_is words.LayoutClose ts = is_closer c_layout_close ts
word_is words.Colon ts = is_colon ts
word_is _ ts = is_other

symbol_is : (x : Symbol) (n : Next) (ts : List Piece) → NextIs n ts → NextIs (next_of x n) (tokens_for x ++ ts)
symbol_is command n ts h = is_other
symbol_is (token w) n ts h = word_is w ts
symbol_is arrow_token n ts h = is_other
symbol_is number_token n ts h = is_other
symbol_is any_name n ts h = is_other
symbol_is one_part n ts h = is_other
symbol_is binder_name n ts h = is_other
symbol_is optional_name n ts h = h
symbol_is any_names n ts h = h
symbol_is one_parts n ts h = h
symbol_is binder_names n ts h = h
symbol_is level_names n ts h = h
symbol_is more_level_names n ts h = is_closer c_right_brace (ts)
symbol_is binder n ts h = is_other
symbol_is parameters n ts h = h
symbol_is lambda_binder n ts h = is_other
symbol_is lambda_binders n ts h = h
symbol_is implicit_end n ts h = is_closer c_right_brace (ts)
symbol_is def_rest n ts h = is_closer c_assign (of_word words.Underscore ∷ ts)
symbol_is type_option n ts h = h
symbol_is where_option n ts h = h
symbol_is ctors n ts h = h
symbol_is helpers n ts h = h
symbol_is helper n ts h = is_other
symbol_is more_helpers n ts h = is_closer c_layout_close (ts)
symbol_is (term l) n ts h = is_other
symbol_is arguments n ts h = h
symbol_is (operators l m) n ts h = h
symbol_is (group at) n ts h = is_other
symbol_is group_end n ts h = is_closer c_right_paren (ts)
symbol_is group_close n ts h = is_closer c_right_paren (ts)
symbol_is binder_end n ts h = h
symbol_is written_levels n ts h = h
symbol_is more_levels n ts h = is_closer c_right_brace (ts)
symbol_is level n ts h = is_other
symbol_is plus_option n ts h = h
symbol_is level_atom n ts h = is_other
symbol_is level_atoms n ts h = h
symbol_is (max_rest x) n ts h = h
symbol_is (imax_rest x) n ts h = h
symbol_is block n ts h = is_other
symbol_is more_items n ts h = is_closer c_layout_close (ts)
symbol_is item n ts h = is_other
symbol_is rw_rule n ts h = is_other
symbol_is more_rules n ts h = is_closer c_right_bracket (ts)
symbol_is (bracket at) n ts h = is_other
symbol_is (bracket_name at x) n ts h = is_closer c_right_bracket (ts)
symbol_is def_body n ts h = is_closer c_assign (of_word words.Underscore ∷ ts)
symbol_is fields_option n ts h = h
symbol_is field n ts h = is_other
symbol_is more_fields n ts h = is_closer c_layout_close (ts)
symbol_is axioms_word n ts h = is_other
symbol_is alternatives n ts h = h
symbol_is pattern n ts h = is_other
symbol_is (pattern_rest x) n ts h = h
symbol_is numeral_one n ts h = is_other
symbol_is (group_names at before x) n ts h = is_closer c_right_paren (ts)

pub next_is : (xs : List Symbol) → NextIs (next xs at_end) (closing xs)
next_is [] = is_end
next_is (x ∷ xs) = symbol_is x (next xs at_end) (closing xs) (next_is xs)

pub behind : (a : Asks) (n : Next) (ts : List Piece) → allows a n ≡ true → NextIs n ts → Behind a ts
behind nothing_more n ts e h = tt
behind calm_next _ _ e is_end = ended
behind calm_next _ _ e (is_closer c ts) = closed c ts
behind calm_next _ _ e (is_colon ts) = colon_behind ts
behind calm_next _ _ e is_other = absurd (true≢false (sym e))
behind no_colon _ _ e is_end = ended
behind no_colon _ _ e (is_closer c ts) = closed c ts
behind no_colon _ _ e (is_colon ts) = absurd (true≢false (sym e))
behind no_colon _ _ e is_other = absurd (true≢false (sym e))

and_left : (a b : Bool) → a && b ≡ true → a ≡ true
and_left true b e = refl
and_left false b e = e

and_right : (a b : Bool) → a && b ≡ true → b ≡ true
and_right true b e = e
and_right false b e = cc

pub closes : (xs : List Symbol) → settled xs at_end ≡ true → Reads grammar xs (closing xs) []
closes [] h = nothing
closes (x ∷ xs) h =
    let f : allows (asks x) (next xs at_end) ≡ true = and_left (allows (asks x) (next xs at_end)) (settled xs at_end) h in
    both (finish x (closing xs) (behind (asks x) (next xs at_end) (closing xs) f (next_is xs)))
    (closes xs (and_right (allows (asks x) (next xs at_end)) (settled xs at_end) h))
