-- What each symbol of the grammar does to nesting: a device of the proof.
use Rattle.std.proofs.Common.{◌≡◌, ℕ, List, [], ◌∷◌, Bool, true, false, ◌&&◌, nat_eq, Some}
use Rattle.lf_text.specs.declared.role.Role.{Role}
use Rattle.lf_text.specs.declared.role.Role.TheVariants.{Nesting}
use Rattle.lf_text.specs.Roles.{word_role}
use Rattle.lf_syntax.specs.Symbol as symbol
use Rattle.lf_syntax.specs.Symbol.{Symbol, Tree}
use Rattle.lf_syntax.specs.Rows.{without}
use Rattle.lf_depth_laws.proofs.Sketch.{Saved, Sketch, sketch, low_of, base_of, pop, step, valid, is_empty, in_a_block, in_a_bracket}

-- The number is as before or higher, and what is open is the same; or the number may fall, since a `|` sets it to 0;
-- or the innermost bracket or block ends; or it is a token of this role; or a command.
pub data Kind : Type 0 where
  keeps frees ends_bracket ends_block tops : Kind
  by_role : Role → Kind

abbrev pub kind : Symbol → Kind
kind symbol.command = tops
kind (symbol.token w) = by_role (word_role w)
kind symbol.arrow_token = by_role Nesting
kind symbol.number_token = keeps
kind symbol.any_name = keeps
kind symbol.one_part = keeps
kind symbol.binder_name = keeps
kind symbol.optional_name = keeps
kind symbol.any_names = keeps
kind symbol.one_parts = keeps
kind symbol.binder_names = keeps
kind symbol.level_names = keeps
kind symbol.more_level_names = ends_bracket
kind symbol.binder = keeps
kind symbol.parameters = keeps
kind symbol.lambda_binder = keeps
kind symbol.lambda_binders = keeps
kind symbol.implicit_end = ends_bracket
kind (symbol.bracket at) = ends_bracket
kind (symbol.bracket_name at x) = ends_bracket
kind symbol.def_rest = frees
kind symbol.def_body = frees
kind symbol.type_option = keeps
kind symbol.where_option = keeps
kind symbol.ctors = frees
kind symbol.helpers = keeps
kind symbol.helper = keeps
kind symbol.more_helpers = ends_block
kind symbol.fields_option = keeps
kind symbol.field = keeps
kind symbol.more_fields = ends_block
kind symbol.axioms_word = keeps
kind symbol.alternatives = frees
kind symbol.pattern = keeps
kind (symbol.pattern_rest x) = keeps
kind symbol.numeral_one = keeps
kind (symbol.term least) = keeps
kind symbol.arguments = keeps
kind (symbol.operators least left) = keeps
kind (symbol.group at) = ends_bracket
kind (symbol.group_names at before x) = ends_bracket
kind symbol.group_end = ends_bracket
kind symbol.group_close = ends_bracket
kind symbol.binder_end = keeps
kind symbol.written_levels = keeps
kind symbol.more_levels = ends_bracket
kind symbol.level = keeps
kind symbol.plus_option = keeps
kind symbol.level_atom = keeps
kind symbol.level_atoms = keeps
kind (symbol.max_rest x) = keeps
kind (symbol.imax_rest x) = keeps
kind symbol.block = keeps
kind symbol.more_items = ends_block
kind symbol.item = keeps
kind symbol.rw_rule = keeps
kind symbol.more_rules = ends_bracket

abbrev bracket_open : List Saved
bracket_open = record { in_block = false; up = 0; waits = 0 } ∷ []

abbrev block_open : List Saved
block_open = record { in_block = true; up = 0; waits = 0 } ∷ []

-- Where a symbol of this kind begins.
abbrev pub entry : Kind → Sketch
entry keeps = sketch 0 0 []
entry frees = sketch 0 0 []
entry ends_bracket = sketch 0 0 bracket_open
entry ends_block = sketch 0 0 block_open
entry tops = sketch 0 0 []
entry (by_role ρ) = sketch 0 0 []

abbrev pub is_free : Kind → Bool
is_free keeps = false
is_free frees = true
is_free ends_bracket = false
is_free ends_block = false
is_free tops = true
is_free (by_role ρ) = false

abbrev pub past_by : Kind → Sketch → Sketch
past_by keeps s = s
past_by frees s = sketch 0 s.waits s.saved
past_by ends_bracket s = pop s s.saved
past_by ends_block s = pop s s.saved
past_by tops s = s
past_by (by_role ρ) s = step ρ s

-- The number that the symbol's tree is measured from.
abbrev pub base_by : Kind → Sketch → ℕ
base_by keeps s = low_of s
base_by frees s = 0
base_by ends_bracket s = base_of s.saved
base_by ends_block s = base_of s.saved
base_by tops s = 0
base_by (by_role ρ) s = 0

abbrev pub valid_by : Bool → Kind → Sketch → Bool
valid_by free keeps s = true
valid_by free frees s = free && is_empty s.saved
valid_by free ends_bracket s = in_a_bracket s.saved && nat_eq s.waits 0
valid_by free ends_block s = in_a_block s.saved && nat_eq s.waits 0
valid_by free tops s = false
valid_by free (by_role ρ) s = valid free ρ s

abbrev pub past_all : List Symbol → Sketch → Sketch
past_all [] s = s
past_all (x ∷ xs) s = past_all xs (past_by (kind x) s)

abbrev pub fine : Bool → List Symbol → Sketch → Bool
fine free [] s = true
fine free (x ∷ xs) s = valid_by free (kind x) s && fine free xs (past_by (kind x) s)

-- Only symbols that keep or free are left out.
abbrev pub Optional : Kind → Type 0
Optional keeps = Unit {0}
Optional frees = Unit {0}
Optional ends_bracket = ⊥
Optional ends_block = ⊥
Optional tops = ⊥
Optional (by_role ρ) = ⊥

pub optional_kind : (x : Symbol) (v : Tree x) → without x ≡ Some v → Optional (kind x)
optional_kind symbol.command v e = cc
optional_kind (symbol.token w) v e = cc
optional_kind symbol.arrow_token v e = cc
optional_kind symbol.number_token v e = tt
optional_kind symbol.any_name v e = tt
optional_kind symbol.one_part v e = tt
optional_kind symbol.binder_name v e = tt
optional_kind symbol.optional_name v e = tt
optional_kind symbol.any_names v e = tt
optional_kind symbol.one_parts v e = tt
optional_kind symbol.binder_names v e = tt
optional_kind symbol.level_names v e = tt
optional_kind symbol.more_level_names v e = cc
optional_kind symbol.binder v e = tt
optional_kind symbol.parameters v e = tt
optional_kind symbol.lambda_binder v e = tt
optional_kind symbol.lambda_binders v e = tt
optional_kind symbol.implicit_end v e = cc
optional_kind (symbol.bracket at) v e = cc
optional_kind (symbol.bracket_name at x) v e = cc
optional_kind symbol.def_rest v e = tt
optional_kind symbol.def_body v e = tt
optional_kind symbol.type_option v e = tt
optional_kind symbol.where_option v e = tt
optional_kind symbol.ctors v e = tt
optional_kind symbol.helpers v e = tt
optional_kind symbol.helper v e = tt
optional_kind symbol.more_helpers v e = cc
optional_kind symbol.fields_option v e = tt
optional_kind symbol.field v e = tt
optional_kind symbol.more_fields v e = cc
optional_kind symbol.axioms_word v e = tt
optional_kind symbol.alternatives v e = tt
optional_kind symbol.pattern v e = tt
optional_kind (symbol.pattern_rest x) v e = tt
optional_kind symbol.numeral_one v e = tt
optional_kind (symbol.term least) v e = tt
optional_kind symbol.arguments v e = tt
optional_kind (symbol.operators least left) v e = tt
optional_kind (symbol.group at) v e = cc
optional_kind (symbol.group_names at before x) v e = cc
optional_kind symbol.group_end v e = cc
optional_kind symbol.group_close v e = cc
optional_kind symbol.binder_end v e = tt
optional_kind symbol.written_levels v e = tt
optional_kind symbol.more_levels v e = cc
optional_kind symbol.level v e = tt
optional_kind symbol.plus_option v e = tt
optional_kind symbol.level_atom v e = tt
optional_kind symbol.level_atoms v e = tt
optional_kind (symbol.max_rest x) v e = tt
optional_kind (symbol.imax_rest x) v e = tt
optional_kind symbol.block v e = tt
optional_kind symbol.more_items v e = cc
optional_kind symbol.item v e = tt
optional_kind symbol.rw_rule v e = tt
optional_kind symbol.more_rules v e = cc
