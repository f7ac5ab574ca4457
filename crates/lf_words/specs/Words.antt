-- The command line: which words ask for a run, and for which.
use Rattle.std.specs.Prelude.{ℕ, Bool, true, ◌&&◌, nat_eq, nat_le, if◌then◌else◌, Option, Some, None, List, [], ◌∷◌, codes, option_map, length}
use Rattle.std.specs.Str.{bytes_eq}
use Rattle.std.specs.Str.Parse.{digits_value}
use Rattle.clap.specs.Words.{App, Rule, Text, new_app, new_rule, with_rule, matches_of, first_of, fault_of}
use Rattle.clap.specs.declared.builder.ArgAction.TheVariants.{Set}
use Rattle.lf_words.specs.declared.values.Values.{Values}
use Rattle.lf_words.specs.declared.request.Request.{Request}
use Rattle.lf_words.specs.declared.request.Request.TheVariants.{Check, Gen}

-- ---- The words as `clap` reads them: a mode, a number, and options with a value each. There is no help.

abbrev pub mode_rule : Rule
mode_rule = record (new_rule (codes "mode")) { required = true; action = Some Set }

abbrev pub count_rule : Rule
count_rule = record (new_rule (codes "count")) { action = Some Set }

abbrev pub workers_rule : Rule
workers_rule = record (new_rule (codes "workers")) { long = Some (codes "workers"); action = Some Set }

abbrev pub budget_rule : Rule
budget_rule = record (new_rule (codes "budget")) { long = Some (codes "budget"); action = Some Set }

abbrev pub without_help : App → App
without_help a = record a { top = record a.top { disable_help_flag = true } }

abbrev pub app : App
app = with_rule (with_rule (with_rule (with_rule (without_help (new_app (codes "leanfront"))) mode_rule) count_rule) workers_rule) budget_rule

-- The values that are given.
pub record Given : Type 0 where
  pub mode : Option Text
  pub count : Option Text
  pub workers : Option Text
  pub budget : Option Text

abbrev pub value : Text → List Text → Option Text
value id words = first_of id (matches_of app words)

abbrev pub is_taken : List Text → Bool
is_taken words = nat_eq (length (fault_of app words)) 0

abbrev pub given : List Text → Option Given
given words =
    if is_taken words
    then Some (record {
      mode = value (codes "mode") words;
      count = value (codes "count") words;
      workers = value (codes "workers") words;
      budget = value (codes "budget") words;
    })
    else None

abbrev pub seen : Values → Given
seen v = record {
  mode = option_map (λ s. s.now) v.mode;
  count = option_map (λ s. s.now) v.count;
  workers = option_map (λ s. s.now) v.workers;
  budget = option_map (λ s. s.now) v.budget;
}

-- ---- What they ask for

abbrev pub are_digits : List ℕ → Bool
are_digits [] = true
are_digits (c ∷ cs) = nat_le 48 c && (nat_le c 57 && are_digits cs)

-- One to seven decimal digits.
abbrev pub number_of : Text → Option ℕ
number_of t = if nat_le 1 (length t) && (nat_le (length t) 7 && are_digits t) then Some (digits_value 10 t) else None

abbrev pub within : ℕ → ℕ → Option ℕ → Option ℕ
within least most None = None
within least most (Some n) = if nat_le least n && nat_le n most then Some n else None

-- The units of each part.
abbrev pub budget_of : Option Text → Option ℕ
budget_of None = Some 1000000
budget_of (Some t) = within 1000 2000000 (number_of t)

abbrev pub check_with : Option ℕ → Option Request
check_with None = None
check_with (Some b) = Some (Check b)

abbrev pub gen_with : Option ℕ → Option ℕ → Option Request
gen_with (Some k) (Some b) = Some (Gen k b)
gen_with (Some k) None = None
gen_with None b = None

-- `check` takes no number, `gen` needs one up to 1,000; neither has workers.
abbrev pub asked : Given → Option Request
asked g = by_mode g.mode g.count g.workers
  where
    by_mode : Option Text → Option Text → Option Text → Option Request
    by_mode None c w = None
    by_mode (Some m) c (Some w) = None
    by_mode (Some m) None None = if bytes_eq m (codes "check") then check_with (budget_of g.budget) else None
    by_mode (Some m) (Some c) None = if bytes_eq m (codes "gen") then gen_with (within 0 1000 (number_of c)) (budget_of g.budget) else None

abbrev pub asked_by : Option Given → Option Request
asked_by None = None
asked_by (Some g) = asked g

-- What the words ask for, the program's own name being the first; None where they are bad words.
abbrev pub request_of : List Text → Option Request
request_of words = asked_by (given words)
