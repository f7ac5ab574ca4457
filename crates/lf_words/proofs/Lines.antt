-- Worked command lines, by computation.
use Rattle.std.specs.Prelude.{◌≡◌, Some, None, [], ◌∷◌, codes}
use Rattle.std.proofs.Common.{refl}
use Rattle.clap.proofs.OnLiterals.{clap_on_literals}
use Rattle.lf_words.specs.declared.request.Request.TheVariants.{Check, Gen}
use Rattle.lf_words.specs.Words.{request_of}
use Rattle.lf_words.specs.Worked.{line, Answers}

no_name_is : request_of [] ≡ None
unfolding clap_on_literals
no_name_is = refl

no_words_is : request_of (line ([])) ≡ None
unfolding clap_on_literals
no_words_is = refl

plain_is : request_of (line (codes "check" ∷ [])) ≡ Some (Check 1000000)
unfolding clap_on_literals
plain_is = refl

with_budget_is : request_of (line (codes "check" ∷ codes "--budget" ∷ codes "2000" ∷ [])) ≡ Some (Check 2000)
unfolding clap_on_literals
with_budget_is = refl

with_attached_budget_is : request_of (line (codes "check" ∷ codes "--budget=2000" ∷ [])) ≡ Some (Check 2000)
unfolding clap_on_literals
with_attached_budget_is = refl

option_first_is : request_of (line (codes "--budget=2000" ∷ codes "check" ∷ [])) ≡ Some (Check 2000)
unfolding clap_on_literals
option_first_is = refl

behind_the_end_is : request_of (line (codes "--" ∷ codes "check" ∷ [])) ≡ Some (Check 1000000)
unfolding clap_on_literals
behind_the_end_is = refl

least_budget_is : request_of (line (codes "check" ∷ codes "--budget=1000" ∷ [])) ≡ Some (Check 1000)
unfolding clap_on_literals
least_budget_is = refl

below_it_is : request_of (line (codes "check" ∷ codes "--budget=999" ∷ [])) ≡ None
unfolding clap_on_literals
below_it_is = refl

greatest_budget_is : request_of (line (codes "check" ∷ codes "--budget=2000000" ∷ [])) ≡ Some (Check 2000000)
unfolding clap_on_literals
greatest_budget_is = refl

above_it_is : request_of (line (codes "check" ∷ codes "--budget=2000001" ∷ [])) ≡ None
unfolding clap_on_literals
above_it_is = refl

leading_zeros_is : request_of (line (codes "check" ∷ codes "--budget=0001000" ∷ [])) ≡ Some (Check 1000)
unfolding clap_on_literals
leading_zeros_is = refl

eight_digits_is : request_of (line (codes "check" ∷ codes "--budget=00001000" ∷ [])) ≡ None
unfolding clap_on_literals
eight_digits_is = refl

plus_is : request_of (line (codes "check" ∷ codes "--budget=+1000" ∷ [])) ≡ None
unfolding clap_on_literals
plus_is = refl

no_digits_is : request_of (line (codes "check" ∷ codes "--budget=" ∷ [])) ≡ None
unfolding clap_on_literals
no_digits_is = refl

letters_is : request_of (line (codes "check" ∷ codes "--budget=1k" ∷ [])) ≡ None
unfolding clap_on_literals
letters_is = refl

minus_is : request_of (line (codes "check" ∷ codes "--budget" ∷ codes "-5" ∷ [])) ≡ None
unfolding clap_on_literals
minus_is = refl

attached_minus_is : request_of (line (codes "check" ∷ codes "--budget=-5" ∷ [])) ≡ None
unfolding clap_on_literals
attached_minus_is = refl

no_value_is : request_of (line (codes "check" ∷ codes "--budget" ∷ [])) ≡ None
unfolding clap_on_literals
no_value_is = refl

budget_twice_is : request_of (line (codes "check" ∷ codes "--budget=2000" ∷ codes "--budget=2000" ∷ [])) ≡ None
unfolding clap_on_literals
budget_twice_is = refl

shortened_is : request_of (line (codes "check" ∷ codes "--budg=2000" ∷ [])) ≡ None
unfolding clap_on_literals
shortened_is = refl

check_with_number_is : request_of (line (codes "check" ∷ codes "3" ∷ [])) ≡ None
unfolding clap_on_literals
check_with_number_is = refl

check_with_workers_is : request_of (line (codes "check" ∷ codes "--workers=4" ∷ [])) ≡ None
unfolding clap_on_literals
check_with_workers_is = refl

gen_of_is : request_of (line (codes "gen" ∷ codes "7" ∷ [])) ≡ Some (Gen 7 1000000)
unfolding clap_on_literals
gen_of_is = refl

gen_of_none_is : request_of (line (codes "gen" ∷ codes "0" ∷ [])) ≡ Some (Gen 0 1000000)
unfolding clap_on_literals
gen_of_none_is = refl

gen_of_most_is : request_of (line (codes "gen" ∷ codes "1000" ∷ codes "--budget=1000" ∷ [])) ≡ Some (Gen 1000 1000)
unfolding clap_on_literals
gen_of_most_is = refl

gen_of_more_is : request_of (line (codes "gen" ∷ codes "1001" ∷ [])) ≡ None
unfolding clap_on_literals
gen_of_more_is = refl

gen_without_number_is : request_of (line (codes "gen" ∷ [])) ≡ None
unfolding clap_on_literals
gen_without_number_is = refl

gen_behind_the_end_is : request_of (line (codes "gen" ∷ codes "--" ∷ codes "3" ∷ [])) ≡ Some (Gen 3 1000000)
unfolding clap_on_literals
gen_behind_the_end_is = refl

gen_of_an_option_is : request_of (line (codes "gen" ∷ codes "--" ∷ codes "--budget" ∷ [])) ≡ None
unfolding clap_on_literals
gen_of_an_option_is = refl

gen_of_a_minus_is : request_of (line (codes "gen" ∷ codes "-" ∷ [])) ≡ None
unfolding clap_on_literals
gen_of_a_minus_is = refl

gen_of_help_is : request_of (line (codes "gen" ∷ codes "help" ∷ [])) ≡ None
unfolding clap_on_literals
gen_of_help_is = refl

gen_with_workers_is : request_of (line (codes "gen" ∷ codes "3" ∷ codes "--workers=1" ∷ [])) ≡ None
unfolding clap_on_literals
gen_with_workers_is = refl

third_word_is : request_of (line (codes "gen" ∷ codes "3" ∷ codes "4" ∷ [])) ≡ None
unfolding clap_on_literals
third_word_is = refl

elab_is : request_of (line (codes "elab" ∷ [])) ≡ None
unfolding clap_on_literals
elab_is = refl

session_is : request_of (line (codes "session" ∷ [])) ≡ None
unfolding clap_on_literals
session_is = refl

other_mode_is : request_of (line (codes "Check" ∷ [])) ≡ None
unfolding clap_on_literals
other_mode_is = refl

empty_mode_is : request_of (line (codes "" ∷ [])) ≡ None
unfolding clap_on_literals
empty_mode_is = refl

help_is : request_of (line (codes "help" ∷ [])) ≡ None
unfolding clap_on_literals
help_is = refl

help_option_is : request_of (line (codes "check" ∷ codes "--help" ∷ [])) ≡ None
unfolding clap_on_literals
help_option_is = refl

h_is : request_of (line (codes "-h" ∷ [])) ≡ None
unfolding clap_on_literals
h_is = refl

version_is : request_of (line (codes "check" ∷ codes "--version" ∷ [])) ≡ None
unfolding clap_on_literals
version_is = refl

pub answers : Answers
answers = record {
  no_name = no_name_is;
  no_words = no_words_is;
  plain = plain_is;
  with_budget = with_budget_is;
  with_attached_budget = with_attached_budget_is;
  option_first = option_first_is;
  behind_the_end = behind_the_end_is;
  least_budget = least_budget_is;
  below_it = below_it_is;
  greatest_budget = greatest_budget_is;
  above_it = above_it_is;
  leading_zeros = leading_zeros_is;
  eight_digits = eight_digits_is;
  plus = plus_is;
  no_digits = no_digits_is;
  letters = letters_is;
  minus = minus_is;
  attached_minus = attached_minus_is;
  no_value = no_value_is;
  budget_twice = budget_twice_is;
  shortened = shortened_is;
  check_with_number = check_with_number_is;
  check_with_workers = check_with_workers_is;
  gen_of = gen_of_is;
  gen_of_none = gen_of_none_is;
  gen_of_most = gen_of_most_is;
  gen_of_more = gen_of_more_is;
  gen_without_number = gen_without_number_is;
  gen_behind_the_end = gen_behind_the_end_is;
  gen_of_an_option = gen_of_an_option_is;
  gen_of_a_minus = gen_of_a_minus_is;
  gen_of_help = gen_of_help_is;
  gen_with_workers = gen_with_workers_is;
  third_word = third_word_is;
  elab = elab_is;
  session = session_is;
  other_mode = other_mode_is;
  empty_mode = empty_mode_is;
  help = help_is;
  help_option = help_option_is;
  h = h_is;
  version = version_is;
}
