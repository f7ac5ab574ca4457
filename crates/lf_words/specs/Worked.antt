-- Worked command lines, and what they ask for.
use Rattle.std.specs.Prelude.{◌≡◌, Some, None, List, [], ◌∷◌, codes}
use Rattle.clap.specs.Words.{Text}
use Rattle.lf_words.specs.declared.request.Request.TheVariants.{Check, Gen}
use Rattle.lf_words.specs.Words.{request_of}

-- The words behind the program's own name.
abbrev pub line : List Text → List Text
line rest = codes "leanfront" ∷ rest

pub record Answers : Type 0 where
  pub no_name : request_of [] ≡ None
  pub no_words : request_of (line ([])) ≡ None
  pub plain : request_of (line (codes "check" ∷ [])) ≡ Some (Check 1000000)
  pub with_budget : request_of (line (codes "check" ∷ codes "--budget" ∷ codes "2000" ∷ [])) ≡ Some (Check 2000)
  pub with_attached_budget : request_of (line (codes "check" ∷ codes "--budget=2000" ∷ [])) ≡ Some (Check 2000)
  pub option_first : request_of (line (codes "--budget=2000" ∷ codes "check" ∷ [])) ≡ Some (Check 2000)
  pub behind_the_end : request_of (line (codes "--" ∷ codes "check" ∷ [])) ≡ Some (Check 1000000)
  pub least_budget : request_of (line (codes "check" ∷ codes "--budget=1000" ∷ [])) ≡ Some (Check 1000)
  pub below_it : request_of (line (codes "check" ∷ codes "--budget=999" ∷ [])) ≡ None
  pub greatest_budget : request_of (line (codes "check" ∷ codes "--budget=2000000" ∷ [])) ≡ Some (Check 2000000)
  pub above_it : request_of (line (codes "check" ∷ codes "--budget=2000001" ∷ [])) ≡ None
  pub leading_zeros : request_of (line (codes "check" ∷ codes "--budget=0001000" ∷ [])) ≡ Some (Check 1000)
  pub eight_digits : request_of (line (codes "check" ∷ codes "--budget=00001000" ∷ [])) ≡ None
  pub plus : request_of (line (codes "check" ∷ codes "--budget=+1000" ∷ [])) ≡ None
  pub no_digits : request_of (line (codes "check" ∷ codes "--budget=" ∷ [])) ≡ None
  pub letters : request_of (line (codes "check" ∷ codes "--budget=1k" ∷ [])) ≡ None
  pub minus : request_of (line (codes "check" ∷ codes "--budget" ∷ codes "-5" ∷ [])) ≡ None
  pub attached_minus : request_of (line (codes "check" ∷ codes "--budget=-5" ∷ [])) ≡ None
  pub no_value : request_of (line (codes "check" ∷ codes "--budget" ∷ [])) ≡ None
  pub budget_twice : request_of (line (codes "check" ∷ codes "--budget=2000" ∷ codes "--budget=2000" ∷ [])) ≡ None
  pub shortened : request_of (line (codes "check" ∷ codes "--budg=2000" ∷ [])) ≡ None
  pub check_with_number : request_of (line (codes "check" ∷ codes "3" ∷ [])) ≡ None
  pub check_with_workers : request_of (line (codes "check" ∷ codes "--workers=4" ∷ [])) ≡ None
  pub gen_of : request_of (line (codes "gen" ∷ codes "7" ∷ [])) ≡ Some (Gen 7 1000000)
  pub gen_of_none : request_of (line (codes "gen" ∷ codes "0" ∷ [])) ≡ Some (Gen 0 1000000)
  pub gen_of_most : request_of (line (codes "gen" ∷ codes "1000" ∷ codes "--budget=1000" ∷ [])) ≡ Some (Gen 1000 1000)
  pub gen_of_more : request_of (line (codes "gen" ∷ codes "1001" ∷ [])) ≡ None
  pub gen_without_number : request_of (line (codes "gen" ∷ [])) ≡ None
  pub gen_behind_the_end : request_of (line (codes "gen" ∷ codes "--" ∷ codes "3" ∷ [])) ≡ Some (Gen 3 1000000)
  pub gen_of_an_option : request_of (line (codes "gen" ∷ codes "--" ∷ codes "--budget" ∷ [])) ≡ None
  pub gen_of_a_minus : request_of (line (codes "gen" ∷ codes "-" ∷ [])) ≡ None
  pub gen_of_help : request_of (line (codes "gen" ∷ codes "help" ∷ [])) ≡ None
  pub gen_with_workers : request_of (line (codes "gen" ∷ codes "3" ∷ codes "--workers=1" ∷ [])) ≡ None
  pub third_word : request_of (line (codes "gen" ∷ codes "3" ∷ codes "4" ∷ [])) ≡ None
  pub elab : request_of (line (codes "elab" ∷ [])) ≡ None
  pub session : request_of (line (codes "session" ∷ [])) ≡ None
  pub other_mode : request_of (line (codes "Check" ∷ [])) ≡ None
  pub empty_mode : request_of (line (codes "" ∷ [])) ≡ None
  pub help : request_of (line (codes "help" ∷ [])) ≡ None
  pub help_option : request_of (line (codes "check" ∷ codes "--help" ∷ [])) ≡ None
  pub h : request_of (line (codes "-h" ∷ [])) ≡ None
  pub version : request_of (line (codes "check" ∷ codes "--version" ∷ [])) ≡ None
