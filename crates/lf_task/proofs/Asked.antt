-- Names asked for in two lists, one after the other.
use Rattle.std.proofs.Common.{◌≡◌, ◌<◌, ◌+◌, ℕ, List, [], ◌∷◌, ◌++◌, length, drop, get_or, refl, sym, ap, ◌∙◌, append_assoc}
use Rattle.std.proofs.lemmas.List.{drop_more}
use Rattle.lf_core.specs.Term.{Path}
use Rattle.lf_core.specs.declared.constant.TaskKey.{TaskKey}
use Rattle.lf_checker.specs.View.{View}
use Rattle.lf_checker.specs.Calls.{Seen, see}
use Rattle.lf_document.specs.Task.{Log, Attempt, done, need, go_on}
use Rattle.lf_core.specs.declared.constant.ConstInfo.{ConstInfo}
use Rattle.lf_elaboration.specs.Axioms.{names_in}
use Rattle.lf_document.specs.Asking.{ask_seen, ask_all, names_of_value, names_of_constants}
use Rattle.lf_task.specs.Tasks.{names_of_one}

after_first : (V : View) (xs ys : List Path) → ((l : Log) → ask_all V (xs ++ ys) l ≡ go_on (ask_all V xs l) (λ u. ask_all V ys)) → (o : Attempt (Unit {0}))
    → go_on o (λ u. ask_all V (xs ++ ys)) ≡ go_on (go_on o (λ u. ask_all V xs)) (λ u. ask_all V ys)
after_first V xs ys h (done u l) = h l
after_first V xs ys h (need k) = refl

together : (V : View) (xs ys : List Path) (g : Log) → ask_all V (xs ++ ys) g ≡ go_on (ask_all V xs g) (λ u. ask_all V ys)
together V [] ys g = refl
together V (x ∷ xs) ys g = after_first V xs ys (together V xs ys) (ask_seen V x (see V x) g)

pub both : (V : View) (xs ys : List Path) (g h : Log) → ask_all V xs g ≡ done tt h → ask_all V (xs ++ ys) g ≡ ask_all V ys h
both V xs ys g h e = together V xs ys g ∙ ap (λ o. go_on o (λ u. ask_all V ys)) e

pub first_needs : (V : View) (xs ys : List Path) (g : Log) (k : TaskKey) → ask_all V xs g ≡ need k → ask_all V (xs ++ ys) g ≡ need k
first_needs V xs ys g k e = together V xs ys g ∙ ap (λ o. go_on o (λ u. ask_all V ys)) e

pub three : (V : View) (xs ys zs : List Path) (g h i : Log) → ask_all V xs g ≡ done tt h → ask_all V ys h ≡ done tt i
    → ask_all V (xs ++ (ys ++ zs)) g ≡ ask_all V zs i
three V xs ys zs g h i a b = both V xs (ys ++ zs) g h a ∙ both V ys zs h i b

pub second_needs : (V : View) (xs ys zs : List Path) (g h : Log) (k : TaskKey) → ask_all V xs g ≡ done tt h → ask_all V ys h ≡ need k
    → ask_all V (xs ++ (ys ++ zs)) g ≡ need k
second_needs V xs ys zs g h k a b = both V xs (ys ++ zs) g h a ∙ first_needs V ys zs h k b

-- ---- One constant further

module _ (V : View) (cs : List ConstInfo) (i : ℕ) (c : ConstInfo) (g : Log) (l : i < length cs) (e : c ≡ get_or cs i c) where
  abbrev rest : List Path
  rest = names_of_constants (drop (i + 1) cs)

  next_is : ask_all V (names_of_constants (drop i cs)) g ≡ ask_all V (names_of_one c ++ rest) g
  next_is =
      ap (λ ds. ask_all V (names_of_constants ds) g) (drop_more cs i c l ∙ ap (λ d. d ∷ drop (i + 1) cs) (sym e))
      ∙ ap (λ ns. ask_all V ns g) (sym (append_assoc (names_in c.ty) (names_of_value c.value) rest))

  pub next_constant : (h : Log) → ask_all V (names_of_one c) g ≡ done tt h
      → ask_all V (names_of_constants (drop (i + 1) cs)) h ≡ ask_all V (names_of_constants (drop i cs)) g
  next_constant h a = sym (next_is ∙ both V (names_of_one c) rest g h a)

  pub constant_needs : (k : TaskKey) → ask_all V (names_of_one c) g ≡ need k → ask_all V (names_of_constants (drop i cs)) g ≡ need k
  constant_needs k a = next_is ∙ first_needs V (names_of_one c) rest g k a
