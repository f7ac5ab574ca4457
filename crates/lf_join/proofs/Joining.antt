-- What is gathered is what is joined.
use Rattle.std.proofs.Common.{◌≡◌, ℕ, Bool, List, [], length, ◌∷◌, ◌++◌, flat_map, map, filter, cond, if◌then◌else◌, true, false, refl, sym, ap, ◌∙◌, append_assoc, append-nil}
use Rattle.std.proofs.lemmas.List.Concat.{flat_map-append}
use Rattle.std.proofs.lemmas.List.{map-append}
use Rattle.lf_core.specs.Term.{Path}
use Rattle.lf_core.specs.Suffix.{spelling, fits_kind}
use Rattle.lf_core.specs.declared.suffix.Suffix.{Suffix}
use Rattle.lf_core.specs.declared.constant.ConstInfo.{ConstInfo}
use Rattle.lf_rules.specs.Recursor.{is_among}
use Rattle.lf_document.specs.Sequential.{Answers, Elaborated, realizable_by, suffixes}
use Rattle.lf_msg.specs.declared.message.Message.{Message}
use Rattle.lf_document.specs.Joined.{Joined, joined, asked_by, messages_of, as_list, if_asked, realized_for, with_realized, groups, constant_names}
use Rattle.lf_join.specs.Marked.{if_passed, with_suffix, realized_of, realized_by, group_with, names_with, constants_in, names_among}

-- ---- Lists of lists

same_lists : {X A : Type 0} (f g : X → List A) → ((x : X) → f x ≡ g x) → (xs : List X) → flat_map f xs ≡ flat_map g xs
same_lists f g h [] = refl
same_lists f g h (x ∷ xs) = ap (λ t. t ++ flat_map f xs) (h x) ∙ ap (λ t. g x ++ t) (same_lists f g h xs)

of_map : {X Y A : Type 0} (f : Y → List A) (g : X → Y) (xs : List X) → flat_map f (map g xs) ≡ flat_map (λ x. f (g x)) xs
of_map f g [] = refl
of_map f g (x ∷ xs) = ap (λ t. f (g x) ++ t) (of_map f g xs)

chosen_list : {X A : Type 0} (p : X → Bool) (f : X → List A) (xs : List X) → flat_map f (filter p xs) ≡ flat_map (λ x. if p x then f x else []) xs
chosen_list p f [] = refl
chosen_list p f (x ∷ xs) = by_test (p x) ∙ ap (λ t. (if p x then f x else []) ++ t) (chosen_list p f xs)
  where
    by_test : (b : Bool) → flat_map f (cond b (x ∷ filter p xs) (filter p xs)) ≡ (if b then f x else []) ++ flat_map f (filter p xs)
    by_test true = refl
    by_test false = refl

nested : {X Y A : Type 0} (f : Y → List A) (g : X → List Y) (xs : List X) → flat_map f (flat_map g xs) ≡ flat_map (λ x. flat_map f (g x)) xs
nested f g [] = refl
nested f g (x ∷ xs) = flat_map-append f (g x) (flat_map g xs) ∙ ap (λ t. flat_map f (g x) ++ t) (nested f g xs)

-- ---- Realized constants, by a test that is whether a name was asked for

module _ (p : Path → Bool) (made : Answers) (asked : List Path) (h : (n : Path) → p n ≡ is_among n asked) where
  passed_asked : (n : Path) → if_passed p made n ≡ if_asked made asked n
  passed_asked n = ap (λ b. if b then as_list (made n) else []) (h n)

  of_one : (c : ConstInfo) → realized_of p made c ≡ flat_map (if_asked made asked) (realizable_by c)
  unfolding realized_of
  of_one c =
      let name : Suffix → Path = λ s. c.name ++ spelling s ∷ [] in
      sym (chosen_list (λ s. fits_kind s c.kind) (λ s. if_passed p made (name s)) suffixes)
      ∙ same_lists (λ s. if_passed p made (name s)) (λ s. if_asked made asked (name s)) (λ s. passed_asked (name s))
      (filter (λ s. fits_kind s c.kind) suffixes)
      ∙ sym (of_map (if_asked made asked) name (filter (λ s. fits_kind s c.kind) suffixes))

  pub realized_same : (cs : List ConstInfo) → realized_by p made cs ≡ realized_for made asked cs
  realized_same cs =
      same_lists (realized_of p made) (λ c. flat_map (if_asked made asked) (realizable_by c)) of_one cs
      ∙ sym (nested (if_asked made asked) realizable_by cs)

  pub constants_joined : (base : List ConstInfo) (es : List Elaborated) → constants_in p made base es ≡ flat_map (with_realized made asked) (groups base es)
  constants_joined base es =
      ap (λ t. (base ++ t) ++ flat_map (λ e. group_with p made e.constants) es) (realized_same base)
      ∙ ap (λ t. with_realized made asked base ++ t)
      (same_lists (λ e. group_with p made e.constants) (λ e. with_realized made asked e.constants)
      (λ e. ap (λ t. e.constants ++ t) (realized_same e.constants)) es
      ∙ sym (of_map (with_realized made asked) (λ (e : Elaborated). e.constants) es))

  names_of_all : (css : List (List ConstInfo)) → flat_map (λ cs. constant_names (realized_for made asked cs)) css ≡ constant_names (flat_map (realized_for made asked) css)
  names_of_all [] = refl
  names_of_all (cs ∷ css) =
      ap (λ t. constant_names (realized_for made asked cs) ++ t) (names_of_all css)
      ∙ sym (map-append (λ c. c.name) (realized_for made asked cs) (flat_map (realized_for made asked) css))

  pub names_joined : (base : List ConstInfo) (es : List Elaborated)
      → names_among p made base es ≡ constant_names (flat_map (realized_for made asked) (groups base es))
  names_joined base es =
      ap (λ t. constant_names t ++ flat_map (λ e. names_with p made e.constants) es) (realized_same base)
      ∙ ap (λ t. constant_names (realized_for made asked base) ++ t)
      (same_lists (λ e. names_with p made e.constants) (λ e. constant_names (realized_for made asked e.constants))
      (λ e. ap constant_names (realized_same e.constants)) es
      ∙ sym (of_map (λ cs. constant_names (realized_for made asked cs)) (λ (e : Elaborated). e.constants) es))
      ∙ names_of_all (groups base es)

abbrev make : List ℕ → ℕ → ℕ → List ConstInfo → List Path → List Message → Joined
make text budget base constants realized messages = record {
  text = text;
  budget = budget;
  base = base;
  constants = constants;
  realized = realized;
  messages = messages;
}

-- The record of what was gathered.
pub whole : (p : Path → Bool) (made : Answers) (base : List ConstInfo) (es : List Elaborated)
    → ((n : Path) → p n ≡ is_among n (flat_map asked_by es)) → (t u : List ℕ) (b d : ℕ) (k : ℕ) (cs : List ConstInfo) (ns : List Path) (ms : List Message)
    → t ≡ u → b ≡ d → k ≡ length base → cs ≡ constants_in p made base es → ns ≡ names_among p made base es → ms ≡ flat_map messages_of es
    → make t b k cs ns ms ≡ joined u d base made es
whole p made base es h t u b d k cs ns ms ht hb hk hcs hns hms =
    ap (λ x. make x b k cs ns ms) ht
    ∙ ap (λ x. make u x k cs ns ms) hb
    ∙ ap (λ x. make u d x cs ns ms) hk
    ∙ ap (λ x. make u d (length base) x ns ms) (hcs ∙ constants_joined p made (flat_map asked_by es) h base es)
    ∙ ap (λ x. make u d (length base) (flat_map (with_realized made (flat_map asked_by es)) (groups base es)) x ms)
    (hns ∙ names_joined p made (flat_map asked_by es) h base es)
    ∙ ap (λ x. make u d (length base) (flat_map (with_realized made (flat_map asked_by es)) (groups base es))
    (constant_names (flat_map (realized_for made (flat_map asked_by es)) (groups base es))) x) hms
