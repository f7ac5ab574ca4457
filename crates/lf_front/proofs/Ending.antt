-- How a run ends.
use Rattle.std.proofs.Common.{
  ◌≡◌,
  ℕ,
  ◌≤◌,
  ◌<◌,
  ◌++◌,
  Bool,
  true,
  false,
  List,
  [],
  ◌∷◌,
  Option,
  Some,
  None,
  Ok,
  Err,
  Result,
  IfSome,
  option_map,
  length,
  take,
  drop,
  refl,
  sym,
  subst,
  ap,
  ◌∙◌,
  arith,
  append-nil,
  codes,
}
use Rattle.std.specs.Prelude.{unwrap_or}
use Rattle.std.specs.Str.{bytes_eq}
use Rattle.std.proofs.lemmas.Slice.Eq.{bytes_eq-Decides}
use Rattle.lf_base.specs.Outside.{Begins, Holds, IsAtEnd, Moves}
use Rattle.lf_base.proofs.Pieces.{holds_none}
use Rattle.lf_rules.specs.Environment.{Environment}
use Rattle.lf_front.specs.declared.token.Token.{Token}
use Rattle.lf_front.specs.declared.status.Status.{Status}
use Rattle.lf_front.specs.declared.status.Status.TheVariants as status
use Rattle.lf_front.specs.Lexemes.{Tokens, IsLongest, is_lexeme, past_white, token_of}
use Rattle.lf_front.specs.Declares.{Accepts, Declares}
use Rattle.lf_front.specs.Report.{report_of}
use Rattle.lf_front.specs.Meaning.{Means, AsksForCheck, bad_words, not_built}
use Rattle.lf_front.proofs.Declaring.{declares_one}
use Rattle.lf_front.proofs.Accepted.{declares_derived}
use Rattle.lf_rules.specs.Derived.{Derived, empty}
use Rattle.lf_front.specs.Reader.{ReadsAll, Reports, Refuses, asks}
use Rattle.lf_front.specs.declared.names.Refusal.{Refusal}
use Rattle.lf_front.specs.declared.names.Refusal.TheVariants.{NotBuilt, NoMemory}

at_most : (m n : ℕ) → m ≤ n → n ≤ m → m ≡ n
at_most m n a b = omega arith

asks_yes : (ws : List (List ℕ)) → asks ws ≡ true → AsksForCheck ws
asks_yes [] e = cc
asks_yes (name ∷ []) e = cc
asks_yes (name ∷ word ∷ []) e = (name, ap (λ (w : List ℕ). name ∷ w ∷ []) ((bytes_eq-Decides word (codes "check")).0 e))
asks_yes (name ∷ word ∷ more ∷ rest) e = cc

asks_no : (ws : List (List ℕ)) → asks ws ≡ false → AsksForCheck ws → ⊥
asks_no ws e a = let no = rw a.1 at e in cc

too_long : (n : ℕ) → 1048576 < n → n ≤ 1048576 → ⊥
too_long n a b = omega arith

nothing_within : (cs : List ℕ) (n : ℕ) → cs ≡ [] → 0 < n → n ≤ length cs → ⊥
nothing_within [] n e some l = omega arith
nothing_within (c ∷ cs) n e some l = cc

same_length : (cs : List ℕ) (m n : ℕ) → IsLongest is_lexeme cs m → IsLongest is_lexeme cs n → m ≡ n
same_length cs m n a b = at_most m n (b.longest m a.within a.passes) (a.longest n b.within b.passes)

-- A text has one list of tokens.
pub tokens_one : (cs : List ℕ) (ts us : List Token) → Tokens cs ts → Tokens cs us → ts ≡ us
tokens_one cs [] [] a b = refl
tokens_one cs [] (u ∷ us) a b = absurd (nothing_within (past_white cs) b.0 a b.1 b.2.within)
tokens_one cs (t ∷ ts) [] a b = absurd (nothing_within (past_white cs) a.0 b a.1 a.2.within)
tokens_one cs (t ∷ ts) (u ∷ us) a b =
    let long : a.0 ≡ b.0 = same_length (past_white cs) a.0 b.0 a.2 b.2 in
    let first : t ≡ u = a.3 ∙ ap (λ (n : ℕ). token_of (take n (past_white cs))) long ∙ sym b.3 in
    let behind : Tokens (drop a.0 (past_white cs)) us = subst (λ (n : ℕ). Tokens (drop n (past_white cs)) us) (sym long) b.4 in
    let rest : ts ≡ us = tokens_one (drop a.0 (past_white cs)) ts us a.4 behind in λ i. first i ∷ rest i

-- A text declares one list of axioms.
pub accepts_one : (bytes : List ℕ) (E F : Environment) → Accepts bytes E → Accepts bytes F → E ≡ F
accepts_one bytes E F a b =
    let same : b.tokens ≡ a.tokens = tokens_one bytes b.tokens a.tokens b.read a.read in
    declares_one [] a.tokens E F a.declares (subst (λ (ts : List Token). Declares [] ts F) same b.declares)

-- What a run means is one text and one status.
pub means_one : (words : List (List ℕ)) (bytes t u : List ℕ) (r s : Status) → Means words bytes t r → Means words bytes u s → (t ≡ u) × (r ≡ s)
means_one words bytes t u status.Clean status.Clean a b = (a.1.2 ∙ ap report_of (accepts_one bytes a.1.0 b.1.0 a.1.1 b.1.1) ∙ sym b.1.2, refl)
means_one words bytes t u status.Clean status.NotBuilt a b = absurd (b.1 a.1.0 a.1.1)
means_one words bytes t u status.Clean status.BadWords a b = absurd (b.0 a.0)
means_one words bytes t u status.NotBuilt status.Clean a b = absurd (a.1 b.1.0 b.1.1)
means_one words bytes t u status.NotBuilt status.NotBuilt a b = (a.2 ∙ sym b.2, refl)
means_one words bytes t u status.NotBuilt status.BadWords a b = absurd (b.0 a.0)
means_one words bytes t u status.BadWords status.Clean a b = absurd (a.0 b.0)
means_one words bytes t u status.BadWords status.NotBuilt a b = absurd (a.0 b.0)
means_one words bytes t u status.BadWords status.BadWords a b = (a.1 ∙ sym b.1, refl)
means_one words bytes t u status.ReadFault s a b = absurd a
means_one words bytes t u status.WriteFault s a b = absurd a
means_one words bytes t u status.NoMemory s a b = absurd a
means_one words bytes t u r status.ReadFault a b = absurd b
means_one words bytes t u r status.WriteFault a b = absurd b
means_one words bytes t u r status.NoMemory a b = absurd b

-- And it isn't nothing.
pub means_some : (words : List (List ℕ)) (bytes : List ℕ) → ((text : List ℕ) (s : Status) → Means words bytes text s → ⊥) → ⊥
means_some words bytes none = at (asks words) refl
  where
    at : (b : Bool) → asks words ≡ b → ⊥
    at true e = none not_built status.NotBuilt (asks_yes words e, (λ E a. none (report_of E) status.Clean (asks_yes words e, (E, a, refl))), refl)
    at false e = none bad_words status.BadWords (asks_no words e, refl)

-- What begins the text that is meant begins each text that is meant.
begins_each : (words : List (List ℕ)) (bytes text part : List ℕ) (answer : Status) → Means words bytes text answer → Begins part text
    → (t : List ℕ) (s : Status) → Means words bytes t s → Begins part t
begins_each words bytes text part answer means begins t s other = subst (Begins part) ((means_one words bytes text t answer s means other).0) begins

-- A beginning of what is meant was written.
pub part_written : (words : List (List ℕ)) (left held held' : Option (List ℕ)) (text : List ℕ) (answer : Status)
    → IfSome left (λ bytes. Means words bytes text answer)
    → (part : List ℕ) × Begins part text × Holds held held' part
    → IfSome left (λ bytes. (part : List ℕ) × Holds held held' part × ((t : List ℕ) (s : Status) → Means words bytes t s → Begins part t))
part_written words None held held' text answer means w = tt
part_written words (Some bytes) held held' text answer means w = (w.0, w.2, begins_each words bytes text w.0 answer means w.1)

-- Nothing was written.
pub none_written : (words : List (List ℕ)) (left held : Option (List ℕ))
    → IfSome left (λ bytes. (part : List ℕ) × Holds held held part × ((t : List ℕ) (s : Status) → Means words bytes t s → Begins part t))
none_written words None held = tt
none_written words (Some bytes) held = ([], holds_none held, λ t s means. (t, refl))

pub all_written : (words : List (List ℕ)) (left held held' : Option (List ℕ)) (text : List ℕ) (answer : Status)
    → IfSome left (λ bytes. Means words bytes text answer) → Holds held held' text
    → IfSome left (λ bytes. (t : List ℕ) × Means words bytes t answer × Holds held held' t)
all_written words None held held' text answer means h = tt
all_written words (Some bytes) held held' text answer means h = (text, means, h)

-- What was read to the end is all that there was.
read_whole : (left left' : Option (List ℕ)) (text : List ℕ) → Moves left left' text → IsAtEnd left' → IfSome left (λ bytes. bytes ≡ text)
read_whole None left' text moves end = tt
read_whole (Some bytes) None text moves end = cc
read_whole (Some bytes) (Some rest) text moves end =
    let all : bytes ≡ text ++ rest = ap (λ (o : Option (List ℕ)). unwrap_or o bytes) moves in all ∙ ap (λ (r : List ℕ). text ++ r) end ∙ append-nil text

pub meant_of : (left left' : Option (List ℕ)) (text : List ℕ) (P : List ℕ → Type 0) → Moves left left' text → IsAtEnd left' → P text → IfSome left P
meant_of None left' text P moves end p = tt
meant_of (Some bytes) left' text P moves end p = subst P (sym (read_whole (Some bytes) left' text moves end)) p

-- A text that is too long isn't built.
pub long_meant : (words : List (List ℕ)) (left : Option (List ℕ)) → asks words ≡ true → IfSome left (λ bytes. 1048576 < length bytes)
    → IfSome left (λ bytes. Means words bytes not_built status.NotBuilt)
long_meant words None asked long = tt
long_meant words (Some bytes) asked long = (asks_yes words asked, (λ E accepts. too_long (length bytes) long accepts.short), refl)

pub bad_meant : (words : List (List ℕ)) (left : Option (List ℕ)) → asks words ≡ false → IfSome left (λ bytes. Means words bytes bad_words status.BadWords)
bad_meant words None unasked = tt
bad_meant words (Some bytes) unasked = (asks_no words unasked, refl)

-- Where its tokens declare nothing, a text isn't accepted.
pub not_accepted : (bytes : List ℕ) (ts us : List Token) (r : Refusal) → Tokens bytes ts → us ≡ ts → ReadsAll us (Err r) → Refuses bytes r
not_accepted bytes ts us NotBuilt read same none = λ E accepts. none E
    (subst (λ (x : List Token). Declares [] x E) (tokens_one bytes accepts.tokens ts accepts.read read ∙ sym same) accepts.declares)
not_accepted bytes ts us NoMemory read same none = tt

pub accepted_derived : (bytes : List ℕ) (E : Environment) → Accepts bytes E → Derived E
accepted_derived bytes E accepts = declares_derived [] accepts.tokens E empty accepts.declares

-- What is meant, over what was read.
pub report_meant : (words : List (List ℕ)) (left left' : Option (List ℕ)) (text report : List ℕ) → asks words ≡ true → Moves left left' text → IsAtEnd left'
    → Reports text report
    → IfSome left (λ bytes. Means words bytes report status.Clean)
report_meant words left left' text report asked moves end r = meant_of left left' text (λ bytes. Means words bytes report status.Clean) moves end
    (asks_yes words asked, r)

pub refusal_meant : (words : List (List ℕ)) (left left' : Option (List ℕ)) (text : List ℕ) → asks words ≡ true → Moves left left' text → IsAtEnd left'
    → Refuses text NotBuilt
    → IfSome left (λ bytes. Means words bytes not_built status.NotBuilt)
refusal_meant words left left' text asked moves end none = meant_of left left' text (λ bytes. Means words bytes not_built status.NotBuilt) moves end
    (asks_yes words asked, none, refl)

pub refused_text : (text read : List ℕ) (r : Refusal) → r ≡ NotBuilt → read ≡ text → Refuses read r → Refuses text NotBuilt
refused_text text read r is same none = subst (λ (b : List ℕ). Refuses b NotBuilt) same (subst (Refuses read) is none)
