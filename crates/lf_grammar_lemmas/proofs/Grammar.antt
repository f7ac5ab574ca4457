-- The laws for the grammar of commands.
use Rattle.std.proofs.Common.{
  ◌≡◌,
  List,
  [],
  ◌∷◌,
  ◌++◌,
  Bool,
  true,
  false,
  not,
  ◌&&◌,
  ◌||◌,
  Some,
  refl,
  sym,
  ap,
  ◌∙◌,
  subst,
  true≢false,
  append_assoc,
  append-nil,
}
use Rattle.lf_syntax.specs.Predictive.{Reads}
use Rattle.lf_syntax.specs.Piece.{Piece}
use Rattle.lf_syntax.specs.Symbol.{Symbol, Tree, command}
use Rattle.lf_syntax.specs.declared.command.Command.{Command}
use Rattle.lf_syntax.specs.Row.{Prod}
use Rattle.lf_syntax.specs.Grammar.{grammar, Derives, Begins, BadAt, EndsEarly, Answer, IsAnswer, is_command, is_bad, is_short}
use Rattle.lf_grammar_lemmas.specs.Machine.{Outcome, Done, Stuck, Short}
use Rattle.lf_grammar_lemmas.proofs.Follow.{Next, at_end, closer, at_colon, other, Asks, asks, allows, next_of, next, settled, serves}
use Rattle.lf_grammar_lemmas.specs.Outcome.{outcome, answer_of, OneAnswer, MachineAnswers, Complete, Sound, Completable, StuckIsLocal}
use Rattle.lf_grammar_lemmas.proofs.Viable as viable
use Rattle.lf_grammar_lemmas.proofs.Viable.{Viable}
use Rattle.lf_grammar_lemmas.proofs.Kept.{body_serves}
use Rattle.lf_grammar_lemmas.proofs.Closing.{closing, closes}

and_left : (a b : Bool) → a && b ≡ true → a ≡ true
and_left true b e = refl
and_left false b e = e

and_right : (a b : Bool) → a && b ≡ true → b ≡ true
and_right true b e = e
and_right false b e = cc

and_both : (a b : Bool) → a ≡ true → b ≡ true → a && b ≡ true
and_both true b e f = f
and_both false b e f = e

implied : (a b : Bool) → not a || b ≡ true → a ≡ true → b ≡ true
implied true b e f = e
implied false b e f = absurd (true≢false (sym f))

-- What serves in a symbol's place is settled where the symbol was.
serves_next : (a : Asks) (xs : List Symbol) (n : Next) → serves a xs ≡ true → allows a n ≡ true → settled xs n ≡ true
serves_next a xs at_end h e =
    implied (allows a at_end) (settled xs at_end) (and_left _ (not (allows a closer) || settled xs closer)
    (and_left _ (not (allows a at_colon) || settled xs at_colon) (and_left _ (not (allows a other) || settled xs other) h))) e
serves_next a xs closer h e =
    implied (allows a closer) (settled xs closer) (and_right (not (allows a at_end) || settled xs at_end) _
    (and_left _ (not (allows a at_colon) || settled xs at_colon) (and_left _ (not (allows a other) || settled xs other) h))) e
serves_next a xs at_colon h e =
    implied (allows a at_colon) (settled xs at_colon)
    (and_right ((not (allows a at_end) || settled xs at_end) && (not (allows a closer) || settled xs closer)) _
    (and_left _ (not (allows a other) || settled xs other) h)) e
serves_next a xs other h e =
    implied (allows a other) (settled xs other)
    (and_right ((not (allows a at_end) || settled xs at_end) && (not (allows a closer) || settled xs closer)
    && (not (allows a at_colon) || settled xs at_colon)) _ h) e

next_append : (xs ys : List Symbol) → next (xs ++ ys) at_end ≡ next xs (next ys at_end)
next_append [] ys = refl
next_append (x ∷ xs) ys = ap (next_of x) (next_append xs ys)

settled_append : (xs ys : List Symbol) → settled xs (next ys at_end) ≡ true → settled ys at_end ≡ true → settled (xs ++ ys) at_end ≡ true
settled_append [] ys e f = f
settled_append (x ∷ xs) ys e f =
    and_both (allows (asks x) (next (xs ++ ys) at_end)) (settled (xs ++ ys) at_end)
    (ap (allows (asks x)) (next_append xs ys) ∙ and_left (allows (asks x) (next xs (next ys at_end))) (settled xs (next ys at_end)) e)
    (settled_append xs ys (and_right (allows (asks x) (next xs (next ys at_end))) (settled xs (next ys at_end)) e) f)

push : (x : Symbol) (xs : List Symbol) (t : Piece) (p : Prod (Tree x)) → settled (x ∷ xs) at_end ≡ true → grammar.begin x t ≡ Some p
    → settled (p.body ++ xs) at_end ≡ true
push x xs t p h e =
    settled_append p.body xs
    (serves_next (asks x) p.body (next xs at_end) (body_serves x t.class t.at p e) (and_left (allows (asks x) (next xs at_end)) (settled xs at_end) h))
    (and_right (allows (asks x) (next xs at_end)) (settled xs at_end) h)

pub grammar_viable : Viable grammar
grammar_viable = record {
  Good = λ xs. settled xs at_end ≡ true;
  below = λ x xs h. and_right (allows (asks x) (next xs at_end)) (settled xs at_end) h;
  push = push;
  closes = λ xs h. (closing xs, closes xs h);
}

pub complete : Complete
complete ts c d = viable.done grammar command ts d.reads ∙ ap (λ (r : Command). Done r) d.same

pub sound : Sound
sound ts c e = viable.derives grammar command ts c e

pub stuck_is_local : StuckIsLocal
unfolding grammar_viable
stuck_is_local ts last e = viable.bad_at grammar grammar_viable command ts last refl e

ends_early : (ts : List Piece) → outcome ts ≡ Short → EndsEarly ts
unfolding grammar_viable
ends_early ts e = viable.ends_early grammar grammar_viable command ts refl e

machine_by : (ts : List Piece) (o : Outcome Piece Command) → outcome ts ≡ o → IsAnswer ts (answer_of o)
machine_by ts (Done c) e = sound ts c e
machine_by ts (Stuck last) e = stuck_is_local ts last e
machine_by ts Short e = ends_early ts e

begins_by : (ts : List Piece) (a : Answer) → IsAnswer ts a → ((last : List Piece) → a ≡ is_bad last → ⊥) → Begins ts
begins_by ts (is_command c) d h = record { more = []; reads = subst (λ (us : List Piece). Reads grammar (command ∷ []) us []) (sym (append-nil ts)) d.reads }
begins_by ts (is_bad last) d h = absurd (h last refl)
begins_by ts is_short d h = d.begins

stuck_of : (o : Outcome Piece Command) (last : List Piece) → answer_of o ≡ is_bad last → o ≡ Stuck last
stuck_of (Done c) last e = cc
stuck_of (Stuck more) last e = let f : more ≡ last = cc in ap (λ (us : List Piece). Stuck us) f
stuck_of Short last e = cc

pub completable : Completable
completable ts h = begins_by ts (answer_of (outcome ts)) (machine_by ts (outcome ts) refl) (λ last e. h last (stuck_of (outcome ts) last e))

-- What begins a command begins one with fewer tokens.
begins_before : (xs ys : List Piece) → Begins (xs ++ ys) → Begins xs
begins_before xs ys b = record {
  more = ys ++ b.more;
  reads =
      subst (λ (us : List Piece). Reads grammar (command ∷ []) us []) (append_assoc xs ys b.more) b.reads;
}

-- The tokens before and through a bad one, behind some that were read.
one_split : (p b c last more : List Piece) (t u : Piece) (us vs : List Piece) → b ++ last ≡ c ++ more → last ≡ t ∷ us → more ≡ u ∷ vs →
    Begins (p ++ b) → (Begins ((p ++ b) ++ (t ∷ [])) → ⊥) → Begins (p ++ c) → (Begins ((p ++ c) ++ (u ∷ [])) → ⊥) → last ≡ more
one_split p [] [] last more t u us vs e f g h i j k = e
one_split p [] (w ∷ c) last more t u us vs e f g h i j k =
    let s : t ∷ us ≡ w ∷ c ++ more = sym f ∙ e in
    let q : t ≡ w = cc in
    absurd (i (subst (λ (z : List Piece). Begins (z ++ (t ∷ []))) (sym (append-nil p))
    (begins_before (p ++ (t ∷ [])) c (subst Begins (ap (λ (z : Piece). p ++ (z ∷ c)) (sym q) ∙ sym (append_assoc p (t ∷ []) c)) j))))
one_split p (w ∷ b) [] last more t u us vs e f g h i j k =
    let s : w ∷ b ++ last ≡ u ∷ vs = e ∙ g in
    let q : u ≡ w = cc in
    absurd (k (subst (λ (z : List Piece). Begins (z ++ (u ∷ []))) (sym (append-nil p))
    (begins_before (p ++ (u ∷ [])) b (subst Begins (ap (λ (z : Piece). p ++ (z ∷ b)) (sym q) ∙ sym (append_assoc p (u ∷ []) b)) h))))
one_split p (w ∷ b) (x ∷ c) last more t u us vs e f g h i j k =
    let q : w ≡ x = cc in
    let r : b ++ last ≡ c ++ more = cc in
    let move : (z : Piece) (d : List Piece) → p ++ (z ∷ d) ≡ (p ++ (z ∷ [])) ++ d = λ z d. sym (append_assoc p (z ∷ []) d) in
    let same : p ++ (x ∷ c) ≡ (p ++ (w ∷ [])) ++ c = ap (λ (z : Piece). p ++ (z ∷ c)) (sym q) ∙ move w c in
    one_split (p ++ (w ∷ [])) b c last more t u us vs r f g
    (subst Begins (move w b) h) (λ n. i (subst (λ (z : List Piece). Begins (z ++ (t ∷ []))) (sym (move w b)) n))
    (subst Begins same j) (λ n. k (subst (λ (z : List Piece). Begins (z ++ (u ∷ []))) (sym same) n))

-- A bad token isn't one of those that begin a command.
not_both : (ts last : List Piece) → BadAt ts last → Begins ts → ⊥
not_both ts last d b =
    d.ends (begins_before (d.before ++ (d.bad ∷ [])) d.more
    (subst Begins (d.tokens ∙ ap (λ (z : List Piece). d.before ++ z) d.place ∙ sym (append_assoc d.before (d.bad ∷ []) d.more)) b))

derives_begins : (ts : List Piece) (c : Command) → Derives ts c → Begins ts
derives_begins ts c d = record { more = []; reads = subst (λ (us : List Piece). Reads grammar (command ∷ []) us []) (sym (append-nil ts)) d.reads }

pub one_of : (ts : List Piece) (a b : Answer) → IsAnswer ts a → IsAnswer ts b → a ≡ b
one_of ts (is_command c) (is_command d) p q = ap is_command (viable.one_tree grammar command ts c d p q)
one_of ts (is_command c) (is_bad last) p q = absurd (not_both ts last q (derives_begins ts c p))
one_of ts (is_command c) is_short p q = absurd (q.none p.reads)
one_of ts (is_bad last) (is_command c) p q = absurd (not_both ts last p (derives_begins ts c q))
one_of ts (is_bad last) (is_bad more) p q =
    ap is_bad (one_split [] p.before q.before last more p.bad q.bad p.more q.more (sym p.tokens ∙ q.tokens) p.place q.place p.begins p.ends q.begins q.ends)
one_of ts (is_bad last) is_short p q = absurd (not_both ts last p q.begins)
one_of ts is_short (is_command c) p q = absurd (p.none q.reads)
one_of ts is_short (is_bad last) p q = absurd (not_both ts last q p.begins)
one_of ts is_short is_short p q = refl

pub one_answer : OneAnswer
one_answer ts = (answer_of (outcome ts), machine_by ts (outcome ts) refl, λ b h. one_of ts b (answer_of (outcome ts)) h (machine_by ts (outcome ts) refl))

pub machine_answers : MachineAnswers
machine_answers ts a =
    (λ h. one_of ts (answer_of (outcome ts)) a (machine_by ts (outcome ts) refl) h, λ e. subst (IsAnswer ts) e (machine_by ts (outcome ts) refl))
