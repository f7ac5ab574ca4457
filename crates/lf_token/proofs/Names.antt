use Rattle.std.proofs.Common.{
  ◌≡◌,
  ℕ,
  ◌+◌,
  ◌≤◌,
  ◌<◌,
  List,
  [],
  ◌∷◌,
  length,
  take,
  Bool,
  true,
  false,
  cond,
  ◌||◌,
  ◌&&◌,
  ◌==◌,
  refl,
  sym,
  ap,
  ◌∙◌,
  arith,
  subst,
  zero,
  suc,
  ⊎_elim,
  not,
}
use Rattle.std.specs.Prelude.{nat_le}
use Rattle.std.specs.List.{list_all, slice_split, onto_first}
use Rattle.std.proofs.lemmas.Bool.{eqb-true}
use Rattle.unicode_ident.proofs.IdentLemmas.{is_xid_start-is_xid_continue}
use Rattle.unicode_ident.proofs.Computing.{unicode_ident}
use Rattle.unicode_ident.specs.Ident.{is_xid_start, is_xid_continue}
use Rattle.lf_text.specs.Lexemes.{is_apart, starts_part, continues_part, is_part, is_name}
use Rattle.lf_token.specs.Scan.{part_next, goes_over, tail_len}
use Rattle.lf_token.proofs.Logic.{and_left, and_right, and_both, and_false, and_more, or_left, or_more, or_cases, false_from, take_cons}

-- what may follow the first character of an identifier
abbrev pub is_tail : List ℕ → Bool
is_tail [] = true
is_tail (c ∷ cs) = goes_over c cs && is_tail cs

-- the rest of a part, and then parts behind dots
abbrev on_parts : List (List ℕ) → Bool
on_parts [] = true
on_parts (part ∷ parts) = list_all continues_part part && list_all is_part parts

dot_continues : continues_part 46 ≡ false
unfolding continues_part unicode_ident
dot_continues = refl

dot_starts : starts_part 46 ≡ false
unfolding starts_part unicode_ident
dot_starts = refl

underscore : is_xid_continue 95 ≡ true
unfolding unicode_ident
underscore = refl

-- what starts a part may also stand inside it
pub starts_continue : (c : ℕ) → starts_part c ≡ true → continues_part c ≡ true
unfolding starts_part continues_part
starts_continue c e =
    let front : c == 95 || is_xid_start c ≡ true = and_left (c == 95 || is_xid_start c) (not (is_apart c)) e in
    let apart : not (is_apart c) ≡ true = and_right (c == 95 || is_xid_start c) (not (is_apart c)) e in
    let inside : is_xid_continue c ≡ true =
    ⊎_elim (λ (u : (c == 95) ≡ true). subst (λ (x : ℕ). is_xid_continue x ≡ true) (sym (eqb-true c 95 u)) underscore)
    (λ (u : is_xid_start c ≡ true). is_xid_start-is_xid_continue c u) (or_cases (c == 95) (is_xid_start c) front) in
    and_both (is_xid_continue c || c == 39 || c == 33 || c == 63 || (nat_le 8320 c && nat_le c 8329)) (not (is_apart c))
    (or_left (is_xid_continue c || c == 39 || c == 33 || c == 63) (nat_le 8320 c && nat_le c 8329)
    (or_left (is_xid_continue c || c == 39 || c == 33) (c == 63)
    (or_left (is_xid_continue c || c == 39) (c == 33)
    (or_left (is_xid_continue c) (c == 39) inside))))
    apart

and_assoc : (a b c : Bool) → (a && b) && c ≡ a && (b && c)
and_assoc true b c = refl
and_assoc false b c = refl

and_true : (a : Bool) → a && true ≡ a
and_true true = refl
and_true false = refl

on_onto : (c : ℕ) (parts : List (List ℕ)) → on_parts (onto_first c parts) ≡ continues_part c && on_parts parts
on_onto c [] = and_true (continues_part c && true)
on_onto c (part ∷ parts) = and_assoc (continues_part c) (list_all continues_part part) (list_all is_part parts)

all_onto : (c : ℕ) (parts : List (List ℕ)) → list_all is_part (onto_first c parts) ≡ starts_part c && on_parts parts
all_onto c [] = and_true (starts_part c && true)
all_onto c (part ∷ parts) = and_assoc (starts_part c) (list_all continues_part part) (list_all is_part parts)

abbrev split : List ℕ → List (List ℕ)
split cs = slice_split (λ c. c == 46) cs

dot : (c : ℕ) → (c == 46) ≡ true → c ≡ 46
dot c e = eqb-true c 46 e

name_cons_step : (c : ℕ) (cs : List ℕ) (b : Bool) → (c == 46) ≡ b →
    list_all is_part (cond b ([] ∷ split cs) (onto_first c (split cs))) ≡ starts_part c && on_parts (split cs)
name_cons_step c cs true e = sym (and_false (starts_part c) (on_parts (split cs)) (subst (λ (x : ℕ). starts_part x ≡ false) (sym (dot c e)) dot_starts))
name_cons_step c cs false e = all_onto c (split cs)

-- a name starts as a part does, and then goes on
name_cons : (c : ℕ) (cs : List ℕ) → is_name (c ∷ cs) ≡ starts_part c && on_parts (split cs)
name_cons c cs = name_cons_step c cs (c == 46) refl

-- a start goes over
start_over : (a b : Bool) → (a ≡ true → b ≡ true) → (r : Bool) → a && r ≡ a && (b && r)
start_over true b f r = ap (λ v. v && r) (sym (f refl))
start_over false b f r = refl

or_nothing : (a b : Bool) → a || (false && b) ≡ a
or_nothing true b = refl
or_nothing false b = refl

behind_dot : (cs : List ℕ) → ((c : ℕ) (ds : List ℕ) → cs ≡ c ∷ ds → on_parts (split ds) ≡ is_tail ds) → is_name cs ≡ part_next cs && is_tail cs
behind_dot [] f = refl
behind_dot (c ∷ cs) f =
    name_cons c cs ∙ ap (λ r. starts_part c && r) (f c cs refl)
    ∙ start_over (starts_part c) (goes_over c cs) (λ e. or_left (continues_part c) (c == 46 && part_next cs) (starts_continue c e)) (is_tail cs)

tail_step : (c : ℕ) (cs : List ℕ) (b : Bool) → (c == 46) ≡ b → is_name cs ≡ part_next cs && is_tail cs → on_parts (split cs) ≡ is_tail cs →
    on_parts (cond b ([] ∷ split cs) (onto_first c (split cs))) ≡ (continues_part c || (b && part_next cs)) && is_tail cs
tail_step c cs true e name ih =
    name ∙ ap (λ v. (v || part_next cs) && is_tail cs) (sym (subst (λ (x : ℕ). continues_part x ≡ false) (sym (dot c e)) dot_continues))
tail_step c cs false e name ih =
    on_onto c (split cs) ∙ ap (λ r. continues_part c && r) ih ∙ ap (λ v. v && is_tail cs) (sym (or_nothing (continues_part c) (part_next cs)))

-- behind its first character, a name goes over each character
on_tail : (cs : List ℕ) → on_parts (split cs) ≡ is_tail cs
on_tail [] = refl
on_tail (c ∷ []) = tail_step c [] (c == 46) refl refl refl
on_tail (c ∷ d ∷ cs) =
    tail_step c (d ∷ cs) (c == 46) refl
    (behind_dot (d ∷ cs) (λ x xs e. let same : cs ≡ xs = cc in subst (λ (ys : List ℕ). on_parts (split ys) ≡ is_tail ys) same (on_tail cs)))
    (on_tail (d ∷ cs))

pub name_of : (c : ℕ) (cs : List ℕ) → is_name (c ∷ cs) ≡ starts_part c && is_tail cs
name_of c cs = name_cons c cs ∙ ap (λ r. starts_part c && r) (on_tail cs)

part_more : (m : ℕ) (cs : List ℕ) → part_next (take m cs) ≡ true → part_next cs ≡ true
part_more zero cs e = cc
part_more (suc m) [] e = e
part_more (suc m) (c ∷ cs) e = e

-- a tail is no longer than the scan goes
tail_longest : (cs : List ℕ) (m : ℕ) → m ≤ length cs → is_tail (take m cs) ≡ true → m ≤ tail_len cs
tail_longest cs zero l e = omega arith
tail_longest [] (suc m) l e = l
tail_longest (c ∷ cs) (suc m) l e =
    let here : goes_over c cs ≡ true =
    or_more (continues_part c) (c == 46 && part_next (take m cs)) (c == 46 && part_next cs)
    (and_more (c == 46) (part_next (take m cs)) (part_next cs) (part_more m cs)) (and_left (goes_over c (take m cs)) (is_tail (take m cs)) e) in
    let more : m ≤ tail_len cs = tail_longest cs m (omega arith) (and_right (goes_over c (take m cs)) (is_tail (take m cs)) e) in
    subst (λ (b : Bool). suc m ≤ cond b (tail_len cs + 1) 0) (sym here) (omega arith)

within_cond : (b : Bool) (n m : ℕ) → n ≤ m → cond b (n + 1) 0 ≤ suc m
within_cond true n m l = omega arith
within_cond false n m l = omega arith

pub tail_within : (cs : List ℕ) → tail_len cs ≤ length cs
tail_within [] = omega arith
tail_within (c ∷ cs) = within_cond (goes_over c cs) (tail_len cs) (length cs) (tail_within cs)

-- the part behind a dot is in what the scan takes
part_taken : (cs : List ℕ) → part_next cs ≡ true → part_next (take (tail_len cs) cs) ≡ true
part_taken [] e = e
part_taken (c ∷ cs) e =
    let on : goes_over c cs ≡ true = or_left (continues_part c) (c == 46 && part_next cs) (starts_continue c e) in
    subst (λ (b : Bool). part_next (take (cond b (tail_len cs + 1) 0) (c ∷ cs)) ≡ true) (sym on) (rw (take_cons (tail_len cs) c cs) e)

passes_step : (c : ℕ) (cs : List ℕ) (b : Bool) → goes_over c cs ≡ b → is_tail (take (tail_len cs) cs) ≡ true →
    is_tail (take (cond b (tail_len cs + 1) 0) (c ∷ cs)) ≡ true
passes_step c cs false e ih = refl
passes_step c cs true e ih =
    rw (take_cons (tail_len cs) c cs)
    (and_both (goes_over c (take (tail_len cs) cs)) (is_tail (take (tail_len cs) cs))
    (or_more (continues_part c) (c == 46 && part_next cs) (c == 46 && part_next (take (tail_len cs) cs))
    (and_more (c == 46) (part_next cs) (part_next (take (tail_len cs) cs)) (part_taken cs)) e)
    ih)

-- what the scan takes is a tail
tail_passes : (cs : List ℕ) → is_tail (take (tail_len cs) cs) ≡ true
tail_passes [] = refl
tail_passes (c ∷ cs) = passes_step c cs (goes_over c cs) refl (tail_passes cs)

-- what the scan takes is a name, and no longer front is one
pub name_front : (c : ℕ) (cs : List ℕ) → starts_part c ≡ true → is_name (take (tail_len cs + 1) (c ∷ cs)) ≡ true
name_front c cs e =
    rw (take_cons (tail_len cs) c cs)
    (name_of c (take (tail_len cs) cs) ∙ and_both (starts_part c) (is_tail (take (tail_len cs) cs)) e (tail_passes cs))

pub name_longer : (c : ℕ) (cs : List ℕ) (m : ℕ) → tail_len cs + 1 < m → m ≤ suc (length cs) → is_name (take m (c ∷ cs)) ≡ false
name_longer c cs zero l w = absurd (omega arith)
name_longer c cs (suc m) l w =
    false_from (is_name (c ∷ take m cs)) (λ e.
    let on : is_tail (take m cs) ≡ true = and_right (starts_part c) (is_tail (take m cs)) (sym (name_of c (take m cs)) ∙ e) in
    let short : m ≤ tail_len cs = tail_longest cs m (omega arith) on in absurd (omega arith))

-- a front that starts with no part is no name
pub no_name : (c : ℕ) (cs : List ℕ) → starts_part c ≡ false → is_name (c ∷ cs) ≡ false
no_name c cs e = name_of c cs ∙ and_false (starts_part c) (is_tail cs) e
