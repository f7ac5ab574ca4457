-- What the rules of nesting do to numbers that are known from below: a device of the proof.
use Rattle.std.proofs.Common.{◌≡◌, ℕ, ◌+◌, ◌≤◌, List, [], ◌∷◌, Bool, true, false, cond, not, ◌&&◌, zero, suc, refl, sym, ap, ◌∙◌, subst, arith}
use Rattle.lf_text.specs.declared.nesting.Enclosure.{Enclosure}
use Rattle.lf_text.specs.declared.nesting.Enclosure.TheVariants.{Block, Bracket}
use Rattle.lf_text.specs.declared.role.Role.{Role}
use Rattle.lf_text.specs.declared.role.Role.TheVariants.{
  Command,
  BlockOpener,
  Where,
  Bar,
  Opening,
  Closing,
  Let,
  Semicolon,
  Nesting,
  BlockOpen,
  BlockSep,
  BlockClose,
  Other,
}
use Rattle.lf_text.specs.Nesting.{Nest, nest, nesting_after, next_item, leave_block, leave_bracket, at_semicolon}

-- A block or bracket that has opened: how many tokens had counted since the opening of what is around it, and how many `let`s waited there.
pub record Saved : Type 0 where
  pub in_block : Bool
  pub up : ℕ
  pub waits : ℕ

pub record Sketch : Type 0 where
  pub up : ℕ
  pub waits : ℕ
  pub saved : List Saved

abbrev pub sketch : ℕ → ℕ → List Saved → Sketch
sketch up waits saved = record { up = up; waits = waits; saved = saved }

-- The number at an opening, from below; a bracket itself counts one more.
abbrev pub low_in : List Saved → ℕ
low_in [] = 0
low_in (f ∷ fs) = cond f.in_block 0 1 + (f.up + low_in fs)

abbrev pub low_of : Sketch → ℕ
low_of s = s.up + low_in s.saved

-- The number where the innermost thing opened.
abbrev pub base_of : List Saved → ℕ
base_of [] = 0
base_of (f ∷ fs) = f.up + low_in fs

abbrev pub item_in : Sketch → List Saved → Sketch
item_in s [] = s
item_in s (f ∷ fs) = cond f.in_block (sketch 0 0 s.saved) s

abbrev pub pop : Sketch → List Saved → Sketch
pop s [] = s
pop s (f ∷ fs) = sketch f.up f.waits fs

abbrev pub semicolon : Sketch → ℕ → Sketch
semicolon s zero = item_in s s.saved
semicolon s (suc waits) = sketch s.up waits s.saved

abbrev pub step : Role → Sketch → Sketch
step Command s = s
step BlockOpener s = sketch (s.up + 1) s.waits s.saved
step Where s = s
step Bar s = sketch 0 s.waits s.saved
step Opening s = sketch 0 0 (record { in_block = false; up = s.up; waits = s.waits } ∷ s.saved)
step Closing s = pop s s.saved
step Let s = sketch (s.up + 1) (suc s.waits) s.saved
step Semicolon s = semicolon s s.waits
step Nesting s = sketch (s.up + 1) s.waits s.saved
step BlockOpen s = sketch 0 0 (record { in_block = true; up = s.up; waits = s.waits } ∷ s.saved)
step BlockSep s = item_in s s.saved
step BlockClose s = pop s s.saved
step Other s = s

abbrev pub is_empty : List Saved → Bool
is_empty [] = true
is_empty (f ∷ fs) = false

abbrev pub in_a_block : List Saved → Bool
in_a_block [] = false
in_a_block (f ∷ fs) = f.in_block

abbrev pub in_a_bracket : List Saved → Bool
in_a_bracket [] = false
in_a_bracket (f ∷ fs) = not f.in_block

abbrev semicolon_fits : ℕ → List Saved → Bool
semicolon_fits zero saved = in_a_block saved
semicolon_fits (suc waits) saved = true

-- The step is right; a `|` only where the Bool is true and nothing is open.
abbrev pub valid : Bool → Role → Sketch → Bool
valid free Command s = false
valid free BlockOpener s = true
valid free Where s = true
valid free Bar s = free && is_empty s.saved
valid free Opening s = true
valid free Closing s = in_a_bracket s.saved
valid free Let s = true
valid free Semicolon s = semicolon_fits s.waits s.saved
valid free Nesting s = true
valid free BlockOpen s = true
valid free BlockSep s = in_a_block s.saved
valid free BlockClose s = in_a_block s.saved
valid free Other s = true

pub and_left : (a b : Bool) → a && b ≡ true → a ≡ true
and_left true b e = refl
and_left false b e = e

pub and_right : (a b : Bool) → a && b ≡ true → b ≡ true
and_right true b e = e
and_right false b e = cc

-- The sketch tells of a count and of what is open, where `r` is the least number and so many `let`s wait at the outside.
module _ (r w0 : ℕ) (open0 : List Enclosure) where
  abbrev pub Framed : List Saved → ℕ → ℕ → List Enclosure → Type 0
  Framed [] waits w o = (w ≡ waits + w0) × (o ≡ open0)
  Framed (f ∷ fs) waits w [] = ⊥
  Framed (f ∷ fs) waits w (Block c ∷ more) = (w ≡ waits) × (f.in_block ≡ true) × (r + (f.up + low_in fs) ≤ c.number) × Framed fs f.waits c.waiting more
  Framed (f ∷ fs) waits w (Bracket c ∷ more) = (w ≡ waits) × (f.in_block ≡ false) × (r + (f.up + low_in fs) ≤ c.number) × Framed fs f.waits c.waiting more

  abbrev pub Matches : Sketch → Nest → Type 0
  Matches s n = (r + low_of s ≤ n.count.number) × Framed s.saved s.waits n.count.waiting n.open_

  no_both : (b : Bool) → b ≡ true → b ≡ false → ⊥
  no_both true e f = cc
  no_both false e f = cc

  isnt : (b : Bool) → not b ≡ true → b ≡ false
  isnt true e = cc
  isnt false e = refl

  closing : (s : Sketch) (n : Nest) (saved : List Saved) (o : List Enclosure) → in_a_bracket saved ≡ true → Framed saved s.waits n.count.waiting o →
      Matches (pop s saved) (leave_bracket n o)
  closing s n [] o e h = cc
  closing s n (f ∷ fs) [] e h = absurd h
  closing s n (f ∷ fs) (Block c ∷ more) e h = absurd (no_both f.in_block h.1 (isnt f.in_block e))
  closing s n (f ∷ fs) (Bracket c ∷ more) e h = (h.2, h.3)

  ending : (s : Sketch) (n : Nest) (saved : List Saved) (o : List Enclosure) → in_a_block saved ≡ true → Framed saved s.waits n.count.waiting o →
      Matches (pop s saved) (leave_block n o)
  ending s n [] o e h = cc
  ending s n (f ∷ fs) [] e h = absurd h
  ending s n (f ∷ fs) (Block c ∷ more) e h = (h.2, h.3)
  ending s n (f ∷ fs) (Bracket c ∷ more) e h = absurd (no_both f.in_block e h.1)

  -- A block goes on: `o` is what is open.
  parting : (s : Sketch) (n : Nest) (saved : List Saved) (o : List Enclosure) → s.saved ≡ saved → n.open_ ≡ o → in_a_block saved ≡ true →
      Framed saved s.waits n.count.waiting o →
      Matches (item_in s saved) (next_item n o)
  parting s n [] o p q e h = cc
  parting s n (f ∷ fs) [] p q e h = absurd h
  parting s n (f ∷ fs) (Block c ∷ more) p q e h =
      subst (λ (b : Bool). Matches (cond b (sketch 0 0 s.saved) s) (nest c.number 0 n.open_)) (sym e)
      (subst (λ (gs : List Saved). Matches (sketch 0 0 gs) (nest c.number 0 n.open_)) (sym p)
      (subst (λ (us : List Enclosure). Matches (sketch 0 0 (f ∷ fs)) (nest c.number 0 us)) (sym q)
      (let l : ◌≡◌ {A = ℕ} (cond f.in_block 0 1) 0 = ap (λ (b : Bool). cond b 0 1) e in omega (arith, l, h.2), (refl, h.1, h.2, h.3))))
  parting s n (f ∷ fs) (Bracket c ∷ more) p q e h = absurd (no_both f.in_block e h.1)

  awaiting : (saved : List Saved) (waits w : ℕ) (o : List Enclosure) → Framed saved waits w o → Framed saved (suc waits) (w + 1) o
  awaiting [] waits w o h = (omega (arith, h.0), h.1)
  awaiting (f ∷ fs) waits w [] h = absurd h
  awaiting (f ∷ fs) waits w (Block c ∷ more) h = (omega (arith, h.0), h.1, h.2, h.3)
  awaiting (f ∷ fs) waits w (Bracket c ∷ more) h = (omega (arith, h.0), h.1, h.2, h.3)

  -- The `;` of a `let`.
  record Ends (saved : List Saved) (waits w : ℕ) (o : List Enclosure) : Type 0 where
    left : ℕ
    same : w ≡ suc left
    framed : Framed saved waits left o

  ends_let : (waits w : ℕ) (saved : List Saved) (o : List Enclosure) → Framed saved (suc waits) w o → Ends saved waits w o
  ends_let waits w [] o h = record { left = waits + w0; same = omega (arith, h.0); framed = (refl, h.1) }
  ends_let waits w (f ∷ fs) [] h = absurd h
  ends_let waits w (f ∷ fs) (Block c ∷ more) h = record { left = waits; same = h.0; framed = (refl, h.1, h.2, h.3) }
  ends_let waits w (f ∷ fs) (Bracket c ∷ more) h = record { left = waits; same = h.0; framed = (refl, h.1, h.2, h.3) }

  at_the_end : (free : Bool) (saved : List Saved) → free && is_empty saved ≡ true → (free ≡ true → r ≡ 0) → r + (0 + low_in saved) ≤ 0
  at_the_end free [] e fr = let z : r ≡ 0 = fr (and_left free true e) in omega arith
  at_the_end free (f ∷ fs) e fr = absurd (no (and_right free false e))
    where
      no : false ≡ true → ⊥
      no g = cc

  semicolons : (s : Sketch) (n : Nest) (waits : ℕ) → s.waits ≡ waits → semicolon_fits waits s.saved ≡ true → Matches s n →
      Matches (semicolon s waits) (at_semicolon n n.count.waiting)
  semicolons s n zero p e m = go n.count.waiting refl s.saved refl e m.1
    where
      none : (saved : List Saved) (w : ℕ) (o : List Enclosure) → in_a_block saved ≡ true → Framed saved s.waits w o → w ≡ 0
      none [] w o e h = cc
      none (f ∷ fs) w [] e h = absurd h
      none (f ∷ fs) w (Block c ∷ more) e h = h.0 ∙ p
      none (f ∷ fs) w (Bracket c ∷ more) e h = h.0 ∙ p

      go : (w : ℕ) → n.count.waiting ≡ w → (saved : List Saved) → s.saved ≡ saved → in_a_block saved ≡ true → Framed saved s.waits w n.open_ →
          Matches (item_in s s.saved) (at_semicolon n w)
      go zero q saved t e h =
          subst (λ (fs : List Saved). Matches (item_in s fs) (next_item n n.open_)) (sym t)
          (parting s n saved n.open_ t refl e (subst (λ (k : ℕ). Framed saved s.waits k n.open_) (sym q) h))
      go (suc w) q saved t e h = absurd (let z : suc w ≡ 0 = none saved (suc w) n.open_ e h in omega arith)
  semicolons s n (suc waits) p e m =
      let d : Ends s.saved waits n.count.waiting n.open_ =
      ends_let waits n.count.waiting s.saved n.open_ (subst (λ (k : ℕ). Framed s.saved k n.count.waiting n.open_) p m.1) in
      subst (λ (k : ℕ). Matches (sketch s.up waits s.saved) (at_semicolon n k)) (sym d.same) (m.0, d.framed)

  pub step_matches : (free : Bool) (ρ : Role) (s : Sketch) (n : Nest) → (free ≡ true → r ≡ 0) → valid free ρ s ≡ true → Matches s n →
      Matches (step ρ s) (nesting_after n ρ)
  step_matches free Command s n fr e m = cc
  step_matches free BlockOpener s n fr e m = (omega (arith, m.0), m.1)
  step_matches free Where s n fr e m = m
  step_matches free Bar s n fr e m = (at_the_end free s.saved e fr, m.1)
  step_matches free Opening s n fr e m = (omega (arith, m.0), (refl, refl, m.0, m.1))
  step_matches free Closing s n fr e m = closing s n s.saved n.open_ e m.1
  step_matches free Let s n fr e m = (omega (arith, m.0), awaiting s.saved s.waits n.count.waiting n.open_ m.1)
  step_matches free Semicolon s n fr e m = semicolons s n s.waits refl e m
  step_matches free Nesting s n fr e m = (omega (arith, m.0), m.1)
  step_matches free BlockOpen s n fr e m = (omega (arith, m.0), (refl, refl, m.0, m.1))
  step_matches free BlockSep s n fr e m = parting s n s.saved n.open_ refl refl e m.1
  step_matches free BlockClose s n fr e m = ending s n s.saved n.open_ e m.1
  step_matches free Other s n fr e m = m
