-- The tokens of a text are cut before each word that begins a command.
use Rattle.std.proofs.Common.{
  ◌≡◌,
  ℕ,
  zero,
  suc,
  ◌+◌,
  ◌<◌,
  ◌≤◌,
  List,
  [],
  ◌∷◌,
  ◌++◌,
  Bool,
  true,
  false,
  not,
  cond,
  length,
  get_or,
  take,
  drop,
  refl,
  sym,
  ap,
  ◌∙◌,
  subst,
  arith,
  add-one,
  append_assoc,
  append-nil,
}
use Rattle.std.specs.List.{prefix_len}
use Rattle.std.proofs.lemmas.List.{at_drop_more, at_drop_all, take-map}
use Rattle.lf_syntax.specs.Piece as syntax
use Rattle.lf_syntax.specs.declared.command.Command.{Command}
use Rattle.lf_syntax.specs.Document.{IsCommand, AreCommands, inside}
use Rattle.lf_parse_term.specs.View.{class_view, view, views}
use Rattle.lf_parse_term.specs.declared.piece.Piece.{Piece}

next : (ps : List Piece) (i : ℕ) (p : Piece) → i < length ps → p ≡ get_or ps i p →
    prefix_len inside (views (drop i ps)) ≡ cond (not (syntax.begins_command (class_view p.class))) (1 + prefix_len inside (views (drop (i + 1) ps))) 0
next ps i p h e =
    at_drop_more (λ (qs : List Piece). prefix_len inside (views qs)) ps i p h ∙
    ap (λ (q : Piece). prefix_len inside (views (q ∷ drop (i + 1) ps))) (sym e)

pub inside_more : (ps : List Piece) (i : ℕ) (p : Piece) → i < length ps → p ≡ get_or ps i p → syntax.begins_command (class_view p.class) ≡ false
    → prefix_len inside (views (drop i ps)) ≡ 1 + prefix_len inside (views (drop (i + 1) ps))
inside_more ps i p h e f = next ps i p h e ∙ ap (λ (b : Bool). cond (not b) (1 + prefix_len inside (views (drop (i + 1) ps))) 0) f

pub inside_stops : (ps : List Piece) (i : ℕ) (p : Piece) → i < length ps → p ≡ get_or ps i p → syntax.begins_command (class_view p.class) ≡ true
    → prefix_len inside (views (drop i ps)) ≡ 0
inside_stops ps i p h e f = next ps i p h e ∙ ap (λ (b : Bool). cond (not b) (1 + prefix_len inside (views (drop (i + 1) ps))) 0) f

pub inside_ends : (ps : List Piece) (i : ℕ) → length ps ≤ i → prefix_len inside (views (drop i ps)) ≡ 0
inside_ends ps i h = at_drop_all (λ (qs : List Piece). prefix_len inside (views qs)) ps i h

pub drop_views : (n : ℕ) (ps : List Piece) → drop n (views ps) ≡ views (drop n ps)
drop_views zero ps = refl
drop_views (suc n) [] = refl
drop_views (suc n) (p ∷ ps) = drop_views n ps

-- One command is cut off.
pub cut : (rest behind own more : List Piece) (first : Piece) (c : Command) (cs : List Command) → rest ≡ first ∷ behind →
    own ≡ take (prefix_len inside (views behind) + 1) rest → more ≡ drop (prefix_len inside (views behind) + 1) rest →
    IsCommand (views own) c → AreCommands (views more) cs → AreCommands (views rest) (c ∷ cs)
cut rest behind own more first c cs e f g h i =
    let n : ℕ = prefix_len inside (views behind) in
    let o : own ≡ first ∷ take n behind = f ∙ ap (λ (qs : List Piece). take (n + 1) qs) e ∙ ap (λ (k : ℕ). take k (first ∷ behind)) (add-one n) in
    let m : more ≡ drop n behind = g ∙ ap (λ (qs : List Piece). drop (n + 1) qs) e ∙ ap (λ (k : ℕ). drop k (first ∷ behind)) (add-one n) in
    let p : views own ≡ view first ∷ take n (views behind) = ap views o ∙ ap (λ (ts : List syntax.Piece). view first ∷ ts) (sym (take-map view n behind)) in
    let q : views more ≡ drop n (views behind) = ap views m ∙ sym (drop_views n behind) in
    subst (λ (qs : List Piece). AreCommands (views qs) (c ∷ cs)) (sym e)
    (subst (λ (ts : List syntax.Piece). IsCommand ts c) p h, subst (λ (ts : List syntax.Piece). AreCommands ts cs) q i)

-- The commands so far, and whatever those of the rest are.
abbrev pub Goes : List Piece → List Piece → List Command → Type 0
Goes toks rest all = (cs : List Command) → AreCommands (views rest) cs → AreCommands (views toks) (all ++ cs)

pub goes_first : (toks : List Piece) → Goes toks toks []
goes_first toks cs h = h

pub goes_on : (toks rest behind own more : List Piece) (first : Piece) (c : Command) (all next : List Command) → Goes toks rest all → rest ≡ first ∷ behind →
    own ≡ take (prefix_len inside (views behind) + 1) rest → more ≡ drop (prefix_len inside (views behind) + 1) rest →
    IsCommand (views own) c → next ≡ all ++ (c ∷ []) → Goes toks more next
goes_on toks rest behind own more first c all next before e f g h n cs i =
    subst (λ (ds : List Command). AreCommands (views toks) ds) (sym (append_assoc all (c ∷ []) cs) ∙ ap (λ (ds : List Command). ds ++ cs) (sym n))
    (before (c ∷ cs) (cut rest behind own more first c cs e f g h i))

pub goes_last : (toks rest : List Piece) (all : List Command) → Goes toks rest all → length rest ≡ 0 → AreCommands (views toks) all
goes_last toks [] all before h = subst (λ (ds : List Command). AreCommands (views toks) ds) (append-nil all) (before [] refl)
goes_last toks (p ∷ rest) all before h = absurd (omega arith)
