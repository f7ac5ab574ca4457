-- One tree more.
use Rattle.std.specs.Prelude.{◌≡◌, ℕ, ◌+◌, ◌<◌, List, [], ◌∷◌, ◌++◌, length, take}
use Rattle.std.proofs.Common.{sym, ◌∙◌, ap, append_assoc, append-nil, get_or}
use Rattle.std.proofs.lemmas.List.{take_more}
use Rattle.lf_msg.specs.Trees.{Flat, flat_all}

flat_last : (ts : List Flat) (t : Flat) → flat_all (ts ++ t ∷ []) ≡ flat_all ts ++ t.messages
flat_last [] t = append-nil t.messages
flat_last (s ∷ ts) t = ap (λ l. s.messages ++ l) (flat_last ts t) ∙ sym (append_assoc s.messages (flat_all ts) t.messages)

pub flat_turn : (ts : List Flat) (i : ℕ) (t : Flat) → i < length ts → t ≡ get_or ts i t → flat_all (take (i + 1) ts) ≡ flat_all (take i ts) ++ t.messages
flat_turn ts i t h is = ap flat_all (take_more ts i t h) ∙ ap (λ x. flat_all (take i ts ++ x ∷ [])) (sym is) ∙ flat_last (take i ts) t
