-- Names at the places of a list of entries.
use Rattle.std.specs.Prelude.{◌≡◌, ℕ, zero, suc, ◌&&◌, Option, Some, None, List, [], ◌∷◌, if◌then◌else◌}
use Rattle.lf_core.specs.Term.{Path}
use Rattle.lf_rules.specs.Recursor.{is_among}
use Rattle.lf_checker.specs.View.{View, Entry, is_axiom, Lookup, found, absent, need_body, need_real, lookup_of, placed_of}
use Rattle.lf_elaboration.specs.Axioms.{axioms_among}

-- The name at the place; there is none at the places that are added before it.
abbrev pub with_at : List (Option Path) → ℕ → Path → List (Option Path)
with_at [] zero n = Some n ∷ []
with_at [] (suc k) n = None ∷ with_at [] k n
with_at (s ∷ ss) zero n = Some n ∷ ss
with_at (s ∷ ss) (suc k) n = s ∷ with_at ss k n

abbrev pub somes : List (Option Path) → List Path
somes [] = []
somes (Some n ∷ ss) = n ∷ somes ss
somes (None ∷ ss) = somes ss

abbrev pub place_of : Option (ℕ × ℕ) → Option ℕ
place_of None = None
place_of (Some p) = Some p.1

-- The place of an axiom among the entries.
abbrev pub axiom_place_by : View → Path → Lookup → Option ℕ
axiom_place_by V n (found c) = if is_axiom c.kind then place_of (placed_of V n) else None
axiom_place_by V n absent = None
axiom_place_by V n (need_body p) = None
axiom_place_by V n need_real = None

abbrev pub axiom_place : View → Path → Option ℕ
axiom_place V n = axiom_place_by V n (lookup_of V n)

abbrev pub with_axiom : List (Option Path) → Path → Option ℕ → List (Option Path)
with_axiom ss n None = ss
with_axiom ss n (Some k) = with_at ss k n

-- The slot of an entry: its name, where it is an axiom that was seen.
abbrev pub slot_of : List Path → Entry → Option Path
slot_of seen e = if is_axiom e.info.kind && is_among e.info.name seen then Some e.info.name else None

-- The slots are those of the entries; the entries behind the last have none.
abbrev pub Meets : List (Option Path) → List Path → List Entry → Type 0
Meets [] seen es = axioms_among seen es ≡ []
Meets (s ∷ ss) seen [] = ⊥
Meets (s ∷ ss) seen (e ∷ es) = (s ≡ slot_of seen e) × Meets ss seen es
