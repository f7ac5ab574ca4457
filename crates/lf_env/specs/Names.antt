-- Sameness of names is an equivalence, and same names are hashed alike.
use Rattle.std.specs.Prelude.{◌≡◌, Bool, true}
use Rattle.std.proofs.Common.{sym, ◌∙◌, ap}
use Rattle.std.specs.List.{flat_map}
use Rattle.std.specs.Hash as fed
use Rattle.std.specs.Cmp.{IsEquivalence, on_equiv}
use Rattle.lf_name.proofs.Names.{path_is, path_equivalence}
use Rattle.lf_core.specs.Term.{Path}
use Rattle.lf_core.specs.Same.{same_path}
use Rattle.lf_checker.specs.View.{Entry}

-- Entries by their names.
abbrev pub same_entry : Entry → Entry → Bool
same_entry a b = same_path a.info.name b.info.name

pub entry_equivalence : IsEquivalence same_entry
entry_equivalence = on_equiv (λ (e : Entry). e.info.name) path_equivalence

pub path_fed : (x y : Path) → same_path x y ≡ true → flat_map fed.str x ≡ flat_map fed.str y
path_fed x y h = ap (flat_map fed.str) (path_is x y h)

pub path_flipped : (x y : Path) → same_path y x ≡ true → same_path x y ≡ true
path_flipped x y h = path_equivalence.symm x y ∙ h

pub path_congruent : (q x y : Path) → same_path x q ≡ true → same_path y q ≡ same_path x y
path_congruent q x y h = path_equivalence.symm y q ∙ sym (path_equivalence.congr x q y h)
