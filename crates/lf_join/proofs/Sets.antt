-- One name more in a set, and in a list.
use Rattle.std.proofs.Common.{◌≡◌, Bool, true, false, ◌||◌, ◌++◌, ◌∷◌, [], List, if◌then◌else◌, refl, sym, ap, ◌∙◌, subst}
use Rattle.std.specs.List.{list_any}
use Rattle.lf_core.specs.Term.{Path}
use Rattle.lf_core.specs.Same.{same_path}
use Rattle.lf_name.proofs.Names.{path_is}
use Rattle.lf_rules.specs.Recursor.{is_among}
use Rattle.lf_join.specs.declared.by_name.ByName.{ByName}
use Rattle.lf_join.specs.Sets.{has}

pub or_assoc : (a b c : Bool) → (a || (b || c)) ≡ ((a || b) || c)
or_assoc true b c = refl
or_assoc false b c = refl

pub or_false : (b : Bool) → (b || false) ≡ b
or_false true = refl
or_false false = refl

has_behind : (n : Path) (ks : List ByName) (k : ByName) → has (ks ++ k ∷ []) n ≡ (has ks n || same_path n k.name.now)
has_behind n [] k = or_false (same_path n k.name.now)
has_behind n (j ∷ ks) k = ap (λ b. same_path n j.name.now || b) (has_behind n ks k) ∙ or_assoc (same_path n j.name.now) (has ks n) (same_path n k.name.now)

pub among_behind : (n : Path) (ns : List Path) (m : Path) → is_among n (ns ++ m ∷ []) ≡ (is_among n ns || same_path n m)
among_behind n [] m = or_false (same_path n m)
among_behind n (k ∷ ns) m = ap (λ b. same_path n k || b) (among_behind n ns m) ∙ or_assoc (same_path n k) (is_among n ns) (same_path n m)

-- What is there already changes nothing.
already : (b c : Bool) → (c ≡ true → b ≡ true) → b ≡ (b || c)
already true c h = refl
already false true h = h refl
already false false h = refl

there_already : (n m : Path) (ks : List ByName) → has ks m ≡ true → same_path n m ≡ true → has ks n ≡ true
there_already n m ks h s = subst (λ x. has ks x ≡ true) (sym (path_is n m s)) h

put_in : (b : Bool) (n : Path) (ks : List ByName) (k : ByName) → has ks k.name.now ≡ b
    → has (if b then ks else ks ++ k ∷ []) n ≡ (has ks n || same_path n k.name.now)
put_in true n ks k h = already (has ks n) (same_path n k.name.now) (there_already n k.name.now ks h)
put_in false n ks k h = has_behind n ks k

pub inserted : (n : Path) (ks : List ByName) (k : ByName)
    → has (if list_any (λ j. same_path k.name.now j.name.now) ks then ks else ks ++ k ∷ []) n ≡ (has ks n || same_path n k.name.now)
inserted n ks k = put_in (has ks k.name.now) n ks k refl

pub among_both : (n : Path) (ns ms : List Path) → is_among n (ns ++ ms) ≡ (is_among n ns || is_among n ms)
among_both n [] ms = refl
among_both n (k ∷ ns) ms = ap (λ b. same_path n k || b) (among_both n ns ms) ∙ or_assoc (same_path n k) (is_among n ns) (is_among n ms)
