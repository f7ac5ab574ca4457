-- What the views' answers tell of constants.
use Rattle.std.proofs.Common.{◌≡◌, ℕ, true, Option, Some, None, refl, sym, ap, ◌∙◌}
use Rattle.std.proofs.lemmas.Bool.{cond_both}
use Rattle.lf_core.specs.Term.{Path, Term}
use Rattle.lf_core.specs.declared.constant.ConstInfo.{ConstInfo}
use Rattle.lf_core.specs.declared.constant.ConstKind.{ConstKind}
use Rattle.lf_core.specs.declared.constant.ConstKind.TheVariants.{Axiom, Def, Theorem, Inductive, Constructor, Recursor}
use Rattle.lf_core.specs.Suffix.{is_definition}
use Rattle.lf_checker.specs.View.{View, found, lookup_of, value, opaque, known_body, own_value, find_branch, found_body, body_of}

kind_is_definition : (k : ConstKind) → is_definition k ≡ true → k ≡ Def
kind_is_definition Def e = refl
kind_is_definition Axiom e = cc
kind_is_definition Theorem e = cc
kind_is_definition Inductive e = cc
kind_is_definition Constructor e = cc
kind_is_definition Recursor e = cc

value_known : (o : Option Term) (h i : ℕ) (v : Term) → known_body o h ≡ value v i → o ≡ Some v
value_known (Some w) h i v e = let w' : w ≡ v = cc in ap Some w'
value_known None h i v e = absurd (cc)

definition_known : (c : ConstInfo) (o : Option ℕ) (v : Term) (i : ℕ) → own_value c o ≡ value v i → c.value ≡ Some v
definition_known c (Some p) v i e = absurd (cc)
definition_known c None v i e = value_known c.value c.height i v e

-- A body that is a value is that of a definition.
pub body_is : (V : View) (n : Path) (c : ConstInfo) (v : Term) (i : ℕ) → lookup_of V n ≡ found c → body_of V n ≡ value v i → (c.kind ≡ Def) × (c.value ≡ Some v)
body_is V n c v i q e =
    cond_both (is_definition c.kind) (own_value c (find_branch V.branches c.name)) opaque (λ b. b ≡ value v i → (c.kind ≡ Def) × (c.value ≡ Some v))
    (λ d e'. (kind_is_definition c.kind d, definition_known c (find_branch V.branches c.name) v i e'))
    (λ d e'. absurd (cc))
    (ap (λ l. found_body V n l) (sym q) ∙ e)

pub found_is : (c d : ConstInfo) → found c ≡ found d → c ≡ d
found_is c d e = cc
