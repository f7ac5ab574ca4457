-- Laws of lists and tests.
use Rattle.std.proofs.Common.{◌≡◌, ◌<◌, Bool, true, false, ◌&&◌, ◌||◌, List, [], ◌∷◌, ◌++◌, flat_map, length, take, refl, ap, ◌∙◌, append_assoc, arith}
use Rattle.lf_name.specs.Name.{Path}
use Rattle.lf_name.specs.Same.{same_path}
use Rattle.lf_syntax.specs.Tree.{LevelTree, levels_of}
use Rattle.lf_elaboration.specs.References.{level_references, levels_references}
use Rattle.lf_elaboration.specs.Variables.{begins_with}
use Rattle.lf_elaboration.specs.declared.reference.Reference.{Reference}
use Rattle.lf_elaboration.specs.declared.reference.Reference.TheVariants as reference

levels_are : (ls : List LevelTree) → levels_references (levels_of ls) ≡ flat_map level_references ls
levels_are [] = refl
levels_are (l ∷ ls) = ap (λ rs. level_references l ++ rs) (levels_are ls)

-- the references of an identifier with levels
pub behind_name : (all new out : List Reference) (x y : Path) (ls ms : List LevelTree) → new ≡ all ++ reference.Term y ∷ [] → y ≡ x → ms ≡ ls
    → out ≡ new ++ levels_references (levels_of ms) → out ≡ all ++ reference.Term x ∷ flat_map level_references ls
behind_name all new out x y ls ms e f g h =
    h
    ∙ ap (λ v. v ++ levels_references (levels_of ms)) e
    ∙ append_assoc all (reference.Term y ∷ []) (levels_references (levels_of ms))
    ∙ ap (λ v. all ++ reference.Term v ∷ levels_references (levels_of ms)) f
    ∙ ap (λ v. all ++ reference.Term x ∷ levels_references (levels_of v)) g
    ∙ ap (λ v. all ++ reference.Term x ∷ v) (levels_are ls)

pub and_true : (b : Bool) → b && true ≡ b
and_true true = refl
and_true false = refl

pub and_false : (b : Bool) → b && false ≡ false
and_false true = refl
and_false false = refl

pub or_true : (b : Bool) → b || true ≡ true
or_true true = refl
or_true false = refl

pub or_false : (b : Bool) → b || false ≡ b
or_false true = refl
or_false false = refl

-- a name begins with its first part
pub first_part : (x n : Path) → 0 < length n → same_path x (take 1 n) ≡ begins_with x n
first_part x [] h = absurd (omega arith)
first_part x (p ∷ ps) h = refl
