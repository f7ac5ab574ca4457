-- Names and binders that the tests of sameness take for the same are equal.
use Rattle.std.proofs.Common.{◌≡◌, true, false, ◌&&◌, [], ◌∷◌, refl, sym, ap, ◌∙◌, true≢false}
use Rattle.std.specs.Str.{bytes_eq}
use Rattle.std.specs.Cmp.{IsEquivalence}
use Rattle.std.specs.Cmp.Lexicographic.{pointwise, lists_equiv, nat_list_eq_equiv, bytes_decides, pointwise_decides}
use Rattle.std.proofs.lemmas.Bool.{and_parts}
use Rattle.lf_name.specs.Name.{Path}
use Rattle.lf_name.specs.Same.{same_path, same_kind, same_binder}
use Rattle.lf_name.specs.declared.binder.Binder.{Binder}
use Rattle.lf_name.specs.declared.binder.BinderKind.{BinderKind}
use Rattle.lf_name.specs.declared.binder.BinderKind.TheVariants.{Explicit, Implicit, Inst}

same_is_pointwise : (x y : Path) → same_path x y ≡ pointwise bytes_eq x y
same_is_pointwise [] [] = refl
same_is_pointwise [] (y ∷ ys) = refl
same_is_pointwise (x ∷ xs) [] = refl
same_is_pointwise (x ∷ xs) (y ∷ ys) = ap (λ b. bytes_eq x y && b) (same_is_pointwise xs ys)

pub path_is : (x y : Path) → same_path x y ≡ true → x ≡ y
path_is x y h = (pointwise_decides bytes_decides x y).0 (sym (same_is_pointwise x y) ∙ h)

pub path_equivalence : IsEquivalence same_path
path_equivalence =
    let e : IsEquivalence (pointwise bytes_eq) = lists_equiv nat_list_eq_equiv in
    record {
      refl = λ x. same_is_pointwise x x ∙ e.refl x;
      symm = λ x y. same_is_pointwise x y ∙ e.symm x y ∙ sym (same_is_pointwise y x);
      congr = λ x y z h. same_is_pointwise x z ∙ e.congr x y z (sym (same_is_pointwise x y) ∙ h) ∙ sym (same_is_pointwise y z);
    }

pub kind_is : (a b : BinderKind) → same_kind a b ≡ true → a ≡ b
kind_is Explicit Explicit h = refl
kind_is Implicit Implicit h = refl
kind_is Inst Inst h = refl
kind_is _ _ h = absurd (true≢false (sym h))

pub binder_is : (a b : Binder) → same_binder a b ≡ true → a ≡ b
binder_is a b h =
    let p = and_parts (same_path a.name b.name) (same_kind a.kind b.kind) h in
    let n = path_is a.name b.name p.0 in
    let k = kind_is a.kind b.kind p.1 in
    λ i. record { name = n i; kind = k i }
