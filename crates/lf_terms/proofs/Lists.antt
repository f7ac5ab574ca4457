-- Lists of written trees, and back.
use Rattle.std.proofs.Common.{◌≡◌, List, [], ◌∷◌, refl, ap}
use Rattle.lf_syntax.specs.Tree.{TermTree, ItemTree, terms_of, items_of}
use Rattle.lf_elaboration.specs.Terms.{terms_in, items_in}

pub terms_back : (ts : List TermTree) → terms_in (terms_of ts) ≡ ts
terms_back [] = refl
terms_back (t ∷ ts) = ap (λ r. t ∷ r) (terms_back ts)

pub items_back : (is : List ItemTree) → items_in (items_of is) ≡ is
items_back [] = refl
items_back (i ∷ is) = ap (λ r. i ∷ r) (items_back is)
