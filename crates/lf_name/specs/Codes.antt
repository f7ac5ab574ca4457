-- Codes by which names and binders are told apart.
use Rattle.std.specs.Prelude.{ℕ, zero, suc, List, [], ◌∷◌, ◌≡◌, refl}
use base.Stored.{Gv, gnil, gnum, gcons}
use Rattle.lf_name.specs.Name.{Path}
use Rattle.lf_name.specs.declared.binder.Binder.{Binder}
use Rattle.lf_name.specs.declared.binder.BinderKind.{BinderKind}
use Rattle.lf_name.specs.declared.binder.BinderKind.TheVariants.{Explicit, Implicit, Inst}

abbrev pub word : List ℕ → Gv
word [] = gnil
word (n ∷ ns) = gcons (gnum n) (word ns)

abbrev pub to_word : Gv → List ℕ
to_word (gcons (gnum n) ns) = n ∷ to_word ns
to_word _ = []

pub word_back : (ns : List ℕ) → to_word (word ns) ≡ ns
word_back [] = refl
word_back (n ∷ ns) = λ i. n ∷ word_back ns i

abbrev pub path : Path → Gv
path [] = gnil
path (w ∷ ws) = gcons (word w) (path ws)

abbrev pub to_path : Gv → Path
to_path (gcons w ws) = to_word w ∷ to_path ws
to_path _ = []

pub path_back : (ws : Path) → to_path (path ws) ≡ ws
path_back [] = refl
path_back (w ∷ ws) = λ i. word_back w i ∷ path_back ws i

abbrev pub kind : BinderKind → Gv
kind Explicit = gnil
kind Implicit = gnum 0
kind Inst = gnum 1

abbrev pub to_kind : Gv → BinderKind
to_kind gnil = Explicit
to_kind (gnum zero) = Implicit
to_kind _ = Inst

pub kind_back : (k : BinderKind) → to_kind (kind k) ≡ k
kind_back Explicit = refl
kind_back Implicit = refl
kind_back Inst = refl

abbrev pub binder : Binder → Gv
binder x = gcons (path x.name) (kind x.kind)

abbrev pub to_binder : Gv → Binder
to_binder (gcons p k) = record { name = to_path p; kind = to_kind k }
to_binder _ = record { name = []; kind = Explicit }

pub binder_back : (x : Binder) → to_binder (binder x) ≡ x
binder_back x = λ i. record { name = path_back x.name i; kind = kind_back x.kind i }
