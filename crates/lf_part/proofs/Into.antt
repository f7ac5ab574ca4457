-- One value more, and the others behind it.
use Rattle.std.proofs.Common.{◌≡◌, ℕ, suc, List, [], ◌∷◌, ◌++◌, refl, ap, sym, ◌∙◌, append_assoc}
use Rattle.std.proofs.lemmas.List.{append-nil}
use Rattle.lf_core.specs.Term.{Path, Universe, Term}
use Rattle.lf_syntax.specs.Tree.{LevelTree}
use Rattle.lf_elaboration.specs.Run.{Answer, done, failed, out, need, go_on, gives}
use Rattle.lf_elaboration.specs.Part as part
use Rattle.lf_elaboration.specs.Part.{State, Run, instantiated_all}
use Rattle.lf_elaboration.specs.Identifiers.{level_of, levels_of, fresh_levels}
use Rattle.lf_part.specs.Into.{levels_into, fresh_into, instantiated_into}

put_behind : {A : Type 0} (ready : List A) (y : A) (o : Answer State (List A))
    → go_on (go_on o (λ ys. gives (y ∷ ys))) (λ zs. gives (ready ++ zs)) ≡ go_on o (λ ys. gives ((ready ++ y ∷ []) ++ ys))
put_behind ready y (done ys u s) = ap (λ zs. done zs u s) (sym (append_assoc ready (y ∷ []) ys))
put_behind ready y (failed m u s) = refl
put_behind ready y (out s) = refl
put_behind ready y (need k) = refl

more_behind : {A : Type 0} (ready : List A) (o : Answer State A) (m : Run (List A))
    → go_on (go_on o (λ y v t. go_on (m v t) (λ ys. gives (y ∷ ys)))) (λ zs. gives (ready ++ zs))
    ≡ go_on o (λ y v t. go_on (m v t) (λ ys. gives ((ready ++ y ∷ []) ++ ys)))
more_behind ready (done y v t) m = put_behind ready y (m v t)
more_behind ready (failed e v t) m = refl
more_behind ready (out t) m = refl
more_behind ready (need k) m = refl

none_behind : {A : Type 0} (ready : List A) (u : ℕ) (s : State) → done (ready ++ []) u s ≡ done ready u s
none_behind ready u s = ap (λ zs. done zs u s) (append-nil ready)

behind_none : {A : Type 0} (o : Answer State (List A)) → go_on o (λ ys. gives ([] ++ ys)) ≡ o
behind_none (done ys u s) = refl
behind_none (failed m u s) = refl
behind_none (out s) = refl
behind_none (need k) = refl

bound : {A B : Type 0} (o : Answer State A) (f g : A → Run B) → ((a : A) (u : ℕ) (s : State) → f a u s ≡ g a u s) → go_on o f ≡ go_on o g
bound (done a u s) f g h = h a u s
bound (failed m u s) f g h = refl
bound (out s) f g h = refl
bound (need k) f g h = refl

levels_behind : (names : List Path) (ready : List Universe) (ls : List LevelTree) (u : ℕ) (s : State)
    → levels_into names ready ls u s ≡ go_on (levels_of names ls u s) (λ ys. gives (ready ++ ys))
levels_behind names ready [] u s = sym (none_behind ready u s)
levels_behind names ready (l ∷ ls) u s =
    bound (level_of names l u s) _ _ (λ y v t. levels_behind names (ready ++ y ∷ []) ls v t)
    ∙ sym (more_behind ready (level_of names l u s) (levels_of names ls))

pub levels_nothing : (names : List Path) (ls : List LevelTree) (u : ℕ) (s : State) → levels_of names ls u s ≡ levels_into names [] ls u s
levels_nothing names ls u s = sym (levels_behind names [] ls u s ∙ behind_none (levels_of names ls u s))

instantiated_behind : (ready : List Term) (ts : List Term) (u : ℕ) (s : State)
    → instantiated_into ready ts u s ≡ go_on (instantiated_all ts u s) (λ ys. gives (ready ++ ys))
instantiated_behind ready [] u s = sym (none_behind ready u s)
instantiated_behind ready (t ∷ ts) u s =
    bound (part.instantiated t u s) _ _ (λ y v r. instantiated_behind (ready ++ y ∷ []) ts v r)
    ∙ sym (more_behind ready (part.instantiated t u s) (instantiated_all ts))

pub instantiated_nothing : (ts : List Term) (u : ℕ) (s : State) → instantiated_all ts u s ≡ instantiated_into [] ts u s
instantiated_nothing ts u s = sym (instantiated_behind [] ts u s ∙ behind_none (instantiated_all ts u s))

pub fresh_none : (ready : List Universe) (u : ℕ) (s : State) → fresh_into ready 0 u s ≡ done ready u s
unfolding fresh_into
fresh_none ready u s = none_behind ready u s

pub fresh_more : (ready : List Universe) (n : ℕ) (u : ℕ) (s : State)
    → fresh_into ready (suc n) u s ≡ go_on (part.fresh_level u s) (λ y. fresh_into (ready ++ y ∷ []) n)
unfolding fresh_into
fresh_more ready n u s = more_behind ready (part.fresh_level u s) (fresh_levels n)

pub fresh_nothing : (n u : ℕ) (s : State) → fresh_levels n u s ≡ fresh_into [] n u s
unfolding fresh_into
fresh_nothing n u s = sym (behind_none (fresh_levels n u s))
