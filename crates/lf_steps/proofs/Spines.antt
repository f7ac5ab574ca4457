-- Heads and arguments.
use Rattle.std.proofs.Common.{◌≡◌, List, [], ◌∷◌, ◌++◌, refl, ap, sym, ◌∙◌, append_assoc}
use Rattle.lf_core.specs.Term.{Term, bound, free, meta, sort, const, app, lam, pi, letin, lit, proj}
use Rattle.lf_core.specs.Spine.{arguments_before, arguments_of}

pub before_append : (t : Term) (xs : List Term) → arguments_before t xs ≡ arguments_of t ++ xs
before_append (app f a) xs = before_append f (a ∷ xs) ∙ sym (append_assoc (arguments_of f) (a ∷ []) xs) ∙ ap (λ ys. ys ++ xs) (sym (before_append f (a ∷ [])))
before_append (bound i) xs = refl
before_append (free k) xs = refl
before_append (meta k) xs = refl
before_append (sort l) xs = refl
before_append (const n ls) xs = refl
before_append (lam x a b) xs = refl
before_append (pi x a b) xs = refl
before_append (letin x a v b) xs = refl
before_append (lit n) xs = refl
before_append (proj s i t) xs = refl
