-- Names that are declared, in a list that the view knows.
use Rattle.std.proofs.Common.{◌≡◌, ℕ, sym, subst, ◌∙◌, Contains}
use Rattle.lf_core.specs.Term.{Path, Term, bound, free, meta, sort, const, app, lam, pi, letin, lit, proj}
use Rattle.lf_rules.specs.Environment.{Environment, Declared, nat, NamesDeclared, LevelsBelow}
use Rattle.lf_checker.specs.View.{View, found, lookup_of}
use Rattle.lf_checker_laws.specs.Soundness.{Held, HeldBeside, Names}
use Rattle.lf_checker_laws.specs.Declarations.{FindsAll, HasBeside}
use Rattle.lf_checker_laws.proofs.Views.{found_is}

pub held_of : (V : View) (E : Environment) → FindsAll V E → (n : Path) → Declared E n → Held V E n
held_of V E k n (d, w, e) c q =
    let f : lookup_of V n ≡ found d = subst (λ m. lookup_of V m ≡ found d) e (k d w) in
    subst (Contains E) (found_is d c (sym f ∙ q)) w

pub names_of : (V : View) (E : Environment) (top : ℕ) → FindsAll V E → HasBeside V E → (t : Term) → NamesDeclared E t → LevelsBelow top t → Names V E top t
names_of V E top k b (bound i) h l = tt
names_of V E top k b (free i) h l = tt
names_of V E top k b (meta i) h l = tt
names_of V E top k b (sort u) h l = l
names_of V E top k b (const n ls) h l = (held_of V E k n h, subst (HeldBeside V E) h.2 (b h.0 h.1), l)
names_of V E top k b (app f a) h l = (names_of V E top k b f h.0 l.0, names_of V E top k b a h.1 l.1)
names_of V E top k b (lam x A t) h l = (names_of V E top k b A h.0 l.0, names_of V E top k b t h.1 l.1)
names_of V E top k b (pi x A t) h l = (names_of V E top k b A h.0 l.0, names_of V E top k b t h.1 l.1)
names_of V E top k b (letin x A v t) h l = (names_of V E top k b A h.0 l.0, names_of V E top k b v h.1 l.1, names_of V E top k b t h.2 l.2)
names_of V E top k b (lit n) h l = held_of V E k nat h
names_of V E top k b (proj s i t) h l = (held_of V E k s h.0, names_of V E top k b t h.1 l)
