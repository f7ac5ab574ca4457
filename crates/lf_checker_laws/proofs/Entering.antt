-- What the tests before a declaration tell: its terms are closed, and its name is new.
use Rattle.std.proofs.Common.{◌≡◌, ℕ, suc, true, ◌&&◌, refl, sym, ◌∙◌, Option, Some, None}
use Rattle.std.proofs.lemmas.Bool.{ltb-true, and_parts}
use Rattle.lf_core.specs.Term.{Path, Term, bound, free, meta, sort, const, app, lam, pi, letin, lit, proj}
use Rattle.lf_core.specs.Scope.{Scoped}
use Rattle.lf_rules.specs.Environment.{Environment, Fresh}
use Rattle.lf_checker.specs.View.{View, Entry, find_entry, lookup_of, There, there, not_there, not_known, there_by, there_of}
use Rattle.lf_checker.specs.Run.{Run}
use Rattle.lf_checker.specs.Checker.{is_closed_under, unless_there}
use Rattle.lf_checker_laws.specs.Soundness.{Post}
use Rattle.lf_checker_laws.specs.Declarations.{HasEntry}
use Rattle.lf_checker_laws.proofs.Tests.{no_false}

pub scoped_is : (d : ℕ) (t : Term) → is_closed_under d t ≡ true → Scoped d 0 t
scoped_is d (bound i) e = ltb-true i d e
scoped_is d (free i) e = no_false e
scoped_is d (meta i) e = no_false e
scoped_is d (sort l) e = tt
scoped_is d (const n ls) e = tt
scoped_is d (app f a) e = let p = and_parts (is_closed_under d f) (is_closed_under d a) e in (scoped_is d f p.0, scoped_is d a p.1)
scoped_is d (lam x A b) e = let p = and_parts (is_closed_under d A) (is_closed_under (suc d) b) e in (scoped_is d A p.0, scoped_is (suc d) b p.1)
scoped_is d (pi x A b) e = let p = and_parts (is_closed_under d A) (is_closed_under (suc d) b) e in (scoped_is d A p.0, scoped_is (suc d) b p.1)
scoped_is d (letin x A v b) e =
    let p = and_parts (is_closed_under d A) (is_closed_under d v && is_closed_under (suc d) b) e in
    let q = and_parts (is_closed_under d v) (is_closed_under (suc d) b) p.1 in
    (scoped_is d A p.0, scoped_is d v q.0, scoped_is (suc d) b q.1)
scoped_is d (lit n) e = tt
scoped_is d (proj s i t) e = scoped_is d t e

pub unless_sound : {A : Type 0} (Q : A → Type 0) (n : Path) (t : There) (m : Run A) (u : ℕ) → (t ≡ not_there → Post Q (m u)) → Post Q (unless_there n t m u)
unless_sound Q n (there p) m u h = tt
unless_sound Q n not_there m u h = h refl
unless_sound Q n (not_known k) m u h = tt

pub not_entry : (V : View) (n : Path) (o : Option Entry) → there_by (lookup_of V n) o ≡ not_there → o ≡ None
not_entry V n (Some e) q = absurd (cc)
not_entry V n None q = refl

some_none : {X : Type 0} {x : X} → Some x ≡ None → ⊥
some_none e = cc

pub fresh_if : (V : View) (E : Environment) (n : Path) → HasEntry V E n → there_of V n ≡ not_there → Fresh E n
fresh_if V E n has q (c, w, e) = some_none (sym (has c w e).1 ∙ not_entry V n (find_entry V.entries n) q)
