-- The extension law of the tests of declarations.
use Rattle.std.proofs.Common.{◌≡◌, ℕ, suc, Bool, true, false, ◌&&◌, if◌then◌else◌, List, [], ◌∷◌, Option, Some, None, refl, sym, ap, subst, ◌∙◌}
use Rattle.lf_core.specs.Term.{Path, Term, bound, free, meta, sort, const, app, lam, pi, letin, lit, proj}
use Rattle.lf_core.specs.Same.{same_path}
use Rattle.lf_core.specs.declared.constant.ConstInfo.{ConstInfo}
use Rattle.lf_checker.specs.View.{
  View,
  Entry,
  find_entry,
  placed_from,
  Lookup,
  found,
  absent,
  need_body,
  need_real,
  by_entry,
  lookup_of,
  There,
  there,
  not_there,
  not_known,
  no_entry,
  there_by,
  there_of,
  body_of,
}
use Rattle.lf_checker.specs.Extends.{SameLookup, IsAnswered, position_placed, Tells}
use Rattle.lf_checker.specs.Run.{Run, refuse}
use Rattle.lf_checker.specs.declared.fault.TypeFault.TheVariants.{NotClosed}
use Rattle.lf_checker.specs.Calls.{checked, Seen, known, unknown, missing, see}
use Rattle.lf_checker.specs.Infer.{sort_of}
use Rattle.lf_checker.specs.Checker.{
  calls,
  is_closed,
  is_value_closed,
  unless_there,
  body_height,
  seen_height,
  greatest_height,
  height_of,
  add_header,
  check_value,
  add_decl,
}
use Rattle.lf_extension_laws.specs.Extension.{Kept, Agree}
use Rattle.lf_extension_laws.proofs.Kept.{kept_self, kept_then, kept_choose, see_kept, body_kept, kept_seen, kept_body}
use Rattle.lf_extension_laws.proofs.Extended.{kept_sort, calls_kept}

abbrev pub place_of : Option Entry → Option ℕ
place_of (Some e) = Some e.position
place_of None = None

pub place_found : (i : ℕ) (es : List Entry) (n : Path) → position_placed (placed_from i es n) ≡ place_of (find_entry es n)
place_found i [] n = refl
place_found i (e ∷ es) n = at (same_path e.info.name n) (place_found (suc i) es n)
  where
    at : (b : Bool) → position_placed (placed_from (suc i) es n) ≡ place_of (find_entry es n)
        → position_placed (if b then Some (e.position, i) else placed_from (suc i) es n) ≡ place_of (if b then Some e else find_entry es n)
    at true h = refl
    at false h = h

abbrev pub SameThere : There → There → Type 0
SameThere (not_known k) t = Unit {0}
SameThere s t = s ≡ t

-- An entry of the first is an entry of the second, at the same place.
entry_kept : (V : View) (n : Path) (p : ℕ) (o : Option Entry) → Some p ≡ place_of o → there p ≡ there_by (lookup_of V n) o
entry_kept V n p (Some e) h = let h' : p ≡ e.position = cc in ap there h'
entry_kept V n p None h = absurd (cc)

-- No entry of the first is none of the second.
absent_kept : (V : View) (n : Path) (o : Option Entry) → None ≡ place_of o → IsAnswered (lookup_of V n) → not_there ≡ there_by (lookup_of V n) o
absent_kept V n (Some e) h a = absurd (cc)
absent_kept V n None h a = at (lookup_of V n) a
  where
    at : (l : Lookup) → IsAnswered l → not_there ≡ no_entry l
    at (found c) b = refl
    at absent b = refl
    at (need_body p) b = absurd b
    at need_real b = refl

same_answered : (l m : Lookup) → IsAnswered l → SameLookup l m → (l ≡ need_real → IsAnswered m) → IsAnswered m
same_answered (found c) (found d) a s r = tt
same_answered (found c) absent a s r = tt
same_answered (found c) (need_body p) a s r = absurd s
same_answered (found c) need_real a s r = tt
same_answered absent m a s r = subst IsAnswered s tt
same_answered (need_body p) m a s r = absurd a
same_answered need_real m a s r = r refl

by_no_entry : (U V : View) → Tells V U → (n : Path) (l : Lookup) → lookup_of U n ≡ l → find_entry U.entries n ≡ None → SameThere (no_entry l) (there_of V n)
by_no_entry U V x n (need_body p) e o = tt
by_no_entry U V x n (found c) e o =
    absent_kept V n (find_entry V.entries n) (sym (ap place_of o) ∙ sym (place_found 0 U.entries n) ∙ x.entries n (subst IsAnswered (sym e) tt) ∙ place_found 0
    V.entries n)
    (same_answered (lookup_of U n) (lookup_of V n) (subst IsAnswered (sym e) tt) (x.lookups n) (x.reals n))
by_no_entry U V x n absent e o =
    absent_kept V n (find_entry V.entries n) (sym (ap place_of o) ∙ sym (place_found 0 U.entries n) ∙ x.entries n (subst IsAnswered (sym e) tt) ∙ place_found 0
    V.entries n)
    (same_answered (lookup_of U n) (lookup_of V n) (subst IsAnswered (sym e) tt) (x.lookups n) (x.reals n))
by_no_entry U V x n need_real e o =
    absent_kept V n (find_entry V.entries n) (sym (ap place_of o) ∙ sym (place_found 0 U.entries n) ∙ x.entries n (subst IsAnswered (sym e) tt) ∙ place_found 0
    V.entries n)
    (same_answered (lookup_of U n) (lookup_of V n) (subst IsAnswered (sym e) tt) (x.lookups n) (x.reals n))

there_by_entry : (U V : View) → Tells V U → (n : Path) (o : Option Entry) → find_entry U.entries n ≡ o → SameThere (there_by (lookup_of U n) o) (there_of V n)
there_by_entry U V x n (Some e) q =
    entry_kept V n e.position (find_entry V.entries n)
    (sym (ap place_of q) ∙ sym (place_found 0 U.entries n) ∙ x.entries n (subst IsAnswered (sym (ap (by_entry U n) q)) tt) ∙ place_found 0 V.entries n)
there_by_entry U V x n None q = by_no_entry U V x n (lookup_of U n) refl q

pub there_kept : (U V : View) → Tells V U → (n : Path) → SameThere (there_of U n) (there_of V n)
there_kept U V x n = there_by_entry U V x n (find_entry U.entries n) refl

-- What follows the test of a name has to be kept where the name isn't there.
pub kept_unless : {A : Type 0} (n : Path) (s t : There) (m k : Run A) (u : ℕ) → SameThere s t → (s ≡ not_there → Kept (m u) (k u))
    → Kept (unless_there n s m u) (unless_there n t k u)
kept_unless n (there p) t m k u e h = subst (λ r. Kept (unless_there n (there p) m u) (unless_there n r k u)) e refl
kept_unless n not_there t m k u e h = subst (λ r. Kept (m u) (unless_there n r k u)) e (h refl)
kept_unless n (not_known i) t m k u e h = tt

-- Heights

kept_seen_height : (U V : View) → Tells V U → (n : Path) (q : Seen) (u : ℕ) → Kept (seen_height U n q u) (seen_height V n q u)
kept_seen_height U V x n (known k) u = kept_body (body_of U n) (body_of V n) (λ b. body_height b u) (λ b. body_height b u) (λ i. refl)
    (λ b. kept_self (body_height b u)) (body_kept U V x n)
kept_seen_height U V x n unknown u = refl
kept_seen_height U V x n (missing k) u = tt

ruleset kept = (kept_self, kept_then, kept_choose)

kept_height_in : (U V : View) → Tells V U → (t : Term) (u : ℕ) → Kept (greatest_height U t u) (greatest_height V t u)
kept_height_in U V x (const n ls) u = kept_seen (see U n) (see V n) (λ q. seen_height U n q u) (λ q. seen_height V n q u) (λ k. refl)
    (λ q. kept_seen_height U V x n q u) (see_kept U V x n)
kept_height_in U V x (app f a) u =
    let l : (v : ℕ) → Kept (greatest_height U f v) (greatest_height V f v) = λ v. kept_height_in U V x f v in
    let r : (v : ℕ) → Kept (greatest_height U a v) (greatest_height V a v) = λ v. kept_height_in U V x a v in
    search (kept, l, r) depth 8
kept_height_in U V x (lam y A b) u =
    let l : (v : ℕ) → Kept (greatest_height U A v) (greatest_height V A v) = λ v. kept_height_in U V x A v in
    let r : (v : ℕ) → Kept (greatest_height U b v) (greatest_height V b v) = λ v. kept_height_in U V x b v in
    search (kept, l, r) depth 8
kept_height_in U V x (pi y A b) u =
    let l : (v : ℕ) → Kept (greatest_height U A v) (greatest_height V A v) = λ v. kept_height_in U V x A v in
    let r : (v : ℕ) → Kept (greatest_height U b v) (greatest_height V b v) = λ v. kept_height_in U V x b v in
    search (kept, l, r) depth 8
kept_height_in U V x (letin y A w b) u =
    let l : (v : ℕ) → Kept (greatest_height U A v) (greatest_height V A v) = λ v. kept_height_in U V x A v in
    let m : (v : ℕ) → Kept (greatest_height U w v) (greatest_height V w v) = λ v. kept_height_in U V x w v in
    let r : (v : ℕ) → Kept (greatest_height U b v) (greatest_height V b v) = λ v. kept_height_in U V x b v in
    search (kept, l, m, r) depth 10
kept_height_in U V x (bound i) u = refl
kept_height_in U V x (free i) u = refl
kept_height_in U V x (meta i) u = refl
kept_height_in U V x (sort l) u = refl
kept_height_in U V x (lit n) u = refl
kept_height_in U V x (proj s i t) u = kept_height_in U V x t u

kept_height : (U V : View) → Tells V U → (t : Term) (u : ℕ) → Kept (height_of U t u) (height_of V t u)
kept_height U V x t u = search (kept, kept_height_in U V x) depth 8

kept_check_value : (U V : View) → Tells V U → (depth : ℕ) (ty : Term) (o : Option Term) (u : ℕ) → Kept (check_value U depth ty o u) (check_value V depth ty o u)
kept_check_value U V x depth ty None u = refl
kept_check_value U V x depth ty (Some v) u =
    let a : Agree (calls U depth) (calls V depth) = calls_kept U V x depth in
    kept_then ((calls U depth).infer checked [] v u) ((calls V depth).infer checked [] v u) _ _ (a.infer checked [] v u) λ X w.
    kept_then ((calls U depth).equal [] X ty w) ((calls V depth).equal [] X ty w) _ _ (a.equal [] X ty w) λ r z.
    kept_choose r (height_of U v) _ (height_of V v) _ z (kept_height U V x v z) refl

pub header_kept : (U V : View) → Tells V U → (depth : ℕ) (n : Path) (ty : Term) (u : ℕ) → Kept (add_header U depth n ty u) (add_header V depth n ty u)
header_kept U V x depth n ty u =
    kept_choose (is_closed ty) (unless_there n (there_of U n) (sort_of (calls U depth) checked [] ty)) (refuse NotClosed)
    (unless_there n (there_of V n) (sort_of (calls V depth) checked [] ty)) (refuse NotClosed) u
    (kept_unless n (there_of U n) (there_of V n) (sort_of (calls U depth) checked [] ty) (sort_of (calls V depth) checked [] ty) u (there_kept U V x n)
    (λ e. kept_sort (calls U depth) (calls V depth) (calls_kept U V x depth) checked [] ty u)) refl

pub decl_kept : (U V : View) → Tells V U → (depth : ℕ) (c : ConstInfo) (u : ℕ) → Kept (add_decl U depth c u) (add_decl V depth c u)
decl_kept U V x depth c u =
    kept_choose (is_closed c.ty && is_value_closed c.value) (unless_there c.name (there_of U c.name) (check_value U depth c.ty c.value)) (refuse NotClosed)
    (unless_there c.name (there_of V c.name) (check_value V depth c.ty c.value)) (refuse NotClosed) u
    (kept_unless c.name (there_of U c.name) (there_of V c.name) (check_value U depth c.ty c.value) (check_value V depth c.ty c.value) u
    (there_kept U V x c.name) (λ e. kept_check_value U V x depth c.ty c.value u)) refl
