-- The names of a declaration that is accepted are declared.
use Rattle.std.proofs.Common.{◌≡◌, ℕ, zero, suc, ◌-◌, nat_eq, if◌then◌else◌, List, [], ◌∷◌, length, subst}
use Rattle.lf_core.specs.Term.{Path, Universe, Term, bound, free, meta, sort, const, app, lam, pi, letin, lit, proj}
use Rattle.lf_core.specs.Same.{same}
use Rattle.lf_core.specs.Substitution.{raise, instantiate_at, instantiate}
use Rattle.lf_rules.specs.Environment.{Environment, Context, with, opened, NamesDeclared}
use Rattle.lf_rules.specs.Telescope.{Telescope, types, pi_count, open_pis}
use Rattle.lf_rules.specs.Recursor.{Family}
use Rattle.lf_rules.specs.Derived.{ConstructorsNamed}
use Rattle.lf_core.specs.declared.constant.ConstInfo.{ConstInfo}
use Rattle.lf_core.specs.declared.constant.CtorInfo.{CtorInfo}
use Rattle.lf_core.specs.declared.constant.IndDecl.{IndDecl}
use Rattle.lf_judgment_laws.proofs.Variables.{by_eq, by_lt}
use Rattle.lf_checker.specs.View.{View, found, lookup_of}
use Rattle.lf_checker.specs.Run.{Answer, refuse, under}
use Rattle.lf_checker.specs.declared.fault.TypeFault.TheVariants.{NotPositive, BadResult, LevelTooHigh}
use Rattle.lf_checker.specs.Calls.{checked, Calls}
use Rattle.lf_checker.specs.Infer.{sort_of}
use Rattle.lf_checker.specs.Admission.{is_at_indices, is_positive, is_low, Read, admit_end, admit_fields, admit_constructor, admit_constructors}
use Rattle.lf_checker_laws.specs.Soundness.{Names, Post}
use Rattle.lf_checker_laws.specs.Declarations.{LiteralsFound, AllFound}
use Rattle.lf_core.proofs.Trees.{term_is}
use Rattle.lf_checker_laws.proofs.Runs.{post_then, post_map, post_named, post_choose, post_opening_then}
use Rattle.lf_checker_laws.proofs.Fitting.{names_instantiate_at, names_below}
use Rattle.lf_checker_laws.proofs.Found.{found_within, Finds, sort_finds, declared_if_found}
use Rattle.lf_admission_laws.specs.Admission.{ConstructorsAsked}

-- ---- Names and literals through a variable put in.

named_within : (E : Environment) (d k : ℕ) (b : Term) → NamesDeclared E (instantiate_at d b (free k)) → NamesDeclared E b
named_within E d k (bound i) h = tt
named_within E d k (free i) h = tt
named_within E d k (meta i) h = tt
named_within E d k (sort l) h = tt
named_within E d k (const n ls) h = h
named_within E d k (app f a) h = (named_within E d k f h.0, named_within E d k a h.1)
named_within E d k (lam x A b) h = (named_within E d k A h.0, named_within E (suc d) k b h.1)
named_within E d k (pi x A b) h = (named_within E d k A h.0, named_within E (suc d) k b h.1)
named_within E d k (letin x A v b) h = (named_within E d k A h.0, named_within E d k v h.1, named_within E (suc d) k b h.2)
named_within E d k (lit n) h = h
named_within E d k (proj S i t) h = (h.0, named_within E d k t h.1)

named_opened : (E : Environment) (d k : ℕ) (b : Term) → NamesDeclared E b → NamesDeclared E (instantiate_at d b (free k))
named_opened E d k (bound i) h =
    by_lt (NamesDeclared E) i d (bound i) (if nat_eq i d then raise 0 d (free k) else bound (i - 1)) (λ e. tt) λ e.
    by_eq (NamesDeclared E) i d (free k) (bound (i - 1)) (λ q. tt) (λ n. tt)
named_opened E d k (free i) h = tt
named_opened E d k (meta i) h = tt
named_opened E d k (sort l) h = tt
named_opened E d k (const n ls) h = h
named_opened E d k (app f a) h = (named_opened E d k f h.0, named_opened E d k a h.1)
named_opened E d k (lam x A b) h = (named_opened E d k A h.0, named_opened E (suc d) k b h.1)
named_opened E d k (pi x A b) h = (named_opened E d k A h.0, named_opened E (suc d) k b h.1)
named_opened E d k (letin x A v b) h = (named_opened E d k A h.0, named_opened E d k v h.1, named_opened E (suc d) k b h.2)
named_opened E d k (lit n) h = h
named_opened E d k (proj S i t) h = (h.0, named_opened E d k t h.1)

literals_opened : (V : View) (d k : ℕ) (b : Term) → LiteralsFound V b → LiteralsFound V (instantiate_at d b (free k))
literals_opened V d k (bound i) h =
    by_lt (LiteralsFound V) i d (bound i) (if nat_eq i d then raise 0 d (free k) else bound (i - 1)) (λ e. tt) λ e.
    by_eq (LiteralsFound V) i d (free k) (bound (i - 1)) (λ q. tt) (λ n. tt)
literals_opened V d k (free i) h = tt
literals_opened V d k (meta i) h = tt
literals_opened V d k (sort l) h = tt
literals_opened V d k (const n ls) h = tt
literals_opened V d k (app f a) h = (literals_opened V d k f h.0, literals_opened V d k a h.1)
literals_opened V d k (lam x A b) h = (literals_opened V d k A h.0, literals_opened V (suc d) k b h.1)
literals_opened V d k (pi x A b) h = (literals_opened V d k A h.0, literals_opened V (suc d) k b h.1)
literals_opened V d k (letin x A v b) h = (literals_opened V d k A h.0, literals_opened V d k v h.1, literals_opened V (suc d) k b h.2)
literals_opened V d k (lit n) h = h
literals_opened V d k (proj S i t) h = literals_opened V d k t h

abbrev pub AllNamed : Environment → List Term → Type 0
AllNamed E [] = Unit {0}
AllNamed E (t ∷ ts) = NamesDeclared E t × AllNamed E ts

-- The domains of a type whose names are declared.
pub domains_named : (E : Environment) (k n : ℕ) (t : Term) → NamesDeclared E t → AllNamed E (types (open_pis k n t).locals)
domains_named E k (suc n) (pi x A B) h = (h.0, domains_named E (suc k) n (instantiate B (free k)) (named_opened E 0 k B h.1))
domains_named E k zero t h = tt
domains_named E k (suc n) t h = tt

-- ---- The walk along a constructor's type finds what its fields and its end name.

end_finds : (V : View) (c : Calls) → Finds V c → (f : Family) (n : Path) (C : Context) (t : Term) (u : ℕ) → Post (λ k. AllFound V t) (admit_end c f n C t u)
end_finds V c s f n C t u =
    let Q : Read → Type 0 = λ k. AllFound V t in
    post_choose Q (is_at_indices f t) _ (refuse (BadResult n)) u
    (λ e. post_then (λ l. AllFound V t) Q (sort_of c checked C t u) _ (sort_finds V c s C t u) λ l v h. h)
    (λ e. tt)

fields_find : (V : View) (c : Calls) → Finds V c → (f : Family) (r : Universe) (n : Path) (i m : ℕ) (C : Context) (t : Term) (u : ℕ)
    → Post (λ k. AllFound V t) (admit_fields c f r n i m C t u)
fields_find V c s f r n i (suc m) C (pi x A B) u =
    let Q : Read → Type 0 = λ k. AllFound V (pi x A B) in
    let P : Read → Type 0 = λ k. AllFound V (opened C B) in
    post_then (λ l. AllFound V A) Q (sort_of c checked C A u) _ (sort_finds V c s C A u) λ l v hA.
    post_choose Q (is_positive f A) _ (refuse (NotPositive n i)) v
    (λ p. post_choose Q (is_low l r) _ (refuse (LevelTooHigh n i)) v
    (λ q. post_opening_then Q C B _ v λ w.
    post_then P Q (under x.name (admit_fields c f r n (suc i) m (with C A) (opened C B)) w) _
    (post_named P x.name (admit_fields c f r n (suc i) m (with C A) (opened C B) w) (fields_find V c s f r n (suc i) m (with C A) (opened C B) w)) λ k z hB.
    (hA, found_within V 0 B (free (length C)) hB))
    (λ q. tt))
    (λ p. tt)
fields_find V c s f r n i zero C t u = end_finds V c s f n C t u
fields_find V c s f r n i (suc m) C (bound j) u = end_finds V c s f n C (bound j) u
fields_find V c s f r n i (suc m) C (free j) u = end_finds V c s f n C (free j) u
fields_find V c s f r n i (suc m) C (meta j) u = end_finds V c s f n C (meta j) u
fields_find V c s f r n i (suc m) C (sort l) u = end_finds V c s f n C (sort l) u
fields_find V c s f r n i (suc m) C (const d ls) u = end_finds V c s f n C (const d ls) u
fields_find V c s f r n i (suc m) C (app g a) u = end_finds V c s f n C (app g a) u
fields_find V c s f r n i (suc m) C (lam x A b) u = end_finds V c s f n C (lam x A b) u
fields_find V c s f r n i (suc m) C (letin x A v b) u = end_finds V c s f n C (letin x A v b) u
fields_find V c s f r n i (suc m) C (lit j) u = end_finds V c s f n C (lit j) u
fields_find V c s f r n i (suc m) C (proj S j t) u = end_finds V c s f n C (proj S j t) u

-- What is the same all the way.
pub record Naming (V : View) (E : Environment) (c : Calls) : Type 0 where
  pub own_name : (n : Path) (k : ConstInfo) → lookup_of V n ≡ found k → k.name ≡ n
  pub finds : Finds V c

-- Its parameters are those of the type, whose names are declared.
constructor_named : (V : View) (E : Environment) (top : ℕ) (c : Calls) → Naming V E c
    → (f : Family) (r : Universe) (n : Path) (xs : Telescope) (C : Context) (t : Term) (u : ℕ) → AllNamed E (types xs) → Names V E top t → LiteralsFound V t
    → Post (λ k. NamesDeclared E t) (admit_constructor c f r n xs C t u)
constructor_named V E top c s f r n [] C t u p h l = done_by (admit_fields c f r n 1 (pi_count t) C t u) (fields_find V c s.finds f r n 1 (pi_count t) C t u)
  where
    done_by : (o : Answer Read) → Post (λ k. AllFound V t) o → Post (λ k. NamesDeclared E t) o
    done_by o g = post_map (λ k. AllFound V t) (λ k. NamesDeclared E t) o g (λ k w. declared_if_found V E top t s.own_name h l w)
constructor_named V E top c s f r n (x ∷ xs) C (pi y A B) u p h l =
    let Q : Read → Type 0 = λ k. NamesDeclared E (pi y A B) in
    let P : Read → Type 0 = λ k. NamesDeclared E (opened C B) in
    post_choose Q (same x.ty A) _ (refuse (BadResult n)) u
    (λ e. post_opening_then Q C B _ u λ v.
    post_named Q y.name (admit_constructor c f r n xs (with C A) (opened C B) v)
    (post_map P Q (admit_constructor c f r n xs (with C A) (opened C B) v)
    (constructor_named V E top c s f r n xs (with C A) (opened C B) v p.1 (names_instantiate_at V E top 0 B (free (length C)) h.1 tt)
    (literals_opened V 0 (length C) B l.1)) λ k hB.
    (subst (NamesDeclared E) (term_is x.ty A e) p.0, named_within E 0 (length C) B hB)))
    (λ e. tt)
constructor_named V E top c s f r n (x ∷ xs) C (bound j) u p h l = tt
constructor_named V E top c s f r n (x ∷ xs) C (free j) u p h l = tt
constructor_named V E top c s f r n (x ∷ xs) C (meta j) u p h l = tt
constructor_named V E top c s f r n (x ∷ xs) C (sort k) u p h l = tt
constructor_named V E top c s f r n (x ∷ xs) C (const d ls) u p h l = tt
constructor_named V E top c s f r n (x ∷ xs) C (app g a) u p h l = tt
constructor_named V E top c s f r n (x ∷ xs) C (lam y A b) u p h l = tt
constructor_named V E top c s f r n (x ∷ xs) C (letin y A v b) u p h l = tt
constructor_named V E top c s f r n (x ∷ xs) C (lit j) u p h l = tt
constructor_named V E top c s f r n (x ∷ xs) C (proj S j t) u p h l = tt

pub constructors_named : (V : View) (E : Environment) (d : IndDecl) (c : Calls) → Naming V E c → (f : Family) (r : Universe) (cs : List CtorInfo) (u : ℕ)
    → AllNamed E (types f.params) → ConstructorsAsked V E (length d.levels) cs
    → Post (λ ks. ConstructorsNamed E d cs) (admit_constructors c f r cs u)
constructors_named V E d c s f r [] u p h = tt
constructors_named V E d c s f r (k ∷ ks) u p h =
    let top : ℕ = length d.levels in
    let Q : List Read → Type 0 = λ reads. ConstructorsNamed E d (k ∷ ks) in
    post_then (λ z. NamesDeclared E k.ty) Q (admit_constructor c f r k.name f.params [] k.ty u) _
    (constructor_named V E top c s f r k.name f.params [] k.ty u p h.0.names h.0.literals) λ read v hk.
    post_then (λ z. ConstructorsNamed E d ks) Q (admit_constructors c f r ks v) _ (constructors_named V E d c s f r ks v p h.1) λ rest w hs.
    ((hk, names_below V E top k.ty h.0.names), hs)
