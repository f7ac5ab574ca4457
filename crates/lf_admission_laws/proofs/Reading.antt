-- What the walks along a constructor's type accept is what the rules say.
use Rattle.std.proofs.Common.{◌≡◌, ◌⊎◌, inl, inr, ℕ, zero, suc, true, List, [], ◌∷◌, length}
use Rattle.lf_core.specs.Term.{Path, Universe, Term, bound, free, meta, sort, const, app, lam, pi, letin, lit, proj}
use Rattle.lf_core.specs.Same.{same}
use Rattle.lf_rules.specs.Environment.{Environment, Context, with, opened}
use Rattle.lf_rules.specs.Telescope.{Telescope, types, pi_count}
use Rattle.lf_rules.specs.Recursor.{Family}
use Rattle.lf_rules.specs.Inductive.{Fields, end, field, Constructs, fields, parameter, ConstructorsRight, NeverZero, ProofsOrIndices, EliminatesEverywhere}
use Rattle.lf_core.specs.declared.constant.CtorInfo.{CtorInfo}
use Rattle.lf_checker.specs.View.{View}
use Rattle.lf_checker.specs.Run.{refuse, under}
use Rattle.lf_checker.specs.declared.fault.TypeFault.TheVariants.{NotPositive, BadResult, LevelTooHigh}
use Rattle.lf_checker.specs.Calls.{checked, Calls}
use Rattle.lf_checker.specs.Infer.{sort_of}
use Rattle.lf_checker.specs.Admission.{
  is_at_indices,
  is_positive,
  is_low,
  Read,
  admit_end,
  admit_fields,
  admit_constructor,
  admit_constructors,
  is_never_zero,
  are_proofs_or_indices,
  eliminates_everywhere,
}
use Rattle.lf_inductive_laws.specs.Telescopes.{InSorts}
use Rattle.lf_checker_laws.specs.Soundness.{Fits, ContextFits, Post, Sound}
use Rattle.lf_core.proofs.Trees.{term_is}
use Rattle.lf_checker_laws.proofs.Runs.{post_then, post_map, post_named, post_choose, post_opening_then}
use Rattle.lf_checker_laws.proofs.Fitting.{opened_fits, context_with}
use Rattle.lf_checker_laws.proofs.Reduces.{Fit}
use Rattle.lf_checker_laws.proofs.Types.{InSort, sort_sound}
use Rattle.lf_admission_laws.proofs.Forms.{either, at_indices_is, positive_is, low_is, never_zero_is, small_is}
use Rattle.lf_admission_laws.proofs.Constructors.{constructs_typed}

abbrev ReadsFields : Environment → Family → Universe → Context → Term → Read → Type 0
ReadsFields E f r C t k = Fields E f r C t k.levels k.indices

abbrev Reads : Environment → Family → Universe → Telescope → Context → Term → Read → Type 0
Reads E f r xs C t k = Constructs E f r xs C t k.levels k.indices

end_sound : (V : View) (E : Environment) (top : ℕ) (c : Calls) → Sound V E top c → (f : Family) (r : Universe) (n : Path) (C : Context) (t : Term) (u : ℕ)
    → ContextFits V E top C → Fit V E top C t → Post (ReadsFields E f r C t) (admit_end c f n C t u)
end_sound V E top c s f r n C t u fine h =
    let Q : Read → Type 0 = ReadsFields E f r C t in
    post_choose Q (is_at_indices f t) _ (refuse (BadResult n)) u
    (λ e. post_then (InSort E top C t) Q (sort_of c checked C t u) _ (sort_sound V E top c s C t u fine h) λ l v hl. end l (at_indices_is f t e) hl.0)
    (λ e. tt)

fields_sound : (V : View) (E : Environment) (top : ℕ) (c : Calls) → Sound V E top c
    → (f : Family) (r : Universe) (n : Path) (i m : ℕ) (C : Context) (t : Term) (u : ℕ) → ContextFits V E top C → Fit V E top C t
    → Post (ReadsFields E f r C t) (admit_fields c f r n i m C t u)
fields_sound V E top c s f r n i (suc m) C (pi x A B) u fine h =
    let Q : Read → Type 0 = ReadsFields E f r C (pi x A B) in
    let fA : Fit V E top C A = (h.0.0, h.1.0) in
    let fB : Fits V E top 1 (length C) B = (h.0.1, h.1.1) in
    post_then (InSort E top C A) Q (sort_of c checked C A u) _ (sort_sound V E top c s C A u fine fA) λ l v hl.
    post_choose Q (is_positive f A) _ (refuse (NotPositive n i)) v
    (λ p. post_choose Q (is_low l r) _ (refuse (LevelTooHigh n i)) v
    (λ q. post_opening_then Q C B _ v λ w.
    post_then (ReadsFields E f r (with C A) (opened C B)) Q (under x.name (admit_fields c f r n (suc i) m (with C A) (opened C B)) w) _
    (post_named (ReadsFields E f r (with C A) (opened C B)) x.name (admit_fields c f r n (suc i) m (with C A) (opened C B) w)
    (fields_sound V E top c s f r n (suc i) m (with C A) (opened C B) w (context_with V E top C A fine fA) (opened_fits V E top C A B fB))) λ k z hk.
    field l hl.0 (positive_is f A p) (low_is l r q) hk)
    (λ q. tt))
    (λ p. tt)
fields_sound V E top c s f r n i zero C t u fine h = end_sound V E top c s f r n C t u fine h
fields_sound V E top c s f r n i (suc m) C (bound j) u fine h = end_sound V E top c s f r n C (bound j) u fine h
fields_sound V E top c s f r n i (suc m) C (free j) u fine h = end_sound V E top c s f r n C (free j) u fine h
fields_sound V E top c s f r n i (suc m) C (meta j) u fine h = end_sound V E top c s f r n C (meta j) u fine h
fields_sound V E top c s f r n i (suc m) C (sort l) u fine h = end_sound V E top c s f r n C (sort l) u fine h
fields_sound V E top c s f r n i (suc m) C (const d ls) u fine h = end_sound V E top c s f r n C (const d ls) u fine h
fields_sound V E top c s f r n i (suc m) C (app g a) u fine h = end_sound V E top c s f r n C (app g a) u fine h
fields_sound V E top c s f r n i (suc m) C (lam x A b) u fine h = end_sound V E top c s f r n C (lam x A b) u fine h
fields_sound V E top c s f r n i (suc m) C (letin x A v b) u fine h = end_sound V E top c s f r n C (letin x A v b) u fine h
fields_sound V E top c s f r n i (suc m) C (lit j) u fine h = end_sound V E top c s f r n C (lit j) u fine h
fields_sound V E top c s f r n i (suc m) C (proj S j t) u fine h = end_sound V E top c s f r n C (proj S j t) u fine h

constructor_sound : (V : View) (E : Environment) (top : ℕ) (c : Calls) → Sound V E top c
    → (f : Family) (r : Universe) (n : Path) (xs : Telescope) (C : Context) (t : Term) (u : ℕ) → ContextFits V E top C → Fit V E top C t
    → Post (Reads E f r xs C t) (admit_constructor c f r n xs C t u)
constructor_sound V E top c s f r n [] C t u fine h = done_by (admit_fields c f r n 1 (pi_count t) C t u)
    (fields_sound V E top c s f r n 1 (pi_count t) C t u fine h)
  where
    done_by : (o : _) → Post (ReadsFields E f r C t) o → Post (Reads E f r [] C t) o
    done_by o g = post_map (ReadsFields E f r C t) (Reads E f r [] C t) o g (λ k w. fields w)
constructor_sound V E top c s f r n (x ∷ xs) C (pi y A B) u fine h =
    let Q : Read → Type 0 = Reads E f r (x ∷ xs) C (pi y A B) in
    let fA : Fit V E top C A = (h.0.0, h.1.0) in
    let fB : Fits V E top 1 (length C) B = (h.0.1, h.1.1) in
    let P : Read → Type 0 = Reads E f r xs (with C A) (opened C B) in
    post_choose Q (same x.ty A) _ (refuse (BadResult n)) u
    (λ e. post_opening_then Q C B _ u λ v.
    post_named Q y.name (admit_constructor c f r n xs (with C A) (opened C B) v)
    (post_map P Q (admit_constructor c f r n xs (with C A) (opened C B) v)
    (constructor_sound V E top c s f r n xs (with C A) (opened C B) v (context_with V E top C A fine fA) (opened_fits V E top C A B fB)) λ k hk.
    parameter (term_is x.ty A e) hk))
    (λ e. tt)
constructor_sound V E top c s f r n (x ∷ xs) C (bound j) u fine h = tt
constructor_sound V E top c s f r n (x ∷ xs) C (free j) u fine h = tt
constructor_sound V E top c s f r n (x ∷ xs) C (meta j) u fine h = tt
constructor_sound V E top c s f r n (x ∷ xs) C (sort l) u fine h = tt
constructor_sound V E top c s f r n (x ∷ xs) C (const d ls) u fine h = tt
constructor_sound V E top c s f r n (x ∷ xs) C (app g a) u fine h = tt
constructor_sound V E top c s f r n (x ∷ xs) C (lam y A b) u fine h = tt
constructor_sound V E top c s f r n (x ∷ xs) C (letin y A v b) u fine h = tt
constructor_sound V E top c s f r n (x ∷ xs) C (lit j) u fine h = tt
constructor_sound V E top c s f r n (x ∷ xs) C (proj S j t) u fine h = tt

-- ---- All constructors.

abbrev pub ReadsAll : Environment → Family → Universe → List CtorInfo → List Read → Type 0
ReadsAll E f r [] [] = Unit {0}
ReadsAll E f r (c ∷ cs) (k ∷ ks) = Reads E f r f.params [] c.ty k × ReadsAll E f r cs ks
ReadsAll E f r [] (k ∷ ks) = ⊥
ReadsAll E f r (c ∷ cs) [] = ⊥

-- Closed types that name only the list, at levels below `top`.
abbrev pub TypesFit : View → Environment → ℕ → List CtorInfo → Type 0
TypesFit V E top [] = Unit {0}
TypesFit V E top (c ∷ cs) = Fits V E top 0 0 c.ty × TypesFit V E top cs

pub constructors_sound : (V : View) (E : Environment) (top : ℕ) (c : Calls) → Sound V E top c → (f : Family) (r : Universe) (cs : List CtorInfo) (u : ℕ)
    → TypesFit V E top cs → Post (ReadsAll E f r cs) (admit_constructors c f r cs u)
constructors_sound V E top c s f r [] u h = tt
constructors_sound V E top c s f r (k ∷ ks) u h =
    let Q : List Read → Type 0 = ReadsAll E f r (k ∷ ks) in
    post_then (Reads E f r f.params [] k.ty) Q (admit_constructor c f r k.name f.params [] k.ty u) _
    (constructor_sound V E top c s f r k.name f.params [] k.ty u tt h.0) λ read v hk.
    post_then (ReadsAll E f r ks) Q (admit_constructors c f r ks v) _ (constructors_sound V E top c s f r ks v h.1) λ rest w hs.
    (hk, hs)

pub all_right : (V : View) (E : Environment) (top : ℕ) (f : Family) (r : Universe) (cs : List CtorInfo) (ks : List Read) → InSorts E [] (types f.params)
    → TypesFit V E top cs → ReadsAll E f r cs ks → ConstructorsRight E f r cs
all_right V E top f r [] [] p h g = tt
all_right V E top f r (c ∷ cs) (k ∷ ks) p h g =
    let t = constructs_typed g.0 p h.0.0 in
    (record { level = t.0; typed = t.1; levels = k.levels; indices = k.indices; constructs = g.0 }, all_right V E top f r cs ks p h.1 g.1)
all_right V E top f r [] (k ∷ ks) p h g = absurd g
all_right V E top f r (c ∷ cs) [] p h g = absurd g

-- ---- Elimination into every sort.

pub eliminates : (V : View) (E : Environment) (top : ℕ) (f : Family) (r : Universe) (cs : List CtorInfo) (ks : List Read) (p : InSorts E [] (types f.params))
    (h : TypesFit V E top cs) (g : ReadsAll E f r cs ks)
    → eliminates_everywhere f r ks ≡ true → EliminatesEverywhere E f r cs (all_right V E top f r cs ks p h g)
unfolding all_right
eliminates V E top f r [] [] p h g e = tt
eliminates V E top f r (c ∷ []) (k ∷ []) p h g e = one (either (is_never_zero r) (are_proofs_or_indices (length f.params) k.levels k.indices) e)
  where
    one : (is_never_zero r ≡ true) ⊎ (are_proofs_or_indices (length f.params) k.levels k.indices ≡ true)
        → NeverZero r ⊎ ProofsOrIndices (length f.params) k.levels k.indices
    one (inl q) = inl (never_zero_is r q)
    one (inr q) = inr (small_is (length f.params) k.levels k.indices q)
eliminates V E top f r (c ∷ d ∷ cs) (k ∷ j ∷ ks) p h g e = never_zero_is r e
eliminates V E top f r [] (k ∷ ks) p h g e = absurd g
eliminates V E top f r (c ∷ cs) [] p h g e = absurd g
eliminates V E top f r (c ∷ []) (k ∷ j ∷ ks) p h g e = absurd g.1
eliminates V E top f r (c ∷ d ∷ cs) (k ∷ []) p h g e = absurd g.1
