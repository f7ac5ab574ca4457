-- Rounds over the variables: each takes what the definition takes in one step more, and one that changes nothing is the last.
use Rattle.std.proofs.Common.{◌≡◌, ℕ, suc, zero, ◌+◌, ◌-◌, ◌<◌, ◌≤◌, Bool, true, false, true≢false, cond, not, ◌&&◌, ◌||◌, List, [], ◌∷◌, ◌++◌, map, filter, length, get_or, drop, replicate, refl, sym, ap, ◌∙◌, append_assoc, arith}
use mathlib.Core.Bool.{beq}
use Rattle.std.specs.Cmp.Lexicographic.{pointwise}
use Rattle.std.proofs.lemmas.Bool.{and_parts}
use Rattle.std.proofs.lemmas.List.{drop_more}
use Rattle.lf_name.specs.declared.binder.BinderKind.{BinderKind}
use Rattle.lf_name.specs.declared.binder.BinderKind.TheVariants.{Explicit, Implicit, Inst}
use Rattle.lf_elaboration.specs.References.{term_references}
use Rattle.lf_elaboration.specs.Variables.{any, is_hole, is_named, is_wanted, names_variable, taken, takes, taken_within}
use Rattle.lf_elaboration.specs.declared.reference.Reference.{Reference}
use Rattle.lf_elaboration.specs.declared.variable.Variable.{Variable}
use Rattle.lf_variables.specs.Chosen.{of_types, is_asked_for, chosen}

or_assoc : (a b c : Bool) → (a || b) || c ≡ a || (b || c)
or_assoc true b c = refl
or_assoc false b c = refl

any_append : (p : Reference → Bool) (xs ys : List Reference) → any p (xs ++ ys) ≡ any p xs || any p ys
any_append p [] ys = refl
any_append p (x ∷ xs) ys = ap (λ b. p x || b) (any_append p xs ys) ∙ sym (or_assoc (p x) (any p xs) (any p ys))

any_of_types : (p : Reference → Bool) (vs : List Variable) → any p (of_types vs) ≡ any (λ w. any p (term_references w.ty)) vs
any_of_types p [] = refl
any_of_types p (v ∷ vs) = any_append p (term_references v.ty) (of_types vs) ∙ ap (λ b. any p (term_references v.ty) || b) (any_of_types p vs)

any_none : (vs : List Variable) → any (λ w. false) vs ≡ false
any_none [] = refl
any_none (v ∷ vs) = any_none vs

-- a variable is named by the references of the taken ones' types where the type of one names it
not_hole : (h : Bool) (f : Variable → Bool) (vs : List Variable) → any (λ w. not h && f w) vs ≡ not h && any f vs
not_hole true f vs = any_none vs
not_hole false f vs = refl

or_kept : (h a b : Bool) → not h && (a || b) ≡ (not h && a) || (not h && b)
or_kept true a b = refl
or_kept false a b = refl

wanted : (rs : List Reference) (ts : List Variable) (v : Variable) → is_named (rs ++ of_types ts) v ≡ is_wanted rs ts v
wanted rs ts v =
    let p : Reference → Bool = names_variable v.name.name in
    let h : Bool = is_hole v.name.name in
    ap (λ b. not h && b) (any_append p rs (of_types ts) ∙ ap (λ b. any p rs || b) (any_of_types p ts))
    ∙ or_kept h (any p rs) (any (λ w. any p (term_references w.ty)) ts)
    ∙ ap (λ b. (not h && any p rs) || b) (sym (not_hole h (λ w. any p (term_references w.ty)) ts))

asked_by : (vs : List Variable) (rs : List Reference) (ts : List Variable) (k : BinderKind) (v : Variable)
    → is_asked_for vs (rs ++ of_types ts) ts k v ≡ takes vs rs ts k v
asked_by vs rs ts Explicit v = wanted rs ts v
asked_by vs rs ts Implicit v = wanted rs ts v
asked_by vs rs ts Inst v = refl

asked_for : (vs : List Variable) (rs : List Reference) (ts : List Variable) (all : List Reference) (k : BinderKind) (v : Variable)
    → all ≡ rs ++ of_types ts → is_asked_for vs all ts k v ≡ takes vs rs ts k v
asked_for vs rs ts all k v e = ap (λ r. is_asked_for vs r ts k v) e ∙ asked_by vs rs ts k v

chosen_step : (b : Bool) (v : Variable) (vs : List Variable) (fs : List Bool) (ts : List Variable)
    → chosen vs fs ≡ ts → chosen (v ∷ vs) (b ∷ fs) ≡ cond b (v ∷ ts) ts
chosen_step true v vs fs ts e = ap (λ us. v ∷ us) e
chosen_step false v vs fs ts e = e

-- what a flag for each variable chooses is what the test lets through
chosen_are : (p : Variable → Bool) (vs : List Variable) → chosen vs (map p vs) ≡ filter p vs
chosen_are p [] = refl
chosen_are p (v ∷ vs) = chosen_step (p v) v vs (map p vs) (filter p vs) (chosen_are p vs)

stays : (vs : List Variable) (rs : List Reference) (k d : ℕ) → taken_within (suc k) vs rs ≡ taken_within k vs rs
    → taken_within (k + d) vs rs ≡ taken_within k vs rs
stays vs rs k zero h = let e : k + 0 ≡ k = omega arith in ap (λ n. taken_within n vs rs) e
stays vs rs k (suc d) h =
    let e : k + suc d ≡ suc (k + d) = omega arith in
    ap (λ n. taken_within n vs rs) e ∙ ap (λ ts. filter (λ v. takes vs rs ts v.kind v) vs) (stays vs rs k d h) ∙ h

-- a round that changes nothing is the last
last_round : (vs : List Variable) (rs : List Reference) (k n : ℕ) → k ≤ n → taken_within (suc k) vs rs ≡ taken_within k vs rs
    → taken_within n vs rs ≡ taken_within k vs rs
last_round vs rs k n l h =
    let e : n ≡ k + (n - k) = omega arith in
    ap (λ m. taken_within m vs rs) e ∙ stays vs rs k (n - k) h

-- one variable further
pub round_step : (vs : List Variable) (rs : List Reference) (ts : List Variable) (all : List Reference) (i : ℕ) (v : Variable)
    → (old new whole : List Bool) (b : Bool) → all ≡ rs ++ of_types ts → i < length vs → v ≡ get_or vs i v
    → b ≡ is_asked_for vs all ts v.kind v → new ≡ old ++ b ∷ []
    → old ++ map (λ v. takes vs rs ts v.kind v) (drop i vs) ≡ whole → new ++ map (λ v. takes vs rs ts v.kind v) (drop (i + 1) vs) ≡ whole
round_step vs rs ts all i v old new whole b e l m f g h =
    let d : drop i vs ≡ v ∷ drop (i + 1) vs = drop_more vs i v l ∙ ap (λ u. u ∷ drop (i + 1) vs) (sym m) in
    let r : List Bool = map (λ v. takes vs rs ts v.kind v) (drop (i + 1) vs) in
    ap (λ fs. fs ++ r) g
    ∙ append_assoc old (b ∷ []) r
    ∙ ap (λ c. old ++ c ∷ r) (f ∙ asked_for vs rs ts all v.kind v e)
    ∙ ap (λ us. old ++ map (λ v. takes vs rs ts v.kind v) us) (sym d)
    ∙ h

pub none_chosen : (vs : List Variable) (n : ℕ) → chosen vs (replicate n false) ≡ []
none_chosen [] n = refl
none_chosen (v ∷ vs) zero = refl
none_chosen (v ∷ vs) (suc n) = none_chosen vs n

one_more : (vs : List Variable) (rs : List Reference) (k : ℕ) (all : List Variable) (next : List Bool)
    → all ≡ taken_within k vs rs → next ≡ map (λ v. takes vs rs all v.kind v) vs → chosen vs next ≡ taken_within (suc k) vs rs
one_more vs rs k all next s e =
    ap (λ fs. chosen vs fs) e
    ∙ chosen_are (λ v. takes vs rs all v.kind v) vs
    ∙ ap (λ ts. filter (λ v. takes vs rs ts v.kind v) vs) s

pub next_round : (vs : List Variable) (rs : List Reference) (k : ℕ) (all new : List Variable) (next : List Bool)
    → all ≡ taken_within k vs rs → next ≡ map (λ v. takes vs rs all v.kind v) vs → new ≡ chosen vs next → new ≡ taken_within (k + 1) vs rs
next_round vs rs k all new next s e f =
    let m : suc k ≡ k + 1 = omega arith in
    f ∙ one_more vs rs k all next s e ∙ ap (λ n. taken_within n vs rs) m

-- where a round changes no flag, all are taken
pub all_taken : (vs : List Variable) (rs : List Reference) (k : ℕ) (all : List Variable) (flags next : List Bool) → k < length vs
    → all ≡ chosen vs flags → all ≡ taken_within k vs rs → next ≡ map (λ v. takes vs rs all v.kind v) vs → next ≡ flags → all ≡ taken vs rs
all_taken vs rs k all flags next l t s e f =
    let h : taken_within (suc k) vs rs ≡ taken_within k vs rs = sym (one_more vs rs k all next s e) ∙ ap (λ fs. chosen vs fs) f ∙ sym t ∙ s in
    s ∙ sym (last_round vs rs k (length vs) (omega arith) h)

flag_is : (a b : Bool) → beq a b ≡ true → a ≡ b
flag_is true true h = refl
flag_is true false h = absurd (true≢false (sym h))
flag_is false true h = absurd (true≢false (sym h))
flag_is false false h = refl

pub flags_are : (xs ys : List Bool) → pointwise beq xs ys ≡ true → xs ≡ ys
flags_are [] [] h = refl
flags_are [] (y ∷ ys) h = absurd (true≢false (sym h))
flags_are (x ∷ xs) [] h = absurd (true≢false (sym h))
flags_are (x ∷ xs) (y ∷ ys) h =
    let p = and_parts (beq x y) (pointwise beq xs ys) h in
    let f = flag_is x y p.0 in
    let fs = flags_are xs ys p.1 in
    λ i. f i ∷ fs i
