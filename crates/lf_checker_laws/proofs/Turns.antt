-- What `whnf` gives is equal to what it began with.
use Rattle.std.proofs.Common.{
  ◌≡◌,
  ◌<◌,
  ◌^◌,
  ℕ,
  zero,
  suc,
  ◌+◌,
  nat_eq,
  nat_lt,
  Bool,
  true,
  false,
  ◌&&◌,
  List,
  [],
  ◌∷◌,
  ◌++◌,
  length,
  refl,
  sym,
  ap,
  subst,
  ◌∙◌,
  Option,
  Some,
  None,
  is_some,
  Contains,
}
use Rattle.std.proofs.lemmas.Bool.{cond_both, eqb-true, ltb-true, and_parts}
use Rattle.lf_core.specs.Term.{Path, Universe, Term, bound, free, meta, sort, const, app, lam, pi, letin, lit, proj}
use Rattle.lf_core.specs.Same.{same, same_path}
use Rattle.lf_core.specs.Substitution.{instantiate, level_instantiate}
use Rattle.lf_core.specs.Spine.{apply, head_of, arguments_of}
use Rattle.lf_rules.specs.Environment.{Environment, Context, nat, nat_zero, nat_succ, AllParametersBelow}
use Rattle.lf_core.specs.Literal.{operation_of, literal_operation}
use Rattle.lf_rules.specs.Step.{Step, beta, zeta, delta, literal_zero, literal_succ, operation, literal_term}
use Rattle.lf_rules.specs.Structure.{result_level}
use Rattle.lf_rules.specs.Judgment.{Equal, reflexive, symmetric, transitive, applications, step, literal, Formed, has_type, equal_to, argument}
use Rattle.lf_core.specs.declared.constant.ConstInfo.{ConstInfo}
use Rattle.lf_core.specs.declared.constant.Detail.{Detail}
use Rattle.lf_core.specs.declared.constant.Detail.TheVariants.{Plain, Ind, Ctor, Rec}
use Rattle.lf_core.specs.declared.literal.LitOut.{LitOut}
use Rattle.lf_core.specs.declared.literal.LitOut.TheVariants.{Nat, Bool as Truth}
use Rattle.lf_judgment_laws.proofs.Variables.{rebuilt, apply-append}
use Rattle.lf_checker.specs.View.{View, Lookup, found, absent, need_body, need_real, lookup_of, KnownBody, value, opaque, unresolved, body_of}
use Rattle.lf_checker.specs.Extends.{shape_of}
use Rattle.lf_checker.specs.Run.{Run, gives, choose}
use Rattle.lf_checker.specs.Calls.{Calls, seen_as, see}
use Rattle.lf_checker.specs.Whnf.{
  Progress,
  stays,
  next,
  ends,
  Recursor,
  Split,
  split,
  literal_constructor,
  shared,
  fire,
  put_in,
  is_fieldless,
  put_in_seen,
  is_prop_level,
  like_k,
  or_like_k,
  at_major,
  recursor_turn,
  as_number,
  operated,
  on_numbers,
  operands,
  literal_turn,
  by_body,
  delta_turn,
  detail_turn,
  constant_turn,
  head_turn,
  whnf_turn,
  turn_limit,
  whnf_loop,
  whnf_body,
}
use Rattle.lf_checker_laws.specs.Soundness.{
  Held,
  zero_name,
  true_name,
  false_name,
  HeldBeside,
  Names,
  AllFit,
  ContextFits,
  PartsHeld,
  ClosedList,
  Post,
  Reduct,
  Sound,
}
use Rattle.lf_name.proofs.Names.{path_is}
use Rattle.lf_core.proofs.Trees.{term_is}
use Rattle.lf_checker_laws.proofs.Tests.{no_false}
use Rattle.lf_checker_laws.proofs.Runs.{post_then, post_map, post_choose}
use Rattle.lf_checker_laws.proofs.Fitting.{instantiate_fits, levels_fit, head_fits, arguments_fit, all_front, all_back}
use Rattle.lf_checker_laws.proofs.Forming.{AllFormed, formed_parts, equal_apply}
use Rattle.lf_checker_laws.proofs.Structures.{projection_turn_sound}
use Rattle.lf_checker_laws.proofs.Ends.{Ends}
use Rattle.lf_checker_laws.proofs.Views.{body_is}
use Rattle.lf_checker_laws.proofs.Reduces.{
  Fit,
  Goes,
  goes_from,
  goes_made,
  stepped,
  SplitIs,
  split_is,
  IsRecursor,
  Whole,
  fire_sound,
  constructor_equal,
  constructor_arguments,
  constructor_scoped,
  prop_is,
  IsLikeK,
  put_in_sound,
}

-- ---- The K-like case.

record IsType (E : Environment) (r : Recursor) (t : ConstInfo) (params indices : ℕ) (names : List Path) (large : Bool) : Type 0 where
  within : Contains E t
  name : t.name ≡ r.ind
  detail : t.detail ≡ Ind params indices names large
  prop : is_prop_level (result_level t.ty) ≡ true

fieldless_sound : (V : View) (E : Environment) (top : ℕ) → ClosedList V E → (c : Calls) → Sound V E top c → Ends V c
    → (C : Context) (k t d : ConstInfo) (r : Recursor) (ls : List Universe) (s : Split) (w : Term) (n : Path) (params indices : ℕ) (names : List Path)
    (large : Bool) (e : Detail) (u : ℕ) → ContextFits V E top C
    → IsRecursor V E top C k r ls s → IsType E r t params indices names large → lookup_of V n ≡ found d → d.detail ≡ e → Fit V E top C w
    → Formed E C (Whole k ls s w) → Formed E C w
    → Post (Goes V E top C (Whole k ls s w)) (choose (is_fieldless r e) (put_in V c C ls r s w n) (gives stays) u)
fieldless_sound V E top cl c so en C k t d r ls s w n params indices names large (Ctor ind index own fields) u fine i y q e fw ft fo =
    post_choose (Goes V E top C (Whole k ls s w)) (is_fieldless r (Ctor ind index own fields)) (put_in V c C ls r s w n) (gives stays) u
    (λ b.
    let p = and_parts (same_path ind r.ind) (nat_eq own r.params && nat_eq fields 0) b in
    let p' = and_parts (nat_eq own r.params) (nat_eq fields 0) p.1 in
    let e1 : ind ≡ r.ind = path_is ind r.ind p.0 in
    let e2 : own ≡ r.params = eqb-true own r.params p'.0 in
    let e3 : fields ≡ 0 = eqb-true fields 0 p'.1 in
    let e' : d.detail ≡ Ctor r.ind index r.params 0 = e ∙ (λ j. Ctor (e1 j) index (e2 j) (e3 j)) in
    let wd : Contains E d = (subst (PartsHeld V E (length k.levels)) i.detail (cl.parts k i.within)).1 n d index r.params 0 q e' in
    let l = prop_is (result_level t.ty) y.prop in
    let a : IsLikeK V E r t d n = record {
      type = y.within;
      type_name = y.name;
      params = params;
      indices = indices;
      names = names;
      large = large;
      detail = y.detail;
      level = l.0;
      result = l.1;
      prop = l.2;
      constructor = q;
      within = wd;
      index = index;
      fieldless = e';
    } in
    put_in_sound V E top cl c so en C k t d r ls s w n u fine i a fw ft fo)
    (λ b. tt)
fieldless_sound V E top cl c so en C k t d r ls s w n params indices names large Plain u fine i y q e fw ft fo = tt
fieldless_sound V E top cl c so en C k t d r ls s w n params indices names large (Ind a b g h) u fine i y q e fw ft fo = tt
fieldless_sound V E top cl c so en C k t d r ls s w n params indices names large (Rec a b g h j) u fine i y q e fw ft fo = tt

put_seen_sound : (V : View) (E : Environment) (top : ℕ) → ClosedList V E → (c : Calls) → Sound V E top c → Ends V c
    → (C : Context) (k t : ConstInfo) (r : Recursor) (ls : List Universe) (s : Split) (w : Term) (n : Path) (params indices : ℕ) (names : List Path)
    (large : Bool) (l : Lookup) (u : ℕ) → ContextFits V E top C
    → IsRecursor V E top C k r ls s → IsType E r t params indices names large → lookup_of V n ≡ l → Fit V E top C w → Formed E C (Whole k ls s w) → Formed E C w
    → Post (Goes V E top C (Whole k ls s w)) (put_in_seen V c C ls r s w n (seen_as n l) u)
put_seen_sound V E top cl c so en C k t r ls s w n params indices names large (found d) u fine i y q fw ft fo = fieldless_sound V E top cl c so en C k t d r ls
    s w n params indices names large d.detail u fine i y q refl fw ft fo
put_seen_sound V E top cl c so en C k t r ls s w n params indices names large absent u fine i y q fw ft fo = tt
put_seen_sound V E top cl c so en C k t r ls s w n params indices names large (need_body p) u fine i y q fw ft fo = tt
put_seen_sound V E top cl c so en C k t r ls s w n params indices names large need_real u fine i y q fw ft fo = tt

like_k_sound : (V : View) (E : Environment) (top : ℕ) → ClosedList V E → (c : Calls) → Sound V E top c → Ends V c
    → (C : Context) (k t : ConstInfo) (r : Recursor) (ls : List Universe) (s : Split) (w : Term) (e : Detail) (u : ℕ) → ContextFits V E top C
    → IsRecursor V E top C k r ls s → Contains E t → t.name ≡ r.ind → t.detail ≡ e → Fit V E top C w → Formed E C (Whole k ls s w) → Formed E C w
    → Post (Goes V E top C (Whole k ls s w)) (like_k V c C ls r s w t.ty e u)
like_k_sound V E top cl c so en C k t r ls s w (Ind params indices (n ∷ []) large) u fine i wt nt e fw ft fo =
    post_choose (Goes V E top C (Whole k ls s w)) (is_prop_level (result_level t.ty)) (put_in_seen V c C ls r s w n (see V n)) (gives stays) u
    (λ b. put_seen_sound V E top cl c so en C k t r ls s w n params indices (n ∷ []) large (lookup_of V n) u fine i
    (record { within = wt; name = nt; detail = e; prop = b }) refl fw ft fo)
    (λ b. tt)
like_k_sound V E top cl c so en C k t r ls s w (Ind params indices [] large) u fine i wt nt e fw ft fo = tt
like_k_sound V E top cl c so en C k t r ls s w (Ind params indices (n ∷ m ∷ ns) large) u fine i wt nt e fw ft fo = tt
like_k_sound V E top cl c so en C k t r ls s w Plain u fine i wt nt e fw ft fo = tt
like_k_sound V E top cl c so en C k t r ls s w (Ctor a b g h) u fine i wt nt e fw ft fo = tt
like_k_sound V E top cl c so en C k t r ls s w (Rec a b g h j) u fine i wt nt e fw ft fo = tt

or_like_k_sound : (V : View) (E : Environment) (top : ℕ) → ClosedList V E → (c : Calls) → Sound V E top c → Ends V c
    → (C : Context) (k t : ConstInfo) (r : Recursor) (ls : List Universe) (s : Split) (w : Term) (p : Progress) (u : ℕ) → ContextFits V E top C
    → IsRecursor V E top C k r ls s → Contains E t → t.name ≡ r.ind → Fit V E top C w → Formed E C (Whole k ls s w) → Formed E C w
    → Goes V E top C (Whole k ls s w) p
    → Post (Goes V E top C (Whole k ls s w)) (or_like_k V c C ls r s w (shape_of t) p u)
or_like_k_sound V E top cl c so en C k t r ls s w stays u fine i wt nt fw ft fo h = like_k_sound V E top cl c so en C k t r ls s w t.detail u fine i wt nt refl
    fw ft fo
or_like_k_sound V E top cl c so en C k t r ls s w (next x) u fine i wt nt fw ft fo h = h
or_like_k_sound V E top cl c so en C k t r ls s w (ends x) u fine i wt nt fw ft fo h = h

-- ---- A recursor.

major_sound : (V : View) (E : Environment) (top : ℕ) → ClosedList V E → (c : Calls) → Sound V E top c → Ends V c
    → (C : Context) (k : ConstInfo) (r : Recursor) (ls : List Universe) (s : Split) (l : Lookup) (u : ℕ) → ContextFits V E top C
    → IsRecursor V E top C k r ls s → lookup_of V r.ind ≡ l → Fit V E top C s.major → Formed E C (Whole k ls s s.major)
    → Post (Goes V E top C (Whole k ls s s.major)) (at_major V c C ls r s (seen_as r.ind l) u)
major_sound V E top cl c so en C k r ls s (found t) u fine i q fm ft =
    let f : Term = apply (const k.name ls) s.before in
    let Q : Progress → Type 0 = Goes V E top C (Whole k ls s s.major) in
    let fo : Formed E C s.major = argument (formed_parts E C (app f s.major) s.after ft).0 in
    let wt : Contains E t = (subst (PartsHeld V E (length k.levels)) i.detail (cl.parts k i.within)).0 t q in
    post_then (Reduct V E top C s.major) Q (c.whnf true C s.major u) _ (so.whnf true C s.major u fine fm fo) λ w v hw.
    let to_w : Equal E C (Whole k ls s s.major) (Whole k ls s w) = equal_apply E C (app f s.major) (app f w) s.after (applications (reflexive f) hw.0) in
    let fw : Formed E C (Whole k ls s w) = equal_to ft to_w in
    let ce : Equal E C w (literal_constructor w) = constructor_equal V E top C w hw.1 in
    let to_c : Equal E C (Whole k ls s w) (Whole k ls s (literal_constructor w)) = equal_apply E C (app f w) (app f (literal_constructor w)) s.after
    (applications (reflexive f) ce) in
    post_then (Goes V E top C (Whole k ls s w)) Q (fire V r ls s (literal_constructor w) v) _
    (post_map (Goes V E top C (Whole k ls s (literal_constructor w))) (Goes V E top C (Whole k ls s w)) (fire V r ls s (literal_constructor w) v)
    (fire_sound V E top cl C k r ls s (literal_constructor w) v i (constructor_arguments V E top C w hw.1) (constructor_scoped V E top C w hw.1)
    (equal_to fw to_c)) (λ p g. goes_from V E top C (Whole k ls s w) (Whole k ls s (literal_constructor w)) p to_c g))
    λ p v2 hp.
    post_map (Goes V E top C (Whole k ls s w)) Q (or_like_k V c C ls r s w (shape_of t) p v2)
    (or_like_k_sound V E top cl c so en C k t r ls s w p v2 fine i wt (cl.own_name r.ind t q) hw.1 fw (equal_to fo hw.0) hp)
    (λ p' g. goes_from V E top C (Whole k ls s s.major) (Whole k ls s w) p' to_w g)
major_sound V E top cl c so en C k r ls s absent u fine i q fm ft = tt
major_sound V E top cl c so en C k r ls s (need_body p) u fine i q fm ft = tt
major_sound V E top cl c so en C k r ls s need_real u fine i q fm ft = tt

recursor_sound : (V : View) (E : Environment) (top : ℕ) → ClosedList V E → (c : Calls) → Sound V E top c → Ends V c
    → (C : Context) (t : Term) (k : ConstInfo) (r : Recursor) (ls : List Universe) (xs : List Term) (o : Option Split) (u : ℕ) → ContextFits V E top C
    → Contains E k → k.detail ≡ Rec r.ind r.params r.minors r.indices r.rules → length ls ≡ length k.levels → AllParametersBelow top ls
    → t ≡ apply (const k.name ls) xs → AllFit V E top (length C) xs → Formed E C t → SplitIs (shared r + r.indices) xs o
    → Post (Goes V E top C t) (recursor_turn V c C ls r o u)
recursor_sound V E top cl c so en C t k r ls xs None u fine wk dk lk bl te fx ft si = tt
recursor_sound V E top cl c so en C t k r ls xs (Some s) u fine wk dk lk bl te fx ft si =
    let all : AllFit V E top (length C) (s.before ++ (s.major ∷ s.after)) = subst (AllFit V E top (length C)) si.0 fx in
    let rest : AllFit V E top (length C) (s.major ∷ s.after) = all_back V E top (length C) s.before (s.major ∷ s.after) all in
    let i : IsRecursor V E top C k r ls s = record {
      within = wk;
      detail = dk;
      levels = lk;
      below = bl;
      lead = si.1;
      before = all_front V E top (length C) s.before (s.major ∷ s.after) all;
      after = rest.1;
    } in
    let te' : t ≡ Whole k ls s s.major = te ∙ ap (apply (const k.name ls)) si.0 ∙ apply-append (const k.name ls) s.before (s.major ∷ s.after) in
    subst (λ z. Post (Goes V E top C z) (recursor_turn V c C ls r (Some s) u)) (sym te')
    (major_sound V E top cl c so en C k r ls s (lookup_of V r.ind) u fine i refl rest.0 (subst (Formed E C) te' ft))

-- ---- Literals.

abbrev NumberIs : View → Environment → ℕ → Context → Term → Option ℕ → Type 0
NumberIs V E top C t (Some n) = Equal E C t (lit n) × Held V E nat
NumberIs V E top C t None = Unit {0}

pub zero_parts : (V : View) (E : Environment) (n : Path) (ls : List Universe) → HeldBeside V E n → const n ls ≡ nat_zero → Held V E nat
zero_parts V E n ls h e = let e' : n ≡ zero_name = cc in h.zero e'

number_is : (V : View) (E : Environment) (top : ℕ) (C : Context) (t : Term) → Fit V E top C t → NumberIs V E top C t (as_number t)
number_is V E top C (lit n) h = (reflexive (lit n), h.1)
number_is V E top C (const n ls) h =
    cond_both (same (const n ls) nat_zero) (Some 0) None (NumberIs V E top C (const n ls))
    (λ b.
    let e : const n ls ≡ nat_zero = term_is (const n ls) nat_zero b in
    (subst (λ z. Equal E C z (lit 0)) (sym e) (symmetric (step literal_zero tt (has_type (literal 0)))), zero_parts V E n ls h.1.1 e))
    (λ b. tt)
number_is V E top C (bound i) h = tt
number_is V E top C (free i) h = tt
number_is V E top C (meta i) h = tt
number_is V E top C (sort l) h = tt
number_is V E top C (app f a) h = tt
number_is V E top C (lam x A b) h = tt
number_is V E top C (pi x A b) h = tt
number_is V E top C (letin x A v b) h = tt
number_is V E top C (proj s i t) h = tt

number_from : (V : View) (E : Environment) (top : ℕ) (C : Context) (x a : Term) (o : Option ℕ) → Equal E C x a → NumberIs V E top C a o → NumberIs V E top C x o
number_from V E top C x a (Some n) e h = (transitive e h.0, h.1)
number_from V E top C x a None e h = tt

true_beside : (V : View) (E : Environment) → HeldBeside V E true_name
true_beside V E = record { zero = λ e. absurd (other e); operation = λ i j r e. absurd (cc) }
  where
    other : true_name ≡ zero_name → ⊥
    other e = let f : same_path true_name zero_name ≡ same_path zero_name zero_name = ap (λ n. same_path n zero_name) e in no_false f

false_beside : (V : View) (E : Environment) → HeldBeside V E false_name
false_beside V E = record { zero = λ e. absurd (other e); operation = λ i j r e. absurd (cc) }
  where
    other : false_name ≡ zero_name → ⊥
    other e = let f : same_path false_name zero_name ≡ same_path zero_name zero_name = ap (λ n. same_path n zero_name) e in no_false f

value_fits : (V : View) (E : Environment) (top : ℕ) (C : Context) (n : Path) (i j : ℕ) (r : LitOut) → Held V E nat → HeldBeside V E n
    → literal_operation n i j ≡ Some r → Fit V E top C (literal_term r)
value_fits V E top C n i j (Nat k) held h e = (tt, held)
value_fits V E top C n i j (Truth true) held h e = (tt, (h.operation i j (Truth true) e, true_beside V E, tt))
value_fits V E top C n i j (Truth false) held h e = (tt, (h.operation i j (Truth false) e, false_beside V E, tt))

operated_sound : (V : View) (E : Environment) (top : ℕ) (C : Context) (n : Path) (x y : Term) (i j : ℕ) (o : Option LitOut) (rest : Run Progress) (u : ℕ)
    → Held V E nat → HeldBeside V E n → Equal E C x (lit i) → Equal E C y (lit j) → literal_operation n i j ≡ o
    → Formed E C (app (app (const n []) x) y) → Post (Goes V E top C (app (app (const n []) x) y)) (rest u)
    → Post (Goes V E top C (app (app (const n []) x) y)) (operated o rest u)
operated_sound V E top C n x y i j (Some r) rest u held hb ex ey q ft h =
    let on : Term = app (app (const n []) (lit i)) (lit j) in
    let p : Equal E C (app (app (const n []) x) y) on = applications (applications (reflexive (const n [])) ex) ey in
    (transitive p (step (operation n i j r q) ((tt, tt), tt) (equal_to ft p)), value_fits V E top C n i j r held hb q)
operated_sound V E top C n x y i j None rest u held hb ex ey q ft h = h

numbers_sound : (V : View) (E : Environment) (top : ℕ) (C : Context) (n : Path) (x y : Term) (p q : Option ℕ) (rest : Run Progress) (u : ℕ) → HeldBeside V E n
    → NumberIs V E top C x p → NumberIs V E top C y q
    → Formed E C (app (app (const n []) x) y) → Post (Goes V E top C (app (app (const n []) x) y)) (rest u)
    → Post (Goes V E top C (app (app (const n []) x) y)) (on_numbers n p q rest u)
numbers_sound V E top C n x y (Some i) (Some j) rest u hb ex ey ft h = operated_sound V E top C n x y i j (literal_operation n i j) rest u ex.1 hb ex.0 ey.0
    refl ft h
numbers_sound V E top C n x y (Some i) None rest u hb ex ey ft h = h
numbers_sound V E top C n x y None q rest u hb ex ey ft h = h

operands_sound : (V : View) (E : Environment) (top : ℕ) (c : Calls) → Sound V E top c → (C : Context) (n : Path) (x y : Term) (rest : Run Progress) (u : ℕ)
    → ContextFits V E top C → HeldBeside V E n → Fit V E top C x → Fit V E top C y
    → Formed E C (app (app (const n []) x) y) → ((v : ℕ) → Post (Goes V E top C (app (app (const n []) x) y)) (rest v))
    → Post (Goes V E top C (app (app (const n []) x) y)) (operands c C n x y rest u)
operands_sound V E top c so C n x y rest u fine hb fx fy ft h =
    let Q : Progress → Type 0 = Goes V E top C (app (app (const n []) x) y) in
    let gs : AllFormed E C (x ∷ y ∷ []) = (formed_parts E C (const n []) (x ∷ y ∷ []) ft).1 in
    post_then (Reduct V E top C x) Q (c.whnf true C x u) _ (so.whnf true C x u fine fx gs.0) λ a v ha.
    post_then (Reduct V E top C y) Q (c.whnf true C y v) _ (so.whnf true C y v fine fy gs.1.0) λ b w hb'.
    numbers_sound V E top C n x y (as_number a) (as_number b) rest w hb (number_from V E top C x a (as_number a) ha.0 (number_is V E top C a ha.1))
    (number_from V E top C y b (as_number b) hb'.0 (number_is V E top C b hb'.1)) ft (h w)

pub succ_sound : (V : View) (E : Environment) (top : ℕ) (C : Context) (n : Path) (k : ℕ) → Fit V E top C (lit k)
    → (same (const n []) nat_succ && nat_lt (suc k) (2 ^ 128)) ≡ true → Goes V E top C (app (const n []) (lit k)) (ends (lit (suc k)))
succ_sound V E top C n k fk b =
    let p = and_parts (same (const n []) nat_succ) (nat_lt (suc k) (2 ^ 128)) b in
    let e : const n [] ≡ nat_succ = term_is (const n []) nat_succ p.0 in
    let l : suc k < 2 ^ 128 = ltb-true (suc k) (2 ^ 128) p.1 in
    (subst (λ z. Equal E C (app z (lit k)) (lit (suc k))) (sym e) (symmetric (step (literal_succ k l) tt (has_type (literal (suc k))))), (tt, fk.1))

literal_turn_sound : (V : View) (E : Environment) (top : ℕ) (c : Calls) → Sound V E top c
    → (C : Context) (n : Path) (ls : List Universe) (xs : List Term) (rest : Run Progress) (u : ℕ) → ContextFits V E top C → HeldBeside V E n
    → AllFit V E top (length C) xs
    → Formed E C (apply (const n ls) xs) → ((v : ℕ) → Post (Goes V E top C (apply (const n ls) xs)) (rest v))
    → Post (Goes V E top C (apply (const n ls) xs)) (literal_turn c C n ls xs rest u)
literal_turn_sound V E top c so C n [] (lit k ∷ []) rest u fine hb fx ft h =
    post_choose (Goes V E top C (app (const n []) (lit k))) (same (const n []) nat_succ && nat_lt (suc k) (2 ^ 128)) (gives (ends (lit (suc k)))) rest u
    (λ b. succ_sound V E top C n k fx.0 b) (λ b. h u)
literal_turn_sound V E top c so C n [] (x ∷ y ∷ []) rest u fine hb fx ft h =
    post_choose (Goes V E top C (app (app (const n []) x) y)) (is_some (operation_of n)) (operands c C n x y rest) rest u
    (λ b. operands_sound V E top c so C n x y rest u fine hb fx.0 fx.1.0 ft h) (λ b. h u)
literal_turn_sound V E top c so C n ls xs rest u fine hb fx ft h = h u

-- ---- Definitions.

body_sound : (V : View) (E : Environment) (top : ℕ) → ClosedList V E
    → (C : Context) (k : ConstInfo) (n : Path) (ls : List Universe) (xs : List Term) (b : KnownBody) (u : ℕ) → Contains E k → lookup_of V n ≡ found k
    → length ls ≡ length k.levels → AllParametersBelow top ls → body_of V n ≡ b
    → AllFit V E top (length C) xs → Formed E C (apply (const n ls) xs) → Post (Goes V E top C (apply (const n ls) xs)) (by_body ls xs b u)
body_sound V E top cl C k n ls xs (value v i) u wk q l bl e fx ft =
    let b = body_is V n k v i q e in
    let name : k.name ≡ n = cl.own_name n k q in
    let st : Step E (const n ls) (level_instantiate ls v) = subst (λ m. Step E (const m ls) (level_instantiate ls v)) name (delta k v ls wk b.0 b.1 l) in
    let fv : Fit V E top C (level_instantiate ls v) = levels_fit V E top (length C) (length k.levels) ls v l bl ((cl.closed k wk).value v b.1)
    (cl.values k v wk b.1) in
    goes_made V E top C (apply (const n ls) xs) (level_instantiate ls v) xs u
    (stepped V E top C (apply (const n ls) xs) (const n ls) (level_instantiate ls v) xs refl st tt fv fx ft)
body_sound V E top cl C k n ls xs opaque u wk q l bl e fx ft = tt
body_sound V E top cl C k n ls xs (unresolved j) u wk q l bl e fx ft = tt

delta_sound : (V : View) (E : Environment) (top : ℕ) → ClosedList V E
    → (C : Context) (d : Bool) (k : ConstInfo) (n : Path) (ls : List Universe) (xs : List Term) (u : ℕ) → Contains E k → lookup_of V n ≡ found k
    → length ls ≡ length k.levels → AllParametersBelow top ls
    → AllFit V E top (length C) xs → Formed E C (apply (const n ls) xs) → Post (Goes V E top C (apply (const n ls) xs)) (delta_turn V d n ls xs u)
delta_sound V E top cl C true k n ls xs u wk q l bl fx ft = body_sound V E top cl C k n ls xs (body_of V n) u wk q l bl refl fx ft
delta_sound V E top cl C false k n ls xs u wk q l bl fx ft = tt

-- ---- A turn.

detail_turn_sound : (V : View) (E : Environment) (top : ℕ) → ClosedList V E → (c : Calls) → Sound V E top c → Ends V c
    → (d : Bool) (C : Context) (k : ConstInfo) (n : Path) (ls : List Universe) (xs : List Term) (e : Detail) (u : ℕ) → ContextFits V E top C → HeldBeside V E n
    → AllParametersBelow top ls
    → Contains E k → lookup_of V n ≡ found k → length ls ≡ length k.levels → k.detail ≡ e → AllFit V E top (length C) xs → Formed E C (apply (const n ls) xs)
    → Post (Goes V E top C (apply (const n ls) xs)) (detail_turn V c d C n ls xs e u)
detail_turn_sound V E top cl c so en d C k n ls xs (Rec ind params minors indices rules) u fine hb bl wk q l e fx ft =
    let r : Recursor = record { ind = ind; params = params; minors = minors; indices = indices; rules = rules } in
    let name : k.name ≡ n = cl.own_name n k q in
    let te : apply (const n ls) xs ≡ apply (const k.name ls) xs = ap (λ m. apply (const m ls) xs) (sym name) in
    recursor_sound V E top cl c so en C (apply (const n ls) xs) k r ls xs (split (shared r + indices) xs) u fine wk e l bl te fx ft
    (split_is (shared r + indices) xs)
detail_turn_sound V E top cl c so en d C k n ls xs Plain u fine hb bl wk q l e fx ft = literal_turn_sound V E top c so C n ls xs (delta_turn V d n ls xs) u fine
    hb fx ft (λ v. delta_sound V E top cl C d k n ls xs v wk q l bl fx ft)
detail_turn_sound V E top cl c so en d C k n ls xs (Ind a b g h) u fine hb bl wk q l e fx ft = literal_turn_sound V E top c so C n ls xs
    (delta_turn V d n ls xs) u fine hb fx ft (λ v. delta_sound V E top cl C d k n ls xs v wk q l bl fx ft)
detail_turn_sound V E top cl c so en d C k n ls xs (Ctor a b g h) u fine hb bl wk q l e fx ft = literal_turn_sound V E top c so C n ls xs
    (delta_turn V d n ls xs) u fine hb fx ft (λ v. delta_sound V E top cl C d k n ls xs v wk q l bl fx ft)

constant_sound : (V : View) (E : Environment) (top : ℕ) → ClosedList V E → (c : Calls) → Sound V E top c → Ends V c
    → (d : Bool) (C : Context) (n : Path) (ls : List Universe) (xs : List Term) (l : Lookup) (u : ℕ) → ContextFits V E top C → Names V E top (const n ls)
    → lookup_of V n ≡ l → AllFit V E top (length C) xs → Formed E C (apply (const n ls) xs)
    → Post (Goes V E top C (apply (const n ls) xs)) (constant_turn V c d C n ls xs (seen_as n l) u)
constant_sound V E top cl c so en d C n ls xs (found k) u fine hn q fx ft =
    post_choose (Goes V E top C (apply (const n ls) xs)) (nat_eq (length ls) (length k.levels)) (detail_turn V c d C n ls xs k.detail) (gives stays) u
    (λ b. detail_turn_sound V E top cl c so en d C k n ls xs k.detail u fine hn.1 hn.2 (hn.0 k q) q (eqb-true (length ls) (length k.levels) b) refl fx ft)
    (λ b. tt)
constant_sound V E top cl c so en d C n ls xs absent u fine hn q fx ft = tt
constant_sound V E top cl c so en d C n ls xs (need_body p) u fine hn q fx ft = tt
constant_sound V E top cl c so en d C n ls xs need_real u fine hn q fx ft = tt

head_sound : (V : View) (E : Environment) (top : ℕ) → ClosedList V E → (c : Calls) → Sound V E top c → Ends V c
    → (d : Bool) (C : Context) (h : Term) (xs : List Term) (u : ℕ) → ContextFits V E top C → Fit V E top C h → AllFit V E top (length C) xs
    → Formed E C (apply h xs)
    → Post (Goes V E top C (apply h xs)) (head_turn V c d C h xs u)
head_sound V E top cl c so en d C (letin x A v b) xs u fine fh fx ft =
    goes_made V E top C (apply (letin x A v b) xs) (instantiate b v) xs u
    (stepped V E top C (apply (letin x A v b) xs) (letin x A v b) (instantiate b v) xs refl (zeta x A v b) fh.0
    (instantiate_fits V E top (length C) b v (fh.0.2, fh.1.2) (fh.0.1, fh.1.1)) fx ft)
head_sound V E top cl c so en d C (lam x A b) (a ∷ xs) u fine fh fx ft =
    goes_made V E top C (apply (app (lam x A b) a) xs) (instantiate b a) xs u
    (stepped V E top C (apply (app (lam x A b) a) xs) (app (lam x A b) a) (instantiate b a) xs refl (beta x A b a) (fh.0, fx.0.0)
    (instantiate_fits V E top (length C) b a (fh.0.1, fh.1.1) fx.0) fx.1 ft)
head_sound V E top cl c so en d C (const n ls) xs u fine fh fx ft = constant_sound V E top cl c so en d C n ls xs (lookup_of V n) u fine fh.1 refl fx ft
head_sound V E top cl c so en d C (proj s i t) xs u fine fh fx ft = projection_turn_sound V E top cl c so C s i t xs u fine fh fx ft
head_sound V E top cl c so en d C h xs u fine fh fx ft = tt

loop_sound : (V : View) (E : Environment) (top : ℕ) → ClosedList V E → (c : Calls) → Sound V E top c → Ends V c
    → (d : Bool) (C : Context) (n : ℕ) (t : Term) (u : ℕ) → ContextFits V E top C → Fit V E top C t → Formed E C t
    → Post (Reduct V E top C t) (whnf_loop V c d C n t u)
loop_sound V E top cl c so en d C zero t u fine fi ft = tt
loop_sound V E top cl c so en d C (suc n) t u fine fi ft =
    post_then (Goes V E top C t) (Reduct V E top C t) (whnf_turn V c d C t u) _
    (subst (λ z. Post (Goes V E top C z) (whnf_turn V c d C t u)) (sym (rebuilt t))
    (head_sound V E top cl c so en d C (head_of t) (arguments_of t) u fine (head_fits V E top (length C) t fi) (arguments_fit V E top (length C) t fi)
    (subst (Formed E C) (rebuilt t) ft)))
    (progress (λ r v f g. loop_sound V E top cl c so en d C n r v fine f g))
  where
    progress : ((r : Term) (v : ℕ) → Fit V E top C r → Formed E C r → Post (Reduct V E top C r) (whnf_loop V c d C n r v)) → (p : Progress) (v : ℕ)
        → Goes V E top C t p
        → Post (Reduct V E top C t) ((elim p as (λ z. Run Term) [ stays ↦ gives t | next r ↦ whnf_loop V c d C n r | ends r ↦ gives r ]) v)
    progress more stays v h = (reflexive t, fi)
    progress more (next r) v h = post_map (Reduct V E top C r) (Reduct V E top C t) (whnf_loop V c d C n r v) (more r v h.1 (equal_to ft h.0)) λ q k.
        (transitive h.0 k.0, k.1)
    progress more (ends r) v h = h

pub whnf_sound : (V : View) (E : Environment) (top : ℕ) → ClosedList V E → (c : Calls) → Sound V E top c → Ends V c
    → (d : Bool) (C : Context) (t : Term) (u : ℕ) → ContextFits V E top C → Fit V E top C t → Formed E C t → Post (Reduct V E top C t) (whnf_body V c d C t u)
unfolding whnf_body
whnf_sound V E top cl c so en d C t u fine fi ft = loop_sound V E top cl c so en d C turn_limit t u fine fi ft
