-- The walk to axioms on a larger view: what it sees is the same, and the axioms among that stand in the same order.
use Rattle.std.proofs.Common.{
  ◌≡◌,
  ℕ,
  zero,
  suc,
  ◌<◌,
  ◌≤◌,
  Bool,
  true,
  false,
  ◌&&◌,
  if◌then◌else◌,
  List,
  [],
  ◌∷◌,
  ◌++◌,
  Option,
  Some,
  None,
  Contains,
  ◌⊎◌,
  inl,
  inr,
  refl,
  sym,
  ap,
  subst,
  ◌∙◌,
  true≢false,
  arith,
}
use Rattle.lf_core.specs.Term.{Path}
use Rattle.lf_core.specs.Same.{same_path}
use Rattle.lf_core.specs.declared.constant.ConstInfo.{ConstInfo}
use Rattle.lf_core.specs.declared.constant.ConstKind.{ConstKind}
use Rattle.lf_core.specs.declared.constant.ConstKind.TheVariants.{Axiom, Def, Theorem, Inductive, Constructor, Recursor}
use Rattle.lf_name.proofs.Names.{path_is, path_equivalence}
use Rattle.lf_rules.specs.Recursor.{is_among}
use Rattle.lf_checker.specs.View.{
  View,
  Entry,
  is_axiom,
  find_entry,
  Lookup,
  found,
  absent,
  need_body,
  need_real,
  by_entry,
  lookup_of,
  KnownBody,
  value,
  opaque,
  unresolved,
  found_value,
  value_of,
  placed_from,
  placed_of,
}
use Rattle.lf_checker.specs.Extends.{SameFound, SameLookup, SameValue, IsAnswered, position_placed, Tells, Extends}
use Rattle.lf_checker.specs.Whnf.{turn_limit}
use Rattle.lf_extension_laws.proofs.Extended_declarations.{place_of, place_found}
use Rattle.lf_elaboration.specs.Axioms.{
  names_in,
  names_of_detail,
  Task,
  visit,
  read,
  visits,
  Walk,
  ended,
  waits,
  unended,
  walk_on,
  read_on,
  walk,
  axioms_among,
  axioms_by,
}
use Rattle.lf_elaboration_laws.specs.Extension.{KeptWalk, AreDistinct, WalkExtends}
use Rattle.lf_elaboration_laws.proofs.Reached.{cons_cases, here, there, none_in, among_is, is_among_them}

-- ---- The walk itself

same_walk : (w : Walk) → KeptWalk w w
same_walk (ended ns) = refl
same_walk (waits k) = tt
same_walk unended = refl

module _ (U V : View) (x : Extends V U) where
  same_value : (n : Path) (l : Lookup) → lookup_of U n ≡ l → SameLookup l (lookup_of V n) → SameValue (found_value U n l) (value_of V n)
  same_value n (found c) e s = subst (λ l. SameValue (found_value U n l) (value_of V n)) e (x.values n c e)
  same_value n absent e s = subst (λ l. SameValue opaque (found_value V n l)) s refl
  same_value n (need_body p) e s = tt
  same_value n need_real e s = tt

  value_kept : (n : Path) → SameValue (value_of U n) (value_of V n)
  value_kept n = same_value n (lookup_of U n) refl (x.tells.lookups n)

  read_kept : (f g : List Path → List Task → Walk) → ((seen : List Path) (ts : List Task) → KeptWalk (f seen ts) (g seen ts)) → (seen : List Path)
      (ts : List Task) (a b : KnownBody) → SameValue a b → KeptWalk (read_on f seen ts a) (read_on g seen ts b)
  read_kept f g h seen ts (value v i) (value w j) s =
      subst (λ t. KeptWalk (f seen (visits (names_in v) ++ ts)) (g seen (visits (names_in t) ++ ts))) s (h seen (visits (names_in v) ++ ts))
  read_kept f g h seen ts (value v i) opaque s = absurd s
  read_kept f g h seen ts (value v i) (unresolved k) s = absurd s
  read_kept f g h seen ts opaque b s = subst (λ t. KeptWalk (f seen ts) (read_on g seen ts t)) s (h seen ts)
  read_kept f g h seen ts (unresolved k) b s = tt

  visit_kept : (f g : List Path → List Task → Walk) → ((seen : List Path) (ts : List Task) → KeptWalk (f seen ts) (g seen ts)) → (seen : List Path)
      (n : Path) (ts : List Task) (l m : Lookup) → SameLookup l m → KeptWalk (walk_on f U seen n ts l) (walk_on g V seen n ts m)
  visit_kept f g h seen n ts (found c) (found d) s =
      subst (λ k. KeptWalk (walk_on f U seen n ts (found c)) (g (n ∷ seen) (visits (names_in k.ty) ++ (read n ∷ visits (names_of_detail k.detail) ++ ts)))) s
      (h (n ∷ seen) (visits (names_in c.ty) ++ (read n ∷ visits (names_of_detail c.detail) ++ ts)))
  visit_kept f g h seen n ts (found c) absent s = absurd s
  visit_kept f g h seen n ts (found c) (need_body p) s = absurd s
  visit_kept f g h seen n ts (found c) need_real s = absurd s
  visit_kept f g h seen n ts absent m s = subst (λ k. KeptWalk (f seen ts) (walk_on g V seen n ts k)) s (h seen ts)
  visit_kept f g h seen n ts (need_body p) m s = tt
  visit_kept f g h seen n ts need_real m s = tt

  walk_kept : (f : ℕ) (seen : List Path) (ts : List Task) → KeptWalk (walk U f seen ts) (walk V f seen ts)
  walk_kept zero seen ts = refl
  walk_kept (suc f) seen [] = refl
  walk_kept (suc f) seen (visit n ∷ ts) = at (walk_kept f) (is_among n seen)
    where
      at : ((before : List Path) (us : List Task) → KeptWalk (walk U f before us) (walk V f before us)) → (b : Bool)
          → KeptWalk (if b then walk U f seen ts else walk_on (walk U f) U seen n ts (lookup_of U n))
          (if b then walk V f seen ts else walk_on (walk V f) V seen n ts (lookup_of V n))
      at h true = h seen ts
      at h false = visit_kept (walk U f) (walk V f) h seen n ts (lookup_of U n) (lookup_of V n) (x.tells.lookups n)
  walk_kept (suc f) seen (read n ∷ ts) = read_kept (walk U f) (walk V f) (walk_kept f) seen ts (value_of U n) (value_of V n) (value_kept n)

-- What it has seen is found.
abbrev AllFound : View → List Path → Type 0
AllFound V ns = (m : Path) → Contains ns m → (c : ConstInfo) × (lookup_of V m ≡ found c)

module _ (V : View) where
  found_more : (n : Path) (seen : List Path) (c : ConstInfo) → lookup_of V n ≡ found c → AllFound V seen → AllFound V (n ∷ seen)
  found_more n seen c e h m i = at (cons_cases n m seen i)
    where
      at : (n ≡ m) ⊎ Contains seen m → (d : ConstInfo) × (lookup_of V m ≡ found d)
      at (inl q) = subst (λ k. (d : ConstInfo) × (lookup_of V k ≡ found d)) q (c, e)
      at (inr j) = h m j

  walk_finds : (f : ℕ) (seen : List Path) (ts : List Task) → AllFound V seen → (out : List Path) → walk V f seen ts ≡ ended out → AllFound V out
  walk_finds zero seen ts h out e = absurd (cc)
  walk_finds (suc f) seen [] h out e = let q : seen ≡ out = cc in subst (AllFound V) q h
  walk_finds (suc f) seen (visit n ∷ ts) h out e = at (walk_finds f) (is_among n seen) e
    where
      look : ((before : List Path) (us : List Task) → AllFound V before → (end : List Path) → walk V f before us ≡ ended end → AllFound V end)
          → (l : Lookup) → lookup_of V n ≡ l → walk_on (walk V f) V seen n ts l ≡ ended out → AllFound V out
      look on (found c) q i = on (n ∷ seen) _ (found_more n seen c q h) out i
      look on absent q i = on seen ts h out i
      look on (need_body p) q i = absurd (cc)
      look on need_real q i = absurd (cc)

      at : ((before : List Path) (us : List Task) → AllFound V before → (end : List Path) → walk V f before us ≡ ended end → AllFound V end)
          → (b : Bool) → (if b then walk V f seen ts else walk_on (walk V f) V seen n ts (lookup_of V n)) ≡ ended out → AllFound V out
      at on true i = on seen ts h out i
      at on false i = look on (lookup_of V n) refl i
  walk_finds (suc f) seen (read n ∷ ts) h out e = at (walk_finds f) (value_of V n) e
    where
      at : ((before : List Path) (us : List Task) → AllFound V before → (end : List Path) → walk V f before us ≡ ended end → AllFound V end)
          → (b : KnownBody) → read_on (walk V f) seen ts b ≡ ended out → AllFound V out
      at on (value v k) i = on seen _ h out i
      at on opaque i = on seen ts h out i
      at on (unresolved k) i = absurd (cc)

-- ---- Lists that are sorted alike

abbrev Sorted : (Path → Path → Type 0) → List Path → Type 0
Sorted R [] = Unit {0}
Sorted R (x ∷ xs) = ((y : Path) → Contains xs y → R x y) × Sorted R xs

sorted_as : (R S : Path → Path → Type 0) (xs : List Path) → ((y z : Path) → Contains xs y → Contains xs z → R y z → S y z) → Sorted R xs → Sorted S xs
sorted_as R S [] h r = tt
sorted_as R S (x ∷ xs) h r =
    (λ y i. h x y (here x xs) (there x y xs i) (r.0 y i), sorted_as R S xs (λ y z i j. h y z (there x y xs i) (there x z xs j)) r.1)

abbrev Within : List Path → List Path → Type 0
Within xs ys = (z : Path) → Contains xs z → Contains ys z

same_lists : (R S : Path → Path → Type 0) (xs ys : List Path) → Sorted R xs → Sorted S ys → Within xs ys → Within ys xs
    → ((y z : Path) → Contains xs y → Contains xs z → R y z → S z y → ⊥) → ((z : Path) → Contains xs z → R z z → ⊥)
    → ((z : Path) → Contains ys z → S z z → ⊥) → xs ≡ ys
same_lists R S [] [] r s h g a b d = refl
same_lists R S [] (y ∷ ys) r s h g a b d = absurd (none_in y (g y (here y ys)))
same_lists R S (x ∷ xs) [] r s h g a b d = absurd (none_in x (h x (here x xs)))
same_lists R S (x ∷ xs) (y ∷ ys) r s h g a b d =
    let e : x ≡ y = heads (cons_cases x y xs (g y (here y ys))) (cons_cases y x ys (h x (here x xs))) in
    ap (λ z. z ∷ xs) e ∙ ap (λ zs. y ∷ zs) (same_lists R S xs ys r.1 s.1 (left e) (right e)
    (λ u z i j. a u z (there x u xs i) (there x z xs j)) (λ z i. b z (there x z xs i)) (λ z i. d z (there y z ys i)))
  where
    heads : (x ≡ y) ⊎ Contains xs y → (y ≡ x) ⊎ Contains ys x → x ≡ y
    heads (inl q) o = q
    heads (inr i) (inl q) = sym q
    heads (inr i) (inr j) = absurd (a x y (here x xs) (there x y xs i) (r.0 y i) (s.0 x j))

    left : x ≡ y → Within xs ys
    left e z i = at (cons_cases y z ys (h z (there x z xs i)))
      where
        at : (y ≡ z) ⊎ Contains ys z → Contains ys z
        at (inl q) = absurd (b x (here x xs) (r.0 x (subst (Contains xs) (sym (e ∙ q)) i)))
        at (inr j) = j

    right : x ≡ y → Within ys xs
    right e z i = at (cons_cases x z xs (g z (there y z ys i)))
      where
        at : (x ≡ z) ⊎ Contains xs z → Contains xs z
        at (inl q) = absurd (d y (here y ys) (s.0 y (subst (Contains ys) (sym (sym e ∙ q)) i)))
        at (inr j) = j

-- ---- The axioms among names

-- An entry of the name, that is an axiom, with the name among these.
record Listed (out : List Path) (es : List Entry) (m : Path) : Type 0 where
  pub among : Contains out m
  pub entry : Entry
  pub finds : find_entry es m ≡ Some entry
  pub is : is_axiom entry.info.kind ≡ true

module _ (out : List Path) where
  listed_more : (e : Entry) (es : List Entry) → find_entry es e.info.name ≡ None → (m : Path) → Listed out es m → Listed out (e ∷ es) m
  listed_more e es f m l = record { among = l.among; entry = l.entry; finds = at (same_path e.info.name m) refl; is = l.is }
    where
      at : (b : Bool) → same_path e.info.name m ≡ b → (if b then Some e else find_entry es m) ≡ Some l.entry
      at true q = absurd (let n : e.info.name ≡ m = path_is e.info.name m q in
          let c : None ≡ Some l.entry = sym f ∙ ap (find_entry es) n ∙ l.finds in cc)
      at false q = l.finds

  listed_here : (e : Entry) (es : List Entry) → is_axiom e.info.kind ≡ true → is_among e.info.name out ≡ true → Listed out (e ∷ es) e.info.name
  listed_here e es a i = record {
    among = among_is e.info.name out i;
    entry = e;
    finds = at (same_path e.info.name e.info.name) (path_equivalence.refl e.info.name);
    is = a;
  }
    where
      at : (b : Bool) → b ≡ true → (if b then Some e else find_entry es e.info.name) ≡ Some e
      at true q = refl
      at false q = absurd (true≢false (sym q))

  listed_all : (es : List Entry) → AreDistinct es → (m : Path) → Contains (axioms_among out es) m → Listed out es m
  listed_all [] d m i = absurd (none_in m i)
  listed_all (e ∷ es) d m i = at (listed_all es d.1 m) (is_axiom e.info.kind) (is_among e.info.name out) refl refl i
    where
      at : (Contains (axioms_among out es) m → Listed out es m) → (b c : Bool) → is_axiom e.info.kind ≡ b → is_among e.info.name out ≡ c
          → Contains (if b && c then e.info.name ∷ axioms_among out es else axioms_among out es) m → Listed out (e ∷ es) m
      at h true true p q j = by (cons_cases e.info.name m (axioms_among out es) j)
        where
          by : (e.info.name ≡ m) ⊎ Contains (axioms_among out es) m → Listed out (e ∷ es) m
          by (inl r) = subst (Listed out (e ∷ es)) r (listed_here e es p q)
          by (inr l) = listed_more e es d.0 m (h l)
      at h true false p q j = listed_more e es d.0 m (h j)
      at h false c p q j = listed_more e es d.0 m (h j)

  lists_all : (es : List Entry) (m : Path) → Listed out es m → Contains (axioms_among out es) m
  lists_all [] m l = let q = l.finds in absurd (cc)
  lists_all (e ∷ es) m l = at (lists_all es m) (same_path e.info.name m) refl l.finds
    where
      own : e ≡ l.entry → e.info.name ≡ m → (b c : Bool) → is_axiom e.info.kind ≡ b → is_among e.info.name out ≡ c
          → Contains (if b && c then e.info.name ∷ axioms_among out es else axioms_among out es) m
      own r n true true p q = subst (Contains (e.info.name ∷ axioms_among out es)) n (here e.info.name (axioms_among out es))
      own r n true false p q = absurd (true≢false (sym (is_among_them e.info.name out (subst (Contains out) (sym n) l.among)) ∙ q))
      own r n false c p q = absurd (true≢false (sym (ap (λ d. is_axiom d.info.kind) r ∙ l.is) ∙ p))

      more : Contains (axioms_among out es) m → (b : Bool) → Contains (if b then e.info.name ∷ axioms_among out es else axioms_among out es) m
      more i true = there e.info.name m (axioms_among out es) i
      more i false = i

      at : (Listed out es m → Contains (axioms_among out es) m) → (b : Bool) → same_path e.info.name m ≡ b
          → (if b then Some e else find_entry es m) ≡ Some l.entry
          → Contains (axioms_among out (e ∷ es)) m
      at h true q f = let r : e ≡ l.entry = cc in own r (path_is e.info.name m q) (is_axiom e.info.kind) (is_among e.info.name out) refl refl
      at h false q f = more (h (record { among = l.among; entry = l.entry; finds = f; is = l.is })) (is_axiom e.info.kind && is_among e.info.name out)

-- ---- Their order

abbrev Before : ℕ → List Entry → Path → Path → Type 0
Before k es m n = (p q : ℕ × ℕ) → placed_from k es m ≡ Some p → placed_from k es n ≡ Some q → p.1 < q.1

place_at : Option (ℕ × ℕ) → ℕ
place_at (Some q) = q.1
place_at None = 0

at_least : (k : ℕ) (es : List Entry) (n : Path) (p : ℕ × ℕ) → placed_from k es n ≡ Some p → k ≤ p.1
unfolding place_at
at_least k [] n p h = absurd (cc)
at_least k (e ∷ es) n p h = at (at_least (suc k) es n p) (same_path e.info.name n) h
  where
    at : (placed_from (suc k) es n ≡ Some p → suc k ≤ p.1) → (b : Bool) → (if b then Some (e.position, k) else placed_from (suc k) es n) ≡ Some p → k ≤ p.1
    at i true g = let s : k ≡ p.1 = ap place_at g in omega arith
    at i false g = let s : suc k ≤ p.1 = i g in omega arith

module _ (out : List Path) where
  -- Behind an entry of another name.
  behind_entry : (k : ℕ) (e : Entry) (es : List Entry) → find_entry es e.info.name ≡ None → (m : Path) → Listed out es m
      → placed_from k (e ∷ es) m ≡ placed_from (suc k) es m
  behind_entry k e es f m l = at (same_path e.info.name m) refl
    where
      at : (b : Bool) → same_path e.info.name m ≡ b → (if b then Some (e.position, k) else placed_from (suc k) es m) ≡ placed_from (suc k) es m
      at true q = absurd (let n : e.info.name ≡ m = path_is e.info.name m q in
          let c : None ≡ Some l.entry = sym f ∙ ap (find_entry es) n ∙ l.finds in cc)
      at false q = refl

  first_entry : (k : ℕ) (e : Entry) (es : List Entry) → placed_from k (e ∷ es) e.info.name ≡ Some (e.position, k)
  first_entry k e es = at (same_path e.info.name e.info.name) (path_equivalence.refl e.info.name)
    where
      at : (b : Bool) → b ≡ true → (if b then Some (e.position, k) else placed_from (suc k) es e.info.name) ≡ Some (e.position, k)
      at true q = refl
      at false q = absurd (true≢false (sym q))

  sorted_among : (k : ℕ) (es : List Entry) → AreDistinct es → Sorted (Before k es) (axioms_among out es)
  unfolding place_at
  sorted_among k [] d = tt
  sorted_among k (e ∷ es) d = at (sorted_as (Before (suc k) es) (Before k (e ∷ es)) (axioms_among out es) same (sorted_among (suc k) es d.1))
      (is_axiom e.info.kind && is_among e.info.name out)
    where
      same : (y z : Path) → Contains (axioms_among out es) y → Contains (axioms_among out es) z → Before (suc k) es y z → Before k (e ∷ es) y z
      same y z i j h p q f g =
          h p q (sym (behind_entry k e es d.0 y (listed_all out es d.1 y i)) ∙ f) (sym (behind_entry k e es d.0 z (listed_all out es d.1 z j)) ∙ g)

      first : (y : Path) → Contains (axioms_among out es) y → Before k (e ∷ es) e.info.name y
      first y i p q f g =
          let a : k ≡ p.1 = ap place_at (sym (first_entry k e es) ∙ f) in
          let b : suc k ≤ q.1 = at_least (suc k) es y q (sym (behind_entry k e es d.0 y (listed_all out es d.1 y i)) ∙ g) in
          omega arith

      at : Sorted (Before k (e ∷ es)) (axioms_among out es) → (b : Bool)
          → Sorted (Before k (e ∷ es)) (if b then e.info.name ∷ axioms_among out es else axioms_among out es)
      at s true = (first, s)
      at s false = s

-- ---- On two views

axiom_kind : (k : ConstKind) → is_axiom k ≡ true → k ≡ Axiom
axiom_kind Axiom h = refl
axiom_kind Def h = absurd (true≢false (sym h))
axiom_kind Theorem h = absurd (true≢false (sym h))
axiom_kind Inductive h = absurd (true≢false (sym h))
axiom_kind Constructor h = absurd (true≢false (sym h))
axiom_kind Recursor h = absurd (true≢false (sym h))

placed_some : (V : View) (m : Path) (e : Entry) → find_entry V.entries m ≡ Some e → (p : ℕ × ℕ) × (placed_of V m ≡ Some p)
placed_some V m e h = at (placed_of V m) refl
  where
    at : (o : Option (ℕ × ℕ)) → placed_of V m ≡ o → (p : ℕ × ℕ) × (o ≡ Some p)
    at (Some p) q = (p, refl)
    at None q = let c : None ≡ Some e.position = ap position_placed (sym q) ∙ place_found 0 V.entries m ∙ ap place_of h in absurd (cc)

entry_some : (V : View) (m : Path) (i : ℕ) → position_placed (placed_of V m) ≡ Some i → (e : Entry) × (find_entry V.entries m ≡ Some e)
entry_some V m i h = at (find_entry V.entries m) refl
  where
    at : (o : Option Entry) → find_entry V.entries m ≡ o → (e : Entry) × (o ≡ Some e)
    at (Some e) q = (e, refl)
    at None q = let c : None ≡ Some i = sym (ap place_of q) ∙ sym (place_found 0 V.entries m) ∙ h in absurd (cc)

kind_of : Lookup → ConstKind
kind_of (found c) = c.kind
kind_of absent = Def
kind_of (need_body p) = Def
kind_of need_real = Def

same_kinds : (c : ConstInfo) (l : Lookup) → SameFound c l → kind_of l ≡ c.kind
unfolding kind_of
same_kinds c (found d) h = sym (ap (λ k. k.kind) h)
same_kinds c absent h = absurd h
same_kinds c (need_body p) h = absurd h
same_kinds c need_real h = absurd h

module _ (U V : View) (x : Tells V U) (out : List Path) (h : AllFound U out) where
  -- An entry of the one is an entry of the other, of the same kind.
  listed_in_larger : (m : Path) → Listed out U.entries m → Listed out V.entries m
  unfolding kind_of
  listed_in_larger m l =
      let f : lookup_of U m ≡ found l.entry.info = ap (by_entry U m) l.finds in
      let s : SameFound l.entry.info (lookup_of V m) = subst (λ o. SameLookup o (lookup_of V m)) f (x.lookups m) in
      let p : position_placed (placed_of U m) ≡ Some l.entry.position = place_found 0 U.entries m ∙ ap place_of l.finds in
      let e = entry_some V m l.entry.position (sym (x.entries m (subst IsAnswered (sym f) tt)) ∙ p) in
      let k : e.0.info.kind ≡ l.entry.info.kind = sym (ap kind_of (ap (by_entry V m) e.1)) ∙ same_kinds l.entry.info (lookup_of V m) s in
      record { among = l.among; entry = e.0; finds = e.1; is = ap is_axiom k ∙ l.is }

  listed_in_smaller : (m : Path) → Listed out V.entries m → Listed out U.entries m
  unfolding kind_of
  listed_in_smaller m l =
      let c = h m l.among in
      let s : SameFound c.0 (lookup_of V m) = subst (λ o. SameLookup o (lookup_of V m)) c.1 (x.lookups m) in
      let p : position_placed (placed_of V m) ≡ Some l.entry.position = place_found 0 V.entries m ∙ ap place_of l.finds in
      let e = entry_some U m l.entry.position (x.entries m (subst IsAnswered (sym c.1) tt) ∙ p) in
      let k : l.entry.info.kind ≡ c.0.kind = sym (ap kind_of (ap (by_entry V m) l.finds)) ∙ same_kinds c.0 (lookup_of V m) s in
      let i : e.0.info.kind ≡ c.0.kind = sym (ap kind_of (ap (by_entry U m) e.1)) ∙ ap kind_of c.1 in
      record { among = l.among; entry = e.0; finds = e.1; is = ap is_axiom (i ∙ sym k) ∙ l.is }

  opposed : (y z : Path) → Listed out U.entries y → Listed out U.entries z → Before 0 U.entries y z → Before 0 V.entries z y → ⊥
  opposed y z l k r s =
      let ly = listed_in_larger y l in
      let lz = listed_in_larger z k in
      let p = placed_some U y l.entry l.finds in
      let q = placed_some U z k.entry k.finds in
      let p' = placed_some V y ly.entry ly.finds in
      let q' = placed_some V z lz.entry lz.finds in
      let o = x.axioms y z l.entry.info k.entry.info p.0 q.0 p'.0 q'.0 (ap (by_entry U y) l.finds) (axiom_kind l.entry.info.kind l.is)
      (ap (by_entry U z) k.finds) (axiom_kind k.entry.info.kind k.is) p.1 q.1 p'.1 q'.1 in
      let a : p'.0.1 < q'.0.1 = o.0 (r p.0 q.0 p.1 q.1) in
      let b : q'.0.1 < p'.0.1 = s q'.0 p'.0 q'.1 p'.1 in
      omega arith

  before_itself : (W : View) (z : Path) → Listed out W.entries z → Before 0 W.entries z z → ⊥
  before_itself W z l r = let p = placed_some W z l.entry l.finds in let a : p.0.1 < p.0.1 = r p.0 p.0 p.1 p.1 in omega arith

  axioms_kept : AreDistinct U.entries → AreDistinct V.entries → axioms_among out U.entries ≡ axioms_among out V.entries
  axioms_kept d g =
      same_lists (Before 0 U.entries) (Before 0 V.entries) (axioms_among out U.entries) (axioms_among out V.entries) (sorted_among out 0 U.entries d)
      (sorted_among out 0 V.entries g)
      (λ z i. lists_all out V.entries z (listed_in_larger z (listed_all out U.entries d z i)))
      (λ z i. lists_all out U.entries z (listed_in_smaller z (listed_all out V.entries g z i)))
      (λ y z i j. opposed y z (listed_all out U.entries d y i) (listed_all out U.entries d z j))
      (λ z i. before_itself U z (listed_all out U.entries d z i)) (λ z i. before_itself V z (listed_all out V.entries g z i))

pub walk_extends : WalkExtends
walk_extends U V x d g n = at (walk U turn_limit [] (visit n ∷ [])) (walk V turn_limit [] (visit n ∷ [])) refl (walk_kept U V x turn_limit [] (visit n ∷ []))
  where
    at : (w r : Walk) → walk U turn_limit [] (visit n ∷ []) ≡ w → KeptWalk w r → KeptWalk (axioms_by U w) (axioms_by V r)
    at (ended out) r e h =
        let same : axioms_among out U.entries ≡ axioms_among out V.entries =
        axioms_kept U V x.tells out (walk_finds U turn_limit [] (visit n ∷ []) (λ m i. absurd (none_in m i)) out e) d g in
        subst (λ q. KeptWalk (ended (axioms_among out U.entries)) (axioms_by V q)) h (ap ended same)
    at (waits k) r e h = tt
    at unended r e h = subst (λ q. KeptWalk unended (axioms_by V q)) h refl
