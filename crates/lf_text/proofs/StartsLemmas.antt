use Rattle.std.proofs.Common.{
  ◌≡◌,
  ℕ,
  ◌+◌,
  ◌-◌,
  ◌≤◌,
  ◌<◌,
  List,
  [],
  ◌∷◌,
  ◌++◌,
  length,
  take,
  drop,
  get_or,
  Bool,
  true,
  false,
  cond,
  not,
  ◌==◌,
  refl,
  sym,
  ap,
  ◌∙◌,
  subst,
  arith,
  zero,
  suc,
  count_by,
  leb,
  true≢false,
  add-one,
  ◌≢◌,
  ⊎_elim,
}
use Rattle.std.specs.List.{suffix_len, after_last}
use Rattle.std.specs.List.Sorted.{IsNonDecreasingBy, IsPartitionPoint, IsPartitionedBy}
use Rattle.std.proofs.lemmas.List.Sums.{suffix_len_is}
use Rattle.std.proofs.lemmas.List.Sorted.{IsPartitionedBy-leb}
use Rattle.std.proofs.lemmas.List.Recursion.{is_count_by}
use Rattle.std.proofs.lemmas.Bool.{cases_lt, eqb-true, leb-true, leb-false}
use Rattle.std.proofs.lemmas.Bool.Decides.{eqb_tells}
use Rattle.std.proofs.lemmas.List.{get_or-take, length-take-le, drop-take}
use Rattle.std.proofs.lemmas.Grind.{get_or_default_zero}
use Rattle.std.proofs.lemmas.Str.{IsCharBoundary-start, IsCharBoundary-after_ascii}
use Rattle.std.specs.Str.{IsUtf8, IsCharBoundary}
use Rattle.lf_text.specs.Place.{is_line_feed}
use Rattle.lf_text.specs.Starts.{line_starts}

-- the list of one place, where the test passed
abbrev one : Bool → ℕ → List ℕ
one b k = cond b ((k + 1) ∷ []) []

-- each place is that behind a line feed
pub record Behind (k : ℕ) (bytes : List ℕ) (place : ℕ) : Type 0 where
  pub above : k < place
  pub within : place ≤ k + length bytes
  pub feed : get_or bytes (place - k - 1) 0 ≡ 10

ten : (b : ℕ) → (b == 10) ≡ true → b ≡ 10
ten b e = eqb-true b 10 e

not_ten : (b : ℕ) → (b == 10) ≡ false → b ≡ 10 → ⊥
not_ten b e h = true≢false (sym (subst (λ (c : ℕ). (c == 10) ≡ true) (sym h) refl) ∙ e)

here : (k b : ℕ) (bytes : List ℕ) → (b == 10) ≡ true → Behind k (b ∷ bytes) (k + 1)
here k b bytes e = record {
  above = omega arith;
  within = omega arith;
  feed = let a : 0 ≡ k + 1 - k - 1 = omega arith in subst (λ (i : ℕ). get_or (b ∷ bytes) i 0 ≡ 10) a (ten b e);
}

later : (k b : ℕ) (bytes : List ℕ) (place : ℕ) → Behind (k + 1) bytes place → Behind k (b ∷ bytes) place
later k b bytes place h = record {
  above = omega (arith, h.above);
  within = omega (arith, h.within);
  feed = let a : suc (place - (k + 1) - 1) ≡ place - k - 1 = omega (arith, h.above) in subst (λ (i : ℕ). get_or (b ∷ bytes) i 0 ≡ 10) a h.feed;
}

behind_cons : (k b : ℕ) (bytes : List ℕ) (v : Bool) → (b == 10) ≡ v →
    ((i : ℕ) → i < length (line_starts (k + 1) bytes) → Behind (k + 1) bytes (get_or (line_starts (k + 1) bytes) i 0)) →
    (j : ℕ) → j < length (one v k ++ line_starts (k + 1) bytes) → Behind k (b ∷ bytes) (get_or (one v k ++ line_starts (k + 1) bytes) j 0)
behind_cons k b bytes true e ih zero l = here k b bytes e
behind_cons k b bytes true e ih (suc j) l = later k b bytes (get_or (line_starts (k + 1) bytes) j 0) (ih j (omega arith))
behind_cons k b bytes false e ih j l = later k b bytes (get_or (line_starts (k + 1) bytes) j 0) (ih j l)

-- a line feed stands before each place
pub behind : (k : ℕ) (bytes : List ℕ) (j : ℕ) → j < length (line_starts k bytes) → Behind k bytes (get_or (line_starts k bytes) j 0)
behind k [] j l = absurd (omega arith)
behind k (b ∷ bytes) j l = behind_cons k b bytes (b == 10) refl (λ i. behind (k + 1) bytes i) j l

-- where the place behind a line feed stands
abbrev Listed : ℕ → List ℕ → Type 0
Listed place places = (j : ℕ) × (j < length places) × (get_or places j 0 ≡ place)

listed_cons : (k b : ℕ) (rest : List ℕ) (place : ℕ) (v : Bool) → Listed place rest → Listed place (one v k ++ rest)
listed_cons k b rest place true (j, l, e) = (suc j, omega arith, e)
listed_cons k b rest place false h = h

listed_here : (k b : ℕ) (rest : List ℕ) (place : ℕ) (v : Bool) → (b == 10) ≡ v → b ≡ 10 → place ≡ k + 1 → Listed place (one v k ++ rest)
listed_here k b rest place true e h p = (0, omega arith, sym p)
listed_here k b rest place false e h p = absurd (not_ten b e h)

pub listed : (k : ℕ) (bytes : List ℕ) (i : ℕ) → i < length bytes → get_or bytes i 0 ≡ 10 → Listed (k + i + 1) (line_starts k bytes)
listed k [] i l e = absurd (omega arith)
listed k (b ∷ bytes) zero l e = listed_here k b (line_starts (k + 1) bytes) (k + 0 + 1) (b == 10) refl e (omega arith)
listed k (b ∷ bytes) (suc i) l e =
    listed_cons k b (line_starts (k + 1) bytes) (k + suc i + 1) (b == 10)
    (let a : k + 1 + i + 1 ≡ k + suc i + 1 = omega arith in subst (λ (p : ℕ). Listed p (line_starts (k + 1) bytes)) a (listed (k + 1) bytes i (omega arith) e))

-- each place is below the later ones
abbrev Rising : List ℕ → Type 0
Rising places = (i j : ℕ) → i < j → j < length places → get_or places i 0 < get_or places j 0

rising_cons : (k : ℕ) (bytes : List ℕ) (v : Bool) → Rising (line_starts (k + 1) bytes) → Rising (one v k ++ line_starts (k + 1) bytes)
rising_cons k bytes true h i zero b l = absurd (omega arith)
rising_cons k bytes true h zero (suc j) b l = (behind (k + 1) bytes j (omega arith)).above
rising_cons k bytes true h (suc i) (suc j) b l = h i j (omega arith) (omega arith)
rising_cons k bytes false h i j b l = h i j b l

pub rising : (k : ℕ) (bytes : List ℕ) → Rising (line_starts k bytes)
rising k [] i j b l = absurd (omega arith)
rising k (b ∷ bytes) i j l m = rising_cons k bytes (b == 10) (rising (k + 1) bytes) i j l m

-- n places are at most the bound, and the others above it
pub record Parts (places : List ℕ) (bound n : ℕ) : Type 0 where
  pub within : n ≤ length places
  pub low : (i : ℕ) → i < n → get_or places i 0 ≤ bound
  pub high : (i : ℕ) → n ≤ i → i < length places → bound < get_or places i 0

abbrev feeds : List ℕ → ℕ
feeds [] = 0
feeds (b ∷ bytes) = cond (is_line_feed b) (1 + feeds bytes) (feeds bytes)

feeds_cons : (k b a : ℕ) (bytes : List ℕ) (v : Bool) → ((m : ℕ) → Parts (line_starts (k + 1) bytes) (k + 1 + a) m → m ≡ feeds (take a bytes)) →
    (n : ℕ) → Parts (one v k ++ line_starts (k + 1) bytes) (k + suc a) n → n ≡ cond v (1 + feeds (take a bytes)) (feeds (take a bytes))
feeds_cons k b a bytes true ih zero p = absurd (let h : k + suc a < k + 1 = p.high 0 (omega arith) (omega arith) in omega arith)
feeds_cons k b a bytes true ih (suc m) p =
    let e : m ≡ feeds (take a bytes) = ih m (record {
      within = omega (arith, p.within);
      low = λ i l. let h : get_or (line_starts (k + 1) bytes) i 0 ≤ k + suc a = p.low (suc i) (omega arith) in omega arith;
      high = λ i l u. let h : k + suc a < get_or (line_starts (k + 1) bytes) i 0 = p.high (suc i) (omega arith) (omega arith) in omega arith;
    }) in omega arith
feeds_cons k b a bytes false ih n p =
    ih n (record {
      within = p.within;
      low = λ i l. let h : get_or (line_starts (k + 1) bytes) i 0 ≤ k + suc a = p.low i l in omega arith;
      high = λ i l u. let h : k + suc a < get_or (line_starts (k + 1) bytes) i 0 = p.high i l u in omega arith;
    })

feeds_of : (k : ℕ) (bytes : List ℕ) (at n : ℕ) → Parts (line_starts k bytes) (k + at) n → n ≡ feeds (take at bytes)
feeds_of k [] zero n p = omega (arith, p.within)
feeds_of k [] (suc a) n p = omega (arith, p.within)
feeds_of k (b ∷ bytes) zero zero p = refl
feeds_of k (b ∷ bytes) zero (suc n) p =
    absurd (let h : get_or (line_starts k (b ∷ bytes)) 0 0 ≤ k + 0 = p.low 0 (omega arith) in
    let g : 0 < length (line_starts k (b ∷ bytes)) = omega (arith, p.within) in
    let u : k < get_or (line_starts k (b ∷ bytes)) 0 0 = (behind k (b ∷ bytes) 0 g).above in omega arith)
feeds_of k (b ∷ bytes) (suc a) n p = feeds_cons k b a bytes (b == 10) (λ m q. feeds_of (k + 1) bytes a m q) n p

-- as many line feeds stand before a place as places behind one are at most it
pub count_of : (bytes : List ℕ) (at n : ℕ) → Parts (line_starts 0 bytes) at n → n ≡ count_by is_line_feed (take at bytes)
count_of bytes at n p =
    feeds_of 0 bytes at n (let a : at ≡ 0 + at = omega arith in subst (λ (b : ℕ). Parts (line_starts 0 bytes) b n) a p)
    ∙ is_count_by feeds is_line_feed refl (λ x xs. refl) (take at bytes)

rises : (xs : List ℕ) → Rising xs → (i j : ℕ) → i ≤ j → j < length xs → get_or xs i 0 ≤ get_or xs j 0
rises xs r i j l u = ⊎_elim
    (λ (below : i < j). let h : get_or xs i 0 < get_or xs j 0 = r i j below u in omega arith)
    (λ (same : j ≤ i). let e : i ≡ j = omega arith in subst (λ (k : ℕ). get_or xs i 0 ≤ get_or xs k 0) e (omega arith))
    (cases_lt i j)

nondecreasing : (xs : List ℕ) → Rising xs → IsNonDecreasingBy (λ x. x) xs
nondecreasing xs r = λ i j d l u.
    let a : get_or xs i d ≡ get_or xs i 0 = get_or_default_zero xs i d (omega arith) in
    let b : get_or xs j d ≡ get_or xs j 0 = get_or_default_zero xs j d u in
    let h : get_or xs i 0 ≤ get_or xs j 0 = rises xs r i j l u in omega arith

-- what the search by halving finds
pub parts_of : (bytes places : List ℕ) (at n : ℕ) → places ≡ line_starts 0 bytes → n ≤ length places →
    (IsPartitionedBy (λ y. leb y at) places → IsPartitionPoint (λ y. leb y at ≡ true) (λ y. leb y at ≡ false) places n) → Parts places at n
parts_of bytes places at n e w f =
    let p = f (IsPartitionedBy-leb (λ x. x) places at (nondecreasing places (subst Rising (sym e) (rising 0 bytes)))) in
    record {
      within = w;
      low = λ i l. leb-true (get_or places i 0) at (p.0 i 0 (omega arith) l);
      high = λ i l u. leb-false (get_or places i 0) at (p.1 i 0 l u);
    }

feed_test : (x : ℕ) → (x ≡ 10 → ⊥) → not (is_line_feed x) ≡ true
feed_test x h = ⊎_elim (λ (y : (x == 10) ≡ true × (x ≡ 10)). absurd (h y.1)) (λ (y : (x == 10) ≡ false × (x ≢ 10)). ap not y.0) (eqb_tells x 10)

-- the line of a place begins at the last place behind a line feed, or at the start
pub line_from : (bytes : List ℕ) (at start : ℕ) → at ≤ length bytes → start ≤ at →
    ((i : ℕ) → start ≤ i → i < at → get_or bytes i 0 ≡ 10 → ⊥) → (0 < start → get_or bytes (start - 1) 0 ≡ 10) →
    after_last is_line_feed (take at bytes) ≡ drop start (take at bytes)
line_from bytes at start w s none feed =
    let len : length (take at bytes) ≡ at = length-take-le at bytes w in
    let e : suffix_len (λ x. not (is_line_feed x)) (take at bytes) ≡ length (take at bytes) - start =
    suffix_len_is (λ x. not (is_line_feed x)) (take at bytes) start 0 (omega arith)
    (λ k l u. let v : k < at = omega arith in
    feed_test (get_or (take at bytes) k 0) (λ h. none k l v (sym (get_or-take at bytes k 0 v) ∙ h)))
    (λ p. let v : start - 1 < at = omega arith in
    ap (λ (x : ℕ). not (is_line_feed x)) (get_or-take at bytes (start - 1) 0 v ∙ feed p)) in
    ap (λ (n : ℕ). drop (length (take at bytes) - n) (take at bytes)) e
    ∙ ap (λ (n : ℕ). drop n (take at bytes)) (let a : length (take at bytes) - (length (take at bytes) - start) ≡ start = omega arith in a)

-- what is to be known of the place where a line begins
pub record LineAt (bytes : List ℕ) (at start : ℕ) : Type 0 where
  pub before : start ≤ at
  pub feed : 0 < start → get_or bytes (start - 1) 0 ≡ 10
  pub line : after_last is_line_feed (take at bytes) ≡ drop start (take at bytes)

pub first_line : (bytes : List ℕ) (at : ℕ) → at ≤ length bytes → Parts (line_starts 0 bytes) at 0 → LineAt bytes at 0
first_line bytes at w p = record {
  before = omega arith;
  feed = λ h. absurd (omega arith);
  line = line_from bytes at 0 w (omega arith)
      (λ i l u h. let (j, m, e) = listed 0 bytes i (omega arith) h in let f : at < get_or (line_starts 0 bytes) j 0 = p.high j (omega arith) m in omega arith)
      (λ h. absurd (omega arith));
}

pub later_line : (bytes : List ℕ) (at n : ℕ) → at ≤ length bytes → Parts (line_starts 0 bytes) at (suc n) →
    LineAt bytes at (get_or (line_starts 0 bytes) n 0)
later_line bytes at n w p =
    let b : Behind 0 bytes (get_or (line_starts 0 bytes) n 0) = behind 0 bytes n (omega (arith, p.within)) in
    let low : get_or (line_starts 0 bytes) n 0 ≤ at = p.low n (omega arith) in
    let feed : get_or bytes (get_or (line_starts 0 bytes) n 0 - 1) 0 ≡ 10 =
    (let a : get_or (line_starts 0 bytes) n 0 - 0 - 1 ≡ get_or (line_starts 0 bytes) n 0 - 1 =
    omega arith in subst (λ (i : ℕ). get_or bytes i 0 ≡ 10) a b.feed) in
    record {
      before = low;
      feed = λ h. feed;
      line = line_from bytes at (get_or (line_starts 0 bytes) n 0) w low
          (λ i l u h. let (j, m, e) = listed 0 bytes i (omega arith) h in
          ⊎_elim
          (λ (early : j < suc n). let r : get_or (line_starts 0 bytes) j 0 ≤ get_or (line_starts 0 bytes) n 0 =
          rises (line_starts 0 bytes) (rising 0 bytes) j n (omega arith) (omega (arith, p.within)) in omega arith)
          (λ (late : suc n ≤ j). let f : at < get_or (line_starts 0 bytes) j 0 = p.high j late m in omega arith)
          (cases_lt j (suc n)))
          (λ h. feed);
    }

boundary_of : (bytes : List ℕ) (start : ℕ) → IsUtf8 bytes → start ≤ length bytes → (0 < start → get_or bytes (start - 1) 0 ≡ 10) → IsCharBoundary bytes start
boundary_of bytes zero u w f = IsCharBoundary-start bytes u
boundary_of bytes (suc i) u w f =
    let e : get_or bytes i 0 ≡ 10 = (let a : suc i - 1 ≡ i = omega arith in subst (λ (k : ℕ). get_or bytes k 0 ≡ 10) a (f (omega arith))) in
    subst (λ (k : ℕ). IsCharBoundary bytes k) (add-one i) (IsCharBoundary-after_ascii bytes i u (omega arith) (omega arith))

-- a text may be cut where a line begins
pub LineAt-boundary : (bytes : List ℕ) (at start : ℕ) → IsUtf8 bytes → at ≤ length bytes → LineAt bytes at start → IsCharBoundary bytes start
LineAt-boundary bytes at start u w h = boundary_of bytes start u (omega (arith, h.before)) h.feed

-- how many line feeds stand before a place, and where its line begins
pub record Before (bytes : List ℕ) (at n start : ℕ) : Type 0 where
  pub feeds : n ≡ count_by is_line_feed (take at bytes)
  pub line : LineAt bytes at start

pub before_first_feed : (bytes places : List ℕ) (at : ℕ) → places ≡ line_starts 0 bytes → at ≤ length bytes → Parts places at 0 → Before bytes at 0 0
before_first_feed bytes places at e w p =
    let q : Parts (line_starts 0 bytes) at 0 = subst (λ (xs : List ℕ). Parts xs at 0) e p in
    record { feeds = count_of bytes at 0 q; line = first_line bytes at w q }

pub behind_feed : (bytes places : List ℕ) (at n : ℕ) → places ≡ line_starts 0 bytes → at ≤ length bytes → 0 < n → Parts places at n →
    Before bytes at n (get_or places (n - 1) 0)
behind_feed bytes places at zero e w l p = absurd (omega arith)
behind_feed bytes places at (suc n) e w l p =
    let q : Parts (line_starts 0 bytes) at (suc n) = subst (λ (xs : List ℕ). Parts xs at (suc n)) e p in
    let same : get_or (line_starts 0 bytes) n 0 ≡ get_or places (suc n - 1) 0 =
    ap (λ (xs : List ℕ). get_or xs n 0) (sym e) ∙ ap (λ (i : ℕ). get_or places i 0) (let a : n ≡ suc n - 1 = omega arith in a) in
    record { feeds = count_of bytes at (suc n) q; line = subst (λ (s : ℕ). LineAt bytes at s) same (later_line bytes at n w q) }

-- the part of a line up to a place
pub slice_line : (bytes : List ℕ) (at start : ℕ) → start ≤ at → take (at - start) (drop start bytes) ≡ drop start (take at bytes)
slice_line bytes at start w =
    let e : start + (at - start) ≡ at = omega arith in
    sym (drop-take start (at - start) bytes) ∙ ap (λ (n : ℕ). drop start (take n bytes)) e
