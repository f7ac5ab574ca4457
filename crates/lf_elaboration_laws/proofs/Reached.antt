-- The walk keeps that what it has seen is reached, and that what is named by what it has seen is seen, not there, or still to be done.
use Rattle.std.proofs.Common.{
  ◌≡◌,
  ℕ,
  zero,
  suc,
  Bool,
  true,
  false,
  ◌&&◌,
  ◌||◌,
  if◌then◌else◌,
  List,
  [],
  ◌∷◌,
  ◌++◌,
  Option,
  Some,
  None,
  Contains,
  ◌⊎◌,
  inl,
  inr,
  refl,
  sym,
  ap,
  subst,
  ◌∙◌,
  true≢false,
  arith,
}
use Rattle.std.proofs.lemmas.Bool.{or_left, or_right}
use Rattle.std.proofs.lemmas.List.Elements.{Contains-append_left, Contains-append_right, Contains-append_cases}
use Rattle.lf_core.specs.Term.{Path}
use Rattle.lf_core.specs.Same.{same_path}
use Rattle.lf_core.specs.declared.constant.ConstInfo.{ConstInfo}
use Rattle.lf_name.proofs.Names.{path_is, path_equivalence}
use Rattle.lf_rules.specs.Recursor.{is_among}
use Rattle.lf_checker.specs.View.{
  View,
  Entry,
  is_axiom,
  find_entry,
  Lookup,
  found,
  absent,
  need_body,
  need_real,
  by_entry,
  lookup_of,
  KnownBody,
  value,
  opaque,
  unresolved,
  value_of,
}
use Rattle.lf_checker.specs.Whnf.{turn_limit}
use Rattle.lf_elaboration.specs.Axioms.{
  names_in,
  names_of_detail,
  names_of_value,
  names_of_found,
  names_of,
  Reaches,
  itself,
  onward,
  Task,
  visit,
  read,
  visits,
  Walk,
  ended,
  waits,
  unended,
  walk_on,
  read_on,
  walk,
  axioms_among,
  axioms_by,
}
use Rattle.lf_elaboration_laws.specs.Reached.{AxiomsReached, nothing, listed, passed, WalkMeetsReaching}

-- ---- Elements

pub cons_cases : {A : Type 0} (x z : A) (xs : List A) → Contains (x ∷ xs) z → (x ≡ z) ⊎ Contains xs z
cons_cases x z xs (zero, l, e) = inl e
cons_cases x z xs (suc k, l, e) = inr (k, omega arith, e)

pub here : {A : Type 0} (x : A) (xs : List A) → Contains (x ∷ xs) x
here x xs = (zero, omega arith, refl)

pub there : {A : Type 0} (x z : A) (xs : List A) → Contains xs z → Contains (x ∷ xs) z
there x z xs h = let l = h.1 in (suc h.0, omega arith, h.2)

pub none_in : {A : Type 0} (z : A) → Contains [] z → ⊥
none_in z h = let l = h.1 in omega arith

pub among_is : (k : Path) (ks : List Path) → is_among k ks ≡ true → Contains ks k
among_is k [] h = absurd (true≢false (sym h))
among_is k (m ∷ ms) h = at (among_is k ms) (same_path k m) refl h
  where
    at : (is_among k ms ≡ true → Contains ms k) → (b : Bool) → same_path k m ≡ b → (b || is_among k ms) ≡ true → Contains (m ∷ ms) k
    at r true e i = subst (λ x. Contains (m ∷ ms) x) (sym (path_is k m e)) (here m ms)
    at r false e i = there m k ms (r i)

pub is_among_them : (k : Path) (ks : List Path) → Contains ks k → is_among k ks ≡ true
is_among_them k [] h = absurd (none_in k h)
is_among_them k (m ∷ ms) h = at (is_among_them k ms) (cons_cases m k ms h)
  where
    at : (Contains ms k → is_among k ms ≡ true) → (m ≡ k) ⊎ Contains ms k → is_among k (m ∷ ms) ≡ true
    at r (inl e) = or_left (same_path k m) (is_among k ms) (subst (λ x. same_path k x ≡ true) (sym e) (path_equivalence.refl k))
    at r (inr i) = or_right (same_path k m) (is_among k ms) (r i)

to_visits : (k : Path) (ks : List Path) → Contains ks k → Contains (visits ks) (visit k)
to_visits k [] h = absurd (none_in k h)
to_visits k (m ∷ ms) h = at (to_visits k ms) (cons_cases m k ms h)
  where
    at : (Contains ms k → Contains (visits ms) (visit k)) → (m ≡ k) ⊎ Contains ms k → Contains (visits (m ∷ ms)) (visit k)
    at r (inl e) = subst (λ x. Contains (visits (m ∷ ms)) (visit x)) e (here (visit m) (visits ms))
    at r (inr i) = there (visit m) (visit k) (visits ms) (r i)

-- What holds of the visits of names holds of each.
of_visits : (P : Task → Type 0) (ks : List Path) → ((k : Path) → Contains ks k → P (visit k)) → (t : Task) → Contains (visits ks) t → P t
of_visits P [] h t i = absurd (none_in t i)
of_visits P (m ∷ ms) h t i = at (of_visits P ms (λ k l. h k (there m k ms l)) t) (cons_cases (visit m) t (visits ms) i)
  where
    at : (Contains (visits ms) t → P t) → (visit m ≡ t) ⊎ Contains (visits ms) t → P t
    at r (inl e) = subst P e (h m (here m ms))
    at r (inr j) = r j

of_both : {A : Type 0} (P : A → Type 0) (xs ys : List A) → ((x : A) → Contains xs x → P x) → ((x : A) → Contains ys x → P x) → (x : A)
    → Contains (xs ++ ys) x → P x
of_both P xs ys h g x i = at (Contains-append_cases xs ys x i)
  where
    at : Contains xs x ⊎ Contains ys x → P x
    at (inl j) = h x j
    at (inr j) = g x j

of_cons : {A : Type 0} (P : A → Type 0) (y : A) (ys : List A) → P y → ((x : A) → Contains ys x → P x) → (x : A) → Contains (y ∷ ys) x → P x
of_cons P y ys h g x i = at (cons_cases y x ys i)
  where
    at : (y ≡ x) ⊎ Contains ys x → P x
    at (inl e) = subst P e h
    at (inr j) = g x j

-- ---- What the walk keeps

module _ (V : View) (n : Path) where
  -- A name is seen, not there, to be visited, or named by a value that is to be read.
  data Settled (seen : List Path) (ts : List Task) (k : Path) : Type 0 where
    in_seen : Contains seen k → Settled seen ts k
    not_there : lookup_of V k ≡ absent → Settled seen ts k
    to_visit : Contains ts (visit k) → Settled seen ts k
    to_read : (y : Path) → Contains ts (read y) → Contains (names_of_value (value_of V y)) k → Settled seen ts k

  abbrev ReachedTask : Task → Type 0
  ReachedTask (visit k) = Reaches V n k
  ReachedTask (read y) = Reaches V n y × ((k : Path) → Contains (names_of_value (value_of V y)) k → Contains (names_of V y) k)

  record Right (seen : List Path) (ts : List Task) : Type 0 where
    pub root : Settled seen ts n
    pub closed : (m k : Path) → Contains seen m → Contains (names_of V m) k → Settled seen ts k
    pub seen_reached : (m : Path) → Contains seen m → Reaches V n m
    pub tasks_reached : (t : Task) → Contains ts t → ReachedTask t

  -- Behind a task that has been done.
  behind : (seen seen' : List Path) (t : Task) (ts ts' : List Task) → ((k : Path) → Contains seen k → Contains seen' k)
      → ((r : Task) → Contains ts r → Contains ts' r) → ((k : Path) → t ≡ visit k → Settled seen' ts' k)
      → ((y k : Path) → t ≡ read y → Contains (names_of_value (value_of V y)) k → Settled seen' ts' k)
      → (k : Path) → Settled seen (t ∷ ts) k → Settled seen' ts' k
  behind seen seen' t ts ts' a b f g k (in_seen i) = in_seen (a k i)
  behind seen seen' t ts ts' a b f g k (not_there e) = not_there e
  behind seen seen' t ts ts' a b f g k (to_visit i) = at (cons_cases t (visit k) ts i)
    where
      at : (t ≡ visit k) ⊎ Contains ts (visit k) → Settled seen' ts' k
      at (inl e) = f k e
      at (inr j) = to_visit (b (visit k) j)
  behind seen seen' t ts ts' a b f g k (to_read y i j) = at (cons_cases t (read y) ts i)
    where
      at : (t ≡ read y) ⊎ Contains ts (read y) → Settled seen' ts' k
      at (inl e) = g y k e j
      at (inr l) = to_read y (b (read y) l) j

  -- One that was seen before.
  skipped : (seen : List Path) (x : Path) (ts : List Task) → Contains seen x → Right seen (visit x ∷ ts) → Right seen ts
  skipped seen x ts h r =
      let on : (k : Path) → Settled seen (visit x ∷ ts) k → Settled seen ts k = behind seen seen (visit x) ts ts (λ k i. i) (λ t i. i)
      (λ k e. in_seen (subst (Contains seen) (cc) h)) (λ y k e i. absurd (cc)) in
      record {
        root = on n r.root;
        closed = λ m k i j. on k (r.closed m k i j);
        seen_reached = r.seen_reached;
        tasks_reached = λ t i. r.tasks_reached t (there (visit x) t ts i);
      }

  -- One that isn't there.
  missed : (seen : List Path) (x : Path) (ts : List Task) → lookup_of V x ≡ absent → Right seen (visit x ∷ ts) → Right seen ts
  missed seen x ts h r =
      let on : (k : Path) → Settled seen (visit x ∷ ts) k → Settled seen ts k = behind seen seen (visit x) ts ts (λ k i. i) (λ t i. i)
      (λ k e. not_there (subst (λ y. lookup_of V y ≡ absent) (cc) h)) (λ y k e i. absurd (cc)) in
      record {
        root = on n r.root;
        closed = λ m k i j. on k (r.closed m k i j);
        seen_reached = r.seen_reached;
        tasks_reached = λ t i. r.tasks_reached t (there (visit x) t ts i);
      }

  -- One that is found: what it names is to be visited, and its value to be read.
  entered : (seen : List Path) (x : Path) (ts : List Task) (c : ConstInfo) → lookup_of V x ≡ found c → Right seen (visit x ∷ ts)
      → Right (x ∷ seen) (visits (names_in c.ty) ++ (read x ∷ visits (names_of_detail c.detail) ++ ts))
  entered seen x ts c h r =
      let ns : List Path = names_of_detail c.detail in
      let last : List Task = visits ns ++ ts in
      let all : List Task = visits (names_in c.ty) ++ (read x ∷ last) in
      let tail : (t : Task) → Contains ts t → Contains all t =
      λ t i. Contains-append_right (visits (names_in c.ty)) (read x ∷ last) t (there (read x) t last (Contains-append_right (visits ns) ts t i)) in
      let names : names_of V x ≡ names_in c.ty ++ (names_of_value (value_of V x) ++ ns) = ap (names_of_found V x) h in
      let on : (k : Path) → Settled seen (visit x ∷ ts) k → Settled (x ∷ seen) all k = behind seen (x ∷ seen) (visit x) ts all (λ k i. there x k seen i) tail
      (λ k e. in_seen (subst (Contains (x ∷ seen)) (cc) (here x seen))) (λ y k e i. absurd (cc)) in
      let own : (k : Path) → Contains (names_of V x) k → Settled (x ∷ seen) all k =
      λ k i. of_both (λ y. Settled (x ∷ seen) all y) (names_in c.ty) (names_of_value (value_of V x) ++ ns)
      (λ y j. to_visit (Contains-append_left (visits (names_in c.ty)) (read x ∷ last) (visit y) (to_visits y (names_in c.ty) j)))
      (of_both (λ y. Settled (x ∷ seen) all y) (names_of_value (value_of V x)) ns
      (λ y j. to_read x (Contains-append_right (visits (names_in c.ty)) (read x ∷ last) (read x) (here (read x) last)) j)
      (λ y j. to_visit (Contains-append_right (visits (names_in c.ty)) (read x ∷ last) (visit y) (there (read x) (visit y) last
      (Contains-append_left (visits ns) ts (visit y) (to_visits y ns j))))))
      k (subst (λ l. Contains l k) names i) in
      let reach : Reaches V n x = r.tasks_reached (visit x) (here (visit x) ts) in
      let named : (k : Path) → Contains (names_in c.ty ++ (names_of_value (value_of V x) ++ ns)) k → Reaches V n k =
      λ k i. onward reach (subst (λ l. Contains l k) (sym names) i) in
      record {
        root = on n r.root;
        closed = λ m k i j. of_cons (λ y. Contains (names_of V y) k → Settled (x ∷ seen) all k) x seen (own k) (λ y l o. on k (r.closed y k l o)) m i j;
        seen_reached = of_cons (λ y. Reaches V n y) x seen reach r.seen_reached;
        tasks_reached = of_both ReachedTask (visits (names_in c.ty)) (read x ∷ last)
            (of_visits ReachedTask (names_in c.ty) (λ k i. named k (Contains-append_left (names_in c.ty) (names_of_value (value_of V x) ++ ns) k i)))
            (of_cons ReachedTask (read x) last (
              reach,
              λ k i. subst (λ l. Contains l k) (sym names)
                  (Contains-append_right (names_in c.ty) (names_of_value (value_of V x) ++ ns) k (Contains-append_left (names_of_value (value_of V x)) ns k i)),
            )
            (of_both ReachedTask (visits ns) ts
            (of_visits ReachedTask ns (λ k i. named k (Contains-append_right (names_in c.ty) (names_of_value (value_of V x) ++ ns) k
            (Contains-append_right (names_of_value (value_of V x)) ns k i))))
            (λ t i. r.tasks_reached t (there (visit x) t ts i))));
      }

  -- A value that is read: what it names is to be visited.
  opened : (seen : List Path) (x : Path) (ts : List Task) (ks : List Path) → names_of_value (value_of V x) ≡ ks → Right seen (read x ∷ ts)
      → Right seen (visits ks ++ ts)
  opened seen x ts ks h r =
      let on : (k : Path) → Settled seen (read x ∷ ts) k → Settled seen (visits ks ++ ts) k = behind seen seen (read x) ts (visits ks ++ ts) (λ k i. i)
      (λ t i. Contains-append_right (visits ks) ts t i) (λ k e. absurd (cc))
      (λ y k e i. to_visit (Contains-append_left (visits ks) ts (visit k)
      (to_visits k ks (subst (λ l. Contains l k) h (subst (λ z. Contains (names_of_value (value_of V z)) k) (cc) i))))) in
      let reach : ReachedTask (read x) = r.tasks_reached (read x) (here (read x) ts) in
      record {
        root = on n r.root;
        closed = λ m k i j. on k (r.closed m k i j);
        seen_reached = r.seen_reached;
        tasks_reached = of_both ReachedTask (visits ks) ts
            (of_visits ReachedTask ks (λ k i. onward reach.0 (reach.1 k (subst (λ l. Contains l k) (sym h) i))))
            (λ t i. r.tasks_reached t (there (read x) t ts i));
      }

  walk_meets : (f : ℕ) (seen : List Path) (ts : List Task) → Right seen ts → (out : List Path) → walk V f seen ts ≡ ended out → Right out []
  walk_meets zero seen ts r out e = absurd (cc)
  walk_meets (suc f) seen [] r out e = let same : seen ≡ out = cc in subst (λ l. Right l []) same r
  walk_meets (suc f) seen (visit x ∷ ts) r out e = at (walk_meets f) (is_among x seen) refl e
    where
      look : ((before : List Path) (us : List Task) → Right before us → (end : List Path) → walk V f before us ≡ ended end → Right end [])
          → (l : Lookup) → lookup_of V x ≡ l → walk_on (walk V f) V seen x ts l ≡ ended out → Right out []
      look on (found c) q i = on (x ∷ seen) _ (entered seen x ts c q r) out i
      look on absent q i = on seen ts (missed seen x ts q r) out i
      look on (need_body p) q i = absurd (cc)
      look on need_real q i = absurd (cc)

      at : ((before : List Path) (us : List Task) → Right before us → (end : List Path) → walk V f before us ≡ ended end → Right end [])
          → (b : Bool) → is_among x seen ≡ b → (if b then walk V f seen ts else walk_on (walk V f) V seen x ts (lookup_of V x)) ≡ ended out
          → Right out []
      at on true q i = on seen ts (skipped seen x ts (among_is x seen q) r) out i
      at on false q i = look on (lookup_of V x) refl i
  walk_meets (suc f) seen (read x ∷ ts) r out e = at (walk_meets f) (value_of V x) refl e
    where
      at : ((before : List Path) (us : List Task) → Right before us → (end : List Path) → walk V f before us ≡ ended end → Right end [])
          → (b : KnownBody) → value_of V x ≡ b → read_on (walk V f) seen ts b ≡ ended out → Right out []
      at on (value v h) q i = on seen _ (opened seen x ts (names_in v) (ap names_of_value q) r) out i
      at on opaque q i = on seen ts (opened seen x ts [] (ap names_of_value q) r) out i
      at on (unresolved k) q i = absurd (cc)

  -- ---- At the end

  module _ (out : List Path) (r : Right out []) where
    done_with : (k : Path) → Settled out [] k → Contains out k ⊎ (lookup_of V k ≡ absent)
    done_with k (in_seen i) = inl i
    done_with k (not_there e) = inr e
    done_with k (to_visit i) = absurd (none_in (visit k) i)
    done_with k (to_read y i j) = absurd (none_in (read y) i)

    complete : (k : Path) → Reaches V n k → Contains out k ⊎ (lookup_of V k ≡ absent)
    complete k itself = done_with k r.root
    complete k (onward {m} h i) = at (complete m h)
      where
        at : Contains out m ⊎ (lookup_of V m ≡ absent) → Contains out k ⊎ (lookup_of V k ≡ absent)
        at (inl j) = done_with k (r.closed m k j i)
        at (inr e) = absurd (none_in k (subst (λ l. Contains l k) (ap (names_of_found V m) e) i))

    entry_is : (es : List Entry) (e : Entry) → Contains es e → find_entry es e.info.name ≡ None → ⊥
    entry_is [] e i h = none_in e i
    entry_is (d ∷ es) e i h = at (entry_is es e) (same_path d.info.name e.info.name) refl h
      where
        other : (Contains es e → find_entry es e.info.name ≡ None → ⊥) → (d ≡ e) ⊎ Contains es e → same_path d.info.name e.info.name ≡ false
            → find_entry es e.info.name ≡ None → ⊥
        other r (inl q) f g = true≢false (sym (subst (λ z. same_path z.info.name e.info.name ≡ true) (sym q) (path_equivalence.refl e.info.name)) ∙ f)
        other r (inr j) f g = r j g

        at : (Contains es e → find_entry es e.info.name ≡ None → ⊥) → (b : Bool) → same_path d.info.name e.info.name ≡ b
            → (if b then Some d else find_entry es e.info.name) ≡ None → ⊥
        at r true f g = absurd (cc)
        at r false f g = other r (cons_cases d e es i) f g

    not_absent : (e : Entry) → Contains V.entries e → lookup_of V e.info.name ≡ absent → ⊥
    not_absent e i h = at (find_entry V.entries e.info.name) refl h
      where
        at : (o : Option Entry) → find_entry V.entries e.info.name ≡ o → by_entry V e.info.name o ≡ absent → ⊥
        at (Some d) q g = absurd (cc)
        at None q g = entry_is V.entries e i q

    lists : (es : List Entry) → ((e : Entry) → Contains es e → Contains V.entries e) → AxiomsReached V n es (axioms_among out es)
    lists [] h = nothing
    lists (e ∷ es) h = at (lists es (λ d i. h d (there e d es i))) (is_axiom e.info.kind) (is_among e.info.name out) refl refl
      where
        unreached : is_among e.info.name out ≡ false → Contains out e.info.name ⊎ (lookup_of V e.info.name ≡ absent) → ⊥
        unreached q (inl i) = true≢false (sym (is_among_them e.info.name out i) ∙ q)
        unreached q (inr g) = not_absent e (h e (here e es)) g

        at : AxiomsReached V n es (axioms_among out es) → (b c : Bool) → is_axiom e.info.kind ≡ b → is_among e.info.name out ≡ c
            → AxiomsReached V n (e ∷ es) (if b && c then e.info.name ∷ axioms_among out es else axioms_among out es)
        at rest true true p q = listed p (r.seen_reached e.info.name (among_is e.info.name out q)) rest
        at rest true false p q = passed (λ a g. unreached q (complete e.info.name g)) rest
        at rest false c p q = passed (λ a g. true≢false (sym a ∙ p)) rest

  start : Right [] (visit n ∷ [])
  start = record {
    root = to_visit (here (visit n) []);
    closed = λ m k i j. absurd (none_in m i);
    seen_reached = λ m i. absurd (none_in m i);
    tasks_reached = of_cons ReachedTask (visit n) [] itself (λ t i. absurd (none_in t i));
  }

pub walk_meets_reaching : WalkMeetsReaching
walk_meets_reaching V n ns e = at (walk V turn_limit [] (visit n ∷ [])) refl e
  where
    at : (w : Walk) → walk V turn_limit [] (visit n ∷ []) ≡ w → axioms_by V w ≡ ended ns → AxiomsReached V n V.entries ns
    at (ended out) q i =
        let same : axioms_among out V.entries ≡ ns = cc in
        subst (AxiomsReached V n V.entries) same (lists V n out (walk_meets V n turn_limit [] (visit n ∷ []) (start V n) out q) V.entries (λ e i. i))
    at (waits k) q i = absurd (cc)
    at unended q i = absurd (cc)
