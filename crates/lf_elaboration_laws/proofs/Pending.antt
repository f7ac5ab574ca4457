-- What elaboration does to the holes that wait.
use Rattle.std.proofs.Common.{◌≡◌, ℕ, suc, ◌+◌, ◌≤◌, Bool, true, false, not, if◌then◌else◌, Option, List, [], ◌∷◌, ◌++◌, refl, sym, ap, subst, ◌∙◌, arith}
use Rattle.std.proofs.lemmas.Bool.{le-leb, lt-leb}
use Rattle.lf_core.specs.Term.{Term}
use Rattle.lf_syntax.specs.Tree.{ItemTree}
use Rattle.lf_checker.specs.Run as checker
use Rattle.lf_extension_laws.proofs.Only.{Only}
use Rattle.lf_extension_laws.proofs.Calm.{Any, reads_any}
use Rattle.lf_elaboration.specs.declared.hole.Hole.{Hole}
use Rattle.lf_elaboration.specs.declared.change.Change.TheVariants.{Made, LevelMade, Assigned, LevelAssigned}
use Rattle.lf_elaboration.specs.Metavariables.{Changes, count}
use Rattle.lf_elaboration.specs.Run.{Answer, done, failed, out, need}
use Rattle.lf_elaboration.specs.Part.{Part, State}
use Rattle.lf_elaboration.specs.Closing.{is_from}
use Rattle.lf_elaboration.specs.Elaboration as elaboration
use Rattle.lf_elaboration_laws.specs.Unifier.{Begins}
use Rattle.lf_elaboration_laws.specs.Closed.{Ends}
use Rattle.lf_elaboration_laws.specs.Once.{below, dropped, Between, IsOrderly, Adds, Reaches, TermsAdd, ProofsAddNone}
use Rattle.lf_elaboration_laws.proofs.Keeping.{Steps, with_hole, Leaving, Held}
use Rattle.lf_elaboration_laws.proofs.KeepingParts.{KeepingCalls}
use Rattle.lf_elaboration_laws.proofs.KeepingItems.{calls_keep}

-- ---- Numbers of metavariables

none_more : (n : ℕ) → n ≡ 0 + n
none_more n = omega arith

one_more : (a b c : ℕ) → a ≡ b + c → suc a ≡ suc b + c
one_more a b c h = omega arith

count_longer : (cs ds : Changes) → count (cs ++ ds) ≡ count cs + count ds
count_longer [] ds = none_more (count ds)
count_longer (Made A n p ∷ cs) ds = one_more (count (cs ++ ds)) (count cs) (count ds) (count_longer cs ds)
count_longer (LevelMade ∷ cs) ds = count_longer cs ds
count_longer (Assigned m t ∷ cs) ds = count_longer cs ds
count_longer (LevelAssigned m l ∷ cs) ds = count_longer cs ds

count_grows : (cs ds : Changes) → Begins cs ds → count cs ≤ count ds
count_grows cs ds h =
    let e : count ds ≡ count cs + count h.0 = ap count h.1 ∙ count_longer cs h.0 in
    omega arith

-- ---- Holes between numbers

append_none : (hs : List Hole) → hs ≡ hs ++ []
append_none [] = refl
append_none (h ∷ hs) = ap (λ l. h ∷ l) (append_none hs)

append_twice : (xs ys zs : List Hole) → (xs ++ ys) ++ zs ≡ xs ++ (ys ++ zs)
append_twice [] ys zs = refl
append_twice (x ∷ xs) ys zs = ap (λ l. x ∷ l) (append_twice xs ys zs)

between_append : (i m n : ℕ) (xs ys : List Hole) → Between i m xs → Between m n ys → Between i n (xs ++ ys)
between_append i m n [] [] h g = omega arith
between_append i m n [] (y ∷ ys) h g = let e = g.0 in (omega arith, g.1)
between_append i m n (x ∷ xs) ys h g = (h.0, between_append (suc x.metavariable) m n xs ys h.1 g)

between_wider : (i j n : ℕ) (xs : List Hole) → i ≤ j → Between j n xs → Between i n xs
between_wider i j n [] l h = omega arith
between_wider i j n (x ∷ xs) l h = let e = h.0 in (omega arith, h.1)

-- Those that stay keep their order.
between_below : (k i n : ℕ) (xs : List Hole) → Between i n xs → Between i n (below k xs)
between_below k i n [] h = h
between_below k i n (x ∷ xs) h = at (between_below k (suc x.metavariable) n xs h.1) (is_from k x)
  where
    at : Between (suc x.metavariable) n (below k xs) → (b : Bool) → Between i n (if not b then x ∷ below k xs else below k xs)
    at rest true = let e = h.0 in between_wider i (suc x.metavariable) n (below k xs) (omega arith) rest
    at rest false = (h.0, rest)

all_below : (i n : ℕ) (xs : List Hole) → Between i n xs → i ≤ n
all_below i n [] h = h
all_below i n (x ∷ xs) h =
    let a = h.0 in
    let b : suc x.metavariable ≤ n = all_below (suc x.metavariable) n xs h.1 in
    omega arith

is_before : (k : ℕ) (h : Hole) → suc h.metavariable ≤ k → is_from k h ≡ false
is_before k h l = lt-leb k h.metavariable (omega arith)

is_behind : (k : ℕ) (h : Hole) → k ≤ h.metavariable → is_from k h ≡ true
is_behind k h l = le-leb k h.metavariable l

none_dropped : (k i : ℕ) (xs ys : List Hole) → Between i k xs → below k (xs ++ ys) ≡ xs ++ below k ys
none_dropped k i [] ys h = refl
none_dropped k i (x ∷ xs) ys h =
    let e : is_from k x ≡ false = is_before k x (all_below (suc x.metavariable) k xs h.1) in
    let r : below k (xs ++ ys) ≡ xs ++ below k ys = none_dropped k (suc x.metavariable) xs ys h.1 in
    ap (λ b. if not b then x ∷ below k (xs ++ ys) else below k (xs ++ ys)) e ∙ ap (λ l. x ∷ l) r

all_dropped : (k i n : ℕ) (xs : List Hole) → k ≤ i → Between i n xs → below k xs ≡ []
all_dropped k i n [] l h = refl
all_dropped k i n (x ∷ xs) l h =
    let a = h.0 in
    let e : is_from k x ≡ true = is_behind k x (omega arith) in
    ap (λ b. if not b then x ∷ below k xs else below k xs) e ∙ all_dropped k (suc x.metavariable) n xs (omega arith) h.1

-- ---- The relations

-- Where the holes were in order.
abbrev pub Adding : State → State → Type 0
Adding s t = IsOrderly s → Adds s t

abbrev pub Keeping : State → State → Type 0
Keeping s t = IsOrderly s → (t.pending ≡ s.pending) × (count s.changes ≤ count t.changes)

still_orderly : (s t : State) → IsOrderly s → Adds s t → IsOrderly t
still_orderly s t o h =
    subst (Between 0 (count t.changes)) (sym h.1) (between_append 0 (count s.changes) (count t.changes) s.pending h.0 o h.2)

adding_longer : (s t r : State) → Adding s t → Adding t r → Adding s r
adding_longer s t r h g o =
    let a : Adds s t = h o in
    let b : Adds t r = g (still_orderly s t o a) in (
      a.0 ++ b.0,
      b.1 ∙ ap (λ l. l ++ b.0) a.1 ∙ append_twice s.pending a.0 b.0,
      between_append (count s.changes) (count t.changes) (count r.changes) a.0 b.0 a.2 b.2,
    )

keeping_adds : (s t : State) → Keeping s t → Adding s t
keeping_adds s t h o = let a = h o in ([], a.0 ∙ append_none s.pending, a.1)

keeping_orderly : (s t : State) → IsOrderly s → Keeping s t → IsOrderly t
keeping_orderly s t o h = still_orderly s t o (keeping_adds s t h o)

le_self : (n : ℕ) → n ≤ n
le_self n = omega arith

le_both : (a b c : ℕ) → a ≤ b → b ≤ c → a ≤ c
le_both a b c h g = omega arith

adding_steps : Steps Adding Adding
adding_steps = record {
  same = λ s o. ([], append_none s.pending, le_self (count s.changes));
  longer = adding_longer;
  ends = λ s t h. h;
  ends_later = adding_longer;
  changes = λ s cs h o. ([], append_none s.pending, count_grows s.changes cs h);
  asks = λ s n o. ([], append_none s.pending, le_self (count s.changes));
}

keeping_steps : Steps Keeping Adding
keeping_steps = record {
  same = λ s o. (refl, le_self (count s.changes));
  longer = λ s t r h g o.
      let a = h o in
      let b = g (keeping_orderly s t o h) in
      (b.0 ∙ a.0, le_both (count s.changes) (count t.changes) (count r.changes) a.1 b.1);
  ends = keeping_adds;
  ends_later = λ s t r h g. adding_longer s t r (keeping_adds s t h) g;
  changes = λ s cs h o. (refl, count_grows s.changes cs h);
  asks = λ s n o. (refl, le_self (count s.changes));
}

made_next : (s : State) (A : Term) (n at : ℕ) (items : Option (List ItemTree)) → Adds s (with_hole s A n at items)
made_next s A n at items =
    let e : count (s.changes ++ Made A n at ∷ []) ≡ count s.changes + 1 = count_longer s.changes (Made A n at ∷ []) in
    (record { metavariable = count s.changes; items = items } ∷ [], refl, (le_self (count s.changes), omega arith))

drops : (s t : State) → Adding s t → Keeping s (dropped (count s.changes) t)
drops s t h o =
    let k : ℕ = count s.changes in
    let a : Adds s t = h o in
    let e : below k t.pending ≡ s.pending ++ below k a.0 = ap (below k) a.1 ∙ none_dropped k 0 s.pending a.0 o in
    let f : below k a.0 ≡ [] = all_dropped k k (count t.changes) a.0 (le_self k) a.2 in
    (e ∙ ap (λ l. s.pending ++ l) f ∙ sym (append_none s.pending), all_below k (count t.changes) a.0 a.2)

pub waiting_holes : Leaving Adding Keeping Adding
waiting_holes = record {
  terms = adding_steps;
  proofs = keeping_steps;
  weaker = keeping_adds;
  hole = λ s A n at items o. made_next s A n at items;
  block = λ s t ns h o. h o;
  block_fails = λ s t ns h o. (refl, le_self (count s.changes));
  block_ends = λ s t ns h o. h o;
  drop = drops;
}

-- ---- The laws on terms and proofs

any_of : {A : Type 0} (o : checker.Answer A) → Only true Any o
any_of (checker.done x u) = tt
any_of (checker.refused e u) = tt
any_of checker.out = tt
any_of (checker.need k) = tt

pub hole_calls : (P : Part) (n : ℕ) → KeepingCalls Adding Keeping Adding Any (elaboration.calls P n)
hole_calls P n = calls_keep Adding Keeping Adding waiting_holes Any P (reads_any P.view) (λ d C t u. any_of (P.synthesize d C t u)) n

adds : {A : Type 0} (s : State) (o : Answer State A) → IsOrderly s → Held Adding Adding Any s o → Reaches (Adds s) o
adds s (done x u t) o h = h o
adds s (failed m u t) o h = h o
adds s (out t) o h = h o
adds s (need k) o h = tt

pub keeps_pending : {A : Type 0} (s : State) (o : Answer State A) → IsOrderly s → Held Keeping Adding Any s o → Ends (λ t. t.pending ≡ s.pending) o
keeps_pending s (done x u t) o h = (h o).0
keeps_pending s (failed m u t) o h = tt
keeps_pending s (out t) o h = tt
keeps_pending s (need k) o h = tt

pub terms_add : TermsAdd
terms_add P n t L s E u w o = adds w ((elaboration.calls P n).elaborate t L s E u w) o ((hole_calls P n).elaborate t L s E u w)

pub proofs_add_none : ProofsAddNone
proofs_add_none P n L goal is u w o = keeps_pending w ((elaboration.calls P n).prove L goal is u w) o ((hole_calls P n).prove L goal is u w)

pub dropped_orderly : (k : ℕ) (s : State) → IsOrderly s → IsOrderly (dropped k s)
dropped_orderly k s o = between_below k 0 (count s.changes) s.pending o
