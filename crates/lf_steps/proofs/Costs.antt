-- What is made costs its nodes, and no application is less deep than what is applied.
use Rattle.std.proofs.Common.{◌≡◌, ℕ, ◌≤◌, ◌<◌, ◌-◌, ◌+◌, true, false, nat_lt, Bool, List, [], ◌∷◌, refl, sym, ap, ◌∙◌, arith, inl, inr}
use Rattle.std.proofs.lemmas.Bool.{lt-ltb, ltb-false, ltb-true, false_from_ne_true}
use Rattle.std.specs.Prelude.{if◌then◌else◌, max, ◌⊎◌}
use Rattle.lf_core.specs.Term.{Term, app}
use Rattle.lf_core.specs.Size.{node_count, depth}
use Rattle.lf_core.specs.Spine.{apply}
use Rattle.lf_checker.specs.Run.{Answer, done, out, Run, go_on, choose, gives, gives_up, spend, put, made, made_before}

not_above : (a b : ℕ) → b ≤ a → nat_lt a b ≡ false
not_above a b h = false_from_ne_true (nat_lt a b) (λ e. let l = ltb-true a b e in omega arith)

put_by : (b : Bool) (t : Term) (u : ℕ) → b ≡ false → choose b gives_up (gives t) u ≡ done t u
put_by false t u h = refl
put_by true t u h = cc

pub put_done : (t : Term) (u : ℕ) → depth t ≤ 1024 → put t u ≡ done t u
put_done t u h = put_by (nat_lt 1024 (depth t)) t u (not_above 1024 (depth t) h)

put_out : (b : Bool) (t : Term) (u : ℕ) → b ≡ true → choose b gives_up (gives t) u ≡ out
put_out true t u h = refl
put_out false t u h = cc

pub put_deep : (t : Term) (u : ℕ) → 1024 < depth t → put t u ≡ out
put_deep t u h = put_out (nat_lt 1024 (depth t)) t u (lt-ltb 1024 (depth t) h)

spent_by : {A : Type 0} (b : Bool) (n u : ℕ) (m : Run A) → b ≡ false → (if b then out else m (u - n)) ≡ m (u - n)
spent_by false n u m h = refl
spent_by true n u m h = cc

short_by : {A : Type 0} (b : Bool) (n u : ℕ) (m : Run A) → b ≡ true → (if b then out else m (u - n)) ≡ out
short_by true n u m h = refl
short_by false n u m h = cc

pub spent : {A : Type 0} (n u : ℕ) (m : Run A) → n ≤ u → spend n m u ≡ m (u - n)
spent n u m h = spent_by (nat_lt u n) n u m (not_above u n h)

pub short : {A : Type 0} (n u : ℕ) (m : Run A) → u < n → spend n m u ≡ out
short n u m h = short_by (nat_lt u n) n u m (lt-ltb u n h)

pub made_done : (t : Term) (u n : ℕ) → n ≡ node_count t → depth t ≤ 1024 → node_count t ≤ u → made t u ≡ done t (u - n)
made_done t u n e d h = spent (node_count t) u (put t) h ∙ put_done t (u - node_count t) d ∙ ap (λ k. done t (u - k)) (sym e)

either_out : (b : Bool) (t : Term) (n u : ℕ) → put t (u - n) ≡ out → (if b then out else put t (u - n)) ≡ out
either_out true t n u h = refl
either_out false t n u h = h

pub made_deep : (t : Term) (u : ℕ) → 1024 < depth t → made t u ≡ out
made_deep t u h = either_out (nat_lt u (node_count t)) t (node_count t) u (put_deep t (u - node_count t) h)

pub made_short : (t : Term) (u : ℕ) → u < node_count t → made t u ≡ out
made_short t u h = short (node_count t) u (put t) h

-- ---- Before arguments.

pub applied_deeper : (xs : List Term) (t : Term) → depth t ≤ depth (apply t xs)
applied_deeper [] t = omega arith
applied_deeper (x ∷ xs) t = let h = applied_deeper xs (app t x) in omega arith

put_first : (b : Bool) (t s : Term) (u : ℕ) → (b ≡ true → put s u ≡ out) → go_on (choose b gives_up (gives t) u) (λ r. put s) ≡ put s u
put_first true t s u h = sym (h refl)
put_first false t s u h = refl

put_then : (xs : List Term) (t : Term) (u : ℕ) → put (apply t xs) u ≡ go_on (put t u) (λ s. put (apply s xs))
put_then xs t u = by_depth (nat_lt 1024 (depth t)) refl
  where
    by_depth : (b : Bool) → b ≡ nat_lt 1024 (depth t) → put (apply t xs) u ≡ go_on (choose b gives_up (gives t) u) (λ s. put (apply s xs))
    by_depth true e = let h = ltb-true 1024 (depth t) (sym e) in put_deep (apply t xs) u (let k = applied_deeper xs t in omega arith)
    by_depth false e = refl

before_by : (b : Bool) (xs : List Term) (t : Term) (n u : ℕ)
    → (if b then out else put (apply t xs) (u - n)) ≡ go_on (if b then out else put t (u - n)) (λ s. put (apply s xs))
before_by true xs t n u = refl
before_by false xs t n u = put_then xs t (u - n)

pub made_before_is : (xs : List Term) (t : Term) (u : ℕ) → made_before xs t u ≡ go_on (made t u) (λ s. put (apply s xs))
made_before_is xs t u = before_by (nat_lt u (node_count t)) xs t (node_count t) u

-- ---- Rules, whose costs are those of the whole term.

one_more : (m n : ℕ) → m ≤ m + n + 1
one_more m n = omega arith

pub applied_larger : (xs : List Term) (t : Term) → node_count t ≤ node_count (apply t xs)
applied_larger [] t = omega arith
applied_larger (x ∷ xs) t = let h = applied_larger xs (app t x) in omega arith

over_by : (p q : Bool) (t : Term) (u v : ℕ) → (if p then out else choose q gives_up (gives t) v) ≡ out → (p ≡ true) ⊎ (q ≡ true)
over_by true q t u v e = inl refl
over_by false true t u v e = inr refl
over_by false false t u v e = cc

over : (xs : List Term) (t : Term) (u : ℕ) → (nat_lt u (node_count t) ≡ true) ⊎ (nat_lt 1024 (depth t) ≡ true) → made (apply t xs) u ≡ out
over xs t u (inl h) = let k = ltb-true u (node_count t) h in let p = applied_larger xs t in made_short (apply t xs) u (omega arith)
over xs t u (inr h) = let k = ltb-true 1024 (depth t) h in let p = applied_deeper xs t in made_deep (apply t xs) u (omega arith)

applied_out : (xs : List Term) (t : Term) (u : ℕ) → made t u ≡ out → made (apply t xs) u ≡ out
applied_out xs t u e = over xs t u (over_by (nat_lt u (node_count t)) (nat_lt 1024 (depth t)) t u (u - node_count t) e)

pub rule_spent : (xs ys zs : List Term) (t : Term) (u : ℕ) → made t u ≡ out → made (apply (apply (apply t xs) ys) zs) u ≡ out
rule_spent xs ys zs t u e = applied_out zs (apply (apply t xs) ys) u (applied_out ys (apply t xs) u (applied_out xs t u e))
