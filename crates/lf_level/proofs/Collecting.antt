-- The distinct numbers of a list.
use Rattle.std.proofs.Common.{◌≡◌, ℕ, ◌≤◌, Bool, true, false, List, [], ◌∷◌, ◌++◌, length, refl, arith, ap, sym, ◌∙◌, subst, length-append}
use Rattle.std.specs.Prelude.{nat_eq, if◌then◌else◌}
use Rattle.std.specs.List.{list_any}
use Rattle.std.specs.Prelude.{Result, Ok, Err}
use Rattle.lf_level.specs.Parameters.{distinct_behind, occurrences, parameters_of}
use Rattle.lf_level.specs.Decision.{Collects, Lists}
use Rattle.lf_core.specs.Term.{Universe}
use Rattle.lf_level.specs.declared.fault.LevelFault.{LevelFault}
use Rattle.lf_level.specs.declared.fault.LevelFault.TheVariants.{TooMany, NoMemory}

-- one after the other
pub behind-append : (seen xs ys : List ℕ) → distinct_behind seen (xs ++ ys) ≡ distinct_behind (distinct_behind seen xs) ys
behind-append seen [] ys = refl
behind-append seen (x ∷ xs) ys = behind-append (if list_any (λ j. nat_eq j x) seen then seen else seen ++ x ∷ []) xs ys

put_on : (b : Bool) (seen : List ℕ) (k : ℕ) → length seen ≤ length (if b then seen else seen ++ k ∷ [])
put_on true seen k = omega arith
put_on false seen k = omega (arith, length-append seen (k ∷ []))

-- It only grows.
pub behind_grows : (seen xs : List ℕ) → length seen ≤ length (distinct_behind seen xs)
behind_grows seen [] = omega arith
behind_grows seen (x ∷ xs) =
    let b = list_any (λ j. nat_eq j x) seen in
    omega (arith, put_on b seen x, behind_grows (if b then seen else seen ++ x ∷ []) xs)

-- What the first part gave, and then the second.
pub collects_both : (seen xs ys new newer : List ℕ) (r : Result (Unit {0}) LevelFault) → new ≡ distinct_behind seen xs → Collects new ys r newer
    → Collects seen (xs ++ ys) r newer
collects_both seen xs ys new newer (Ok _) e c = (c.0 ∙ ap (λ l. distinct_behind l ys) e ∙ sym (behind-append seen xs ys), c.1)
collects_both seen xs ys new newer (Err TooMany) e c =
    let k : distinct_behind new ys ≡ distinct_behind seen (xs ++ ys) = ap (λ l. distinct_behind l ys) e ∙ sym (behind-append seen xs ys) in
    omega (arith, ap length k)
collects_both seen xs ys new newer (Err NoMemory) e c = tt

-- The first part has more than 8 already.
pub collects_fails : (seen xs ys new newer : List ℕ) (f : LevelFault) → Collects seen xs (Err f) new → Collects seen (xs ++ ys) (Err f) newer
collects_fails seen xs ys new newer TooMany c =
    omega (arith, behind_grows (distinct_behind seen xs) ys, ap length (behind-append seen xs ys))
collects_fails seen xs ys new newer NoMemory c = tt

-- The same for the parameters of two levels, from none.
lists_from : (u v : Universe) (names : List ℕ) (r : Result (Unit {0}) LevelFault) (f : LevelFault) → r ≡ Err f
    → Collects [] (occurrences u ++ occurrences v) r names → Lists u v (Err f)
lists_from u v names r TooMany e c = let d : Collects [] (occurrences u ++ occurrences v) (Err TooMany) names = rw e at c in d
lists_from u v names r NoMemory e c = tt

pub lists_fails : (u v : Universe) (seen new : List ℕ) (f : LevelFault) → seen ≡ [] → Collects seen (occurrences u) (Err f) new → Lists u v (Err f)
lists_fails u v seen new f e c = lists_from u v new (Err f) f refl
    (let P : List ℕ → Type 0 = λ w. Collects w (occurrences u) (Err f) new in collects_fails [] (occurrences u) (occurrences v) new new f (subst P e c))

pub lists_fails_later : (u v : Universe) (seen new newer : List ℕ) (f : LevelFault) → seen ≡ [] → new ≡ distinct_behind seen (occurrences u)
    → Collects new (occurrences v) (Err f) newer → Lists u v (Err f)
lists_fails_later u v seen new newer f e d c = lists_from u v newer (Err f) f refl
    (collects_both [] (occurrences u) (occurrences v) new newer (Err f) (d ∙ ap (λ s. distinct_behind s (occurrences u)) e) c)

pub lists_both : (u v : Universe) (seen new newer : List ℕ) → seen ≡ [] → new ≡ distinct_behind seen (occurrences u)
    → newer ≡ distinct_behind new (occurrences v) → newer ≡ parameters_of u v
lists_both u v seen new newer e d c =
    c ∙ ap (λ s. distinct_behind s (occurrences v)) (d ∙ ap (λ s. distinct_behind s (occurrences u)) e) ∙ sym (behind-append [] (occurrences u) (occurrences v))
