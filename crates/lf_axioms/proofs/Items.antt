-- Lists of tasks and of visited constants.
use Rattle.std.proofs.Common.{◌≡◌, Bool, true, false, ◌||◌, List, [], ◌∷◌, ◌++◌, refl, sym, ap, ◌∙◌, fold}
use Rattle.std.specs.List.{list_any}
use Rattle.std.proofs.lemmas.List.Sums.{fold-append}
use Rattle.lf_core.specs.Term.{Path}
use Rattle.lf_core.specs.Same.{same_path}
use Rattle.lf_rules.specs.Recursor.{is_among}
use Rattle.lf_elaboration.specs.Axioms.{Task, visit, visits}
use Rattle.lf_axioms.specs.declared.item.Visited.{Visited}
use Rattle.lf_axioms.specs.declared.item.Item.{Item}
use Rattle.lf_axioms.specs.Walked.{tasks_of, todo, visited}

pub joined : (xs ys : List Path) (ts : List Task) → visits xs ++ (visits ys ++ ts) ≡ visits (xs ++ ys) ++ ts
joined [] ys ts = refl
joined (x ∷ xs) ys ts = ap (λ l. visit x ∷ l) (joined xs ys ts)

pub joined_three : (xs ys zs : List Path) (ts : List Task) → visits xs ++ (visits ys ++ (visits zs ++ ts)) ≡ visits (xs ++ (ys ++ zs)) ++ ts
joined_three xs ys zs ts = ap (λ l. visits xs ++ l) (joined ys zs ts) ∙ joined xs (ys ++ zs) ts

pub visited_more : (ks : List Visited) (k : Visited) → visited (ks ++ k ∷ []) ≡ k.name.now ∷ visited ks
visited_more ks k = fold-append (λ ns j. j.name.now ∷ ns) [] ks (k ∷ [])

among_from : (n : Path) (ks : List Visited) (ns : List Path)
    → is_among n (fold (λ ms j. j.name.now ∷ ms) ns ks) ≡ (list_any (λ k. same_path n k.name.now) ks || is_among n ns)
among_from n [] ns = refl
among_from n (k ∷ ks) ns =
    among_from n ks (k.name.now ∷ ns) ∙ swapped (same_path n k.name.now) (list_any (λ k. same_path n k.name.now) ks) (is_among n ns)
  where
    swapped : (a b c : Bool) → (b || (a || c)) ≡ ((a || b) || c)
    swapped true true c = refl
    swapped true false c = refl
    swapped false true c = refl
    swapped false false c = refl

bare : (b : Bool) → (b || false) ≡ b
bare true = refl
bare false = refl

pub among_visited : (n : Path) (ks : List Visited) → list_any (λ k. same_path n k.name.now) ks ≡ is_among n (visited ks)
among_visited n ks = sym (among_from n ks [] ∙ bare (list_any (λ k. same_path n k.name.now) ks))

pub todo_more : (items : List Item) (i : Item) → todo (items ++ i ∷ []) ≡ tasks_of i ++ todo items
todo_more items i = fold-append (λ ts j. tasks_of j ++ ts) [] items (i ∷ [])
