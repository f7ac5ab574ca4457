-- Runs one behind another.
use Rattle.std.proofs.Common.{◌≡◌, ℕ, refl, ap}
use Rattle.std.specs.Prelude.{Option, Some, None}
use Rattle.lf_elaboration.specs.Run.{Answer, done, failed, out, need, go_on, gives, ◌>>◌}
use Rattle.lf_elaboration.specs.Part.{State, Run}

pub bound : {A B : Type 0} (o : Answer State A) (f g : A → Run B) → ((a : A) (u : ℕ) (s : State) → f a u s ≡ g a u s) → go_on o f ≡ go_on o g
bound (done a u s) f g h = h a u s
bound (failed m u s) f g h = refl
bound (out s) f g h = refl
bound (need k) f g h = refl

pub joined : {A B C : Type 0} (o : Answer State A) (f : A → Run B) (g : B → Run C) → go_on (go_on o f) g ≡ go_on o (λ a u s. go_on (f a u s) g)
joined (done a u s) f g = refl
joined (failed m u s) f g = refl
joined (out s) f g = refl
joined (need k) f g = refl

-- Two runs that are the same one behind what comes first.
pub joined_as : {A B C : Type 0} (o : Answer State A) (f : A → Run B) (g : B → Run C) (h : A → Run C)
    → ((a : A) (u : ℕ) (s : State) → go_on (f a u s) g ≡ h a u s) → go_on (go_on o f) g ≡ go_on o h
joined_as (done a u s) f g h e = e a u s
joined_as (failed m u s) f g h e = refl
joined_as (out s) f g h e = refl
joined_as (need k) f g h e = refl

-- What a value holds.
abbrev value_or : {A : Type 0} → Option A → A → A
value_or (Some x) y = x
value_or None y = y

pub some_is : {A : Type 0} {x y : A} → Some x ≡ Some y → x ≡ y
some_is {x = x} e = ap (λ o. value_or o x) e

-- What comes behind a run that ends as its first part did.
pub ended_so : {A B : Type 0} (o : Answer State A) (n : A → Run (Unit {0})) (f : A → Run B)
    → go_on (go_on o (λ r. n r >> gives r)) f ≡ go_on o (λ r v t. go_on (n r v t) (λ z. f r))
ended_so o n f = joined_as o (λ r. n r >> gives r) f _ (λ r v t. joined (n r v t) (λ z. gives r) f)
