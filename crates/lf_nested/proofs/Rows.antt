-- Runs one behind another.
use Rattle.std.proofs.Common.{◌≡◌, ℕ, refl, ap, ◌∙◌}
use Rattle.lf_elaboration.specs.Run.{Answer, done, failed, out, need, go_on, gives, ◌>>◌}
use Rattle.lf_elaboration.specs.Part.{State, Run}
use Rattle.lf_terms.proofs.Binds.{bound}

-- What comes behind a run that gives what its first part gave.
behind : {A B C : Type 0} (o : Answer State (Unit {0})) (a : A) (f : A → Run B) (g : B → Run C)
    → go_on (go_on (go_on o (λ z. gives a)) f) g ≡ go_on o (λ z w q. go_on (f a w q) g)
behind (done z u s) a f g = refl
behind (failed m u s) a f g = refl
behind (out s) a f g = refl
behind (need k) a f g = refl

pub ended_in : {A B C : Type 0} (o : Answer State A) (n : A → Run (Unit {0})) (f : A → Run B) (g : B → Run C)
    → go_on (go_on (go_on o (λ r. n r >> gives r)) f) g ≡ go_on o (λ r v t. go_on (n r v t) (λ z w q. go_on (f r w q) g))
ended_in (done a u s) n f g = behind (n a u s) a f g
ended_in (failed m u s) n f g = refl
ended_in (out s) n f g = refl
ended_in (need k) n f g = refl

-- Runs that begin alike and go on alike.
pub both : {A B : Type 0} (o p : Answer State A) (f g : A → Run B) → o ≡ p → ((a : A) (u : ℕ) (s : State) → f a u s ≡ g a u s)
    → go_on o f ≡ go_on p g
both o p f g e h = ap (λ r. go_on r f) e ∙ bound p f g h
