-- An end ends what comes after it; a run of the checker is one that changes nothing.
use Rattle.std.proofs.Common.{◌≡◌, ℕ, refl, ap, ◌∙◌}
use Rattle.lf_checker.specs.Run as checker
use Rattle.lf_elaboration.specs.Metavariables.{Changes}
use Rattle.lf_elaboration.specs.Run as run
use Rattle.lf_elaboration.specs.Run.{Answer, go_on, gives_up, answered}
use Rattle.lf_elaboration.specs.Part.{State, Run, back}
use Rattle.lf_steps.specs.declared.halt.Halt.{Halt}
use Rattle.lf_steps.specs.declared.halt.Halt.TheVariants as halt
use Rattle.lf_steps.specs.Runs as steps
use Rattle.lf_unify.specs.Runs as unifier
use Rattle.lf_part.specs.declared.ended.Ended.{Ended}
use Rattle.lf_part.specs.declared.ended.Ended.TheVariants.{Failed, Out, Need, Stopped, NoMemory}
use Rattle.lf_part.specs.Halts.{ended_by}
use Rattle.lf_part.specs.Runs.{ended, IsTold}

pub ends : {A B : Type 0} (e : Ended) (u : ℕ) (s : State) (f : A → Run B) → go_on (ended e u s) f ≡ ended e u s
ends (Failed m) u s f = refl
ends Out u s f = refl
ends (Need k) u s f = refl
ends Stopped u s f = refl
ends NoMemory u s f = refl

pub halts : {A B : Type 0} (o : Answer State A) (f : A → Run B) (e : Ended) (u : ℕ) (s : State) → o ≡ ended e u s → go_on o f ≡ ended e u s
halts o f e u s h = ap (λ p. go_on p f) h ∙ ends e u s f

pub told : (h : Halt) → IsTold (ended_by h) → steps.IsTold h
told (halt.Refused r) t = tt
told halt.Out t = tt
told (halt.Need k) t = tt
told halt.Stopped t = absurd t
told halt.NoMemory t = absurd t

-- What a run of the checker comes to.
kept : {A : Type 0} (h : Halt) (u v : ℕ) (s : State) → answered {A = A} (λ e. gives_up) s (steps.halted h u) ≡ ended (ended_by h) v s
kept (halt.Refused r) u v s = refl
kept halt.Out u v s = refl
kept (halt.Need k) u v s = refl
kept halt.Stopped u v s = refl
kept halt.NoMemory u v s = refl

pub check_ends : {A : Type 0} (o : checker.Answer A) (h : Halt) (u v : ℕ) (s : State) → o ≡ steps.halted h u
    → answered (λ e. gives_up) s o ≡ ended (ended_by h) v s
check_ends o h u v s e = ap (answered (λ e. gives_up) s) e ∙ kept h u v s

pub check_halts : {A B : Type 0} (o : checker.Answer A) (f : A → Run B) (h : Halt) (u v : ℕ) (s : State) → o ≡ steps.halted h u
    → go_on (answered (λ e. gives_up) s o) f ≡ ended (ended_by h) v s
check_halts o f h u v s e = halts _ f (ended_by h) v s (check_ends o h u v s e)

-- A run of the checker among those over the metavariables.
kept_back : {A : Type 0} (h : Halt) (u v : ℕ) (s : State)
    → back {A = A} s (answered (λ e. gives_up) s.changes (steps.halted h u)) ≡ ended (ended_by h) v s
kept_back (halt.Refused r) u v s = refl
kept_back halt.Out u v s = refl
kept_back (halt.Need k) u v s = refl
kept_back halt.Stopped u v s = refl
kept_back halt.NoMemory u v s = refl

pub put_ends : {A : Type 0} (o : checker.Answer A) (h : Halt) (u v : ℕ) (s : State) → o ≡ steps.halted h u
    → back s (answered (λ e. gives_up) s.changes o) ≡ ended (ended_by h) v s
put_ends o h u v s e = ap (λ p. back s (answered (λ e. gives_up) s.changes p)) e ∙ kept_back h u v s

-- A run over the metavariables.
changed : {A : Type 0} (h : Halt) (cs : Changes) (v : ℕ) (s : State)
    → back {A = A} s (unifier.halted h cs) ≡ ended (ended_by h) v (record s { changes = cs })
changed (halt.Refused r) cs v s = refl
changed halt.Out cs v s = refl
changed (halt.Need k) cs v s = refl
changed halt.Stopped cs v s = refl
changed halt.NoMemory cs v s = refl

pub metas_end : {A : Type 0} (o : Answer Changes A) (h : Halt) (cs : Changes) (v : ℕ) (s : State) → o ≡ unifier.halted h cs
    → back s o ≡ ended (ended_by h) v (record s { changes = cs })
metas_end o h cs v s e = ap (back s) e ∙ changed h cs v s
