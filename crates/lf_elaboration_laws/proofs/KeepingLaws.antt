-- What elaboration leaves of the state and what it waits for, from the one induction over its rules.
use Rattle.std.proofs.Common.{ℕ, ◌-◌, true, length}
use Rattle.lf_core.specs.Term.{Term}
use Rattle.lf_rules.specs.Environment.{Context}
use Rattle.lf_checker.specs.View.{View}
use Rattle.lf_checker.specs.Run as checker
use Rattle.lf_extension_laws.specs.Needs as checking
use Rattle.lf_extension_laws.specs.Needs.{IsWanted}
use Rattle.lf_extension_laws.proofs.Only.{Only}
use Rattle.lf_extension_laws.proofs.Wanted.{reads_wanted}
use Rattle.lf_extension_laws.proofs.Calm.{Any, reads_any}
use Rattle.lf_elaboration.specs.Run.{Answer, done, failed, out, need}
use Rattle.lf_elaboration.specs.Part.{Part, State}
use Rattle.lf_elaboration.specs.Elaboration as elaboration
use Rattle.lf_elaboration_laws.specs.Once.{dropped}
use Rattle.lf_elaboration_laws.proofs.Growing.{growing}
use Rattle.lf_elaboration_laws.specs.Keeping.{Grows, Keeps, TermsKeep, ProofsKeep, ClosingKeeps, BinderKeeps}
use Rattle.lf_elaboration_laws.specs.Needs.{Waits, TermsWait, ProofsWait, ClosingWaits, BinderWaits}
use Rattle.lf_elaboration_laws.proofs.Keeping.{Held}
use Rattle.lf_elaboration_laws.proofs.KeepingParts.{KeepingCalls, keeps_close, keeps_close_binder}
use Rattle.lf_elaboration_laws.proofs.KeepingItems.{calls_keep}

-- ---- What is left

any_of : {A : Type 0} (o : checker.Answer A) → Only true Any o
any_of (checker.done x u) = tt
any_of (checker.refused e u) = tt
any_of checker.out = tt
any_of (checker.need k) = tt

kept : {A : Type 0} (s : State) (o : Answer State A) → Held Grows Grows Any s o → Keeps s o
kept s (done x u t) h = h
kept s (failed m u t) h = h
kept s (out t) h = h
kept s (need k) h = tt

kept_dropped : {A : Type 0} (k : ℕ) (s : State) (o : Answer State A) → Held Grows Grows Any (dropped k s) o → Keeps s o
kept_dropped k s (done x u t) h = record { changes = h.changes; asked = h.asked; nodes = h.nodes }
kept_dropped k s (failed m u t) h = record { changes = h.changes; asked = h.asked; nodes = h.nodes }
kept_dropped k s (out t) h = record { changes = h.changes; asked = h.asked; nodes = h.nodes }
kept_dropped k s (need n) h = tt

keeping : (P : Part) (n : ℕ) → KeepingCalls Grows Grows Grows Any (elaboration.calls P n)
keeping P n = calls_keep Grows Grows Grows growing Any P (reads_any P.view) (λ d C t u. any_of (P.synthesize d C t u)) n

pub terms_keep : TermsKeep
terms_keep P n t L s E u w = kept w ((elaboration.calls P n).elaborate t L s E u w) ((keeping P n).elaborate t L s E u w)

pub proofs_keep : ProofsKeep
proofs_keep P n L goal is u w = kept w ((elaboration.calls P n).prove L goal is u w) ((keeping P n).prove L goal is u w)

pub closing_keeps : ClosingKeeps
closing_keeps P n L i levels u w =
    kept_dropped i w (elaboration.close P n L i levels u w) (keeps_close Grows Grows Grows growing Any P (elaboration.calls P n) (keeping P n) L i levels u w)

pub binder_keeps : BinderKeeps
binder_keeps P n L i u w =
    kept_dropped i w (elaboration.close_binder P n L i u w)
    (keeps_close_binder Grows Grows Grows growing Any P (elaboration.calls P n) (keeping P n) L i (length L.types - 1) u w)

-- ---- What is waited for

waiting : {A : Type 0} (V : View) (s : State) (o : Answer State A) → Held Grows Grows (IsWanted V) s o → Waits V o
waiting V s (done x u t) h = tt
waiting V s (failed m u t) h = tt
waiting V s (out t) h = tt
waiting V s (need k) h = h

only_wanted : {A : Type 0} (V : View) (o : checker.Answer A) → checking.Waits V o → Only true (IsWanted V) o
only_wanted V (checker.done x u) h = tt
only_wanted V (checker.refused e u) h = tt
only_wanted V checker.out h = tt
only_wanted V (checker.need k) h = h

module _ (P : Part) (f : (n : ℕ) (C : Context) (t : Term) (u : ℕ) → checking.Waits P.view (P.synthesize n C t u)) (n : ℕ) where
  waiting_calls : KeepingCalls Grows Grows Grows (IsWanted P.view) (elaboration.calls P n)
  waiting_calls =
      calls_keep Grows Grows Grows growing (IsWanted P.view) P (reads_wanted P.view) (λ d C t u. only_wanted P.view (P.synthesize d C t u) (f d C t u)) n

pub terms_wait : TermsWait
terms_wait P f n t L s E u w =
    waiting P.view w ((elaboration.calls P n).elaborate t L s E u w) ((waiting_calls P f n).elaborate t L s E u w)

pub proofs_wait : ProofsWait
proofs_wait P f n L goal is u w = waiting P.view w ((elaboration.calls P n).prove L goal is u w) ((waiting_calls P f n).prove L goal is u w)

pub closing_waits : ClosingWaits
closing_waits P f n L i levels u w =
    waiting P.view (dropped i w) (elaboration.close P n L i levels u w)
    (keeps_close Grows Grows Grows growing (IsWanted P.view) P (elaboration.calls P n) (waiting_calls P f n) L i levels u w)

pub binder_waits : BinderWaits
binder_waits P f n L i u w =
    waiting P.view (dropped i w) (elaboration.close_binder P n L i u w)
    (keeps_close_binder Grows Grows Grows growing (IsWanted P.view) P (elaboration.calls P n) (waiting_calls P f n) L i (length L.types - 1) u w)
