-- The walk to axioms waits for what a lookup or a value of the view waits for.
use Rattle.std.proofs.Common.{◌≡◌, ℕ, zero, suc, Bool, true, false, if◌then◌else◌, List, [], ◌∷◌, refl, subst}
use Rattle.lf_core.specs.Term.{Path}
use Rattle.lf_core.specs.declared.constant.TaskKey.{TaskKey}
use Rattle.lf_core.specs.declared.constant.TaskKey.TheVariants.{Body, Real}
use Rattle.lf_rules.specs.Recursor.{is_among}
use Rattle.lf_checker.specs.View.{View, Lookup, found, absent, need_body, need_real, lookup_of, KnownBody, value, opaque, unresolved, value_of}
use Rattle.lf_checker.specs.Whnf.{turn_limit}
use Rattle.lf_extension_laws.specs.Needs.{IsWanted}
use Rattle.lf_extension_laws.proofs.Wanted.{lookup_wants, value_wants}
use Rattle.lf_elaboration.specs.Axioms.{Task, visit, read, Walk, ended, waits, unended, walk_on, read_on, walk, axioms_by}
use Rattle.lf_elaboration_laws.specs.Needs.{WalkWants}

walk_waits : (V : View) (f : ℕ) (seen : List Path) (ts : List Task) (k : TaskKey) → walk V f seen ts ≡ waits k → IsWanted V k
walk_waits V zero seen ts k h = absurd (cc)
walk_waits V (suc f) seen [] k h = absurd (cc)
walk_waits V (suc f) seen (visit n ∷ ts) k h = at (λ s us e. walk_waits V f s us k e) (is_among n seen) h
  where
    look : ((s : List Path) (us : List Task) → walk V f s us ≡ waits k → IsWanted V k) → (l : Lookup) → lookup_of V n ≡ l
        → walk_on (walk V f) V seen n ts l ≡ waits k → IsWanted V k
    look on (found c) q e = on (n ∷ seen) _ e
    look on absent q e = on seen ts e
    look on (need_body p) q e = let i : Body p ≡ k = cc in subst (IsWanted V) i (lookup_wants V n p q)
    look on need_real q e = let i : Real n ≡ k = cc in subst (IsWanted V) i q

    at : ((s : List Path) (us : List Task) → walk V f s us ≡ waits k → IsWanted V k) → (b : Bool)
        → (if b then walk V f seen ts else walk_on (walk V f) V seen n ts (lookup_of V n)) ≡ waits k → IsWanted V k
    at on true e = on seen ts e
    at on false e = look on (lookup_of V n) refl e
walk_waits V (suc f) seen (read n ∷ ts) k h = at (λ s us e. walk_waits V f s us k e) (value_of V n) refl h
  where
    at : ((s : List Path) (us : List Task) → walk V f s us ≡ waits k → IsWanted V k) → (b : KnownBody) → value_of V n ≡ b
        → read_on (walk V f) seen ts b ≡ waits k → IsWanted V k
    at on (value v i) q e = on seen _ e
    at on opaque q e = on seen ts e
    at on (unresolved j) q e = let i : j ≡ k = cc in subst (IsWanted V) i (value_wants V n j q)

pub walk_wants : WalkWants
walk_wants V n k h = at (walk V turn_limit [] (visit n ∷ [])) refl h
  where
    at : (w : Walk) → walk V turn_limit [] (visit n ∷ []) ≡ w → axioms_by V w ≡ waits k → IsWanted V k
    at (ended out) q e = absurd (cc)
    at (waits j) q e = let i : j ≡ k = cc in subst (IsWanted V) i (walk_waits V turn_limit [] (visit n ∷ []) j q)
    at unended q e = absurd (cc)
