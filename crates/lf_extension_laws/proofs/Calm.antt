-- Weak head forms, equality and normal forms are never refused.
use Rattle.std.proofs.Common.{false}
use Rattle.lf_core.specs.declared.constant.TaskKey.{TaskKey}
use Rattle.lf_checker.specs.View.{View, KnownBody, value, opaque, unresolved, body_of, There, there, not_there, not_known, there_of}
use Rattle.lf_checker.specs.Run.{Answer, done, refused, out, need}
use Rattle.lf_checker.specs.Calls.{Seen, known, unknown, missing, see}
use Rattle.lf_checker.specs.Checker.{calls}
use Rattle.lf_extension_laws.specs.Calm.{IsNoRefusal, OnlyInferenceRefuses}
use Rattle.lf_extension_laws.proofs.Only.{Only, SeenIn, BodyIn, ThereIn, Reads, Asks}
use Rattle.lf_extension_laws.proofs.OnlyInfer.{calls_ask}

abbrev pub Any : TaskKey → Type 0
Any k = Unit {0}

pub reads_any : (V : View) → Reads V Any
reads_any V = record { sees = λ n. seen (see V n); bodies = λ n. body (body_of V n); theres = λ n. place (there_of V n) }
  where
    seen : (q : Seen) → SeenIn Any q
    seen (known c) = tt
    seen unknown = tt
    seen (missing k) = tt

    body : (b : KnownBody) → BodyIn Any b
    body (value v h) = tt
    body opaque = tt
    body (unresolved k) = tt

    place : (t : There) → ThereIn Any t
    place (there p) = tt
    place not_there = tt
    place (not_known k) = tt

no_refusal : {A : Type 0} (o : Answer A) → Only false Any o → IsNoRefusal o
no_refusal (done x u) h = tt
no_refusal (refused e u) h = h
no_refusal out h = tt
no_refusal (need k) h = tt

pub only_inference_refuses : OnlyInferenceRefuses
only_inference_refuses V depth =
    let a : Asks Any (calls V depth) = calls_ask V Any (reads_any V) depth in
    record {
      whnf = λ d C t u. no_refusal ((calls V depth).whnf d C t u) (a.whnf false d C t u);
      equal = λ C s t u. no_refusal ((calls V depth).equal C s t u) (a.equal false C s t u);
      normalize = λ C t u. no_refusal ((calls V depth).normalize C t u) (a.normalize false C t u);
    }
