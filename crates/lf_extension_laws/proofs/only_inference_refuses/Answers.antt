use Rattle.lf_extension_laws.proofs.Calm.{only_inference_refuses}
use Rattle.lf_extension_laws.proofs.only_inference_refuses.Goals as goal

pub returns : goal.returns
returns c = only_inference_refuses
