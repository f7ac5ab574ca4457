use Rattle.std.proofs.Common.{◌≡◌, ◌∙◌, ap, refl, Option, Some, None, List, [], ◌∷◌, Bool, true, false, cond, IfSome}
use Rattle.std.specs.List.{find}
use Rattle.std.specs.Option.{option_map}
use Rattle.lf_checker.specs.View.{Entry}
use Rattle.lf_env.specs.Layer.{has_name}
use Rattle.lf_env.proofs.layer.entry_in.Goals as goal

passes_step : (p : Entry → Bool) (b : Bool) (e x : Entry) (rest : Option Entry) → p e ≡ b → (Some x ≡ rest → p x ≡ true) → Some x ≡ cond b (Some e) rest
    → p x ≡ true
passes_step p true e x rest h r s = let same : x ≡ e = cc in ap p same ∙ h
passes_step p false e x rest h r s = r s

passes : (p : Entry → Bool) (es : List Entry) (x : Entry) → Some x ≡ find p es → p x ≡ true
passes p [] x h = cc
passes p (e ∷ es) x h = passes_step p (p e) e x (find p es) refl (passes p es x) h

found_passes : {A : Type 0} (f : A → Entry) (p : Entry → Bool) (es : List Entry) (r : Option A) → option_map f r ≡ find p es → IfSome r (λ a. p (f a) ≡ true)
found_passes f p es None h = tt
found_passes f p es (Some a) h = passes p es (f a) h

pub returns-clause-named : goal.returns-clause-named
returns-clause-named c =
    found_passes (λ r. r.1.now) (has_name c.args.words.now) c.args.table.now.keys c.get_full.result
    (c.get_full.ensures.key ∙ ap (λ n. find (has_name n) c.args.table.now.keys) c.new.ensures)
