-- What the view shows of a body, with the height of the constant that it finds.
use Rattle.std.proofs.Common.{◌≡◌, ℕ, Bool, true, false, refl, sym, ap, ◌∙◌}
use Rattle.std.specs.Prelude.{Option, Some, None, if◌then◌else◌}
use Rattle.lf_core.specs.Term.{Path, Term}
use Rattle.lf_core.specs.declared.constant.ConstInfo.{ConstInfo}
use Rattle.lf_core.specs.declared.constant.TaskKey.TheVariants.{Body}
use Rattle.lf_checker.specs.View.{View, found, lookup_of, body_of, body_in, own_value, known_body, found_body, find_branch, opaque}
use Rattle.lf_core.specs.Suffix.{is_definition}
use Rattle.lf_env.specs.Answer.{Shows}
use Rattle.lf_env.specs.declared.answer.BodyOf.{BodyOf}
use Rattle.lf_env.specs.declared.answer.BodyOf.TheVariants.{Value, Opaque, NeedBody}
use Rattle.lf_steps.specs.Steps.{with_height}

shown_known : (w : Option Term) (h : ℕ) (o : BodyOf) → Shows o (known_body w h) → with_height o h ≡ known_body w h
shown_known (Some w) h (Value v) s = λ i. known_body (Some (s i)) h
shown_known (Some w) h Opaque s = absurd s
shown_known (Some w) h (NeedBody p) s = absurd s
shown_known None h (Value v) s = absurd s
shown_known None h Opaque s = refl
shown_known None h (NeedBody p) s = absurd s

shown_in : (c : ConstInfo) (b : Bool) (p : Option ℕ) (o : BodyOf) → Shows o (if b then own_value c p else opaque)
    → with_height o c.height ≡ (if b then own_value c p else opaque)
shown_in c false p (Value v) s = absurd s
shown_in c false p Opaque s = refl
shown_in c false p (NeedBody q) s = absurd s
shown_in c true None o s = shown_known c.value c.height o s
shown_in c true (Some p) (Value v) s = absurd s
shown_in c true (Some p) Opaque s = absurd s
shown_in c true (Some p) (NeedBody q) s = λ i. own_value c (Some (s i))

at_found : (V : View) (n : Path) (c : ConstInfo) → lookup_of V n ≡ found c → body_of V n ≡ body_in V c
at_found V n c e = ap (λ l. found_body V n l) e

pub shown : (V : View) (n : Path) (c : ConstInfo) (o : BodyOf) → lookup_of V n ≡ found c → Shows o (body_of V n) → with_height o c.height ≡ body_of V n
shown V n c o e s =
    let b = at_found V n c e in
    let t : Shows o (body_in V c) = rw b at s in
    shown_in c (is_definition c.kind) (find_branch V.branches c.name) o t ∙ sym b
