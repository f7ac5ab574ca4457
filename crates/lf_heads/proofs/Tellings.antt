-- What queries tell, from one run to the next.
use Rattle.std.proofs.Common.{◌≡◌, ℕ, List, ap, sym, ◌∙◌}
use Rattle.std.specs.Prelude.{Some}
use Rattle.lf_core.specs.Term.{Path, Term}
use Rattle.lf_checker.specs.Checker.{normalize}
use Rattle.lf_elaboration.specs.Run.{done, go_on, ◌>>=◌, gives, checks}
use Rattle.lf_elaboration.specs.Part.{Part, Locals, State, instantiated}
use Rattle.lf_elaboration.specs.Closing.{locals_put_in}
use Rattle.lf_msg.specs.declared.info.Info.TheVariants.{Reduced}
use Rattle.lf_msg.specs.declared.diagnostic.Diagnostic.{Diagnostic}
use Rattle.lf_msg.specs.declared.diagnostic.Diagnostic.TheVariants.{Info}
use Rattle.lf_heads.specs.Asked.{printed, checked, checked_under, reduced_under}

pub checked_is : (P : Part) (L : Locals) (t0 T0 t T : Term) (u v w : ℕ) (s : State) (names : List Path) (d : Diagnostic)
    → instantiated t0 u s ≡ done t v s → instantiated T0 v s ≡ done T w s → names ≡ L.names → d ≡ checked P names t T
    → checked_under P L t0 T0 u s ≡ done (Some d) w s
checked_is P L t0 T0 t T u v w s names d h1 h2 e f =
    ap (λ o. go_on o (λ x. instantiated T0 >>= (λ X. gives (Some (checked P L.names x X))))) h1
    ∙ ap (λ o. go_on o (λ X. gives (Some (checked P L.names t X)))) h2
    ∙ ap (λ y. done (Some y) w s) (sym (f ∙ ap (λ ns. checked P ns t T) e))

pub reduced_is : (P : Part) (d : ℕ) (L0 L : Locals) (t0 t n : Term) (u v w x : ℕ) (s : State) (text : List ℕ)
    → locals_put_in L0 u s ≡ done L v s → instantiated t0 v s ≡ done t w s → checks (normalize P.view d L.types t) w s ≡ done n x s
    → text ≡ printed P L.names n → reduced_under P d L0 t0 u s ≡ done (Some (Info (Reduced text))) x s
reduced_is P d L0 L t0 t n u v w x s text h1 h2 h3 e =
    ap (λ o. go_on o (λ K. instantiated t0 >>= (λ y. checks (normalize P.view d K.types y) >>= (λ m. gives (Some (Info (Reduced (printed P K.names m)))))))) h1
    ∙ ap (λ o. go_on o (λ y. checks (normalize P.view d L.types y) >>= (λ m. gives (Some (Info (Reduced (printed P L.names m))))))) h2
    ∙ ap (λ o. go_on o (λ m. gives (Some (Info (Reduced (printed P L.names m)))))) h3
    ∙ ap (λ y. done (Some (Info (Reduced y))) x s) (sym e)
