-- The definitions of the fields, one at a time: behind those that were made before.
use Rattle.std.proofs.Common.{◌≡◌, ℕ, suc, ◌+◌, List, [], ◌∷◌, ◌++◌, refl, sym, ap, ◌∙◌, append_assoc, subst, drop, arith}
use Rattle.std.specs.Prelude.{Option, Some, None, Result}
use Rattle.lf_core.specs.Term.{Path, Term}
use Rattle.lf_core.specs.declared.constant.ConstInfo.{ConstInfo}
use Rattle.lf_rules.specs.Telescope.{Telescope}
use Rattle.lf_syntax.specs.declared.leaf.Ident.{Ident}
use Rattle.lf_checker.specs.View.{View, pushed}
use Rattle.lf_checker.specs.Run.{Answer, done, refused, out, need, Run, go_on, gives}
use Rattle.lf_elaboration.specs.Forms.{Binding, as_pi}
use Rattle.lf_steps.specs.Runs.{RunsAs}
use Rattle.lf_steps.specs.declared.halt.Halt.{Halt}
use Rattle.lf_fields.specs.Parts.{step, onto, at_field, definitions, defined, first, behind, after}

append_nil : (cs : List ConstInfo) → cs ++ [] ≡ cs
append_nil [] = refl
append_nil (c ∷ cs) = ap (λ ds. c ∷ ds) (append_nil cs)

onto_twice : (cs : List ConstInfo) (c : ConstInfo) (o : Answer (List ConstInfo))
    → go_on (go_on o (λ ds. gives ((c ∷ []) ++ ds))) (λ ds. gives (cs ++ ds)) ≡ go_on o (λ ds. gives ((cs ++ c ∷ []) ++ ds))
onto_twice cs c (done ds u) = ap (λ es. done es u) (sym (append_assoc cs (c ∷ []) ds))
onto_twice cs c (refused e u) = refl
onto_twice cs c out = refl
onto_twice cs c (need k) = refl

abbrev pub pair : ConstInfo → Term → ConstInfo × Term
pair c A = (c, A)

onto_step : (cs : List ConstInfo) (f : ConstInfo → Term → Run (List ConstInfo)) (o : Answer (ConstInfo × Term))
    → go_on (go_on o (λ r u. go_on (f r.0 r.1 u) (λ ds. gives ((r.0 ∷ []) ++ ds)))) (λ ds. gives (cs ++ ds))
    ≡ go_on o (λ r. onto (cs ++ r.0 ∷ []) (f r.0 r.1))
onto_step cs f (done r u) = onto_twice cs r.0 (f r.0 r.1 u)
onto_step cs f (refused e u) = refl
onto_step cs f out = refl
onto_step cs f (need k) = refl

one_more : (i : ℕ) → suc i ≡ i + 1
one_more i = omega arith

through : (cs : List ConstInfo) (depth p : ℕ) (n : Path) (ls : List Path) (k : ℕ) (xs : Telescope) (i : ℕ) (f : Ident) (fs : List Ident) (W : View)
    (a : Answer (ConstInfo × Term))
    → go_on a (λ r. behind (cs ++ r.0 ∷ []) depth p n ls k xs (i + 1) fs (pushed W r.0 p) r.1)
    ≡ go_on (go_on a (λ r. gives (Some r))) (after cs depth p n ls k xs i (f ∷ fs) W)
through cs depth p n ls k xs i f fs W (done r v) = refl
through cs depth p n ls k xs i f fs W (refused e v) = refl
through cs depth p n ls k xs i f fs W out = refl
through cs depth p n ls k xs i f fs W (need j) = refl

unrolled_at : (cs : List ConstInfo) (depth p : ℕ) (n : Path) (ls : List Path) (k : ℕ) (xs : Telescope) (i : ℕ) (f : Ident) (fs : List Ident) (W : View)
    (o : Option Binding) (u : ℕ)
    → onto cs (at_field depth W p n ls k xs i (n ++ f.name) o (definitions depth p n ls k xs (suc i) fs)) u
    ≡ go_on (defined depth W n ls k xs i (n ++ f.name) o u) (after cs depth p n ls k xs i (f ∷ fs) W)
unfolding behind
unrolled_at cs depth p n ls k xs i f fs W None u = refl
unrolled_at cs depth p n ls k xs i f fs W (Some b) u =
    onto_step cs (λ c B. definitions depth p n ls k xs (suc i) fs (pushed W c p) B) (step depth W n ls k xs i (n ++ f.name) b u)
    ∙ (λ j. go_on (step depth W n ls k xs i (n ++ f.name) b u) (λ r. onto (cs ++ r.0 ∷ []) (definitions depth p n ls k xs (one_more i j) fs (pushed W r.0 p) r.1)))
    ∙ through cs depth p n ls k xs i f fs W (step depth W n ls k xs i (n ++ f.name) b u)

-- One field, and those behind it.
pub unrolled : (cs : List ConstInfo) (depth p : ℕ) (n : Path) (ls : List Path) (k : ℕ) (xs : Telescope) (i : ℕ) (fs : List Ident) (W : View) (t : Term) (u : ℕ)
    → behind cs depth p n ls k xs i fs W t u ≡ go_on (first depth W n ls k xs i fs t u) (after cs depth p n ls k xs i fs W)
unfolding behind definitions first
unrolled cs depth p n ls k xs i [] W t u = ap (λ ds. done ds u) (append_nil cs)
unrolled cs depth p n ls k xs i (f ∷ fs) W t u = unrolled_at cs depth p n ls k xs i f fs W (as_pi t) u

from_none : (o : Answer (List ConstInfo)) → go_on o (λ ds. gives ([] ++ ds)) ≡ o
from_none (done ds u) = refl
from_none (refused e u) = refl
from_none out = refl
from_none (need k) = refl

-- Behind none.
pub behind_none : (depth p : ℕ) (n : Path) (ls : List Path) (k : ℕ) (xs : Telescope) (i : ℕ) (fs : List Ident) (W : View) (t : Term) (u : ℕ)
    → definitions depth p n ls k xs i fs W t u ≡ behind [] depth p n ls k xs i fs W t u
unfolding behind
behind_none depth p n ls k xs i fs W t u = sym (from_none (definitions depth p n ls k xs i fs W t u))

pub goes_on : {B : Type 0} (g : B → List ConstInfo) (cs ds : List ConstInfo) (depth p : ℕ) (n : Path) (ls : List Path) (k : ℕ) (xs : Telescope) (i j : ℕ)
    (fs others : List Ident) (W X : View) (t A : Term) (c : ConstInfo) (u v w : ℕ) (r : Result B Halt)
    → first depth W n ls k xs i fs t u ≡ done (Some (pair c A)) v → ds ≡ cs ++ c ∷ [] → X ≡ pushed W c p → j ≡ i + 1 → others ≡ drop 1 fs
    → RunsAs g (behind ds depth p n ls k xs j others X A v) r w → RunsAs g (behind cs depth p n ls k xs i fs W t u) r w
goes_on g cs ds depth p n ls k xs i j fs others W X t A c u v w r h a x q o z =
    subst (λ e. RunsAs g e r w)
    ((λ l. behind (a l) depth p n ls k xs (q l) (o l) (x l) A v)
    ∙ (λ l. go_on (sym h l) (after cs depth p n ls k xs i fs W))
    ∙ sym (unrolled cs depth p n ls k xs i fs W t u))
    z
