-- No constant is awaited under the empty name: a head that is no recursor has no equations.
use Rattle.std.proofs.Common.{◌≡◌, ℕ, Bool, List, [], refl, ◌∙◌, arith}
use Rattle.std.specs.Prelude.{Option, Some, None}
use Rattle.lf_core.specs.Term.{Path, Term}
use Rattle.lf_core.specs.declared.constant.Detail.TheVariants.{Plain, Ind, Ctor}
use Rattle.lf_rules.specs.Telescope.{Telescope}
use Rattle.lf_checker.specs.Calls.{Calls, Seen, known, unknown, seen_as, see}
use Rattle.lf_checker.specs.Extends.{Shape}
use Rattle.lf_checker.specs.Run.{done}
use Rattle.lf_checker.specs.View.{View, Entry, absent, find_entry, by_suffix, by_branch, by_entry}
use Rattle.lf_elaboration.specs.CaseEquation.{case_of_type}
use Rattle.lf_elaboration.specs.Forms.{Instance}
use Rattle.lf_env.proofs.Parents.{over_none, nothing_last}

nothing : (V : View) → by_entry V [] None ≡ absent
nothing V = (λ k. by_branch V [] (over_none V.branches [] (omega arith) k)) ∙ (λ k. by_suffix V [] (nothing_last [] (omega arith) k))

-- What holds of what is seen under the empty name holds where it is unknown and where it is known.
either : (P : Seen → Type 0) (V : View) → P unknown → ((k : Shape) → P (known k)) → (o : Option Entry) → P (seen_as [] (by_entry V [] o))
either P V p q None = rw (nothing V) p
either P V p q (Some e) = q _

seen : (P : Seen → Type 0) (V : View) → P unknown → ((k : Shape) → P (known k)) → P (see V [])
seen P V p q = either P V p q (find_entry V.entries [])

pub at_plain : (V : View) (c : Calls) (f : Path) (levels : List Path) (i : ℕ) (xs : Telescope) (r : Instance) (args : List Term) (u : ℕ)
    → case_of_type V c f levels i xs r args Plain (see V []) u ≡ done None u
at_plain V c f levels i xs r args u = seen (λ s. case_of_type V c f levels i xs r args Plain s u ≡ done None u) V refl (λ k. refl)

pub at_type : (V : View) (c : Calls) (f : Path) (levels : List Path) (i : ℕ) (xs : Telescope) (r : Instance) (args : List Term)
    (params indices : ℕ) (ctors : List Path) (large : Bool) (u : ℕ)
    → case_of_type V c f levels i xs r args (Ind params indices ctors large) (see V []) u ≡ done None u
at_type V c f levels i xs r args params indices ctors large u =
    seen (λ s. case_of_type V c f levels i xs r args (Ind params indices ctors large) s u ≡ done None u) V refl (λ k. refl)

pub at_constructor : (V : View) (c : Calls) (f : Path) (levels : List Path) (i : ℕ) (xs : Telescope) (r : Instance) (args : List Term)
    (ind : Path) (index params fields : ℕ) (u : ℕ)
    → case_of_type V c f levels i xs r args (Ctor ind index params fields) (see V []) u ≡ done None u
at_constructor V c f levels i xs r args ind index params fields u =
    seen (λ s. case_of_type V c f levels i xs r args (Ctor ind index params fields) s u ≡ done None u) V refl (λ k. refl)
