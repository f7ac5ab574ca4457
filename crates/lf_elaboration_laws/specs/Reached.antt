-- The walk from a constant gives the axioms that it reaches.
use Rattle.std.specs.Prelude.{◌≡◌, true, List, [], ◌∷◌}
use Rattle.lf_core.specs.Term.{Path}
use Rattle.lf_checker.specs.View.{View, Entry, is_axiom}
use Rattle.lf_elaboration.specs.Axioms.{Reaches, ended, reached}

-- Of these entries the names of the axioms that the constant reaches, in order.
pub data AxiomsReached (V : View) (n : Path) : List Entry → List Path → Type 0 where
  nothing : AxiomsReached V n [] []
  listed : {e : Entry} {es : List Entry} {ns : List Path} → is_axiom e.info.kind ≡ true → Reaches V n e.info.name → AxiomsReached V n es ns
      → AxiomsReached V n (e ∷ es) (e.info.name ∷ ns)
  passed : {e : Entry} {es : List Entry} {ns : List Path} → (is_axiom e.info.kind ≡ true → Reaches V n e.info.name → ⊥) → AxiomsReached V n es ns
      → AxiomsReached V n (e ∷ es) ns

-- Where the walk ends it has listed exactly the axioms that the constant reaches, each once for its entry, in the order of the entries.
abbrev pub WalkMeetsReaching : Type 0
WalkMeetsReaching = (V : View) (n : Path) (ns : List Path) → reached V n ≡ ended ns → AxiomsReached V n V.entries ns
