-- A derived list that the view knows is one over which the checker is sound.
use Rattle.std.proofs.Common.{◌≡◌, ℕ, zero, suc, List, [], ◌∷◌, length, refl, sym, ap, subst, ◌∙◌, arith, Some, slice_get, Contains}
use Rattle.lf_core.specs.Term.{Path, Term}
use Rattle.lf_rules.specs.Environment.{Environment, Declared}
use Rattle.lf_rules.specs.Telescope.{pi_count}
use Rattle.lf_rules.specs.Recursor.{recursor_family, recursor_rules}
use Rattle.lf_rules.specs.Inductive.{type_constant}
use Rattle.lf_rules.specs.Derived.{Derived}
use Rattle.lf_core.specs.declared.constant.ConstInfo.{ConstInfo}
use Rattle.lf_core.specs.declared.constant.Detail.{Detail}
use Rattle.lf_core.specs.declared.constant.Detail.TheVariants.{Plain, Ind, Ctor, Rec}
use Rattle.lf_inductive_laws.specs.Recursors.{AllRight}
use Rattle.lf_inductive_laws.specs.Closed.{RulesRight, ConstantRight}
use Rattle.lf_inductive_laws.specs.Declarations.{RecursorDeclared}
use Rattle.lf_checker.specs.View.{View}
use Rattle.lf_checker_laws.specs.Soundness.{Names, PartsHeld}
use Rattle.lf_checker_laws.specs.Declarations.{Knows, HasBeside, DerivedIsClosedList, DerivedSoundness}
use Rattle.lf_checker_laws.proofs.All.{calls_sound}
use Rattle.lf_checker_laws.proofs.Known.{held_of, names_of}
use Rattle.lf_inductive_laws.proofs.Closes.{derived_is_closed}
use Rattle.lf_inductive_laws.proofs.Right.{derived_is_right}
use Rattle.lf_inductive_laws.proofs.Declared.{as_declared}

-- With a recursor the list has the type and the constructors of its declaration, and what its rules name.
rules_named : (V : View) (E : Environment) → Knows V E → HasBeside V E → (n : ℕ) (rules : List Term) → AllRight E n rules → (k : ℕ) (r : Term)
    → slice_get rules k ≡ Some r → Names V E n r
rules_named V E k b n [] h i r e = absurd (cc)
rules_named V E k b n (x ∷ xs) h zero r e = let e' : x ≡ r = cc in subst (Names V E n) e' (names_of V E n k.found_there b x h.0.named h.0.levels)
rules_named V E k b n (x ∷ xs) h (suc i) r e = rules_named V E k b n xs h.1 i r e

recursor_parts : (V : View) (E : Environment) → Knows V E → HasBeside V E → (c : ConstInfo) (ind : Path) (params minors indices : ℕ) (rules : List Term)
    → c.detail ≡ Rec ind params minors indices rules → RecursorDeclared E c → ConstantRight E c
    → PartsHeld V E (length c.levels) (Rec ind params minors indices rules)
recursor_parts V E k b c ind params minors indices rules q r right =
    let d = r.at.declaration in
    let e : Rec d.name d.params (length (recursor_family d r.at.large).cases) (pi_count (recursor_family d r.at.large).rest) (recursor_rules d r.at.large) ≡ Rec
    ind params minors indices rules = sym (ap (λ x. x.detail) r.is) ∙ q in
    let name : d.name ≡ ind = ap named_by e in
    let declared_there : Declared E ind = (type_constant d r.at.large, r.at.within (type_constant d r.at.large) (zero, omega arith, refl), name) in (
      held_of V E k.found_there ind declared_there,
      λ n x index own fields f w. k.whole n x ind index own fields f w declared_there,
      rules_named V E k b (length c.levels) rules (subst (RulesRight E c) q right.rules),
    )
  where
    named_by : Detail → Path
    named_by (Rec i p m j rs) = i
    named_by Plain = []
    named_by (Ind p j cs l) = []
    named_by (Ctor i j p f) = []

parts_held : (V : View) (E : Environment) → Derived E → Knows V E → HasBeside V E → (c : ConstInfo) → Contains E c → (e : Detail) → c.detail ≡ e
    → PartsHeld V E (length c.levels) e
parts_held V E h k b c w (Rec ind params minors indices rules) q = recursor_parts V E k b c ind params minors indices rules q
    ((as_declared E h).recursors c ind params minors indices rules w q) (derived_is_right E h c w)
parts_held V E h k b c w Plain q = tt
parts_held V E h k b c w (Ind params indices names large) q = tt
parts_held V E h k b c w (Ctor ind index own fields) q = tt

pub derived_is_closed_list : DerivedIsClosedList
derived_is_closed_list V E h k b = record {
  own_name = k.own_name;
  closed = derived_is_closed E h;
  types = λ c w. let r = (derived_is_right E h c w).ty in names_of V E (length c.levels) k.found_there b c.ty r.named r.levels;
  values = λ c v w e. let r = (derived_is_right E h c w).value v e in names_of V E (length c.levels) k.found_there b v r.named r.levels;
  parts = λ c w. parts_held V E h k b c w c.detail refl;
  beside = b;
  whole = λ t c n params indices index own fields large w q f e. k.whole n c t.name index own fields f e (t, w, refl);
  constructors = (as_declared E h).ends;
}

pub derived_soundness : DerivedSoundness
derived_soundness V E h k b top depth = calls_sound V E (derived_is_closed_list V E h k b) top depth
