-- The names of a declaration that passes the tests of names are new, each when its turn comes.
use Rattle.std.proofs.Common.{
  ◌≡◌,
  ◌⊎◌,
  inl,
  inr,
  ℕ,
  zero,
  suc,
  Bool,
  true,
  false,
  List,
  [],
  ◌∷◌,
  ◌++◌,
  length,
  length-append,
  sym,
  ap,
  subst,
  ◌∙◌,
  arith,
  true≢false,
  Contains,
}
use Rattle.std.proofs.lemmas.Bool.{or_parts, or_left, or_right}
use Rattle.std.proofs.lemmas.List.Elements.{Contains-append_cases}
use Rattle.std.specs.Prelude.{codes}
use Rattle.lf_core.specs.Term.{Path}
use Rattle.lf_core.specs.Same.{same_path}
use Rattle.lf_rules.specs.Environment.{Environment, Fresh}
use Rattle.lf_rules.specs.Recursor.{is_among, recursor_name, recursor_of}
use Rattle.lf_rules.specs.Inductive.{type_constant, constructor_constant, constructors_from, declared_constants}
use Rattle.lf_rules.specs.Derived.{AllFresh}
use Rattle.lf_core.specs.declared.constant.ConstInfo.{ConstInfo}
use Rattle.lf_core.specs.declared.constant.CtorInfo.{CtorInfo}
use Rattle.lf_core.specs.declared.constant.IndDecl.{IndDecl}
use Rattle.lf_checker.specs.View.{View, not_there, there_of}
use Rattle.lf_checker.specs.Run.{Run, refuse}
use Rattle.lf_checker.specs.declared.fault.TypeFault.TheVariants.{Duplicate}
use Rattle.lf_checker.specs.Checker.{unless_there}
use Rattle.lf_checker.specs.Admission.{unless_taken, unless_declared}
use Rattle.lf_checker_laws.specs.Soundness.{Post}
use Rattle.lf_checker_laws.specs.Declarations.{HasEntry}
use Rattle.lf_admission_laws.specs.Admission.{ConstructorsHaveEntries}
use Rattle.lf_checker_laws.proofs.Runs.{post_choose}
use Rattle.lf_checker_laws.proofs.Entering.{unless_sound, fresh_if}
use Rattle.lf_checker_laws.proofs.Structures.{path_same}

-- ---- What the tests tell.

abbrev pub ConstructorsNew : View → List Path → List CtorInfo → Type 0
ConstructorsNew V taken [] = Unit {0}
ConstructorsNew V taken (c ∷ cs) = (there_of V c.name ≡ not_there) × (is_among c.name taken ≡ false) × ConstructorsNew V (c.name ∷ taken) cs

pub record NamesNew (V : View) (d : IndDecl) : Type 0 where
  pub type : there_of V d.name ≡ not_there
  pub constructors : ConstructorsNew V (d.name ∷ recursor_name d ∷ []) d.ctors
  pub recursor : there_of V (recursor_name d) ≡ not_there

taken_sound : {A : Type 0} (Q : A → Type 0) (V : View) (taken : List Path) (cs : List CtorInfo) (m : Run A) (u : ℕ)
    → (ConstructorsNew V taken cs → Post Q (m u)) → Post Q (unless_taken V taken cs m u)
taken_sound Q V taken [] m u h = h tt
taken_sound Q V taken (c ∷ cs) m u h =
    unless_sound Q c.name (there_of V c.name) _ u λ e.
    post_choose Q (is_among c.name taken) (refuse (Duplicate c.name V.position)) (unless_taken V (c.name ∷ taken) cs m) u (λ q. tt)
    (λ q. taken_sound Q V (c.name ∷ taken) cs m u (λ r. h (e, q, r)))

pub declared_sound : {A : Type 0} (Q : A → Type 0) (V : View) (d : IndDecl) (m : Run A) (u : ℕ) → (NamesNew V d → Post Q (m u))
    → Post Q (unless_declared V d m u)
declared_sound Q V d m u h =
    unless_sound Q d.name (there_of V d.name) _ u λ e.
    taken_sound Q V (d.name ∷ recursor_name d ∷ []) d.ctors (unless_there (recursor_name d) (there_of V (recursor_name d)) m) u λ r.
    unless_sound Q (recursor_name d) (there_of V (recursor_name d)) m u λ q.
    h (record { type = e; constructors = r; recursor = q })

-- ---- Names that are new to longer and longer lists.

fresh_more : (E : Environment) (c : ConstInfo) (n : Path) → Fresh E n → (c.name ≡ n → ⊥) → Fresh (E ++ c ∷ []) n
fresh_more E c n h g (d, w, e) = at (Contains-append_cases E (c ∷ []) d w)
  where
    at : Contains E d ⊎ Contains (c ∷ []) d → ⊥
    at (inl i) = h (d, i, e)
    at (inr (zero, l, q)) = g (subst (λ x. x.name ≡ n) (sym q) e)
    at (inr (suc k, l, q)) = absurd (omega arith)

other : (n m : Path) → same_path n m ≡ false → m ≡ n → ⊥
other n m e q = true≢false (sym (path_same n) ∙ subst (λ x. same_path n x ≡ false) q e)

-- A name that is new to the old list, and none of those that are taken, is new to the new one.
abbrev Covers : Environment → Environment → List Path → Type 0
Covers E G taken = (n : Path) → Fresh E n → is_among n taken ≡ false → Fresh G n

cover_more : (E G : Environment) (taken : List Path) (c : ConstInfo) → Covers E G taken → Covers E (G ++ c ∷ []) (c.name ∷ taken)
cover_more E G taken c h n f e = let p = or_parts (same_path n c.name) (is_among n taken) e in fresh_more G c n (h n f p.1) (other n c.name p.0)

-- The recursor's name stays among those that are taken, so no constructor has it.
among_not : (n m : Path) (taken : List Path) → is_among n taken ≡ false → is_among m taken ≡ true → n ≡ m → ⊥
among_not n m taken e q r = true≢false (sym q ∙ subst (λ x. is_among x taken ≡ false) r e)

among_more : (n m : Path) (taken : List Path) → is_among n taken ≡ true → is_among n (m ∷ taken) ≡ true
among_more n m taken e = or_right (same_path n m) (is_among n taken) e

constructors_fresh : (V : View) (E G : Environment) (d : IndDecl) (taken : List Path) (index : ℕ) (cs : List CtorInfo) (r : ConstInfo)
    → ConstructorsHaveEntries V E cs → Covers E G taken → is_among r.name taken ≡ true → Fresh G r.name → ConstructorsNew V taken cs
    → AllFresh G (constructors_from d index cs ++ r ∷ [])
constructors_fresh V E G d taken index [] r all h e f n = (f, tt)
constructors_fresh V E G d taken index (c ∷ cs) r all h e f n =
    let k : ConstInfo = constructor_constant d index c in (
      h c.name (fresh_if V E c.name all.0 n.0) n.1,
      constructors_fresh V E (G ++ k ∷ []) d (c.name ∷ taken) (suc index) cs r all.1 (cover_more E G taken k h) (among_more r.name c.name taken e)
          (fresh_more G k r.name f (among_not c.name r.name taken n.1 e)) n.2,
    )

not_longer : (n : Path) (x : List ℕ) → n ≡ n ++ x ∷ [] → ⊥
not_longer n x e = let l : length n ≡ length (n ++ x ∷ []) = ap (λ m. length m) e in absurd (omega (arith, l, length-append n (x ∷ [])))

pub all_fresh : (V : View) (E : Environment) (d : IndDecl) (large : Bool) → HasEntry V E d.name → ConstructorsHaveEntries V E d.ctors
    → HasEntry V E (recursor_name d) → NamesNew V d → AllFresh E (declared_constants d large)
all_fresh V E d large own all last n =
    let t : ConstInfo = type_constant d large in
    let r : ConstInfo = recursor_of d large in
    let f : Fresh E d.name = fresh_if V E d.name own n.type in
    let g : Fresh E r.name = fresh_if V E r.name last n.recursor in
    let covers : Covers E (E ++ t ∷ []) (d.name ∷ r.name ∷ []) = λ m h e. let p = or_parts (same_path m d.name) (is_among m (r.name ∷ [])) e in fresh_more E t m
    h (other m d.name p.0) in
    let among : is_among r.name (d.name ∷ r.name ∷ []) ≡ true = or_right (same_path r.name d.name) (is_among r.name (r.name ∷ []))
    (or_left (same_path r.name r.name) false (path_same r.name)) in (
      f,
      constructors_fresh V E (E ++ t ∷ []) d (d.name ∷ r.name ∷ []) 0 d.ctors r all covers among (fresh_more E t r.name g (not_longer d.name (codes "rec")))
          n.constructors,
    )
