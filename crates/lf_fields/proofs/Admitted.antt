-- The constants that the kernel makes of an inductive declaration have names that are new to the view, each beside those before it.
use Rattle.std.proofs.Common.{
  ◌≡◌,
  ℕ,
  suc,
  Bool,
  true,
  false,
  cond,
  List,
  [],
  ◌∷◌,
  ◌++◌,
  length,
  length-append,
  refl,
  sym,
  ap,
  subst,
  ◌∙◌,
  arith,
  true≢false,
}
use Rattle.std.proofs.lemmas.Bool.{or_parts, or_left, or_right}
use Rattle.std.specs.Prelude.{Option, Some, None, codes, nat_le, ◌+◌, ◌&&◌}
use Rattle.lf_core.specs.Same.{same_path}
use Rattle.lf_core.specs.Term.{Path, Universe, Term}
use Rattle.lf_core.specs.declared.constant.ConstInfo.{ConstInfo}
use Rattle.lf_core.specs.declared.constant.CtorInfo.{CtorInfo}
use Rattle.lf_core.specs.declared.constant.IndDecl.{IndDecl}
use Rattle.lf_name.proofs.Names.{path_is, path_equivalence}
use Rattle.lf_rules.specs.Inductive.{own_family, type_constant, constructor_constant, constructors_from, declared_constants}
use Rattle.lf_rules.specs.Recursor.{is_among, recursor_name, recursor_of, recursor_type, recursor_family, motive_level, recursor_rules}
use Rattle.lf_rules.specs.Structure.{result_level}
use Rattle.lf_rules.specs.Telescope.{pi_count}
use Rattle.lf_checker.specs.Admission.{unless_taken, unless_declared, add_inductive, admit, admit_constructors, on_result, given, put_all, view_with_type, eliminates_everywhere, are_closed}
use Rattle.lf_checker.specs.Calls.{checked}
use Rattle.lf_checker.specs.Checker.{calls, is_closed, unless_there}
use Rattle.lf_checker.specs.Infer.{sort_of}
use Rattle.lf_checker.specs.Run.{Answer, done, refused, out, need, Run, go_on, gives, refuse, choose, put}
use Rattle.lf_checker.specs.View.{View, There, there, not_there, not_known, placed_of, there_of, pushed}
use Rattle.lf_checker.specs.declared.fault.TypeFault.TheVariants.{BadType, Duplicate, NotClosed}
use Rattle.lf_env.proofs.Entries.{placed_later}
use Rattle.lf_fields.proofs.Fresh.{placed_nowhere}
use Rattle.lf_fields.specs.Within.{AreNew}

-- ---- What holds of the value of a run, where it has one

abbrev Post : {A : Type 0} → (A → Type 0) → Answer A → Type 0
Post Q (done x u) = Q x
Post Q (refused e u) = Unit {0}
Post Q out = Unit {0}
Post Q (need k) = Unit {0}

post_then : {A B : Type 0} (Q : B → Type 0) (o : Answer A) (f : A → Run B) → ((x : A) (u : ℕ) → Post Q (f x u)) → Post Q (go_on o f)
post_then Q (done x u) f h = h x u
post_then Q (refused e u) f h = tt
post_then Q out f h = tt
post_then Q (need k) f h = tt

post_choose : {A : Type 0} (Q : A → Type 0) (b : Bool) (m n : Run A) (u : ℕ) → (b ≡ true → Post Q (m u)) → (b ≡ false → Post Q (n u))
    → Post Q (choose b m n u)
post_choose Q true m n u h k = h refl
post_choose Q false m n u h k = k refl

post_there : {A : Type 0} (Q : A → Type 0) (n : Path) (t : There) (m : Run A) (u : ℕ) → (t ≡ not_there → Post Q (m u)) → Post Q (unless_there n t m u)
post_there Q n (there p) m u h = tt
post_there Q n (not_known k) m u h = tt
post_there Q n not_there m u h = h refl

-- ---- What the tests of names tell

abbrev ConstructorsNew : View → List Path → List CtorInfo → Type 0
ConstructorsNew V taken [] = Unit {0}
ConstructorsNew V taken (c ∷ cs) = (there_of V c.name ≡ not_there) × (is_among c.name taken ≡ false) × ConstructorsNew V (c.name ∷ taken) cs

record NamesNew (V : View) (d : IndDecl) : Type 0 where
  pub type : there_of V d.name ≡ not_there
  pub constructors : ConstructorsNew V (d.name ∷ recursor_name d ∷ []) d.ctors
  pub recursor : there_of V (recursor_name d) ≡ not_there

post_taken : {A : Type 0} (Q : A → Type 0) (V : View) (taken : List Path) (cs : List CtorInfo) (m : Run A) (u : ℕ)
    → (ConstructorsNew V taken cs → Post Q (m u)) → Post Q (unless_taken V taken cs m u)
post_taken Q V taken [] m u h = h tt
post_taken Q V taken (c ∷ cs) m u h =
    post_there Q c.name (there_of V c.name) _ u λ e.
    post_choose Q (is_among c.name taken) (refuse (Duplicate c.name V.position)) (unless_taken V (c.name ∷ taken) cs m) u (λ q. tt)
    (λ q. post_taken Q V (c.name ∷ taken) cs m u (λ r. h (e, q, r)))

post_declared : {A : Type 0} (Q : A → Type 0) (V : View) (d : IndDecl) (m : Run A) (u : ℕ) → (NamesNew V d → Post Q (m u))
    → Post Q (unless_declared V d m u)
post_declared Q V d m u h =
    post_there Q d.name (there_of V d.name) _ u λ e.
    post_taken Q V (d.name ∷ recursor_name d ∷ []) d.ctors (unless_there (recursor_name d) (there_of V (recursor_name d)) m) u λ r.
    post_there Q (recursor_name d) (there_of V (recursor_name d)) m u λ q.
    h (record { type = e; constructors = r; recursor = q })

-- ---- The constants are those of the declaration.

post_put : {A : Type 0} (Q : A → Type 0) (ts : List Term) (m : Run A) → ((u : ℕ) → Post Q (m u)) → (u : ℕ) → Post Q (put_all ts m u)
post_put Q [] m h u = h u
post_put Q (t ∷ ts) m h u = post_then Q (put t u) (λ s. put_all ts m) (λ s v. post_put Q ts m h v)

post_given : (Q : List ConstInfo → Type 0) (d : IndDecl) (large : Bool) → ((b : Bool) → Q (declared_constants d b)) → (u : ℕ) → Post Q (given d large u)
post_given Q d large h u =
    post_put Q (recursor_type (recursor_family d large) (motive_level large) ∷ recursor_rules d large) (gives (declared_constants d large)) (λ _. h large) u

post_result : {A : Type 0} (Q : A → Type 0) (r : Option Universe) (f : Universe → Run A) (u : ℕ) → ((l : Universe) → Post Q (f l u))
    → Post Q (on_result r f u)
post_result Q (Some l) f u h = h l
post_result Q None f u h = tt

post_admit : (Q : List ConstInfo → Type 0) (V : View) (depth : ℕ) (d : IndDecl) → ((large : Bool) → Q (declared_constants d large)) → (u : ℕ)
    → Post Q (admit V depth d u)
post_admit Q V depth d h u =
    post_then Q (sort_of (calls V depth) checked [] d.ty u) _ λ l v.
    post_choose Q (nat_le d.params (pi_count d.ty)) (on_result (result_level d.ty) _) (refuse BadType) v
    (λ _. post_result Q (result_level d.ty) _ v (λ r.
    post_then Q (admit_constructors (calls (view_with_type V d) depth) (own_family d) r d.ctors v) _ (λ reads w.
    post_given Q d (eliminates_everywhere (own_family d) r reads) h w)))
    (λ _. tt)

-- ---- Names that are new to larger and larger views

same_self : (n : Path) → same_path n n ≡ true
same_self n = path_equivalence.refl n

other_way : (n m : Path) → same_path n m ≡ false → same_path m n ≡ false
other_way n m h = path_equivalence.symm m n ∙ h

placed_more : (W : View) (c : ConstInfo) (p : ℕ) (n : Path) → placed_of W n ≡ None → same_path c.name n ≡ false → placed_of (pushed W c p) n ≡ None
placed_more W c p n h q =
    placed_later 0 W.entries (record { info = c; position = p } ∷ []) n (sym h)
    ∙ ap (λ b. cond b (Some (p, 0 + length W.entries)) None) q

-- A name that is new to the first view, and none of those that are taken, is new to the second.
abbrev Covers : View → View → List Path → Type 0
Covers V W taken = (n : Path) → there_of V n ≡ not_there → is_among n taken ≡ false → placed_of W n ≡ None

cover_more : (V W : View) (taken : List Path) (c : ConstInfo) (p : ℕ) → Covers V W taken → Covers V (pushed W c p) (c.name ∷ taken)
cover_more V W taken c p h n f e =
    let q = or_parts (same_path n c.name) (is_among n taken) e in
    placed_more W c p n (h n f q.1) (other_way n c.name q.0)

apart : (n m : Path) (taken : List Path) → is_among n taken ≡ false → is_among m taken ≡ true → same_path n m ≡ false
apart n m taken e q = decided (same_path n m) refl
  where
    decided : (b : Bool) → same_path n m ≡ b → b ≡ false
    decided false h = refl
    decided true h = absurd (true≢false (sym q ∙ (λ i. is_among (sym (path_is n m h) i) taken) ∙ e))

constructors_new : (V W : View) (d : IndDecl) (taken : List Path) (index : ℕ) (cs : List CtorInfo) (r : ConstInfo) (p : ℕ) → Covers V W taken
    → is_among r.name taken ≡ true → placed_of W r.name ≡ None → ConstructorsNew V taken cs → AreNew W (constructors_from d index cs ++ r ∷ []) p
constructors_new V W d taken index [] r p h e f n = (f, tt)
constructors_new V W d taken index (c ∷ cs) r p h e f n =
    let k : ConstInfo = constructor_constant d index c in (
      h c.name n.0 n.1,
      constructors_new V (pushed W k p) d (c.name ∷ taken) (suc index) cs r p (cover_more V W taken k p h) (or_right (same_path r.name c.name) (is_among r.name taken) e)
          (placed_more W k p r.name f (apart c.name r.name taken n.1 e)) n.2,
    )

longer : (n : Path) (x : List ℕ) → same_path n (n ++ x ∷ []) ≡ false
longer n x = decided (same_path n (n ++ x ∷ [])) refl
  where
    decided : (b : Bool) → same_path n (n ++ x ∷ []) ≡ b → b ≡ false
    decided false h = refl
    decided true h =
        let l : length n ≡ length (n ++ x ∷ []) = ap (λ m. length m) (path_is n (n ++ x ∷ []) h) in
        absurd (omega (arith, l, length-append n (x ∷ [])))

declared_new : (V : View) (d : IndDecl) (p : ℕ) → NamesNew V d → (large : Bool) → AreNew V (declared_constants d large) p
declared_new V d p n large =
    let t : ConstInfo = type_constant d large in
    let r : ConstInfo = recursor_of d large in
    let covers : Covers V (pushed V t p) (d.name ∷ r.name ∷ []) = λ m h e. let q = or_parts (same_path m d.name) (is_among m (r.name ∷ [])) e in placed_more V t p m
    (placed_nowhere V m h) (other_way m d.name q.0) in
    let among : is_among r.name (d.name ∷ r.name ∷ []) ≡ true = or_right (same_path r.name d.name) (is_among r.name (r.name ∷ []))
    (or_left (same_path r.name r.name) false (same_self r.name)) in (
      placed_nowhere V d.name n.type,
      constructors_new V (pushed V t p) d (d.name ∷ r.name ∷ []) 0 d.ctors r p covers among
          (placed_more V t p r.name (placed_nowhere V r.name n.recursor) (longer d.name (codes "rec"))) n.constructors,
    )

all_new : (V : View) (depth : ℕ) (d : IndDecl) (p u : ℕ) → Post (λ cs. AreNew V cs p) (add_inductive V depth d u)
all_new V depth d p u =
    post_choose _ (is_closed d.ty && are_closed d.ctors) (unless_declared V d (admit V depth d)) (refuse NotClosed) u
    (λ _. post_declared _ V d (admit V depth d) u (λ n. post_admit _ V depth d (declared_new V d p n) u)) (λ _. tt)

-- The constants that the kernel gives for an inductive declaration can be pushed.
pub admitted : (V : View) (depth : ℕ) (d : IndDecl) (p u v : ℕ) (cs : List ConstInfo) → add_inductive V depth d u ≡ done cs v → AreNew V cs p
admitted V depth d p u v cs h = subst (λ o. Post (λ ds. AreNew V ds p) o) h (all_new V depth d p u)
