-- The tests of a declaration, one behind the other.
use Rattle.std.proofs.Common.{◌≡◌, ℕ, ◌+◌, ◌<◌, ◌≤◌, Bool, true, false, ◌&&◌, List, [], ◌∷◌, length, get_or, drop, arith, refl, sym, ◌∙◌, ap, subst}
use Rattle.std.proofs.lemmas.List.{at_drop_more, at_drop_all}
use Rattle.lf_core.specs.Term.{Path}
use Rattle.lf_core.specs.declared.constant.Ans.{Ans}
use Rattle.lf_core.specs.declared.constant.ConstInfo.{ConstInfo}
use Rattle.lf_core.specs.declared.constant.CtorInfo.{CtorInfo}
use Rattle.lf_core.specs.declared.constant.IndDecl.{IndDecl}
use Rattle.lf_rules.specs.Recursor.{is_among, recursor_name}
use Rattle.lf_checker.specs.View.{View, There, there, not_there, not_known, there_of}
use Rattle.lf_checker.specs.Run.{Run, done, go_on, gives, refuse, choose}
use Rattle.lf_checker.specs.declared.fault.TypeFault.{TypeFault}
use Rattle.lf_checker.specs.declared.fault.TypeFault.TheVariants.{NotClosed, Duplicate}
use Rattle.lf_checker.specs.Checker.{is_closed, unless_there}
use Rattle.lf_checker.specs.Admission.{are_closed, unless_taken, unless_declared, admit, add_inductive}
use Rattle.lf_steps.specs.declared.halt.Halt.{Halt}
use Rattle.lf_steps.specs.Runs.{halted, IsTold}
use Rattle.lf_steps.proofs.Runs.{halts}
use Rattle.lf_check.specs.Answers.{Answers, Ended}
use Rattle.lf_check.proofs.Ends.{ends_answers}
use Rattle.lf_induct.specs.Parts.{answer_map}
use Rattle.lf_kernel.specs.Checked.{name_new, names_untaken, names_new, declarable}
use Rattle.lf_kernel.proofs.Places.{there_then}

there_before : {A : Type 0} (n : Path) (t : There) (k : Run (Unit {0})) (m f : Run A) (u : ℕ) → m u ≡ go_on (k u) (λ _. f)
    → unless_there n t m u ≡ go_on (unless_there n t k u) (λ _. f)
there_before n (there p) k m f u h = refl
there_before n (not_known q) k m f u h = refl
there_before n not_there k m f u h = h

choose_before : {A : Type 0} (b : Bool) (e : TypeFault) (k : Run (Unit {0})) (m f : Run A) (u : ℕ) → m u ≡ go_on (k u) (λ _. f)
    → choose b (refuse e) m u ≡ go_on (choose b (refuse e) k u) (λ _. f)
choose_before true e k m f u h = refl
choose_before false e k m f u h = h

taken_before : {A : Type 0} (V : View) (taken : List Path) (cs : List CtorInfo) (k : Run (Unit {0})) (m f : Run A) (u : ℕ) → m u ≡ go_on (k u) (λ _. f)
    → unless_taken V taken cs m u ≡ go_on (unless_taken V taken cs k u) (λ _. f)
taken_before V taken [] k m f u h = h
taken_before V taken (c ∷ cs) k m f u h =
    there_before c.name (there_of V c.name) _ _ f u
    (choose_before (is_among c.name taken) (Duplicate c.name V.position) _ _ f u (taken_before V (c.name ∷ taken) cs k m f u h))

one_more : (V : View) (taken : List Path) (c : CtorInfo) (cs : List CtorInfo) (u : ℕ)
    → names_untaken V taken (c ∷ cs) u ≡ go_on (name_new V taken c.name u) (λ _. names_untaken V (c.name ∷ taken) cs)
unfolding names_untaken name_new
one_more V taken c cs u = by_place (there_of V c.name)
  where
    rest : Run (Unit {0})
    rest = unless_taken V (c.name ∷ taken) cs (gives (tt {0}))

    by_place : (t : There) → unless_there c.name t (choose (is_among c.name taken) (refuse (Duplicate c.name V.position)) rest) u
        ≡ go_on (go_on (unless_there c.name t (gives (tt {0})) u) (λ _. choose (is_among c.name taken) (refuse (Duplicate c.name V.position)) (gives (tt {0}))))
        (λ _. rest)
    by_place (there p) = refl
    by_place (not_known q) = refl
    by_place not_there = choose_before (is_among c.name taken) (Duplicate c.name V.position) (gives (tt {0})) rest rest u refl

-- The constructor at this place, and then the others.
more_at : (V : View) (taken : List Path) (cs : List CtorInfo) (i : ℕ) (c : CtorInfo) (u : ℕ) → i < length cs → c ≡ get_or cs i c
    → names_untaken V taken (drop i cs) u ≡ go_on (name_new V taken c.name u) (λ _. names_untaken V (c.name ∷ taken) (drop (i + 1) cs))
more_at V taken cs i c u inside is =
    at_drop_more (λ l. names_untaken V taken l u) cs i c inside ∙ ap (λ k. names_untaken V taken (k ∷ drop (i + 1) cs) u) (sym is)
    ∙ one_more V taken c (drop (i + 1) cs) u

pub passes_at : (V : View) (taken : List Path) (cs : List CtorInfo) (i : ℕ) (c : CtorInfo) (u v : ℕ) (x : Unit {0}) → i < length cs → c ≡ get_or cs i c
    → name_new V taken c.name u ≡ done x v → names_untaken V taken (drop i cs) u ≡ names_untaken V (c.name ∷ taken) (drop (i + 1) cs) v
passes_at V taken cs i c u v x inside is e =
    more_at V taken cs i c u inside is ∙ ap (λ o. go_on o (λ _. names_untaken V (c.name ∷ taken) (drop (i + 1) cs))) e

pub halts_at : (V : View) (taken : List Path) (cs : List CtorInfo) (i : ℕ) (c : CtorInfo) (u : ℕ) (h : Halt) (left : ℕ) → i < length cs
    → c ≡ get_or cs i c → name_new V taken c.name u ≡ halted h left → names_untaken V taken (drop i cs) u ≡ halted h left
halts_at V taken cs i c u h left inside is e =
    more_at V taken cs i c u inside is ∙ halts (name_new V taken c.name u) (λ _. names_untaken V (c.name ∷ taken) (drop (i + 1) cs)) h left e

pub ends_at : (V : View) (taken : List Path) (cs : List CtorInfo) (i : ℕ) (u : ℕ) → length cs ≤ i → names_untaken V taken (drop i cs) u ≡ done tt u
unfolding names_untaken
ends_at V taken cs i u behind = at_drop_all (λ l. names_untaken V taken l u) cs i behind

names_then : {A : Type 0} (V : View) (d : IndDecl) (m : Run A) (u : ℕ) → unless_declared V d m u ≡ go_on (names_new V d u) (λ _. m)
unfolding names_untaken
names_then V d m u =
    let taken : List Path = d.name ∷ recursor_name d ∷ [] in
    let last : Run (Unit {0}) = unless_there (recursor_name d) (there_of V (recursor_name d)) (gives (tt {0})) in
    let in_order : unless_declared V d (gives (tt {0})) u ≡ names_new V d u =
    there_then d.name (there_of V d.name) (unless_taken V taken d.ctors last) u
    ∙ (λ i. go_on (unless_there d.name (there_of V d.name) (gives (tt {0})) u) (λ _ v. taken_before V taken d.ctors (gives (tt {0})) last last v refl i)) in
    there_before d.name (there_of V d.name) _ _ m u
    (taken_before V taken d.ctors _ _ m u (there_before (recursor_name d) (there_of V (recursor_name d)) (gives (tt {0})) m m u refl))
    ∙ ap (λ o. go_on o (λ _. m)) in_order

-- What is declared is judged behind its tests.
judged_behind : (V : View) (depth : ℕ) (d : IndDecl) (u : ℕ) → add_inductive V depth d u ≡ go_on (declarable V d u) (λ _. admit V depth d)
unfolding declarable
judged_behind V depth d u = by_closed (is_closed d.ty && are_closed d.ctors)
  where
    by_closed : (b : Bool) → choose b (unless_declared V d (admit V depth d)) (refuse NotClosed) u
        ≡ go_on (choose b (names_new V d) (refuse NotClosed) u) (λ _. admit V depth d)
    by_closed true = names_then V d (admit V depth d) u
    by_closed false = refl

pub passes_behind : (V : View) (depth : ℕ) (d : IndDecl) (u v : ℕ) (x : Unit {0}) (r : Ans (List ConstInfo) TypeFault) (left : ℕ) (names : List Path)
    → declarable V d u ≡ done x v → Answers (admit V depth d v) r left names
    → Answers (add_inductive V depth d u) r left names
passes_behind V depth d u v x r left names e h =
    subst (λ o. Answers o r left names) (sym (judged_behind V depth d u ∙ ap (λ o. go_on o (λ _. admit V depth d)) e)) h

ended_maps : {A B : Type 0} (f : A → B) (h : Halt) (left : ℕ) (a : Ans A TypeFault) (u : ℕ) (names : List Path) → Ended h left a u names
    → Ended h left (answer_map f a) u names
ended_maps f h left a u names k = grind arith

pub halts_behind : {A : Type 0} (f : A → List ConstInfo) (V : View) (depth : ℕ) (d : IndDecl) (u : ℕ) (h : Halt) (left : ℕ) (a : Ans A TypeFault) (v : ℕ)
    (names : List Path) → (IsTold h → declarable V d u ≡ halted h left) → Ended h left a v names
    → Answers (add_inductive V depth d u) (answer_map f a) v names
halts_behind f V depth d u h left a v names e k =
    ends_answers (add_inductive V depth d u) h left (answer_map f a) v names
    (λ t. judged_behind V depth d u ∙ halts (declarable V d u) (λ _. admit V depth d) h left (e t)) (ended_maps f h left a v names k)
