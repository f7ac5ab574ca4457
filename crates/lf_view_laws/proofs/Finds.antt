-- What is found in lists by name is contained there.
use Rattle.std.proofs.Common.{◌≡◌, ◌⊎◌, inl, inr, ℕ, Bool, true, false, List, [], ◌∷◌, Option, Some, None, refl, sym, ap, subst, ◌∙◌, cond, true≢false}
use Rattle.std.specs.Prelude.{Contains}
use Rattle.std.proofs.lemmas.Bool.{cond_both}
use Rattle.lf_core.specs.Term.{Path}
use Rattle.lf_core.specs.Same.{same_path}
use Rattle.lf_name.proofs.Names.{path_is, path_equivalence}
use Rattle.lf_inductive_laws.proofs.Contained.{none_contained, first_contained, later_contained, contained_cases}
use Rattle.lf_checker.specs.View.{Entry, OpenBranch, Failed, find_entry, find_branch, branch_over, is_child, has_failed}
use Rattle.lf_view_laws.specs.Fuller.{HasNamesOnce}

pub same_is : (n m : Path) → n ≡ m → same_path n m ≡ true
same_is n m e = ap (same_path n) (sym e) ∙ path_equivalence.refl n

-- ---- Entries

pub entry_is : (es : List Entry) (n : Path) (e : Entry) → find_entry es n ≡ Some e → Contains es e × (e.info.name ≡ n)
entry_is [] n e q = absurd (cc)
entry_is (x ∷ es) n e q =
    cond_both (same_path x.info.name n) (Some x) (find_entry es n) (λ o. o ≡ Some e → Contains (x ∷ es) e × (e.info.name ≡ n))
    (λ b p. let s : x ≡ e = cc in subst (λ y. Contains (x ∷ es) y × (y.info.name ≡ n)) s (first_contained x es, path_is x.info.name n b))
    (λ b p. let r = entry_is es n e p in (later_contained x e es r.0, r.1)) q

pub no_entry : (es : List Entry) (n : Path) (e : Entry) → find_entry es n ≡ None → Contains es e → e.info.name ≡ n → ⊥
no_entry [] n e q w s = none_contained e w
no_entry (x ∷ es) n e q w s = at (no_entry es n e) (same_path x.info.name n) refl q (contained_cases x e es w)
  where
    at : (find_entry es n ≡ None → Contains es e → e.info.name ≡ n → ⊥)
        → (b : Bool) → same_path x.info.name n ≡ b → cond b (Some x) (find_entry es n) ≡ None → (x ≡ e) ⊎ Contains es e → ⊥
    at r true h g c = absurd (cc)
    at r false h g (inl c) = true≢false (sym (same_is x.info.name n (ap (λ (y : Entry). y.info.name) c ∙ s)) ∙ h)
    at r false h g (inr v) = r g v s

pub one_entry : (es : List Entry) (n : Path) (e : Entry) → HasNamesOnce es → Contains es e → e.info.name ≡ n → find_entry es n ≡ Some e
one_entry es n e once w s = at (find_entry es n) refl
  where
    at : (o : Option Entry) → find_entry es n ≡ o → find_entry es n ≡ Some e
    at (Some d) h = let r = entry_is es n d h in h ∙ ap Some (once d e r.0 w (r.1 ∙ sym s))
    at None h = absurd (no_entry es n e h w s)

-- ---- Branches

pub branch_is : (bs : List OpenBranch) (n : Path) (p : ℕ) → find_branch bs n ≡ Some p → Contains bs (record { prefix = n; position = p })
branch_is [] n p q = absurd (cc)
branch_is (b ∷ bs) n p q = at (branch_is bs n p) (same_path b.prefix n) refl q
  where
    at : (find_branch bs n ≡ Some p → Contains bs (record { prefix = n; position = p }))
        → (t : Bool) → same_path b.prefix n ≡ t → cond t (Some b.position) (find_branch bs n) ≡ Some p
        → Contains (b ∷ bs) (record { prefix = n; position = p })
    at r true h g =
        let s : b.position ≡ p = cc in
        let m : b.prefix ≡ n = path_is b.prefix n h in
        subst (λ c. Contains (b ∷ bs) c) (λ i. record { prefix = m i; position = s i }) (first_contained b bs)
    at r false h g = later_contained b (record { prefix = n; position = p }) bs (r g)

pub no_branch : (bs : List OpenBranch) (n : Path) (b : OpenBranch) → find_branch bs n ≡ None → Contains bs b → b.prefix ≡ n → ⊥
no_branch [] n b q w s = none_contained b w
no_branch (x ∷ bs) n b q w s = at (no_branch bs n b) (same_path x.prefix n) refl q (contained_cases x b bs w)
  where
    at : (find_branch bs n ≡ None → Contains bs b → b.prefix ≡ n → ⊥)
        → (t : Bool) → same_path x.prefix n ≡ t → cond t (Some x.position) (find_branch bs n) ≡ None → (x ≡ b) ⊎ Contains bs b → ⊥
    at r true h g c = absurd (cc)
    at r false h g (inl c) = true≢false (sym (same_is x.prefix n (ap (λ (y : OpenBranch). y.prefix) c ∙ s)) ∙ h)
    at r false h g (inr v) = r g v s

pub record Over (bs : List OpenBranch) (n : Path) : Type 0 where
  pub branch : OpenBranch
  pub within : Contains bs branch
  pub child : is_child branch.prefix n ≡ true

pub over_is : (bs : List OpenBranch) (n : Path) (p : ℕ) → branch_over bs n ≡ Some p → Over bs n
over_is [] n p q = absurd (cc)
over_is (b ∷ bs) n p q = at (over_is bs n p) (is_child b.prefix n) refl q
  where
    at : (branch_over bs n ≡ Some p → Over bs n) → (t : Bool) → is_child b.prefix n ≡ t → cond t (Some b.position) (branch_over bs n) ≡ Some p → Over (b ∷ bs) n
    at r true h g = record { branch = b; within = first_contained b bs; child = h }
    at r false h g = let o = r g in record { branch = o.branch; within = later_contained b o.branch bs o.within; child = o.child }

pub none_over : (bs : List OpenBranch) (n : Path) (b : OpenBranch) → branch_over bs n ≡ None → Contains bs b → is_child b.prefix n ≡ true → ⊥
none_over [] n b q w s = none_contained b w
none_over (x ∷ bs) n b q w s = at (none_over bs n b) (is_child x.prefix n) refl q (contained_cases x b bs w)
  where
    at : (branch_over bs n ≡ None → Contains bs b → is_child b.prefix n ≡ true → ⊥)
        → (t : Bool) → is_child x.prefix n ≡ t → cond t (Some x.position) (branch_over bs n) ≡ None → (x ≡ b) ⊎ Contains bs b → ⊥
    at r true h g c = absurd (cc)
    at r false h g (inl c) = true≢false (sym (ap (λ (y : OpenBranch). is_child y.prefix n) c ∙ s) ∙ h)
    at r false h g (inr v) = r g v s

-- ---- Failed names

pub record Among (fs : List Failed) (n : Path) : Type 0 where
  pub name : Failed
  pub within : Contains fs name
  pub is : name.name ≡ n

pub failed_is : (fs : List Failed) (n : Path) → has_failed fs n ≡ true → Among fs n
failed_is [] n q = absurd (true≢false (sym q))
failed_is (f ∷ fs) n q = at (failed_is fs n) (same_path f.name n) refl q
  where
    at : (has_failed fs n ≡ true → Among fs n) → (t : Bool) → same_path f.name n ≡ t → cond t true (has_failed fs n) ≡ true → Among (f ∷ fs) n
    at r true h g = record { name = f; within = first_contained f fs; is = path_is f.name n h }
    at r false h g = let k = r g in record { name = k.name; within = later_contained f k.name fs k.within; is = k.is }

pub is_failed : (fs : List Failed) (n : Path) (f : Failed) → Contains fs f → f.name ≡ n → has_failed fs n ≡ true
is_failed [] n f w s = absurd (none_contained f w)
is_failed (x ∷ fs) n f w s = at (λ v. is_failed fs n f v s) (same_path x.name n) refl (contained_cases x f fs w)
  where
    at : (Contains fs f → has_failed fs n ≡ true) → (t : Bool) → same_path x.name n ≡ t → (x ≡ f) ⊎ Contains fs f → cond t true (has_failed fs n) ≡ true
    at r true h c = refl
    at r false h (inl c) = absurd (true≢false (sym (same_is x.name n (ap (λ (y : Failed). y.name) c ∙ s)) ∙ h))
    at r false h (inr v) = r v
