-- A derivation does to nesting what its symbols do, and its trees keep their bounds.
use Rattle.std.proofs.Common.{
  ◌≡◌,
  ℕ,
  ◌+◌,
  ◌*◌,
  ◌≤◌,
  List,
  [],
  ◌∷◌,
  Bool,
  true,
  false,
  cond,
  not,
  ◌&&◌,
  nat_eq,
  Some,
  refl,
  sym,
  ap,
  subst,
  ◌∙◌,
  arith,
  true≢false,
}
use Rattle.std.proofs.lemmas.Bool.{eqb-true}
use Rattle.lf_text.specs.declared.nesting.Enclosure.{Enclosure}
use Rattle.lf_text.specs.declared.nesting.Enclosure.TheVariants.{Block, Bracket}
use Rattle.lf_text.specs.declared.role.Role.{Role}
use Rattle.lf_text.specs.declared.role.Role.TheVariants.{Command}
use Rattle.lf_text.specs.Nesting.{Nest, outermost, nesting_after}
use Rattle.lf_syntax.specs.Predictive.{Takes, Reads, nothing, left_out, taken, tree}
use Rattle.lf_syntax.specs.Piece.{Piece}
use Rattle.lf_syntax.specs.Symbol as symbol
use Rattle.lf_syntax.specs.Symbol.{Symbol, Tree}
use Rattle.lf_syntax.specs.Row.{Prod}
use Rattle.lf_syntax.specs.Rows.{rows}
use Rattle.lf_syntax.specs.Grammar.{grammar, Derives}
use Rattle.lf_syntax.specs.declared.command.Command.{Command as Tree_of_command}
use Rattle.lf_depth_laws.specs.Depth.{class_role, NestedWithin, ShallowCommands}
use Rattle.lf_depth_laws.specs.Height.{command_height}
use Rattle.lf_depth_laws.proofs.Sketch.{
  Saved,
  Sketch,
  sketch,
  low_of,
  low_in,
  base_of,
  pop,
  step,
  valid,
  is_empty,
  in_a_block,
  in_a_bracket,
  Framed,
  Matches,
  step_matches,
  and_left,
  and_right,
}
use Rattle.lf_depth_laws.proofs.Effects.{
  Kind,
  keeps,
  frees,
  ends_bracket,
  ends_block,
  tops,
  by_role,
  kind,
  entry,
  is_free,
  past_by,
  base_by,
  valid_by,
  past_all,
  fine,
  Optional,
  optional_kind,
}
use Rattle.lf_depth_laws.proofs.Found.{found}
use Rattle.lf_depth_laws.proofs.Flows.{Flows, flows, ended, all_flow}
use Rattle.lf_depth_laws.proofs.Bounds.{Bound, Low, LowRow}
use Rattle.lf_depth_laws.proofs.Rows.{all_low, left_low}

-- No number is above N.
abbrev pub Numbered : ℕ → Nest → List Piece → Type 0
Numbered N n [] = n.count.number ≤ N
Numbered N n (t ∷ ts) = (n.count.number ≤ N) × Numbered N (nesting_after n (class_role t.class)) ts

number_within : (N : ℕ) (n : Nest) (ts : List Piece) → Numbered N n ts → n.count.number ≤ N
number_within N n [] h = h
number_within N n (t ∷ ts) h = h.0

-- Where the rules are behind the tokens, and what holds of the tree.
pub record Went (N r w0 : ℕ) (open0 : List Enclosure) (s : Sketch) (us : List Piece) (R : Type 0) : Type 0 where
  pub nest : Nest
  pub matches : Matches r w0 open0 s nest
  pub numbered : Numbered N nest us
  pub holds : R

left_matches : (κ : Kind) (r w0 : ℕ) (open0 : List Enclosure) (s : Sketch) (n : Nest) → Optional κ → Matches r w0 open0 s n → Matches r w0 open0 (past_by κ s) n
left_matches keeps r w0 open0 s n o m = m
left_matches frees r w0 open0 s n o m = (omega (arith, m.0), m.1)
left_matches ends_bracket r w0 open0 s n o m = absurd o
left_matches ends_block r w0 open0 s n o m = absurd o
left_matches tops r w0 open0 s n o m = absurd o
left_matches (by_role ρ) r w0 open0 s n o m = absurd o

left_base : (κ : Kind) (s : Sketch) → Optional κ → base_by κ s ≤ low_of s
left_base keeps s o = omega arith
left_base frees s o = omega arith
left_base ends_bracket s o = absurd o
left_base ends_block s o = absurd o
left_base tops s o = absurd o
left_base (by_role ρ) s o = absurd o

-- What is known of the parts of a row, for each place where they can stand.
abbrev Inside : (A : Type 0) {xs : List Symbol} {ts us : List Piece} (N : ℕ) → Reads grammar xs ts us → Takes Tree xs A → Type 1
Inside A {xs} {ts} {us} N d f =
    (Q : A → Type 0) (free : Bool) (r w0 : ℕ) (open0 : List Enclosure) (s : Sketch) (n : Nest) → (free ≡ true → r ≡ 0) → Matches r w0 open0 s n →
    Numbered N n ts →
    fine free xs s ≡ true → Low N r Q s xs f → Went N r w0 open0 (past_all xs s) us (Q (tree d f))

-- Nothing is open that has opened inside.
at_end : (r w0 : ℕ) (open0 : List Enclosure) (saved : List Saved) (waits w : ℕ) (o : List Enclosure) → is_empty saved && nat_eq waits 0 ≡ true →
    Framed r w0 open0 saved waits w o →
    (w ≡ w0) × (o ≡ open0)
at_end r w0 open0 [] waits w o e h = let z : waits ≡ 0 = eqb-true waits 0 e in (omega (arith, z, h.0), h.1)
at_end r w0 open0 (f ∷ fs) waits w o e h = cc

-- The symbol's own row, from its entry on.
entered : (x : Symbol) (κ : Kind) (free : Bool) (N r w0 : ℕ) (open0 : List Enclosure) (n : Nest) (t : Piece) (p : Prod (Tree x)) (ts us : List Piece)
    (b : Reads grammar p.body ts us) →
    grammar.begin x t ≡ Some p → entry (kind x) ≡ entry κ → is_free κ ≡ free → (free ≡ true → r ≡ 0) → flows κ (class_role t.class) p.body ≡ true →
    Matches r w0 open0 (entry κ) n → Numbered N n (t ∷ ts) → Inside (Tree x) N b p.build →
    Went N r w0 open0 (past_all p.body (step (class_role t.class) (entry κ))) us (Bound N r x (tree b p.build))
entered x κ free N r w0 open0 n t p ts us b e k g fr f m nu ih =
    let ρ : Role = class_role t.class in
    let ok : valid (is_free κ) (class_role t.class) (entry κ) ≡ true =
    and_left (valid (is_free κ) ρ (entry κ)) (fine (is_free κ) p.body (step ρ (entry κ)) && ended (past_all p.body (step ρ (entry κ)))) f in
    let more : fine (is_free κ) p.body (step (class_role t.class) (entry κ)) && ended (past_all p.body (step (class_role t.class) (entry κ))) ≡ true =
    and_right (valid (is_free κ) ρ (entry κ)) (fine (is_free κ) p.body (step ρ (entry κ)) && ended (past_all p.body (step ρ (entry κ)))) f in
    let fits : fine (is_free κ) p.body (step (class_role t.class) (entry κ)) ≡ true =
    and_left (fine (is_free κ) p.body (step ρ (entry κ))) (ended (past_all p.body (step ρ (entry κ)))) more in
    let low : LowRow N r (Bound N r x) (entry (kind x)) (class_role t.class) p =
    found (LowRow N r (Bound N r x) (entry (kind x))) (rows x) t.class t.at p (all_low x N r) e in
    let frees_too : is_free κ ≡ true → r ≡ 0 = λ h. fr (sym g ∙ h) in
    let m1 : Matches r w0 open0 (step (class_role t.class) (entry κ)) (nesting_after n (class_role t.class)) =
    step_matches r w0 open0 (is_free κ) ρ (entry κ) n frees_too ok m in
    let within : (nesting_after n (class_role t.class)).count.number ≤ N = number_within N (nesting_after n ρ) ts nu.1 in
    ih (Bound N r x) (is_free κ) r w0 open0 (step ρ (entry κ)) (nesting_after n ρ) frees_too m1 nu.1 fits
    (subst (λ (z : Sketch). r + low_of (step ρ z) ≤ N → Low N r (Bound N r x) (step ρ z) p.body p.build) k low (omega (arith, m1.0, within)))

ended_at : (κ : Kind) (ρ : Role) (body : List Symbol) → flows κ ρ body ≡ true → ended (past_all body (step ρ (entry κ))) ≡ true
ended_at κ ρ body f =
    and_right (fine (is_free κ) body (step ρ (entry κ))) (ended (past_all body (step ρ (entry κ))))
    (and_right (valid (is_free κ) ρ (entry κ)) (fine (is_free κ) body (step ρ (entry κ)) && ended (past_all body (step ρ (entry κ)))) f)

no_tokens : {xs : List Symbol} {ts us : List Piece} → Reads grammar xs ts us → xs ≡ [] → ts ≡ us
no_tokens nothing e = refl
no_tokens (left_out v h q d) e = cc
no_tokens (taken t p h b d) e = cc

no_tree : (x : Symbol) (ρ : Role) (N b : ℕ) (v : Tree x) → kind x ≡ by_role ρ → Bound N b x v
no_tree symbol.command ρ N b v e = cc
no_tree (symbol.token w) ρ N b v e = tt
no_tree symbol.arrow_token ρ N b v e = tt
no_tree symbol.number_token ρ N b v e = cc
no_tree symbol.any_name ρ N b v e = cc
no_tree symbol.one_part ρ N b v e = cc
no_tree symbol.binder_name ρ N b v e = cc
no_tree symbol.optional_name ρ N b v e = cc
no_tree symbol.any_names ρ N b v e = cc
no_tree symbol.one_parts ρ N b v e = cc
no_tree symbol.binder_names ρ N b v e = cc
no_tree symbol.level_names ρ N b v e = cc
no_tree symbol.more_level_names ρ N b v e = cc
no_tree symbol.binder ρ N b v e = cc
no_tree symbol.parameters ρ N b v e = cc
no_tree symbol.lambda_binder ρ N b v e = cc
no_tree symbol.lambda_binders ρ N b v e = cc
no_tree symbol.implicit_end ρ N b v e = cc
no_tree (symbol.bracket at) ρ N b v e = cc
no_tree (symbol.bracket_name at x) ρ N b v e = cc
no_tree symbol.def_rest ρ N b v e = cc
no_tree symbol.def_body ρ N b v e = cc
no_tree symbol.type_option ρ N b v e = cc
no_tree symbol.where_option ρ N b v e = cc
no_tree symbol.ctors ρ N b v e = cc
no_tree symbol.helpers ρ N b v e = cc
no_tree symbol.helper ρ N b v e = cc
no_tree symbol.more_helpers ρ N b v e = cc
no_tree symbol.fields_option ρ N b v e = cc
no_tree symbol.field ρ N b v e = cc
no_tree symbol.more_fields ρ N b v e = cc
no_tree symbol.axioms_word ρ N b v e = cc
no_tree symbol.alternatives ρ N b v e = cc
no_tree symbol.pattern ρ N b v e = cc
no_tree (symbol.pattern_rest x) ρ N b v e = cc
no_tree symbol.numeral_one ρ N b v e = cc
no_tree (symbol.term least) ρ N b v e = cc
no_tree symbol.arguments ρ N b v e = cc
no_tree (symbol.operators least left) ρ N b v e = cc
no_tree (symbol.group at) ρ N b v e = cc
no_tree (symbol.group_names at before x) ρ N b v e = cc
no_tree symbol.group_end ρ N b v e = cc
no_tree symbol.group_close ρ N b v e = cc
no_tree symbol.binder_end ρ N b v e = cc
no_tree symbol.written_levels ρ N b v e = cc
no_tree symbol.more_levels ρ N b v e = cc
no_tree symbol.level ρ N b v e = cc
no_tree symbol.plus_option ρ N b v e = cc
no_tree symbol.level_atom ρ N b v e = cc
no_tree symbol.level_atoms ρ N b v e = cc
no_tree (symbol.max_rest x) ρ N b v e = cc
no_tree (symbol.imax_rest x) ρ N b v e = cc
no_tree symbol.block ρ N b v e = cc
no_tree symbol.more_items ρ N b v e = cc
no_tree symbol.item ρ N b v e = cc
no_tree symbol.rw_rule ρ N b v e = cc
no_tree symbol.more_rules ρ N b v e = cc

symbol_reads : (x : Symbol) (κ : Kind) → kind x ≡ κ →
    (free : Bool) (N r w0 : ℕ) (open0 : List Enclosure) (s : Sketch) (n : Nest) (t : Piece) (p : Prod (Tree x)) (ts us : List Piece)
    (b : Reads grammar p.body ts us) →
    grammar.begin x t ≡ Some p → (free ≡ true → r ≡ 0) → valid_by free κ s ≡ true → Matches r w0 open0 s n → Numbered N n (t ∷ ts) →
    Inside (Tree x) N b p.build →
    Went N r w0 open0 (past_by κ s) us (Bound N (r + base_by κ s) x (tree b p.build))
symbol_reads x keeps k free N r w0 open0 s n t p ts us b e fr ok m nu ih =
    let f : flows keeps (class_role t.class) p.body ≡ true =
    subst (λ (κ : Kind). Flows κ (class_role t.class) p) k (found (Flows (kind x)) (rows x) t.class t.at p (all_flow x) e) in
    let w : Went N (r + low_of s) n.count.waiting n.open_ (past_all p.body (step (class_role t.class) (entry keeps))) us
    (Bound N (r + low_of s) x (tree b p.build)) =
    entered x keeps false N (r + low_of s) n.count.waiting n.open_ n t p ts us b e (ap entry k) refl (λ h. absurd (true≢false (sym h))) f
    (omega (arith, m.0), (omega arith, refl)) nu ih in
    let out = at_end (r + low_of s) n.count.waiting n.open_ (past_all p.body (step (class_role t.class) (entry keeps))).saved
    (past_all p.body (step (class_role t.class) (entry keeps))).waits
    w.nest.count.waiting w.nest.open_ (ended_at keeps (class_role t.class) p.body f) w.matches.1 in
    record {
      nest = w.nest;
      matches = (
        omega (arith, w.matches.0),
        subst (λ (k : ℕ). Framed r w0 open0 s.saved s.waits k w.nest.open_) (sym out.0)
            (subst (λ (o : List Enclosure). Framed r w0 open0 s.saved s.waits n.count.waiting o) (sym out.1) m.1),
      );
      numbered = w.numbered;
      holds = w.holds;
    }
symbol_reads x frees k free N r w0 open0 s n t p ts us b e fr ok m nu ih =
    let f : flows frees (class_role t.class) p.body ≡ true =
    subst (λ (κ : Kind). Flows κ (class_role t.class) p) k (found (Flows (kind x)) (rows x) t.class t.at p (all_flow x) e) in
    let zero : r ≡ 0 = fr (and_left free (is_empty s.saved) ok) in
    let w : Went N (r + 0) n.count.waiting n.open_ (past_all p.body (step (class_role t.class) (entry frees))) us (Bound N (r + 0) x (tree b p.build)) =
    entered x frees true N (r + 0) n.count.waiting n.open_ n t p ts us b e (ap entry k) refl (λ _. omega (arith, zero)) f (
      omega (arith, zero),
      (omega arith, refl),
    ) nu ih in
    let out = at_end (r + 0) n.count.waiting n.open_ (past_all p.body (step (class_role t.class) (entry frees))).saved
    (past_all p.body (step (class_role t.class) (entry frees))).waits
    w.nest.count.waiting w.nest.open_ (ended_at frees (class_role t.class) p.body f) w.matches.1 in
    record {
      nest = w.nest;
      matches = (
        outside s.saved (and_right free (is_empty s.saved) ok) zero,
        subst (λ (k : ℕ). Framed r w0 open0 s.saved s.waits k w.nest.open_) (sym out.0)
            (subst (λ (o : List Enclosure). Framed r w0 open0 s.saved s.waits n.count.waiting o) (sym out.1) m.1),
      );
      numbered = w.numbered;
      holds = w.holds;
    }
  where
    outside : (saved : List Saved) {k : ℕ} → is_empty saved ≡ true → r ≡ 0 → r + (0 + low_in saved) ≤ k
    outside [] g z = omega (arith, z)
    outside (f ∷ fs) g z = cc
symbol_reads x ends_bracket k free N r w0 open0 s n t p ts us b e fr ok m nu ih =
    let f : flows ends_bracket (class_role t.class) p.body ≡ true =
    subst (λ (κ : Kind). Flows κ (class_role t.class) p) k (found (Flows (kind x)) (rows x) t.class t.at p (all_flow x) e) in
    go s.saved n.open_ refl refl f (and_left (in_a_bracket s.saved) (nat_eq s.waits 0) ok)
    (eqb-true s.waits 0 (and_right (in_a_bracket s.saved) (nat_eq s.waits 0) ok)) m.0 m.1
  where
    go : (saved : List Saved) (o : List Enclosure) → s.saved ≡ saved → n.open_ ≡ o → flows ends_bracket (class_role t.class) p.body ≡ true →
        in_a_bracket saved ≡ true → s.waits ≡ 0 →
        r + (s.up + low_in saved) ≤ n.count.number → Framed r w0 open0 saved s.waits n.count.waiting o →
        Went N r w0 open0 (pop s saved) us (Bound N (r + base_of saved) x (tree b p.build))
    go [] o q u f i z l h = cc
    go (g ∷ gs) [] q u f i z l h = absurd h
    go (g ∷ gs) (Block c ∷ more) q u f i z l h = absurd (both g.in_block i h.1)
      where
        both : (v : Bool) → not v ≡ true → v ≡ true → ⊥
        both true e f = cc
        both false e f = cc
    go (g ∷ gs) (Bracket c ∷ more) q u f i z l h =
        let one : ◌≡◌ {A = ℕ} (cond g.in_block 0 1) 1 = ap (λ (v : Bool). cond v 0 1) h.1 in
        let base : ℕ = g.up + low_in gs in
        let w : Went N (r + base) c.waiting more (past_all p.body (step (class_role t.class) (entry ends_bracket))) us (Bound N (r + base) x (tree b p.build)) =
        entered x ends_bracket false N (r + base) c.waiting more n t p ts us b e (ap entry k) refl (λ h. absurd (true≢false (sym h))) f (
          omega (arith, l, one),
          subst (λ (v : List Enclosure). Framed (r + base) c.waiting more (record { in_block = false; up = 0; waits = 0 } ∷ []) 0 n.count.waiting v) (sym u)
              (h.0 ∙ z, refl, omega (arith, h.2), (omega arith, refl)),
        ) nu ih in
        let out = at_end (r + base) c.waiting more (past_all p.body (step (class_role t.class) (entry ends_bracket))).saved
        (past_all p.body (step (class_role t.class) (entry ends_bracket))).waits
        w.nest.count.waiting w.nest.open_ (ended_at ends_bracket (class_role t.class) p.body f) w.matches.1 in
        record {
          nest = w.nest;
          matches = (
            omega (arith, w.matches.0),
            subst (λ (k : ℕ). Framed r w0 open0 gs g.waits k w.nest.open_) (sym out.0)
                (subst (λ (o : List Enclosure). Framed r w0 open0 gs g.waits c.waiting o) (sym out.1) h.3),
          );
          numbered = w.numbered;
          holds = w.holds;
        }
symbol_reads x ends_block k free N r w0 open0 s n t p ts us b e fr ok m nu ih =
    let f : flows ends_block (class_role t.class) p.body ≡ true =
    subst (λ (κ : Kind). Flows κ (class_role t.class) p) k (found (Flows (kind x)) (rows x) t.class t.at p (all_flow x) e) in
    go s.saved n.open_ refl refl f (and_left (in_a_block s.saved) (nat_eq s.waits 0) ok)
    (eqb-true s.waits 0 (and_right (in_a_block s.saved) (nat_eq s.waits 0) ok)) m.0 m.1
  where
    go : (saved : List Saved) (o : List Enclosure) → s.saved ≡ saved → n.open_ ≡ o → flows ends_block (class_role t.class) p.body ≡ true →
        in_a_block saved ≡ true → s.waits ≡ 0 →
        r + (s.up + low_in saved) ≤ n.count.number → Framed r w0 open0 saved s.waits n.count.waiting o →
        Went N r w0 open0 (pop s saved) us (Bound N (r + base_of saved) x (tree b p.build))
    go [] o q u f i z l h = cc
    go (g ∷ gs) [] q u f i z l h = absurd h
    go (g ∷ gs) (Bracket c ∷ more) q u f i z l h = absurd (both g.in_block i h.1)
      where
        both : (v : Bool) → v ≡ true → v ≡ false → ⊥
        both true e f = cc
        both false e f = cc
    go (g ∷ gs) (Block c ∷ more) q u f i z l h =
        let base : ℕ = g.up + low_in gs in
        let w : Went N (r + base) c.waiting more (past_all p.body (step (class_role t.class) (entry ends_block))) us (Bound N (r + base) x (tree b p.build)) =
        entered x ends_block false N (r + base) c.waiting more n t p ts us b e (ap entry k) refl (λ h. absurd (true≢false (sym h))) f (
          omega (arith, l),
          subst (λ (v : List Enclosure). Framed (r + base) c.waiting more (record { in_block = true; up = 0; waits = 0 } ∷ []) 0 n.count.waiting v) (sym u)
              (h.0 ∙ z, refl, omega (arith, h.2), (omega arith, refl)),
        ) nu ih in
        let out = at_end (r + base) c.waiting more (past_all p.body (step (class_role t.class) (entry ends_block))).saved
        (past_all p.body (step (class_role t.class) (entry ends_block))).waits
        w.nest.count.waiting w.nest.open_ (ended_at ends_block (class_role t.class) p.body f) w.matches.1 in
        record {
          nest = w.nest;
          matches = (
            omega (arith, w.matches.0),
            subst (λ (k : ℕ). Framed r w0 open0 gs g.waits k w.nest.open_) (sym out.0)
                (subst (λ (o : List Enclosure). Framed r w0 open0 gs g.waits c.waiting o) (sym out.1) h.3),
          );
          numbered = w.numbered;
          holds = w.holds;
        }
symbol_reads x tops k free N r w0 open0 s n t p ts us b e fr ok m nu ih = cc
symbol_reads x (by_role ρ) k free N r w0 open0 s n t p ts us b e fr ok m nu ih =
    let f = subst (λ (κ : Kind). Flows κ (class_role t.class) p) k (found (Flows (kind x)) (rows x) t.class t.at p (all_flow x) e) in
    let role : class_role t.class ≡ ρ = f.0 in
    let same : ts ≡ us = no_tokens b f.1 in
    record {
      nest = nesting_after n ρ;
      matches = step_matches r w0 open0 free ρ s n fr ok m;
      numbered = subst (λ (z : Role). Numbered N (nesting_after n z) us) role (subst (Numbered N (nesting_after n (class_role t.class))) same nu.1);
      holds = no_tree x ρ N (r + 0) (tree b p.build) k;
    }

reads_low : (A : Type 0) {xs : List Symbol} {ts us : List Piece} (N : ℕ) (d : Reads grammar xs ts us) (f : Takes Tree xs A) (Q : A →
    Type 0) (free : Bool) (r w0 : ℕ) (open0 : List Enclosure) (s : Sketch) (n : Nest) →
    (free ≡ true → r ≡ 0) → Matches r w0 open0 s n → Numbered N n ts → fine free xs s ≡ true → Low N r Q s xs f →
    Went N r w0 open0 (past_all xs s) us (Q (tree d f))
reads_low A N nothing f Q free r w0 open0 s n fr m nu ok low = record { nest = n; matches = m; numbered = nu; holds = low }
reads_low A N (left_out {x} {xs} {ts} v e q d) f Q free r w0 open0 s n fr m nu ok low =
    let o : Optional (kind x) = optional_kind x v e in
    let l : r + base_by (kind x) s ≤ N = omega (arith, left_base (kind x) s o, m.0, number_within N n ts nu) in
    reads_low A N d (f v) Q free r w0 open0 (past_by (kind x) s) n fr (left_matches (kind x) r w0 open0 s n o m) nu
    (and_right (valid_by free (kind x) s) (fine free xs (past_by (kind x) s)) ok)
    (low v (left_low x v e N (r + base_by (kind x) s) l))
reads_low A N (taken {x} {xs} {ts} {us} t p e b d) f Q free r w0 open0 s n fr m nu ok low =
    let w : Went N r w0 open0 (past_by (kind x) s) us (Bound N (r + base_by (kind x) s) x (tree b p.build)) =
    symbol_reads x (kind x) refl free N r w0 open0 s n t p ts us b e fr (and_left (valid_by free (kind x) s) (fine free xs (past_by (kind x) s)) ok) m nu
    (reads_low (Tree x) N b p.build) in
    reads_low A N d (f (tree b p.build)) Q free r w0 open0 (past_by (kind x) s) w.nest fr w.matches w.numbered
    (and_right (valid_by free (kind x) s) (fine free xs (past_by (kind x) s)) ok)
    (low (tree b p.build) w.holds)

numbered_by : (N : ℕ) (n : Nest) (ts : List Piece) → n.count.number ≤ N → NestedWithin N n ts → Numbered N n ts
numbered_by N n [] l h = l
numbered_by N n (t ∷ ts) l h = (
  l,
  numbered_by N (nesting_after n (class_role t.class)) ts
      (let e : t.nesting ≡ (nesting_after n (class_role t.class)).count.number = h.0 in omega (arith, e, h.1)) h.2,
)

-- Whatever stands before it, a command begins at the outside.
pub command_low : (N : ℕ) (n : Nest) (ts : List Piece) (c : Tree_of_command) → NestedWithin N n ts → Derives ts c → command_height c ≤ 3 * N + 6
command_low N n ts c h d = subst (λ (z : Tree_of_command). command_height z ≤ 3 * N + 6) d.same (go ts d.reads h)
  where
    go : (ts : List Piece) (b : Reads grammar (symbol.command ∷ []) ts []) → NestedWithin N n ts → command_height (tree b (λ v. v)) ≤ 3 * N + 6
    go ts (left_out v e q b) h = cc
    go _ (taken {ts} t p e b nothing) h =
        let f = found (Flows tops) (rows symbol.command) t.class t.at p (all_flow symbol.command) e in
        let role : class_role t.class ≡ Command = f.0 in
        let low : LowRow N 0 (Bound N 0 symbol.command) (sketch 0 0 []) (class_role t.class) p =
        found (LowRow N 0 (Bound N 0 symbol.command) (sketch 0 0 [])) (rows symbol.command) t.class t.at p (all_low symbol.command N 0) e in
        let start : NestedWithin N outermost ts = subst (λ (z : Role). NestedWithin N (nesting_after n z) ts) role h.2 in
        let w = reads_low Tree_of_command N b p.build (Bound N 0 symbol.command) true 0 0 [] (sketch 0 0 []) outermost (λ _. refl) (
          omega arith,
          (refl, refl),
        ) (numbered_by N outermost ts (omega arith) start) f.1
        (subst (λ (z : Role). 0 + low_of (step z (sketch 0 0 [])) ≤ N →
        Low N 0 (Bound N 0 symbol.command) (step z (sketch 0 0 [])) p.body p.build) role low (omega arith)) in
        omega (arith, w.holds)

pub shallow_commands : ShallowCommands
shallow_commands ts c bound h d = command_low bound outermost ts c h d
