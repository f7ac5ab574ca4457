-- The extension law of bodies: what the helpers add extends the view as it does without them, and the value follows.
use Rattle.std.proofs.Common.{◌≡◌, ℕ, Bool, true, false, List, [], ◌∷◌, if◌then◌else◌, Option, Some, None, length, refl, subst}
use Rattle.lf_core.specs.Term.{Path, Term}
use Rattle.lf_core.specs.Suffix.{suffix_of}
use Rattle.lf_core.specs.declared.constant.ConstKind.TheVariants.{Axiom, Def as DefKind}
use Rattle.lf_core.specs.declared.suffix.Suffix.{Suffix}
use Rattle.lf_syntax.specs.Tree.{TermTree}
use Rattle.lf_syntax.specs.declared.command.Helper.{Helper}
use Rattle.lf_syntax.specs.declared.command.Command.{Command}
use Rattle.lf_syntax.specs.declared.command.Command.TheVariants.{
  Def,
  Equations,
  Theorem,
  Instance,
}
use Rattle.lf_checker.specs.View.{View, is_child, last_of, not_there, there_of, stands_before}
use Rattle.lf_checker.specs.Extends.{Tells}
use Rattle.lf_checker.specs.Checker.{add_header}
use Rattle.lf_extension_laws.proofs.Extended_declarations.{there_kept}
use Rattle.lf_branch.specs.Branch.{Branch, Verdict, not_owned, reserved, duplicate, waits, taken, by_there, by_suffix, verdict}
use Rattle.lf_elaboration.specs.Run as run
use Rattle.lf_elaboration.specs.Closing.{sorry_of}
use Rattle.lf_elaboration.specs.Part.{Part, Run, State}
use Rattle.lf_elaboration.specs.Terms.{OneBinder}
use Rattle.lf_elaboration_laws.specs.Extension as elaborating
use Rattle.lf_document.specs.Task.{Log, Attempt, done, need, Task, Judged, Ended, go_on, gives, judged, in_part}
use Rattle.lf_document.specs.Setting.{Setting, Declaration, declaration, nesting, part, no_locals, by_kernel, of_groups}
use Rattle.lf_document.specs.Naming.{if_taken}
use Rattle.lf_document.specs.Constants.{Header, Valued, with_value}
use Rattle.lf_document.specs.Headers.{whole_type, Stated, stated, stated_for_value, header_of}
use Rattle.lf_document.specs.Values.{written_value}
use Rattle.lf_document.specs.Helpers.{helper_name, helper_part, helper_header, with_helper, helpers}
use Rattle.lf_document.specs.EquationsBody.{equations_value}
use Rattle.lf_document.specs.TaskValue.{branch_of, value_in, with_helpers, written_body, equations_body, body_of, body}
use Rattle.lf_document_laws.specs.Extension.{Kept, on_view, BodiesExtend}
use Rattle.lf_document_laws.proofs.Kept.{kept_then, kept_part, kept_judged}
use Rattle.lf_document_laws.proofs.Naming.{SameVerdict, there_told, kept_taken}
use Rattle.lf_document_laws.proofs.Gives.{Makes, makes_then, makes_with, makes_answered, gives_header, Leaves, leaves_with, OfValue, makes_judged, leaves_part}
use Rattle.lf_document_laws.proofs.Pushed.{IsTold, one_extends}
use Rattle.lf_document_laws.proofs.Added.{told_of}
use Rattle.lf_document_laws.proofs.Wholes.{kept_stated_for_value, kept_written_value}
use Rattle.lf_document_laws.proofs.Heights.{kept_completed}
use Rattle.lf_document_laws.proofs.Alternatives.{kept_equations}

-- ---- Values that correspond, with what was told

abbrev KeptAs : {A : Type 0} → (A → A → Type 0) → Attempt A → Attempt A → Type 0
KeptAs R (need k) p = Unit {0}
KeptAs R (done x g) (done y l) = R x y × (g ≡ l)
KeptAs R (done x g) (need k) = ⊥

-- Once values are the same.
same_then : {A B : Type 0} (P : A → Type 0) (R : B → B → Type 0) (o p : Attempt A) (f k : A → Task B) → Leaves P o → Kept o p
    → ((x : A) (l : Log) → P x → KeptAs R (f x l) (k x l)) → KeptAs R (go_on o f) (go_on p k)
same_then P R (done x l) p f k h e g = subst (λ q. KeptAs R (f x l) (go_on q k)) e (g x l h)
same_then P R (need n) p f k h e g = tt

then_as : {A B : Type 0} (R : B → B → Type 0) (o p : Attempt A) (f k : A → Task B) → Kept o p → ((x : A) (l : Log) → KeptAs R (f x l) (k x l))
    → KeptAs R (go_on o f) (go_on p k)
then_as R (done x l) p f k e g = subst (λ q. KeptAs R (f x l) (go_on q k)) e (g x l)
then_as R (need n) p f k e g = tt

-- Once they correspond.
as_then : {A B : Type 0} (R : A → A → Type 0) (Q : B → B → Type 0) (o p : Attempt A) (f k : A → Task B) → KeptAs R o p
    → ((x y : A) (l : Log) → R x y → KeptAs Q (f x l) (k y l)) → KeptAs Q (go_on o f) (go_on p k)
as_then R Q (done x l) (done y m) f k h g = subst (λ j. KeptAs Q (f x l) (k y j)) h.1 (g x y l h.0)
as_then R Q (done x l) (need i) f k h g = absurd h
as_then R Q (need i) p f k h g = tt

as_last : {A B : Type 0} (R : A → A → Type 0) (o p : Attempt A) (f k : A → Task B) → KeptAs R o p
    → ((x y : A) (l : Log) → R x y → Kept (f x l) (k y l)) → Kept (go_on o f) (go_on p k)
as_last R (done x l) (done y m) f k h g = subst (λ j. Kept (f x l) (k y j)) h.1 (g x y l h.0)
as_last R (done x l) (need i) f k h g = absurd h
as_last R (need i) p f k h g = tt

-- ---- Branches over both views

abbrev over_view : Branch → View → Branch
over_view b W = record b { view = W }

abbrev SameBranch : Branch → Branch → Type 0
SameBranch b c = (over_view b c.view ≡ c) × Tells c.view b.view × (stands_before b.view.position b.position ≡ false)

-- ---- The name of a helper

suffix_told : (o : Option Suffix) (v w : Verdict) → SameVerdict v w → SameVerdict (by_suffix o v) (by_suffix o w)
suffix_told (Some s) v w h = refl
suffix_told None v w h = h

verdict_told : (b : Branch) (W : View) → Tells W b.view → (n : Path) → SameVerdict (verdict b n) (verdict (over_view b W) n)
verdict_told b W x n = at (is_child b.prefix n)
  where
    at : (c : Bool)
        → SameVerdict (if c then by_suffix (suffix_of (last_of n)) (by_there (there_of b.view n)) else not_owned)
        (if c then by_suffix (suffix_of (last_of n)) (by_there (there_of W n)) else not_owned)
    at true =
        suffix_told (suffix_of (last_of n)) (by_there (there_of b.view n)) (by_there (there_of W n))
        (there_told (there_of b.view n) (there_of W n) (there_kept b.view W x n))
    at false = refl

abbrev accepted_for : Part → Path → Term → Run Stated
accepted_for P n T = run.◌>>=◌ (by_kernel P (add_header P.view nesting n T)) λ l. run.gives (record { ty = T; sort = l })

-- A stated type is accepted for a name that isn't there.
stated_new : (P : Part) (n : Path) (bs : List OneBinder) (s : Option TermTree) (u : ℕ) (w : State)
    → Makes (λ h. there_of P.view n ≡ not_there) (stated_for_value P n bs s u w)
stated_new P n bs s u w =
    let new : Stated → Type 0 = λ h. there_of P.view n ≡ not_there in
    makes_with new new (stated P n bs s u w) (λ h. run.◌>>◌ (run.put (sorry_of h.sort h.ty)) (run.gives h))
    (makes_then new (whole_type P bs s u w) (accepted_for P n)
    (λ T v z. makes_with (λ l. there_of P.view n ≡ not_there) new (by_kernel P (add_header P.view nesting n T) v z)
    (λ l. run.gives (record { ty = T; sort = l }))
    (makes_answered (λ l. there_of P.view n ≡ not_there) P no_locals P.place z (add_header P.view nesting n T v) (gives_header P.view nesting n T v))
    (λ l i j h. h)))
    (λ h v z e. makes_then new (run.put (sorry_of h.sort h.ty) v z) (λ y. run.gives h) (λ y i j. e))

-- What a helper's header is of: a name that the branch's view tells.
abbrev MayHelp : View → Option Header → Type 0
MayHelp U None = Unit {0}
MayHelp U (Some k) = IsTold (there_of U k.info.name) × (k.info.kind ≡ Axiom → ⊥)

header_may : (U : View) (n : Path) (levels : List Path) (erred : Bool) (o : Option Stated) → OfValue (λ h. there_of U n ≡ not_there) o
    → MayHelp U (header_of n DefKind levels erred o)
header_may U n levels erred (Some h) e = (told_of (there_of U n) e, λ k. cc)
header_may U n levels erred None e = tt

if_taken_leaves : {A : Type 0} (P : Ended A → Type 0) (at : ℕ) (n : Path) (v : Verdict) (m : Task (Ended A)) (g : Log)
    → P (record { value = None; erred = true }) → Leaves P (m g) → Leaves P (if_taken at n v m g)
if_taken_leaves P at n reserved m g h k = h
if_taken_leaves P at n (duplicate p) m g h k = h
if_taken_leaves P at n (waits i) m g h k = tt
if_taken_leaves P at n taken m g h k = k
if_taken_leaves P at n not_owned m g h k = k

module _ (X : Setting) (V : View) (h : Header) where
  abbrev header_run : Branch → Helper → Run Stated
  header_run b x = stated_for_value (helper_part X h b x h.info.name) (helper_name h x) (of_groups x.binders) (Some x.ty)

  helper_may : (b : Branch) (x : Helper) (g : Log) → Leaves (MayHelp b.view) (helper_header X h b x g)
  helper_may b x g =
      let new : Stated → Type 0 = λ s. there_of b.view (helper_name h x) ≡ not_there in
      leaves_with (λ r. OfValue new r.value) (MayHelp b.view)
      (if_taken x.name.at (helper_name h x) (verdict b (helper_name h x)) (in_part X.budget x.name.at (judged (header_run b x))) g)
      (λ r. gives (header_of (helper_name h x) DefKind h.info.levels r.erred r.value))
      (if_taken_leaves (λ r. OfValue new r.value) x.name.at (helper_name h x) (verdict b (helper_name h x))
      (in_part X.budget x.name.at (judged (header_run b x))) g tt
      (leaves_part new X.budget x.name.at (judged (header_run b x)) g
      (λ u s. makes_judged new (header_run b x) u s
      (stated_new (helper_part X h b x h.info.name) (helper_name h x) (of_groups x.binders) (Some x.ty) u s))))
      (λ r l e. header_may b.view (helper_name h x) h.info.levels r.erred r.value e)

  kept_helper_header : (b : Branch) (W : View) → Tells W b.view → (x : Helper) (g : Log)
      → Kept (helper_header X h b x g) (helper_header (on_view X V) h (over_view b W) x g)
  kept_helper_header b W y x g =
      let n : Path = helper_name h x in
      let m : Run Stated = header_run b x in
      let k : Run Stated = header_run (over_view b W) x in
      kept_then _ _ _ _
      (kept_taken x.name.at n (verdict b n) (verdict (over_view b W) n) (in_part X.budget x.name.at (judged m)) (in_part X.budget x.name.at (judged k)) g
      (verdict_told b W y n)
      (kept_part X.budget x.name.at (judged m) (judged k) g
      (λ u s. kept_judged m k u s
      (kept_stated_for_value X b.view W y h.info.levels (Some h.info.name) x.name.at n (of_groups x.binders) (Some x.ty) u s))))
      (λ r l. refl)

  kept_with_helper : (b : Branch) (W : View) → Tells W b.view → stands_before b.view.position b.position ≡ false → (x : Helper) (o : Option Header)
      → MayHelp b.view o → (g : Log)
      → KeptAs SameBranch (with_helper X h b x o g) (with_helper (on_view X V) h (over_view b W) x o g)
  kept_with_helper b W y own x None may g = ((refl, y, own), refl)
  kept_with_helper b W y own x (Some k) may g =
      then_as SameBranch _ _ _ _
      (kept_completed b.view W y X x.name.at k _ _
      (kept_written_value X b.view W y h.info.levels (Some (helper_name h x)) x.name.at k.info (length (of_groups x.binders)) x.value) g)
      (λ v l. ((refl, one_extends b.view W y (with_value k.info v) b.position own may.1 may.0, own), refl))

  kept_helpers : (xs : List Helper) (b : Branch) (W : View) → Tells W b.view → stands_before b.view.position b.position ≡ false → (g : Log)
      → KeptAs SameBranch (helpers X h b xs g) (helpers (on_view X V) h (over_view b W) xs g)
  kept_helpers [] b W y own g = ((refl, y, own), refl)
  kept_helpers (x ∷ xs) b W y own g =
      let rest : (c d : Branch) (l : Log) → SameBranch c d → KeptAs SameBranch (helpers X h c xs l) (helpers (on_view X V) h d xs l)
      = λ c d l s. subst (λ a. KeptAs SameBranch (helpers X h c xs l) (helpers (on_view X V) h a xs l)) s.0 (kept_helpers xs c d.view s.1 s.2 l) in
      same_then (MayHelp b.view) SameBranch _ _ _ _ (helper_may b x g) (kept_helper_header b W y x g)
      (λ k l may. as_then SameBranch SameBranch _ _ _ _ (kept_with_helper b W y own x k may l) rest)

  -- ---- The value

  -- What makes the value over a view makes it over each that tells more.
  abbrev ValueKept : ℕ → (Part → Run (Judged Valued)) → Type 0
  ValueKept at m = (U W : View) → Tells W U → (u : ℕ) (s : State)
      → elaborating.Kept (m (part X U h.info.levels (Some h.info.name) at) u s) (m (part X W h.info.levels (Some h.info.name) at) u s)

  kept_value_in : (at : ℕ) (m : Part → Run (Judged Valued)) → ValueKept at m → (b c : Branch) (g : Log) → SameBranch b c
      → Kept (value_in X h at b m g) (value_in (on_view X V) h at c m g)
  kept_value_in at m e b c g s =
      subst (λ d. Kept (value_in X h at b m g) (value_in (on_view X V) h at d m g)) s.0
      (kept_then _ _ _ _ (kept_completed b.view c.view s.1 X at h _ _ (e b.view c.view s.1) g) (λ v l. refl))

  kept_with_helpers : Tells V X.view → stands_before X.view.position X.position ≡ false → (at : ℕ) (hs : List Helper) (m : Part → Run (Judged Valued))
      → ValueKept at m → (g : Log) → Kept (with_helpers X h at hs m g) (with_helpers (on_view X V) h at hs m g)
  kept_with_helpers x own at hs m e g = as_last SameBranch _ _ _ _ (kept_helpers hs (branch_of X h) V x own g) (kept_value_in at m e)

  kept_written : Tells V X.view → stands_before X.view.position X.position ≡ false → (D : Declaration) (v : TermTree) (hs : List Helper) (g : Log)
      → Kept (written_body X h D v hs g) (written_body (on_view X V) h D v hs g)
  kept_written x own D v hs g =
      kept_with_helpers x own D.at hs (λ P. written_value P h.info (length D.binders) v)
      (λ U W y. kept_written_value X U W y h.info.levels (Some h.info.name) D.at h.info (length D.binders) v) g

  kept_by_equations : Tells V X.view → stands_before X.view.position X.position ≡ false → (D : Declaration) (own : Path) (alts : _) (g : Log)
      → Kept (equations_body X h D own alts g) (equations_body (on_view X V) h D own alts g)
  kept_by_equations x there D own alts g =
      kept_with_helpers x there D.at [] (λ P. equations_value P h.info own (length D.binders) alts)
      (λ U W y. kept_equations X U W y h.info.levels (Some h.info.name) D.at h.info own (length D.binders) alts) g

-- ---- The body of a command

kept_body_of : (X : Setting) (V : View) → Tells V X.view → stands_before X.view.position X.position ≡ false → (h : Header) (c : Command) (g : Log)
    → Kept (body_of X h c g) (body_of (on_view X V) h c g)
kept_body_of X V x own h (Def d v hs) g = kept_written X V h x own (declaration X.scope (Def d v hs) d) v hs g
kept_body_of X V x own h (Equations d alts) g = kept_by_equations X V h x own (declaration X.scope (Equations d alts) d) d.name.name alts g
kept_body_of X V x own h (Theorem d v hs) g = kept_written X V h x own (declaration X.scope (Theorem d v hs) d) v hs g
kept_body_of X V x own h (Instance d v) g = kept_written X V h x own (declaration X.scope (Instance d v) d) v [] g
kept_body_of X V x own h _ g = refl

pub kept_body : (X : Setting) (V : View) → Tells V X.view → stands_before X.view.position X.position ≡ false → (c : Command) (h : Option Header) (g : Log)
    → Kept (body X c h g) (body (on_view X V) c h g)
kept_body X V x own c (Some h) g = kept_body_of X V x own h c g
kept_body X V x own c None g = refl

pub bodies_extend : BodiesExtend
bodies_extend c h X V x own g = kept_body X V x own c h g
