-- Tasks whose needs are such keys and that keep what was told, through the ways to put tasks together; and the tests of names.
use Rattle.std.proofs.Common.{◌≡◌, ℕ, Bool, true, false, ◌&&◌, nat_lt, if◌then◌else◌, List, [], ◌∷◌, ◌++◌, Option, Some, None, length, refl, ap, ◌∙◌}
use Rattle.lf_core.specs.Term.{Path}
use Rattle.lf_core.specs.Suffix.{suffix_of, fits_kind}
use Rattle.lf_core.specs.declared.suffix.Suffix.{Suffix}
use Rattle.lf_core.specs.declared.constant.TaskKey.{TaskKey}
use Rattle.lf_rules.specs.Recursor.{is_among}
use Rattle.lf_syntax.specs.declared.leaf.Ident.{Ident}
use Rattle.lf_checker.specs.View.{View, There, there, not_there, not_known, stands_before, parent_of, last_of, there_of}
use Rattle.lf_checker.specs.Calls.{Seen, known, unknown, missing, see}
use Rattle.lf_branch.specs.Branch.{Verdict, not_owned, reserved, duplicate, waits, taken, by_there}
use Rattle.lf_extension_laws.proofs.Only.{SeenIn, ThereIn, Reads}
use Rattle.lf_elaboration.specs.Identifiers.{is_realized}
use Rattle.lf_elaboration.specs.Run as run
use Rattle.lf_elaboration.specs.Part.{State, Run}
use Rattle.lf_elaboration.specs.Variables.{repeated_level}
use Rattle.lf_elaboration_laws.specs.Unifier.{Begins}
use Rattle.lf_msg.specs.declared.naming.NamingError.TheVariants.{Reserved, Duplicate, TooManyLevelNames, DuplicateLevel}
use Rattle.lf_msg.specs.declared.diagnostic.Diagnostic.{Diagnostic}
use Rattle.lf_msg.specs.declared.diagnostic.Diagnostic.TheVariants.{Naming}
use Rattle.lf_document.specs.Task.{
  Log,
  Attempt,
  done,
  need,
  Task,
  Judged,
  right,
  wrong,
  Ended,
  go_on,
  choose,
  gives,
  tells,
  tells_if,
  fresh_state,
  ended,
  in_part,
  refuses,
}
use Rattle.lf_document.specs.Setting.{Declaration}
use Rattle.lf_document.specs.Naming.{by_parent, by_suffix, verdict, if_taken, unless_repeated, at_most, if_named}
use Rattle.lf_document.specs.Asking as asking
use Rattle.lf_document.specs.Asking.{asked_in, ask_seen, ask_all}
use Rattle.lf_document_laws.specs.Needs.{Grew, Lasts}
use Rattle.lf_document_laws.proofs.Lasting.{On}

append_none : {A : Type 0} (xs : List A) → xs ≡ xs ++ []
append_none [] = refl
append_none (x ∷ xs) = ap (λ l. x ∷ l) (append_none xs)

begins_same : {A : Type 0} (xs : List A) → Begins xs xs
begins_same xs = ([], append_none xs)

append_twice : {A : Type 0} (xs ys zs : List A) → (xs ++ ys) ++ zs ≡ xs ++ (ys ++ zs)
append_twice [] ys zs = refl
append_twice (x ∷ xs) ys zs = ap (λ l. x ∷ l) (append_twice xs ys zs)

begins_longer : {A : Type 0} (xs ys zs : List A) → Begins xs ys → Begins ys zs → Begins xs zs
begins_longer xs ys zs h g = (h.0 ++ g.0, g.1 ∙ ap (λ l. l ++ g.0) h.1 ∙ append_twice xs h.0 g.0)

pub grew_same : (g : Log) → Grew g g
grew_same g = record { messages = begins_same g.messages; nodes = begins_same g.nodes; asked = begins_same g.asked }

pub grew_longer : (g l j : Log) → Grew g l → Grew l j → Grew g j
grew_longer g l j h k = record {
  messages = begins_longer g.messages l.messages j.messages h.messages k.messages;
  nodes = begins_longer g.nodes l.nodes j.nodes h.nodes k.nodes;
  asked = begins_longer g.asked l.asked j.asked h.asked k.asked;
}

-- With what holds of the value.
abbrev pub LastsWith : (TaskKey → Type 0) → {A : Type 0} → (A → Type 0) → Log → Attempt A → Type 0
LastsWith Key Q g (done x l) = Q x × Grew g l
LastsWith Key Q g (need k) = Key k

module _ (Key : TaskKey → Type 0) where
  lasts_on : {A : Type 0} (g l : Log) → Grew g l → (o : Attempt A) → Lasts Key l o → Lasts Key g o
  lasts_on g l h (done x j) k = grew_longer g l j h k
  lasts_on g l h (need i) k = k

  with_on : {A : Type 0} (Q : A → Type 0) (g l : Log) → Grew g l → (o : Attempt A) → LastsWith Key Q l o → LastsWith Key Q g o
  with_on Q g l h (done x j) k = (k.0, grew_longer g l j h k.1)
  with_on Q g l h (need i) k = k

  pub lasts_then : {A B : Type 0} (g : Log) (o : Attempt A) (f : A → Task B) → Lasts Key g o → ((x : A) (l : Log) → Lasts Key l (f x l))
      → Lasts Key g (go_on o f)
  lasts_then g (done x l) f h k = lasts_on g l h (f x l) (k x l)
  lasts_then g (need n) f h k = h

  pub lasts_with : {A B : Type 0} (Q : A → Type 0) (g : Log) (o : Attempt A) (f : A → Task B) → LastsWith Key Q g o
      → ((x : A) (l : Log) → Q x → Lasts Key l (f x l)) → Lasts Key g (go_on o f)
  lasts_with Q g (done x l) f h k = lasts_on g l h.1 (f x l) (k x l h.0)
  lasts_with Q g (need n) f h k = h

  pub with_then : {A B : Type 0} (R : B → Type 0) (g : Log) (o : Attempt A) (f : A → Task B) → Lasts Key g o
      → ((x : A) (l : Log) → LastsWith Key R l (f x l)) → LastsWith Key R g (go_on o f)
  with_then R g (done x l) f h k = with_on R g l h (f x l) (k x l)
  with_then R g (need n) f h k = h

  pub with_with : {A B : Type 0} (Q : A → Type 0) (R : B → Type 0) (g : Log) (o : Attempt A) (f : A → Task B) → LastsWith Key Q g o
      → ((x : A) (l : Log) → Q x → LastsWith Key R l (f x l)) → LastsWith Key R g (go_on o f)
  with_with Q R g (done x l) f h k = with_on R g l h.1 (f x l) (k x l h.0)
  with_with Q R g (need n) f h k = h

  pub lasts_choose : {A : Type 0} (b : Bool) (m n : Task A) (g : Log) → Lasts Key g (m g) → Lasts Key g (n g) → Lasts Key g (choose b m n g)
  lasts_choose true m n g h k = h
  lasts_choose false m n g h k = k

  pub lasts_tells : (at : ℕ) (d : Diagnostic) (g : Log) → Lasts Key g (tells at d g)
  lasts_tells at d g = record { messages = (_, refl); nodes = begins_same g.nodes; asked = begins_same g.asked }

  pub lasts_tells_if : (b : Bool) (at : ℕ) (d : Diagnostic) (g : Log) → Lasts Key g (tells_if b at d g)
  lasts_tells_if b at d g = lasts_choose b (tells at d) (gives tt) g (lasts_tells at d g) (grew_same g)

  -- ---- Parts

  lasts_ended : {A : Type 0} (place : ℕ) (g : Log) (o : run.Answer State (Judged A)) → On Key (fresh_state g) o → Lasts Key g (ended place g o)
  lasts_ended place g (run.done (right x) u s) h = record { messages = (_, refl); nodes = (_, refl); asked = h.asked }
  lasts_ended place g (run.done (wrong at d) u s) h = record { messages = (_, refl); nodes = (_, refl); asked = h.asked }
  lasts_ended place g (run.failed m u s) h = record { messages = (_, refl); nodes = (_, refl); asked = h.asked }
  lasts_ended place g (run.out s) h = record { messages = (_, refl); nodes = (_, refl); asked = h.asked }
  lasts_ended place g (run.need k) h = h

  pub lasts_part : {A : Type 0} (units place : ℕ) (m : Run (Judged A)) (g : Log) → ((u : ℕ) (w : State) → On Key w (m u w))
      → Lasts Key g (in_part units place m g)
  lasts_part units place m g h = lasts_ended place g (m units (fresh_state g)) (h units (fresh_state g))

  -- ---- Names

  abbrev pub VerdictIn : Verdict → Type 0
  VerdictIn (waits k) = Key k
  VerdictIn not_owned = Unit {0}
  VerdictIn reserved = Unit {0}
  VerdictIn (duplicate p) = Unit {0}
  VerdictIn taken = Unit {0}

  pub verdict_there : (t : There) → ThereIn Key t → VerdictIn (by_there t)
  verdict_there (there p) h = tt
  verdict_there not_there h = tt
  verdict_there (not_known k) h = h

  pub lasts_taken : {A : Type 0} (at : ℕ) (n : Path) (v : Verdict) (m : Task (Ended A)) (g : Log) → VerdictIn v → Lasts Key g (m g)
      → Lasts Key g (if_taken at n v m g)
  lasts_taken at n reserved m g h k = lasts_tells at (Naming (Reserved n)) g
  lasts_taken at n (duplicate p) m g h k = lasts_tells at (Naming (Duplicate n)) g
  lasts_taken at n (waits i) m g h k = h
  lasts_taken at n taken m g h k = k
  lasts_taken at n not_owned m g h k = k

  pub lasts_at_most : {A : Type 0} (limit at n : ℕ) (m : Task (Ended A)) (g : Log) → Lasts Key g (m g) → Lasts Key g (at_most limit at n m g)
  lasts_at_most limit at n m g h = lasts_choose (nat_lt limit n) (refuses at (Naming (TooManyLevelNames limit))) m g
      (lasts_tells at (Naming (TooManyLevelNames limit)) g) h

  lasts_repeated : {A : Type 0} (o : Option Ident) (m : Task (Ended A)) (g : Log) → Lasts Key g (m g) → Lasts Key g (unless_repeated o m g)
  lasts_repeated (Some x) m g h = lasts_tells x.at (Naming (DuplicateLevel x.name)) g
  lasts_repeated None m g h = h

module _ (Key : TaskKey → Type 0) (V : View) (reads : Reads V Key) where
  reserved_or : (b : Bool) (v : Verdict) → VerdictIn Key v → VerdictIn Key (if b then reserved else v)
  reserved_or true v h = tt
  reserved_or false v h = h

  parent_in : (s : Suffix) (t : There) (q : Seen) (v : Verdict) → ThereIn Key t → SeenIn Key q → VerdictIn Key v → VerdictIn Key (by_parent V s t q v)
  parent_in s (there p) (known c) v h k i = reserved_or (fits_kind s c.kind && stands_before V.position p) v i
  parent_in s (there p) unknown v h k i = i
  parent_in s (there p) (missing j) v h k i = k
  parent_in s (not_known j) q v h k i = h
  parent_in s not_there q v h k i = i

  suffix_in : (n : Path) (o : Option Suffix) (v : Verdict) → VerdictIn Key v → VerdictIn Key (by_suffix V n o v)
  suffix_in n (Some s) v i =
      parent_in s (there_of V (parent_of n)) (see V (parent_of n)) v (reads.theres (parent_of n)) (reads.sees (parent_of n)) i
  suffix_in n None v i = i

  verdict_in : (n : Path) → VerdictIn Key (verdict V n)
  verdict_in n = suffix_in n (suffix_of (last_of n)) (by_there (there_of V n)) (verdict_there Key (there_of V n) (reads.theres n))

  pub lasts_named : {A : Type 0} (limit : ℕ) (D : Declaration) (m : Task (Ended A)) (g : Log) → Lasts Key g (m g) → Lasts Key g (if_named V limit D m g)
  lasts_named limit D m g h =
      lasts_taken Key D.at D.name (verdict V D.name) _ g (verdict_in D.name)
      (lasts_repeated Key (repeated_level D.written) _ g (lasts_at_most Key limit D.at (length D.levels) m g h))

  -- ---- What is asked for

  lasts_ask : (n : Path) (g : Log) → Grew g (asked_in n g)
  lasts_ask n g = at (is_among n g.asked)
    where
      at : (b : Bool) → Grew g (if b then g else record g { asked = g.asked ++ n ∷ [] })
      at true = grew_same g
      at false = record { messages = begins_same g.messages; nodes = begins_same g.nodes; asked = (n ∷ [], refl) }

  lasts_ask_seen : (n : Path) (q : Seen) → SeenIn Key q → (g : Log) → Lasts Key g (ask_seen V n q g)
  lasts_ask_seen n (known c) h g = lasts_choose Key (is_realized V n) (asking.ask n) (gives tt) g (lasts_ask n g) (grew_same g)
  lasts_ask_seen n unknown h g = grew_same g
  lasts_ask_seen n (missing k) h g = h

  pub lasts_ask_all : (ns : List Path) (g : Log) → Lasts Key g (ask_all V ns g)
  lasts_ask_all [] g = grew_same g
  lasts_ask_all (n ∷ ns) g =
      lasts_then Key g (ask_seen V n (see V n) g) (λ y. ask_all V ns) (lasts_ask_seen n (see V n) (reads.sees n) g) (λ y l. lasts_ask_all ns l)
