-- What the checker and the calls for headers and values wait for is what the view needs.
use Rattle.std.proofs.Common.{ℕ, true, ◌&&◌, [], Option, Some, None}
use Rattle.lf_core.specs.Term.{Path, Term, bound, free, meta, sort, const, app, lam, pi, letin, lit, proj}
use Rattle.lf_core.specs.declared.constant.ConstInfo.{ConstInfo}
use Rattle.lf_core.specs.declared.constant.TaskKey.{TaskKey}
use Rattle.lf_checker.specs.View.{View, KnownBody, value, opaque, unresolved, body_of, There, there, not_there, not_known, there_of}
use Rattle.lf_checker.specs.Run.{Answer, done, refused, out, need, Run, refuse}
use Rattle.lf_checker.specs.declared.fault.TypeFault.TheVariants.{NotClosed}
use Rattle.lf_checker.specs.Calls.{checked, Seen, known, unknown, missing, see}
use Rattle.lf_checker.specs.Infer.{sort_of}
use Rattle.lf_checker.specs.Checker.{
  calls,
  is_closed,
  is_value_closed,
  unless_there,
  body_height,
  seen_height,
  greatest_height,
  height_of,
  add_header,
  check_value,
  add_decl,
}
use Rattle.lf_extension_laws.specs.Needs.{IsWanted, Waits, CheckerWaits}
use Rattle.lf_extension_laws.proofs.Only.{Only, SeenIn, BodyIn, ThereIn, Reads, Asks, only_then, only_spend, only_choose}
use Rattle.lf_extension_laws.proofs.OnlyInfer.{only_sort, calls_ask}
use Rattle.lf_extension_laws.proofs.Wanted.{reads_wanted}

ruleset only = (only_then, only_spend, only_choose)

module _ (V : View) (Key : TaskKey → Type 0) (reads : Reads V Key) where
  only_unless : {A : Type 0} (n : Path) (t : There) (m : Run A) (u : ℕ) → ThereIn Key t → Only true Key (m u)
      → Only true Key (unless_there n t m u)
  only_unless n (there p) m u h g = tt
  only_unless n not_there m u h g = g
  only_unless n (not_known k) m u h g = h

  only_body_height : (b : KnownBody) (u : ℕ) → BodyIn Key b → Only true Key (body_height b u)
  only_body_height (value v i) u h = tt
  only_body_height opaque u h = tt
  only_body_height (unresolved k) u h = h

  only_seen_height : (n : Path) (q : Seen) (u : ℕ) → SeenIn Key q → Only true Key (seen_height V n q u)
  only_seen_height n (known k) u h = only_body_height (body_of V n) u (reads.bodies n)
  only_seen_height n unknown u h = tt
  only_seen_height n (missing k) u h = h

  only_heights : (t : Term) (u : ℕ) → Only true Key (greatest_height V t u)
  only_heights (const n ls) u = only_seen_height n (see V n) u (reads.sees n)
  only_heights (app f a) u =
      let l : (v : ℕ) → Only true Key (greatest_height V f v) = λ v. only_heights f v in
      let r : (v : ℕ) → Only true Key (greatest_height V a v) = λ v. only_heights a v in
      search (only, l, r) depth 8
  only_heights (lam x A b) u =
      let l : (v : ℕ) → Only true Key (greatest_height V A v) = λ v. only_heights A v in
      let r : (v : ℕ) → Only true Key (greatest_height V b v) = λ v. only_heights b v in
      search (only, l, r) depth 8
  only_heights (pi x A b) u =
      let l : (v : ℕ) → Only true Key (greatest_height V A v) = λ v. only_heights A v in
      let r : (v : ℕ) → Only true Key (greatest_height V b v) = λ v. only_heights b v in
      search (only, l, r) depth 8
  only_heights (letin x A w b) u =
      let l : (v : ℕ) → Only true Key (greatest_height V A v) = λ v. only_heights A v in
      let m : (v : ℕ) → Only true Key (greatest_height V w v) = λ v. only_heights w v in
      let r : (v : ℕ) → Only true Key (greatest_height V b v) = λ v. only_heights b v in
      search (only, l, m, r) depth 10
  only_heights (proj s i t) u = only_heights t u
  only_heights (bound i) u = tt
  only_heights (free k) u = tt
  only_heights (meta k) u = tt
  only_heights (sort l) u = tt
  only_heights (lit n) u = tt

  only_height : (t : Term) (u : ℕ) → Only true Key (height_of V t u)
  only_height t u = search (only, only_heights) depth 8

  module _ (n : ℕ) where
    asks : Asks Key (calls V n)
    asks = calls_ask V Key reads n

    only_check : (ty : Term) (o : Option Term) (u : ℕ) → Only true Key (check_value V n ty o u)
    only_check ty None u = tt
    only_check ty (Some v) u = search (only, asks.infer, asks.equal, only_height) depth 12

    pub only_header : (x : Path) (ty : Term) (u : ℕ) → Only true Key (add_header V n x ty u)
    only_header x ty u =
        only_choose true Key (is_closed ty) (unless_there x (there_of V x) (sort_of (calls V n) checked [] ty)) (refuse NotClosed) u
        (only_unless x (there_of V x) (sort_of (calls V n) checked [] ty) u (reads.theres x) (only_sort V Key reads (calls V n) asks checked [] ty u)) tt

    pub only_decl : (c : ConstInfo) (u : ℕ) → Only true Key (add_decl V n c u)
    only_decl c u =
        only_choose true Key (is_closed c.ty && is_value_closed c.value) (unless_there c.name (there_of V c.name) (check_value V n c.ty c.value))
        (refuse NotClosed) u
        (only_unless c.name (there_of V c.name) (check_value V n c.ty c.value) u (reads.theres c.name) (only_check c.ty c.value u)) tt

waits : {A : Type 0} (V : View) (o : Answer A) → Only true (IsWanted V) o → Waits V o
waits V (done x u) h = tt
waits V (refused e u) h = tt
waits V out h = tt
waits V (need k) h = h

pub checker_waits : CheckerWaits
checker_waits V depth =
    let a : Asks (IsWanted V) (calls V depth) = calls_ask V (IsWanted V) (reads_wanted V) depth in
    record {
      calls = record {
        whnf = λ f C t u. waits V ((calls V depth).whnf f C t u) (a.whnf true f C t u);
        equal = λ C s t u. waits V ((calls V depth).equal C s t u) (a.equal true C s t u);
        infer = λ m C t u. waits V ((calls V depth).infer m C t u) (a.infer m C t u);
        normalize = λ C t u. waits V ((calls V depth).normalize C t u) (a.normalize true C t u);
      };
      add_header = λ n ty u. waits V (add_header V depth n ty u) (only_header V (IsWanted V) (reads_wanted V) depth n ty u);
      add_decl = λ c u. waits V (add_decl V depth c u) (only_decl V (IsWanted V) (reads_wanted V) depth c u);
    }
