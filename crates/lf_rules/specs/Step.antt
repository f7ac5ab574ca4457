-- One step of reduction at the head of a term, with no look at types (Lean 4 reference manual, "The Type System", on reduction;
-- Carneiro 2019, chapter 2; the steps of literals are those of Lean's kernel).
use Rattle.std.specs.Prelude.{◌≡◌, ℕ, suc, ◌+◌, ◌^◌, ◌<◌, true, false, Some, List, [], ◌∷◌, ◌++◌, length, slice_get, take, drop, Contains, codes}
use Rattle.lf_core.specs.Term.{Path, Universe, Term, app, lam, letin, const, lit, proj}
use Rattle.lf_core.specs.Substitution.{instantiate, level_instantiate}
use Rattle.lf_core.specs.Spine.{apply}
use Rattle.lf_rules.specs.Environment.{Environment, nat_zero, nat_succ}
use Rattle.lf_rules.specs.Structure.{IsStructure}
use Rattle.lf_core.specs.Literal.{literal_operation}
use Rattle.lf_core.specs.declared.literal.LitOut.{LitOut}
use Rattle.lf_core.specs.declared.literal.LitOut.TheVariants.{Nat, Bool}
use Rattle.lf_name.specs.declared.binder.Binder.{Binder}
use Rattle.lf_core.specs.declared.constant.ConstInfo.{ConstInfo}
use Rattle.lf_core.specs.declared.constant.ConstKind.TheVariants.{Def}
use Rattle.lf_core.specs.declared.constant.Detail.TheVariants.{Ctor, Rec}

-- The term that an operation on literals gives: a literal or a constructor of `Bool`.
abbrev pub literal_term : LitOut → Term
literal_term (Nat n) = lit n
literal_term (Bool true) = const (codes "Bool" ∷ codes "true" ∷ []) []
literal_term (Bool false) = const (codes "Bool" ∷ codes "false" ∷ []) []

-- A recursor's rule at these levels, applied to the parameters, motive and minor premises of `before` and to the fields.
abbrev pub by_rule : Term → List Universe → ℕ → List Term → List Term → Term
by_rule rule ls shared before fields = apply (level_instantiate ls rule) (take shared before ++ fields)

pub data Step (E : Environment) : Term → Term → Type 0 where
  -- (fun x => b) a
  beta : (x : Binder) (A b a : Term) → Step E (app (lam x A b) a) (instantiate b a)
  -- let x := v; b
  zeta : (x : Binder) (A v b : Term) → Step E (letin x A v b) (instantiate b v)
  -- a definition at its levels; a theorem has no step
  delta : (c : ConstInfo) (v : Term) (ls : List Universe) → Contains E c → c.kind ≡ Def → c.value ≡ Some v → length ls ≡ length c.levels
      → Step E (const c.name ls) (level_instantiate ls v)
  -- a recursor with the arguments before its major premise, which is a constructor of its type with all its arguments
  iota : (c d : ConstInfo) (ind : Path) (params minors indices index own fields : ℕ) (rules : List Term) (rule : Term) (ls ms : List Universe)
      (before ys : List Term)
      → Contains E c → c.detail ≡ Rec ind params minors indices rules → length ls ≡ length c.levels → length before ≡ params + 1 + minors + indices
      → Contains E d → d.detail ≡ Ctor ind index own fields → slice_get rules index ≡ Some rule → length ys ≡ own + fields
      → Step E (app (apply (const c.name ls) before) (apply (const d.name ms) ys)) (by_rule rule ls (params + 1 + minors) before (drop own ys))
  -- numbers below 2^128
  literal_zero : Step E (lit 0) nat_zero
  literal_succ : (n : ℕ) → suc n < 2 ^ 128 → Step E (lit (suc n)) (app nat_succ (lit n))
  operation : (op : Path) (m n : ℕ) (r : LitOut) → literal_operation op m n ≡ Some r → Step E (app (app (const op []) (lit m)) (lit n)) (literal_term r)
  -- a field of a structure's constructor with all its arguments
  projection : {S : Path} (s : IsStructure E S) (i : ℕ) (x : Term) (ms : List Universe) (ys : List Term) → length ys ≡ s.params + s.fields
      → slice_get (drop s.params ys) i ≡ Some x
      → Step E (proj S i (apply (const s.constructor.name ms) ys)) x
