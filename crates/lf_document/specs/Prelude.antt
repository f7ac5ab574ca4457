-- The prelude, whose constants are the base of each text: it is elaborated as a text by itself, over nothing, and none of its realizable names
-- stands for anything.
use Rattle.std.specs.Prelude.{◌≡◌, ℕ, List, [], ◌∷◌, ◌++◌, codes, flat_map}
use Rattle.std.specs.Str.{encode_utf8_all}
use Prim.Native.String.{String}
use Rattle.lf_core.specs.declared.constant.ConstInfo.{ConstInfo}
use Rattle.lf_syntax.specs.declared.command.Command.{Command}
use Rattle.lf_syntax.specs.Document.{CommandsOf}
use Rattle.lf_document.specs.Sequential.{Ground, none_realized, elaborate_document, constants_of}

abbrev pub line : String → List ℕ
line t = encode_utf8_all (codes t) ++ 10 ∷ []

abbrev pub lines : List String
lines =
    "universe u v"
    ∷ "axiom sorryAx (α : Sort u) : α"
    ∷ "inductive True : Prop where | intro : True"
    ∷ "inductive False : Prop"
    ∷ "inductive Bool : Type where | false : Bool | true : Bool"
    ∷ "inductive Nat : Type where | zero : Nat | succ (n : Nat) : Nat"
    ∷ "inductive Eq {α : Sort u} (a : α) : α → Prop where | refl : Eq a a"
    ∷ "inductive And (a b : Prop) : Prop where | intro (left : a) (right : b) : And a b"
    ∷ "inductive Or (a b : Prop) : Prop where | inl (h : a) : Or a b | inr (h : b) : Or a b"
    ∷ "inductive Iff (a b : Prop) : Prop where | intro (mp : a → b) (mpr : b → a) : Iff a b"
    ∷ "inductive Exists {α : Sort u} (p : α → Prop) : Prop where"
    ∷ "  | intro (w : α) (h : p w) : Exists p"
    ∷ "def Not (a : Prop) : Prop := a → False"
    ∷ "def Ne {α : Sort u} (a b : α) : Prop := ¬ a = b"
    ∷ "axiom propext {a b : Prop} : (a ↔ b) → a = b"
    ∷ "theorem rfl {α : Sort u} {a : α} : a = a := Eq.refl"
    ∷ "theorem Eq.symm {α : Sort u} {a b : α} (h : a = b) : b = a :="
    ∷ "  @Eq.rec.{0, u} α a (fun x _ => x = a) Eq.refl b h"
    ∷ "theorem Eq.trans {α : Sort u} {a b c : α} (h : a = b) (g : b = c) : a = c :="
    ∷ "  @Eq.rec.{0, u} α b (fun x _ => a = x) h c g"
    ∷ "theorem congrArg {α : Sort u} {β : Sort v} {a b : α} (f : α → β) (h : a = b) :"
    ∷ "  f a = f b := @Eq.rec.{0, u} α a (fun x _ => f a = f x) Eq.refl b h"
    ∷ "theorem congr {α : Sort u} {β : Sort v} {f g : α → β} {a b : α}"
    ∷ "  (h : f = g) (k : a = b) : f a = g b :="
    ∷ "  @Eq.rec.{0, imax u v} (α → β) f (fun x _ => f a = x b) (congrArg f k) g h"
    ∷ "def False.elim {C : Sort u} (h : False) : C := @False.rec.{u} (fun _ => C) h"
    ∷ "theorem And.left {a b : Prop} (h : a ∧ b) : a :="
    ∷ "  @And.rec.{0} a b (fun _ => a) (fun l _ => l) h"
    ∷ "theorem And.right {a b : Prop} (h : a ∧ b) : b :="
    ∷ "  @And.rec.{0} a b (fun _ => b) (fun _ r => r) h"
    ∷ "def Nat.pred (n : Nat) : Nat := @Nat.rec.{1} (fun _ => Nat) 0 (fun m _ => m) n"
    ∷ "def Nat.add (n m : Nat) : Nat :="
    ∷ "  @Nat.rec.{1} (fun _ => Nat) n (fun _ ih => Nat.succ ih) m"
    ∷ "def Nat.sub (n m : Nat) : Nat :="
    ∷ "  @Nat.rec.{1} (fun _ => Nat) n (fun _ ih => Nat.pred ih) m"
    ∷ "def Nat.mul (n m : Nat) : Nat :="
    ∷ "  @Nat.rec.{1} (fun _ => Nat) 0 (fun _ ih => Nat.add ih n) m"
    ∷ "def Nat.beq (n : Nat) : Nat → Bool := @Nat.rec.{1} (fun _ => Nat → Bool)"
    ∷ "  (fun m => @Nat.rec.{1} (fun _ => Bool) Bool.true (fun _ _ => Bool.false) m)"
    ∷ "  (fun _ ih m => @Nat.rec.{1} (fun _ => Bool) Bool.false (fun k _ => ih k) m) n"
    ∷ "def Nat.ble (n : Nat) : Nat → Bool := @Nat.rec.{1} (fun _ => Nat → Bool)"
    ∷ "  (fun _ => Bool.true)"
    ∷ "  (fun _ ih m => @Nat.rec.{1} (fun _ => Bool) Bool.false (fun k _ => ih k) m) n"
    ∷ "axiom Nat.div : Nat → Nat → Nat"
    ∷ "axiom Nat.mod : Nat → Nat → Nat"
    ∷ "axiom Nat.land : Nat → Nat → Nat"
    ∷ "axiom Nat.lor : Nat → Nat → Nat"
    ∷ "axiom Nat.xor : Nat → Nat → Nat"
    ∷ []

unfoldable pub prelude_text : List ℕ
prelude_text = flat_map line lines

-- Its parts have a million units each, whatever those of a text have.
abbrev pub prelude_units : ℕ
prelude_units = 1000000

abbrev pub prelude_ground : Ground
prelude_ground = record { base = []; realizes = none_realized; budget = prelude_units }

-- The constants of the prelude's commands.
abbrev pub base_by : List Command → List ConstInfo
base_by cs = constants_of (elaborate_document prelude_ground cs)

pub record IsBase (base : List ConstInfo) : Type 0 where
  pub commands : List Command
  pub written : CommandsOf prelude_text commands
  pub made : base ≡ base_by commands
