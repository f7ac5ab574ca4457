-- What the commands that declare read behind their words.
use Rattle.std.proofs.Common.{◌≡◌, ℕ, List, [], ◌∷◌, None, Some, Ok, ◌∙◌}
use Rattle.lf_text.specs.declared.word.Word.TheVariants as words
use Rattle.lf_syntax.specs.declared.command.Command.TheVariants.{Axiom, Theorem, Inductive, Structure, Class, Instance}
use Rattle.lf_syntax.specs.Piece.{Piece}
use Rattle.lf_syntax.specs.Predictive.{Takes}
use Rattle.lf_syntax.specs.Symbol.{Symbol, Tree}
use Rattle.lf_syntax.specs.Symbol as symbol
use Rattle.lf_syntax.specs.Rows.{command_rows, defined}
use Rattle.lf_parse_term.specs.Descent.{read, reading, seq, ◌>>=◌}
use Rattle.lf_parse_term.proofs.Machine.{then_same}
use Rattle.lf_parse_term.proofs.Laws.{read_is, seq_join}
use Rattle.lf_parse_decl.specs.Parts.{row_behind, decl_head, decl, typed_value}
use Rattle.lf_parse_decl.specs.declared.head.DeclHead.{DeclHead}
use Rattle.lf_parse_decl.proofs.Symbols.{typed_then}

pub read_command : (ts : List Piece) → read symbol.command ts ≡ reading command_rows None ts
read_command ts = read_is symbol.command ts

-- A head, and the symbols behind it.
head_then : {V : Type 0} (ys : List Symbol) (k : DeclHead → Takes Tree ys V) (ts : List Piece) →
    seq (symbol.any_name ∷ symbol.level_names ∷ symbol.parameters ∷ ys) ts (λ x ls bs. k (record { name = x; levels = ls; binders = bs }))
    ≡ (decl_head ts >>= (λ h rest. seq ys rest (k h)))
unfolding decl_head
head_then ys k ts =
    seq_join (symbol.any_name ∷ symbol.level_names ∷ symbol.parameters ∷ []) ys ts (λ x ls bs. record { name = x; levels = ls; binders = bs }) k

pub axiom_is : (at : ℕ) (ts : List Piece) → row_behind command_rows words.Axiom at ts ≡
    (decl_head ts >>= (λ h rest. seq (symbol.token words.Colon ∷ symbol.term 0 ∷ []) rest (λ _ ty. Axiom (decl at h (Some ty)))))
unfolding row_behind
axiom_is at ts = head_then (symbol.token words.Colon ∷ symbol.term 0 ∷ []) (λ h _ ty. Axiom (decl at h (Some ty))) ts

pub def_is : (at : ℕ) (ts : List Piece) → row_behind command_rows words.Def at ts ≡
    (decl_head ts >>= (λ h rest. seq (symbol.def_rest ∷ []) rest (λ d. defined (decl at h d.ty) d.body)))
unfolding row_behind
def_is at ts = head_then (symbol.def_rest ∷ []) (λ h d. defined (decl at h d.ty) d.body) ts

pub theorem_is : (at : ℕ) (ts : List Piece) → row_behind command_rows words.Theorem at ts ≡
    (decl_head ts >>= (λ h rest. typed_value rest >>= (λ s more. seq (symbol.helpers ∷ []) more (λ hs. Theorem (decl at h (Some s.ty)) s.value hs))))
unfolding row_behind
theorem_is at ts =
    head_then (symbol.token words.Colon ∷ symbol.term 0 ∷ symbol.token words.Assign ∷ symbol.term 0 ∷ symbol.helpers ∷ [])
    (λ h _ ty _ v hs. Theorem (decl at h (Some ty)) v hs) ts ∙
    then_same (decl_head ts)
    (λ h rest. seq (symbol.token words.Colon ∷ symbol.term 0 ∷ symbol.token words.Assign ∷ symbol.term 0 ∷ symbol.helpers ∷ []) rest
    (λ _ ty _ v hs. Theorem (decl at h (Some ty)) v hs))
    (λ h rest. typed_value rest >>= (λ s more. seq (symbol.helpers ∷ []) more (λ hs. Theorem (decl at h (Some s.ty)) s.value hs)))
    (λ h rest. typed_then (symbol.helpers ∷ []) (λ s hs. Theorem (decl at h (Some s.ty)) s.value hs) rest)

pub inductive_is : (at : ℕ) (ts : List Piece) → row_behind command_rows words.Inductive at ts ≡
    (decl_head ts >>= (λ h rest. seq (symbol.type_option ∷ symbol.where_option ∷ symbol.ctors ∷ []) rest (λ ty _ cs. Inductive (decl at h ty) cs)))
unfolding row_behind
inductive_is at ts = head_then (symbol.type_option ∷ symbol.where_option ∷ symbol.ctors ∷ []) (λ h ty _ cs. Inductive (decl at h ty) cs) ts

pub structure_is : (at : ℕ) (ts : List Piece) → row_behind command_rows words.Structure at ts ≡
    (decl_head ts >>= (λ h rest. seq (symbol.type_option ∷ symbol.fields_option ∷ []) rest (λ ty fs. Structure (decl at h ty) fs)))
unfolding row_behind
structure_is at ts = head_then (symbol.type_option ∷ symbol.fields_option ∷ []) (λ h ty fs. Structure (decl at h ty) fs) ts

pub class_is : (at : ℕ) (ts : List Piece) → row_behind command_rows words.Class at ts ≡
    (decl_head ts >>= (λ h rest. seq (symbol.type_option ∷ symbol.fields_option ∷ []) rest (λ ty fs. Class (decl at h ty) fs)))
unfolding row_behind
class_is at ts = head_then (symbol.type_option ∷ symbol.fields_option ∷ []) (λ h ty fs. Class (decl at h ty) fs) ts

pub instance_is : (at : ℕ) (ts : List Piece) → row_behind command_rows words.Instance at ts ≡
    (decl_head ts >>= (λ h rest. typed_value rest >>= (λ s more. Ok (Instance (decl at h (Some s.ty)) s.value, more))))
unfolding row_behind
instance_is at ts =
    head_then (symbol.token words.Colon ∷ symbol.term 0 ∷ symbol.token words.Assign ∷ symbol.term 0 ∷ [])
    (λ h _ ty _ v. Instance (decl at h (Some ty)) v) ts ∙
    then_same (decl_head ts)
    (λ h rest. seq (symbol.token words.Colon ∷ symbol.term 0 ∷ symbol.token words.Assign ∷ symbol.term 0 ∷ []) rest
    (λ _ ty _ v. Instance (decl at h (Some ty)) v))
    (λ h rest. typed_value rest >>= (λ s more. Ok (Instance (decl at h (Some s.ty)) s.value, more)))
    (λ h rest. typed_then [] (λ s. Instance (decl at h (Some s.ty)) s.value) rest)
