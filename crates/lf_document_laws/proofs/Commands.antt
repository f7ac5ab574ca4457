-- The extension law of the values of heads and bodies, for each command.
use Rattle.std.proofs.Common.{Option, Some, None, refl}
use Rattle.lf_core.specs.declared.constant.ConstKind.TheVariants.{Def as DefKind, Theorem as TheoremKind}
use Rattle.lf_name.specs.declared.binder.BinderKind.TheVariants.{Explicit, Inst}
use Rattle.lf_syntax.specs.Tree.{TermTree}
use Rattle.lf_syntax.specs.declared.command.Command.{Command}
use Rattle.lf_syntax.specs.declared.command.Command.TheVariants.{
  Axiom,
  Def,
  Equations,
  Theorem,
  Inductive,
  Structure,
  Class,
  Instance,
  Namespace,
  Section,
  End,
  OpenNames,
  Universe,
  Variable,
  Check,
  Reduce,
  PrintAxioms,
  Bad,
}
use Rattle.lf_checker.specs.View.{View}
use Rattle.lf_checker.specs.Extends.{Extends}
use Rattle.lf_elaboration_laws.specs.Extension.{AreDistinct}
use Rattle.lf_document.specs.Task.{Log}
use Rattle.lf_document.specs.Setting.{Setting, Declaration, declaration}
use Rattle.lf_document.specs.TaskValue.{def_head, head, body}
use Rattle.lf_document_laws.specs.Extension.{Kept, on_view, IsOwn, CommandsExtend}
use Rattle.lf_document_laws.proofs.Kept.{kept_self}
use Rattle.lf_document_laws.proofs.Heads.{heads_extend}
use Rattle.lf_document_laws.proofs.Bodies.{kept_body}
use Rattle.lf_document_laws.proofs.Values.{axioms_reached_extend, values_extend}

module _ (X : Setting) (V : View) (x : Extends V X.view) (a : AreDistinct X.view.entries) (b : AreDistinct V.entries) (own : IsOwn X) (g : Log) where
  kept_def : (D : Declaration) (v : TermTree) (o : Option TermTree) → Kept (def_head X D v o g) (def_head (on_view X V) D v o g)
  kept_def D v (Some t) = heads_extend.headers DefKind D X V x.tells g
  kept_def D v None = heads_extend.definitions D v X V x.tells g

  kept_head : (c : Command) → Kept (head X c g) (head (on_view X V) c g)
  kept_head (Axiom d) = heads_extend.axioms (declaration X.scope (Axiom d) d) X V x.tells g
  kept_head (Def d v hs) = kept_def (declaration X.scope (Def d v hs) d) v d.ty
  kept_head (Equations d alts) = heads_extend.headers DefKind (declaration X.scope (Equations d alts) d) X V x.tells g
  kept_head (Theorem d v hs) = heads_extend.headers TheoremKind (declaration X.scope (Theorem d v hs) d) X V x.tells g
  kept_head (Inductive d ks) = heads_extend.inductives (declaration X.scope (Inductive d ks) d) ks X V x.tells g
  kept_head (Structure d fs) = heads_extend.structures Explicit (declaration X.scope (Structure d fs) d) fs X V x.tells own g
  kept_head (Class d fs) = heads_extend.structures Inst (declaration X.scope (Class d fs) d) fs X V x.tells own g
  kept_head (Instance d v) = heads_extend.headers DefKind (declaration X.scope (Instance d v) d) X V x.tells g
  kept_head (Namespace at n) = refl
  kept_head (Section at n) = refl
  kept_head (End at n) = kept_self (head X (End at n) g)
  kept_head (OpenNames at ns) = refl
  kept_head (Universe at ns) = refl
  kept_head (Variable at bs) = heads_extend.variables (Variable at bs) at bs X V x.tells g
  kept_head (Check at t) = heads_extend.checks (Check at t) at t X V x.tells g
  kept_head (Reduce at t) = heads_extend.reductions (Reduce at t) at t X V x.tells g
  kept_head (PrintAxioms at n) = axioms_reached_extend X V x a b at n g
  kept_head (Bad at f) = refl

pub commands_extend : CommandsExtend
commands_extend = record {
  heads = λ X V x a b own c. values_extend (λ Y. head Y c) X V x.tells (λ g. kept_head X V x a b own g c);
  bodies = λ X V x own c h. values_extend (λ Y. body Y c h) X V x (λ g. kept_body X V x own c h g);
}
