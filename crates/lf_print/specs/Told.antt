-- The code's form of an application as the definition's.
use Rattle.lf_print.specs.Forms.{ApplicationForm, between_form, negation_form, plain_form}
use Rattle.lf_print.specs.declared.piece.Form.{Form}
use Rattle.lf_print.specs.declared.piece.Form.TheVariants.{Between, Negation, Plain}

abbrev pub told : Form → ApplicationForm
told (Between o x) = between_form o x.now
told Negation = negation_form
told Plain = plain_form
