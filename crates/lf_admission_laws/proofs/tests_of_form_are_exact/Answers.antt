use Rattle.lf_admission_laws.proofs.Exact_forms.{form_tests_are_exact}
use Rattle.lf_admission_laws.proofs.tests_of_form_are_exact.Goals as goal

pub returns : goal.returns
returns c = form_tests_are_exact
