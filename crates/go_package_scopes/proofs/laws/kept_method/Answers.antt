use Rattle.go_package_scopes.proofs.KeptMethods.{method_elsewhere, method_more}
use Rattle.go_package_scopes.proofs.laws.kept_method.Goals as goal

pub returns-clause-found : goal.returns-clause-found
returns-clause-found c = λ s u a scopes n d receiver f type g keeps fresh at form. method_more s u a scopes n d receiver f g keeps fresh at form type

pub returns-clause-other : goal.returns-clause-other
returns-clause-other c = method_elsewhere
