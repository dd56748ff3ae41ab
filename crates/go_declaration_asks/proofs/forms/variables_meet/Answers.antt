use Rattle.std.proofs.Common.{length}
use Rattle.go_base.specs.Lists.{Each}
use Rattle.go_asks.proofs.Both.{first_fails, second_decides}
use Rattle.go_declaration_asks.specs.inner.Names.{IsFreeName}
use Rattle.go_type_terms.specs.Answers.{env_in}
use Rattle.go_typings.specs.DeclarationAsks.{ValuesFit}
use Rattle.go_declaration_asks.proofs.forms.variables_meet.Goals as goal

pub returns-then-not-are_free : goal.returns-then-not-are_free
returns-then-not-are_free c = first_fails (Each (IsFreeName c.args.package_name.now) c.args.names.now) (ValuesFit (env_in c.args.context.now) c.args.form.now (length c.args.names.now) c.args.values.now) c.are_free.result c.if-not-are_free.true c.are_free.ensures

pub returns : goal.returns
returns c = second_decides (Each (IsFreeName c.args.package_name.now) c.args.names.now) (ValuesFit (env_in c.args.context.now) c.args.form.now (length c.args.names.now) c.args.values.now) c.are_free.result c.if-not-are_free.false c.are_free.ensures c.in_ok-fit.fit c.in_ok-fit.ensures
