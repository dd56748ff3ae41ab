use Rattle.go_selectors.specs.Answers.{Decides}
use Rattle.go_statement_rules.specs.Statements.{NamesSomething}
use Rattle.go_switch_statements.proofs.Guarded.{named_told}
use Rattle.go_rules.specs.Expressions.{is_blank}
use Rattle.go_syntax.specs.declared.name.Name.{Name}
use Rattle.std.proofs.Common.{◌∙◌, Option, ap, subst, sym, true}
use Rattle.go_switch_statements.proofs.type_switches.names_something.Goals as goal

pub returns-in-Some : goal.returns-in-Some
returns-in-Some c = named_told c.args.name.now c.in-Some.name c.is_blank.result c.in-Some.is (c.is_blank.ensures ∙ ap is_blank c.bytes.ensures)

pub returns-in-None : goal.returns-in-None
returns-in-None c = subst (λ (n : Option Name). Decides true (NamesSomething n)) (sym c.in-None.is) tt
