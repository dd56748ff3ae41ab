use Rattle.std.proofs.Common.{refl, [], ◌∷◌}
use Rattle.go_rules.specs.Expressions.{OfParameters}
use Rattle.go_rules.specs.Nodes.{parameter_parts, type as type_node}
use Rattle.go_syntax.specs.declared.types.ParameterDecl.{out-ParameterDecl}
use Rattle.go_type_terms.specs.Answers.{env_in}
use Rattle.go_type_terms.specs.declared.signatures.Parameters.{Parameters}
use Rattle.go_type_terms.specs.inner.Parameters.{OfParameter}
use Rattle.go_type_terms.proofs.Passed.{passed_all, passed_behind, passed_first, passed_none, passed_on}
use Rattle.go_type_terms.proofs.Handed.{handed}
use Rattle.go_type_terms.proofs.typing.Typing.parameters.Goals as goal

pub loop-decl-init : goal.loop-decl-init
loop-decl-init g c = passed_none (env_in c.args.self.now.context.now) c.args.decls.now c.new-terms.result c.new-terms.ensures

pub returns-then-variadic : goal.returns-then-variadic
returns-then-variadic g c = λ p. passed_behind (env_in c.args.self.now.context.now) c.args.decls.now c.loop-decl.decl-index c.decl-item.result c.loop-decl.terms c.loop-decl.variadic c.loop-decl.loud c.loop-decl-test.true c.decl-item.is c.if-variadic.true c.loop-decl.invariant p.terms p.variadic

pub loop-decl-preserved : goal.loop-decl-preserved
loop-decl-preserved g c = passed_on (env_in c.args.self.now.context.now) c.args.decls.now c.loop-decl.decl-index c.decl-item.result c.loop-decl.terms c.in_ok-more.more c.push_all.new.items c.loop-decl.variadic _ c.loop-decl.loud c.in_ok-more.louder c.either-loud.result c.loop-decl-test.true c.decl-item.is c.if-variadic.false c.in_ok-push_all.ensures refl c.either-loud.ensures c.in_ok-more.ensures.0 c.in_ok-more.ensures.1 c.loop-decl.invariant

pub returns-in_err-more : goal.returns-in_err-more
returns-in_err-more g c =
    let E = env_in c.args.self.now.context.now in
    let d = c.decl-item.result in
    handed E (OfParameter E d) (λ (p : Parameters). OfParameters E c.args.decls.now p.terms p.variadic) (type_node (out-ParameterDecl d).type_ ∷ []) (parameter_parts c.args.decls.now) c.in_err-more.field-0.0 c.from_residual.result c.from_residual.ensures.1 c.in_err-more.ensures
    (λ p. passed_first E c.args.decls.now c.loop-decl.decl-index d c.loop-decl.terms c.loop-decl.variadic c.loop-decl.loud c.loop-decl-test.true c.decl-item.is c.if-variadic.false c.loop-decl.invariant p.terms p.variadic)

pub returns : goal.returns
returns g c = passed_all (env_in c.args.self.now.context.now) c.args.decls.now c.loop-decl.decl-index c.loop-decl.terms c.loop-decl.variadic c.loop-decl.loud c.loop-decl-test.false c.loop-decl.invariant
