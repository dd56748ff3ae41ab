use Rattle.std.proofs.Common.{◌+◌, drop, Bool, sym, subst, arith}
use Rattle.go_rules.specs.Nodes.{element_parts}
use Rattle.go_operations.specs.go_type_terms.Answers.{env_in}
use Rattle.go_rules.specs.Expressions.{HasPairs}
use Rattle.go_literals.proofs.Pairing.{Pairs, pairs_after, pairs_first, pairs_whole}
use Rattle.go_literals.specs.Elements.{PairFits, parts_of}
use Rattle.go_literals.proofs.Parts.{held_handed}
use Rattle.go_literals.proofs.values.Literals.pairs.Goals as goal

pub returns-in_err-louder : goal.returns-in_err-louder
returns-in_err-louder g c =
    let E = env_in c.args.self.now.operations.typing.context.now in
    let x = c.element-item.result in
    held_handed E (PairFits E c.args.key.now c.args.term.now x) (HasPairs E c.args.key.now c.args.term.now c.args.elements.now) (parts_of x) (element_parts c.args.elements.now) c.in_err-louder.field-0.0 c.from_residual.result c.from_residual.ensures.1 c.in_err-louder.ensures
    (pairs_first E c.args.key.now c.args.term.now c.args.elements.now c.loop-element.element-index x c.loop-element.loud c.loop-element-test.true c.element-item.is c.loop-element.invariant)

pub loop-element-preserved : goal.loop-element-preserved
loop-element-preserved g c =
    let E = env_in c.args.self.now.operations.typing.context.now in
    let xs = c.args.elements.now in
    let i = c.loop-element.element-index in
    subst (λ (b : Bool). Pairs E c.args.key.now c.args.term.now xs (drop (i + 1) xs) b) (sym c.either-loud.ensures)
    (pairs_after E c.args.key.now c.args.term.now xs i c.element-item.result c.loop-element.loud c.in_ok-louder.louder c.loop-element-test.true c.element-item.is c.in_ok-louder.ensures.0 c.in_ok-louder.ensures.1 c.loop-element.invariant)

pub returns : goal.returns
returns g c = pairs_whole (env_in c.args.self.now.operations.typing.context.now) c.args.key.now c.args.term.now c.args.elements.now c.loop-element.element-index c.loop-element.loud (omega arith) c.loop-element.invariant
