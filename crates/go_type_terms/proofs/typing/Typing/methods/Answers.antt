use Rattle.go_type_terms.specs.Answers.{env_in}
use Rattle.go_type_terms.proofs.InterfaceTypes.{gathering_ends, gathering_fails, gathering_on, none_gathered}
use Rattle.go_type_terms.proofs.typing.Typing.methods.Goals as goal

pub loop-element-init : goal.loop-element-init
loop-element-init g c =
    let E = env_in c.args.self.now.context.now in
    none_gathered E c.args.elements.now c.new-embedded.result.keys c.new-noted.result.entries c.new-embedded.ensures.empty c.new-noted.ensures.empty

pub returns-in_err-louder : goal.returns-in_err-louder
returns-in_err-louder g c =
    let E = env_in c.args.self.now.context.now in
    gathering_fails E c.args.elements.now c.loop-element.element-index c.element-item.result c.loop-element.embedded.keys c.loop-element.noted.entries c.gather_element.new.noted.entries c.loop-element.loud c.in_err-louder.field-0.0 c.from_residual.result c.loop-element-test.true c.element-item.is c.from_residual.ensures.1 c.in_err-louder.ensures.gathers c.loop-element.invariant

pub loop-element-preserved : goal.loop-element-preserved
loop-element-preserved g c =
    let E = env_in c.args.self.now.context.now in
    gathering_on E c.args.elements.now c.loop-element.element-index c.element-item.result c.loop-element.embedded.keys c.gather_element.new.embedded.keys c.loop-element.noted.entries c.gather_element.new.noted.entries c.loop-element.loud c.in_ok-louder.louder c.either-loud.result c.loop-element-test.true c.element-item.is c.either-loud.ensures c.in_ok-louder.ensures.gathers c.in_ok-louder.ensures.gathered c.loop-element.invariant

pub returns : goal.returns
returns g c =
    let E = env_in c.args.self.now.context.now in
    gathering_ends E c.args.elements.now c.loop-element.element-index c.loop-element.embedded.keys c.loop-element.noted.entries c.loop-element.loud c.in_ok-methods.methods c.loop-element-test.false c.in_ok-methods.ensures.ordered c.in_ok-methods.ensures.methods c.loop-element.invariant
