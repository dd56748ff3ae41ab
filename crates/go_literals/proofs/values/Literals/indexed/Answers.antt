use Rattle.std.proofs.Common.{◌≡◌, ℕ, suc, ◌+◌, drop, Bool, ◌||◌, sym, subst, arith}
use Rattle.go_rules.specs.Expressions.{HasIndexed}
use Rattle.go_rules.specs.Nodes.{element_parts}
use Rattle.go_operations.specs.go_type_terms.Answers.{env_in}
use Rattle.go_operations.proofs.go_type_terms_proofs.Handed.{handed}
use Rattle.go_literals.specs.Elements.{IndexedFits, parts_of}
use Rattle.go_literals.proofs.Indexing.{Indexed, indexed_done, indexed_first, indexed_next}
use Rattle.go_literals.proofs.values.Literals.indexed.Goals as goal

pub returns-in_err-place : goal.returns-in_err-place
returns-in_err-place g c =
    let E = env_in c.args.self.now.operations.typing.context.now in
    let x = c.element-item.result in
    handed E (IndexedFits E c.args.term.now c.args.limit c.loop-element.next x) (HasIndexed E c.args.term.now c.args.limit 0 c.args.elements.now) (parts_of x) (element_parts c.args.elements.now) c.in_err-place.field-0.0 c.from_residual.result c.from_residual.ensures.1 c.in_err-place.ensures
    (indexed_first E c.args.term.now c.args.limit c.args.elements.now c.loop-element.next c.loop-element.greatest c.loop-element.element-index x c.loop-element.loud c.loop-element-test.true c.element-item.is c.loop-element.invariant)

pub loop-element-preserved : goal.loop-element-preserved
loop-element-preserved g c =
    let E = env_in c.args.self.now.operations.typing.context.now in
    let xs = c.args.elements.now in
    let i = c.loop-element.element-index in
    let y = indexed_next E c.args.term.now c.args.limit xs c.loop-element.next c.in_ok-place.place c.in_ok-next.next c.loop-element.greatest i c.element-item.result c.loop-element.loud c.in_ok-place.louder c.loop-element-test.true c.element-item.is c.in_ok-next.ensures.ok c.in_ok-place.ensures.0 c.in_ok-place.ensures.1 c.loop-element.invariant in
    subst (λ (b : Bool). Indexed E c.args.term.now c.args.limit xs c.in_ok-next.next c.greater-greatest.result (drop (i + 1) xs) b) (sym c.either-loud.ensures)
    (subst (λ (n : ℕ). Indexed E c.args.term.now c.args.limit xs c.in_ok-next.next n (drop (i + 1) xs) (c.loop-element.loud || c.in_ok-place.louder)) (sym c.greater-greatest.ensures) y)

pub returns : goal.returns
returns g c = indexed_done (env_in c.args.self.now.operations.typing.context.now) c.args.term.now c.args.limit c.args.elements.now c.loop-element.next c.loop-element.greatest c.loop-element.element-index c.loop-element.loud (omega arith) c.loop-element.invariant
