use Rattle.std.proofs.Common.{◌≡◌, ◌<◌, ◌≤◌, length, ◌+◌, drop, Bool, sym, subst, arith}
use Rattle.go_rules.specs.Expressions.{HasUnkeyed}
use Rattle.go_rules.specs.Nodes.{element_parts}
use Rattle.go_operations.specs.go_type_terms.Answers.{env_in}
use Rattle.go_literals.specs.Elements.{UnkeyedFits, parts_of}
use Rattle.go_literals.proofs.KeyedFields.{Unkeyed, unkeyed_after, unkeyed_first, unkeyed_lengths, unkeyed_whole}
use Rattle.go_literals.proofs.Parts.{held_handed}
use Rattle.go_literals.proofs.values.Literals.unkeyed.Goals as goal

pub returns-then-fields-elements : goal.returns-then-fields-elements
returns-then-fields-elements g c = λ u. let e = unkeyed_lengths (env_in c.args.self.now.operations.typing.context.now) u in omega arith

pub returns-in_err-louder : goal.returns-in_err-louder
returns-in_err-louder g c =
    let E = env_in c.args.self.now.operations.typing.context.now in
    let f = c.index-fields-at.result in
    let x = c.index-elements-at.result in
    let h : c.loop-at.at < length c.args.fields.now = omega arith in
    let k : c.loop-at.at < length c.args.elements.now = omega arith in
    held_handed E (UnkeyedFits E f x) (HasUnkeyed E c.args.fields.now c.args.elements.now) (parts_of x) (element_parts c.args.elements.now) c.in_err-louder.field-0.0 c.from_residual.result c.from_residual.ensures.1 c.in_err-louder.ensures
    (unkeyed_first E c.args.fields.now c.args.elements.now c.loop-at.at f x c.loop-at.loud h c.index-fields-at.is k c.index-elements-at.is c.loop-at.invariant)

pub loop-at-preserved : goal.loop-at-preserved
loop-at-preserved g c =
    let E = env_in c.args.self.now.operations.typing.context.now in
    let fs = c.args.fields.now in
    let xs = c.args.elements.now in
    let i = c.loop-at.at in
    let h : c.loop-at.at < length c.args.fields.now = omega arith in
    let k : c.loop-at.at < length c.args.elements.now = omega arith in
    subst (λ (b : Bool). Unkeyed E fs xs (drop (i + 1) fs) (drop (i + 1) xs) b) (sym c.either-loud.ensures)
    (unkeyed_after E fs xs i c.index-fields-at.result c.index-elements-at.result c.loop-at.loud c.in_ok-louder.louder h c.index-fields-at.is k c.index-elements-at.is c.in_ok-louder.ensures.0 c.in_ok-louder.ensures.1 c.loop-at.invariant)

pub returns : goal.returns
returns g c =
    let h : length c.args.fields.now ≤ c.loop-at.at = omega arith in
    let k : length c.args.elements.now ≤ c.loop-at.at = omega arith in
    unkeyed_whole (env_in c.args.self.now.operations.typing.context.now) c.args.fields.now c.args.elements.now c.loop-at.at c.loop-at.loud h k c.loop-at.invariant
