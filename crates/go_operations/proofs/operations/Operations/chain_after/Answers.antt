use Rattle.std.proofs.Common.{◌≡◌, ◌<◌, length, List, [], ◌∷◌, map, drop, ◌+◌, Bool, sym, subst, arith}
use Rattle.go_operations.specs.Chains.{Chains, Steps, operators_of}
use Rattle.go_rules.specs.Nodes.{expression}
use Rattle.go_type_terms.specs.Answers.{env_in}
use Rattle.go_type_terms.proofs.Handed.{handed}
use Rattle.go_operations.proofs.Chaining.{Goes, chain_first, chain_next, chain_over, chain_whole}
use Rattle.go_operations.proofs.operations.Operations.chain_after.Goals as goal

pub returns-in_err-next : goal.returns-in_err-next
returns-in_err-next g c =
    let E = env_in c.args.self.now.typing.context.now in
    let ops = operators_of c.args.operators.now (length c.args.others.now) in
    let within : c.loop-at.at < length c.args.others.now = omega arith in
    handed E (Steps E c.at.result c.loop-at.left c.index-others-at.result) (Chains E ops c.args.first c.args.others.now) (expression c.index-others-at.result ∷ []) (map expression c.args.others.now) c.in_err-next.field-0.0 c.from_residual.result c.from_residual.ensures.1 c.in_err-next.ensures
    (chain_first E ops c.args.first c.args.others.now c.loop-at.at c.at.result c.loop-at.left c.index-others-at.result c.loop-at.loud within (c.at.ensures (length c.args.others.now) within) c.index-others-at.is c.loop-at.invariant)

pub loop-at-preserved : goal.loop-at-preserved
loop-at-preserved g c =
    let E = env_in c.args.self.now.typing.context.now in
    let ops = operators_of c.args.operators.now (length c.args.others.now) in
    let within : c.loop-at.at < length c.args.others.now = omega arith in
    subst (λ (b : Bool). Goes E ops c.args.first c.args.others.now (drop (c.loop-at.at + 1) ops) c.in_ok-next.next (drop (c.loop-at.at + 1) c.args.others.now) b) (sym c.either-loud.ensures)
    (chain_next E ops c.args.first c.args.others.now c.loop-at.at c.at.result c.loop-at.left c.in_ok-next.next c.index-others-at.result c.loop-at.loud c.in_ok-next.louder within (c.at.ensures (length c.args.others.now) within) c.index-others-at.is c.in_ok-next.ensures.0 c.in_ok-next.ensures.1 c.loop-at.invariant)

pub returns-then-not-end_by : goal.returns-then-not-end_by
returns-then-not-end_by g c =
    let whole : c.loop-at.at ≡ length c.args.others.now = omega arith in
    chain_over (env_in c.args.self.now.typing.context.now) (operators_of c.args.operators.now (length c.args.others.now)) c.args.first c.args.others.now c.loop-at.at c.loop-at.left c.loop-at.loud whole c.if-not-end_by.ensures c.loop-at.invariant

pub returns : goal.returns
returns g c =
    let whole : c.loop-at.at ≡ length c.args.others.now = omega arith in
    chain_whole (env_in c.args.self.now.typing.context.now) (operators_of c.args.operators.now (length c.args.others.now)) c.args.first c.args.others.now c.loop-at.at c.loop-at.left c.loop-at.loud whole c.if-not-end_by.ensures c.loop-at.invariant
