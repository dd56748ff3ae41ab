use Rattle.std.proofs.Common.{length, List, [], ◌∷◌, map, Bool, sym, subst}
use Rattle.go_operations.specs.Chains.{Chains, ChainsFrom, operators_of}
use Rattle.go_rules.specs.Nodes.{expression}
use Rattle.go_type_terms.specs.Answers.{env_in}
use Rattle.go_type_terms.specs.Loudness.{AreLoud}
use Rattle.go_type_terms.proofs.Handed.{handed}
use Rattle.go_type_terms.proofs.LoudTrees.{join_loud}
use Rattle.go_operations.proofs.Chaining.{chain_from}
use Rattle.go_operations.proofs.operations.Operations.chain.Goals as goal

pub returns-in_err-operand : goal.returns-in_err-operand
returns-in_err-operand g c =
    let E = env_in c.args.self.now.typing.context.now in
    let ops = operators_of c.args.operators (length c.args.others.now) in
    handed E (Chains E ops c.in_ok-left.left c.args.others.now) (ChainsFrom E ops c.args.first.now c.args.others.now) (map expression c.args.others.now) (expression c.args.first.now ∷ map expression c.args.others.now) c.in_err-operand.field-0.0 c.from_residual-in_err-operand.result c.from_residual-in_err-operand.ensures.1 c.in_err-operand.ensures
    (chain_from E ops c.args.first.now c.args.others.now c.in_ok-left.left c.in_ok-left.ensures.0)

pub returns : goal.returns
returns g c =
    let E = env_in c.args.self.now.typing.context.now in (
      (c.in_ok-left.left, c.in_ok-left.ensures.0, c.in_ok-operand.ensures.0),
      subst (λ (b : Bool). AreLoud E (expression c.args.first.now ∷ map expression c.args.others.now) b) (sym c.either.ensures)
          (join_loud E (expression c.args.first.now ∷ []) (map expression c.args.others.now) c.in_ok-left.loud c.in_ok-operand.louder c.in_ok-left.ensures.1 c.in_ok-operand.ensures.1),
    )
