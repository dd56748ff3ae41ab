use Rattle.std.proofs.Common.{[], subst}
use Rattle.std.proofs.lemmas.Result.{IfOk-weaker}
use Rattle.std.specs.Prelude.{IfOk}
use Rattle.go_blocks.proofs.Framed.{iota_back, without_iota}
use Rattle.go_judged.specs.Judging.{Judges}
use Rattle.go_judged.specs.declared.judged.Judged.{Judged}
use Rattle.go_literal_blocks.specs.declared.blocks.Blocks.{Blocks}
use Rattle.go_local_scopes.specs.States.{IsAt, around}
use Rattle.go_rules.specs.Environments.{Env}
use Rattle.go_statement_rules.specs.Bodies.{IsTypedBody}
use Rattle.go_statement_rules.specs.Functions.{EntersBody}
use Rattle.go_statement_rules.specs.Scopes.{Scopes}
use Rattle.go_switch_statements.specs.go_walks.Below.{blocks_of}
use Rattle.go_blocks.proofs.bodies.written_body.Goals as goal

pub returns-clause-same : goal.returns-clause-same
returns-clause-same c = iota_back c.args.env.now c.set_iota.new.self c.body_here-judged.new.env c.set_iota-2.new.self c.iota-before.result c.set_iota.ensures c.body_here-judged.ensures.same c.iota-before.ensures c.set_iota-2.ensures

pub returns-clause-judged : goal.returns-clause-judged
returns-clause-judged c = λ has.
    let e = c.args.env.now in
    let mid = c.set_iota.new.self in
    let f = c.args.func.now in
    let r = c.body_here-judged.result in
    let B = blocks_of c.new-frame.result in
    let at : IsAt (around e) [] mid = subst (λ (s : Scopes). IsAt (around e) s mid) c.requires (without_iota e mid c.set_iota.ensures) in
    subst (λ (b : Blocks). IfOk r (Judges (around e) b.list.now (IsTypedBody (around e) b.list.now f) (EntersBody (around e) b.list.now f))) c.new-frame.ensures.blocks
    (IfOk-weaker r (λ (j : Judged). (E : Env) → IsAt E [] mid → Judges E B (IsTypedBody E B f) (EntersBody E B f) j) (Judges (around e) B (IsTypedBody (around e) B f) (EntersBody (around e) B f)) (λ j k. k (around e) at)
    (c.body_here-judged.ensures.judged has))
