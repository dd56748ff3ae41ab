use Rattle.go_nested_statements.specs.go_flat_statements.Judging.{JudgesKind}
use Rattle.go_local_scopes.proofs.Standing.{closed_same, kept_opened, opened_some, opened_told}
use Rattle.go_syntax.specs.declared.statement.StmtKind.{StmtKind-F}
use Rattle.go_walks.specs.Below.{blocks_of, enclosing_of}
use Rattle.go_switch_statements.proofs.switches.switch.Goals as goal

pub switch_within-judged-requires-clause-opened : goal.switch_within-judged-requires-clause-opened
switch_within-judged-requires-clause-opened g c = opened_some c.args.env.now c.open_scope.new.self c.in_ok-open_scope.ensures.ok

pub close_scope-requires : goal.close_scope-requires
close_scope-requires g c = kept_opened c.open_scope.new.self c.switch_within-judged.new.env c.switch_within-judged.ensures.kept

pub returns-clause-same : goal.returns-clause-same
returns-clause-same g c = closed_same c.args.env.now c.open_scope.new.self c.switch_within-judged.new.env c.close_scope.new.self c.in_ok-open_scope.ensures.ok c.switch_within-judged.ensures.kept c.close_scope.ensures

pub returns-clause-judged : goal.returns-clause-judged
returns-clause-judged g c =
    let f = c.args.walk.now.frame.now in
    opened_told c.args.env.now c.open_scope.new.self c.in_ok-open_scope.ensures.ok c.switch_within-judged.result (λ E s j. JudgesKind E (blocks_of f) (enclosing_of f) s (StmtKind-F.Switch c.args.init.now c.args.expr.now c.args.cases.now) s j) c.switch_within-judged.ensures.judged
