use Rattle.go_flat_statements.specs.Judging.{JudgesKind}
use Rattle.go_local_scopes.proofs.Standing.{closed_same, kept_opened, opened_some, opened_told}
use Rattle.go_syntax.specs.declared.statement.StmtKind.{StmtKind-F}
use Rattle.go_flat_statements.specs.go_walks.Below.{blocks_of, enclosing_of}
use Rattle.go_nested_statements.proofs.branches.branches.Goals as goal

pub branches_within-judged-requires-clause-opened : goal.branches_within-judged-requires-clause-opened
branches_within-judged-requires-clause-opened g c = opened_some c.args.env.now c.open_scope.new.self c.in_ok-open_scope.ensures.ok

pub close_scope-requires : goal.close_scope-requires
close_scope-requires g c = kept_opened c.open_scope.new.self c.branches_within-judged.new.env c.branches_within-judged.ensures.kept

pub returns-clause-same : goal.returns-clause-same
returns-clause-same g c = closed_same c.args.env.now c.open_scope.new.self c.branches_within-judged.new.env c.close_scope.new.self c.in_ok-open_scope.ensures.ok c.branches_within-judged.ensures.kept c.close_scope.ensures

pub returns-clause-judged : goal.returns-clause-judged
returns-clause-judged g c =
    let f = c.args.walk.now.frame.now in
    opened_told c.args.env.now c.open_scope.new.self c.in_ok-open_scope.ensures.ok c.branches_within-judged.result (λ E s j. JudgesKind E (blocks_of f) (enclosing_of f) s (StmtKind-F.If c.args.init.now c.args.condition.now c.args.body.now c.args.other.now) s j) c.branches_within-judged.ensures.judged
