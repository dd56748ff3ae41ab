use Rattle.go_judged.specs.Judging.{Judges}
use Rattle.go_local_scopes.proofs.Standing.{closed_same, kept_opened, opened_some, opened_told}
use Rattle.go_statement_rules.specs.Functions.{run}
use Rattle.go_statement_rules.specs.Scopes.{opened}
use Rattle.go_statement_rules.specs.Statements.{IsTypedBlock}
use Rattle.go_walks.specs.Below.{blocks_of, enclosing_of}
use Rattle.std.proofs.Common.{◌≡◌}
use Rattle.go_walks.proofs.walk.Walk.block.Goals as goal

pub statements-judged-requires-clause-opened : goal.statements-judged-requires-clause-opened
statements-judged-requires-clause-opened g c = opened_some c.args.env.now c.open_scope.new.self c.in_ok-open_scope.ensures.ok

pub close_scope-requires : goal.close_scope-requires
close_scope-requires g c = kept_opened c.open_scope.new.self c.statements-judged.new.env c.statements-judged.ensures.kept

pub returns-clause-same : goal.returns-clause-same
returns-clause-same g c = closed_same c.args.env.now c.open_scope.new.self c.statements-judged.new.env c.close_scope.new.self c.in_ok-open_scope.ensures.ok c.statements-judged.ensures.kept c.close_scope.ensures

pub returns-clause-judged : goal.returns-clause-judged
returns-clause-judged g c =
    let f = c.args.self.now.frame.now in
    opened_told c.args.env.now c.open_scope.new.self c.in_ok-open_scope.ensures.ok c.statements-judged.result (λ E s j. Judges E (blocks_of f) (IsTypedBlock E (blocks_of f) (enclosing_of f) s c.args.statements.now) (λ v. v ≡ run (enclosing_of f) (opened s) c.args.statements.now) j) c.statements-judged.ensures.judged
