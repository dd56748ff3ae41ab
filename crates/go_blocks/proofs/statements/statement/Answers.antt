use Rattle.std.proofs.Common.{◌∙◌, sym}
use Rattle.go_blocks.proofs.Sorted.{here_statement}
use Rattle.go_local_scopes.proofs.Standing.{kept_none, kept_same}
use Rattle.go_syntax.specs.declared.statement.StmtKind.{out-StmtKind}
use Rattle.go_blocks.proofs.statements.statement.Goals as goal

pub returns-then-is_flat-clause-kept : goal.returns-then-is_flat-clause-kept
returns-then-is_flat-clause-kept g c = kept_same c.args.env.now c.args.env.now c.flat.new.env c.flat.ensures.same (kept_none c.args.env.now c.requires.opened)

pub returns-then-is_flat-clause-judged : goal.returns-then-is_flat-clause-judged
returns-then-is_flat-clause-judged g c = here_statement c.args.walk.now.frame.now c.args.env.now c.flat.new.env (out-StmtKind c.args.kind.now) c.flat.result c.flat.ensures.same (c.flat.ensures.judged (sym c.is_flat.ensures ∙ c.if-is_flat.true))

pub returns-clause-kept : goal.returns-clause-kept
returns-clause-kept g c = kept_same c.args.env.now c.args.env.now c.nested.new.env c.nested.ensures.same (kept_none c.args.env.now c.requires.opened)

pub returns-clause-judged : goal.returns-clause-judged
returns-clause-judged g c = here_statement c.args.walk.now.frame.now c.args.env.now c.nested.new.env (out-StmtKind c.args.kind.now) c.nested.result c.nested.ensures.same c.nested.ensures.judged
