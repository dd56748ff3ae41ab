use Rattle.std.proofs.Common.{ap, ◌∙◌, sym}
use Rattle.go_blocks.proofs.Sorted.{labeled_statement, statement_as}
use Rattle.go_local_scopes.proofs.Standing.{kept_none}
use Rattle.go_syntax.specs.declared.statement.StmtKind.{StmtKind-F, out-StmtKind}
use Rattle.go_syntax.specs.declared.statement.StmtKind.TheVariants.{outs-Const, outs-Define, outs-Labeled, outs-Var}
use Rattle.go_blocks.proofs.statements.declaring.Goals as goal

pub returns-in-Define-clause-judged : goal.returns-in-Define-clause-judged
returns-in-Define-clause-judged g c =
    let ns = c.items.result.now in
    let i = ap out-StmtKind c.in-Define.is ∙ outs-Define c.in-Define.names c.in-Define.exprs ∙ ap (λ y. StmtKind-F.Define y c.in-Define.exprs) (sym c.items.ensures) ∙ ap (StmtKind-F.Define ns) (sym c.items-in-Define.ensures) in
    statement_as c.args.walk.now.frame.now c.args.env.now (out-StmtKind c.args.kind.now) (StmtKind-F.Define ns c.items-in-Define.result.now) i c.definition.result c.definition.new.env c.definition.ensures.judged

pub returns-in-Const-clause-judged : goal.returns-in-Const-clause-judged
returns-in-Const-clause-judged g c =
    let i = ap out-StmtKind c.in-Const.is ∙ outs-Const c.in-Const.specs ∙ ap StmtKind-F.Const (sym c.items-in-Const.ensures) in
    statement_as c.args.walk.now.frame.now c.args.env.now (out-StmtKind c.args.kind.now) (StmtKind-F.Const c.items-in-Const.result.now) i c.constants.result c.constants.new.env c.constants.ensures.judged

pub returns-in-Var-clause-judged : goal.returns-in-Var-clause-judged
returns-in-Var-clause-judged g c =
    let i = ap out-StmtKind c.in-Var.is ∙ outs-Var c.in-Var.specs ∙ ap StmtKind-F.Var (sym c.items-in-Var.ensures) in
    statement_as c.args.walk.now.frame.now c.args.env.now (out-StmtKind c.args.kind.now) (StmtKind-F.Var c.items-in-Var.result.now) i c.variables.result c.variables.new.env c.variables.ensures.judged

pub returns-in-Labeled-clause-judged : goal.returns-in-Labeled-clause-judged
returns-in-Labeled-clause-judged g c =
    let n = c.in-Labeled.field-0 in
    let x = c.in-Labeled.statement in
    let f = c.args.walk.now.frame.now in
    let e = c.args.env.now in
    let i = ap out-StmtKind c.in-Labeled.is ∙ outs-Labeled n x in
    statement_as f e (out-StmtKind c.args.kind.now) (StmtKind-F.Labeled n x) i c.lone.result c.lone.new.env (labeled_statement f e c.lone.new.env n x c.lone.result c.lone.ensures.judged)

pub returns-in_default-clause-kept : goal.returns-in_default-clause-kept
returns-in_default-clause-kept g c = kept_none c.args.env.now c.requires.opened
