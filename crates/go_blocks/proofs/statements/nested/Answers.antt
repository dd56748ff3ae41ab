use Rattle.std.proofs.Common.{ap, ◌∙◌, sym}
use Rattle.go_blocks.proofs.Sorted.{here_as}
use Rattle.go_syntax.specs.declared.statement.StmtKind.{StmtKind-F, out-StmtKind}
use Rattle.go_syntax.specs.declared.statement.StmtKind.TheVariants.{outs-Block, outs-For, outs-If, outs-Range, outs-RangeAssign, outs-RangeDefine, outs-Select, outs-Switch, outs-TypeSwitch, outs-While}
use Rattle.go_blocks.proofs.statements.nested.Goals as goal

pub returns-in-Block-clause-judged : goal.returns-in-Block-clause-judged
returns-in-Block-clause-judged g c =
    let k = c.in-Block in
    let i = ap out-StmtKind k.is ∙ outs-Block k.statements in
    here_as c.args.walk.now.frame.now c.args.env.now (out-StmtKind c.args.kind.now) (StmtKind-F.Block k.statements) i c.inner.result c.inner.ensures.judged

pub returns-in-If-clause-judged : goal.returns-in-If-clause-judged
returns-in-If-clause-judged g c =
    let k = c.in-If in
    let i = ap out-StmtKind k.is ∙ outs-If k.init k.expr k.then k.other in
    here_as c.args.walk.now.frame.now c.args.env.now (out-StmtKind c.args.kind.now) (StmtKind-F.If k.init k.expr k.then k.other) i c.branches.result c.branches.ensures.judged

pub returns-in-Switch-clause-judged : goal.returns-in-Switch-clause-judged
returns-in-Switch-clause-judged g c =
    let k = c.in-Switch in
    let i = ap out-StmtKind k.is ∙ outs-Switch k.init k.expr k.cases ∙ ap (StmtKind-F.Switch k.init k.expr) (sym c.items.ensures) in
    here_as c.args.walk.now.frame.now c.args.env.now (out-StmtKind c.args.kind.now) (StmtKind-F.Switch k.init k.expr c.items.result.now) i c.switch.result c.switch.ensures.judged

pub returns-in-TypeSwitch-clause-judged : goal.returns-in-TypeSwitch-clause-judged
returns-in-TypeSwitch-clause-judged g c =
    let k = c.in-TypeSwitch in
    let i = ap out-StmtKind k.is ∙ outs-TypeSwitch k.init k.name k.expr k.cases ∙ ap (StmtKind-F.TypeSwitch k.init k.name k.expr) (sym c.items-in-TypeSwitch.ensures) in
    here_as c.args.walk.now.frame.now c.args.env.now (out-StmtKind c.args.kind.now) (StmtKind-F.TypeSwitch k.init k.name k.expr c.items-in-TypeSwitch.result.now) i c.type_switch.result c.type_switch.ensures.judged

pub returns-in-Select-clause-judged : goal.returns-in-Select-clause-judged
returns-in-Select-clause-judged g c =
    let k = c.in-Select in
    let i = ap out-StmtKind k.is ∙ outs-Select k.cases ∙ ap StmtKind-F.Select (sym c.items-in-Select.ensures) in
    here_as c.args.walk.now.frame.now c.args.env.now (out-StmtKind c.args.kind.now) (StmtKind-F.Select c.items-in-Select.result.now) i c.select.result c.select.ensures.judged

pub returns-in-For-clause-judged : goal.returns-in-For-clause-judged
returns-in-For-clause-judged g c =
    let k = c.in-For in
    let i = ap out-StmtKind k.is ∙ outs-For k.init k.expr k.post k.body in
    here_as c.args.walk.now.frame.now c.args.env.now (out-StmtKind c.args.kind.now) (StmtKind-F.For k.init k.expr k.post k.body) i c.counted.result c.counted.ensures.judged

pub returns-in-While-clause-judged : goal.returns-in-While-clause-judged
returns-in-While-clause-judged g c =
    let k = c.in-While in
    let i = ap out-StmtKind k.is ∙ outs-While k.expr k.body in
    here_as c.args.walk.now.frame.now c.args.env.now (out-StmtKind c.args.kind.now) (StmtKind-F.While k.expr k.body) i c.repeated.result c.repeated.ensures.judged

pub returns-in-Range-clause-judged : goal.returns-in-Range-clause-judged
returns-in-Range-clause-judged g c =
    let k = c.in-Range in
    let i = ap out-StmtKind k.is ∙ outs-Range k.expr k.body in
    here_as c.args.walk.now.frame.now c.args.env.now (out-StmtKind c.args.kind.now) (StmtKind-F.Range k.expr k.body) i c.bare.result c.bare.ensures.judged

pub returns-in-RangeAssign-clause-judged : goal.returns-in-RangeAssign-clause-judged
returns-in-RangeAssign-clause-judged g c =
    let k = c.in-RangeAssign in
    let i = ap out-StmtKind k.is ∙ outs-RangeAssign k.sides k.expr k.body ∙ ap (λ y. StmtKind-F.RangeAssign y k.expr k.body) (sym c.items-in-RangeAssign.ensures) in
    here_as c.args.walk.now.frame.now c.args.env.now (out-StmtKind c.args.kind.now) (StmtKind-F.RangeAssign c.items-in-RangeAssign.result.now k.expr k.body) i c.assigned.result c.assigned.ensures.judged

pub returns-in-RangeDefine-clause-judged : goal.returns-in-RangeDefine-clause-judged
returns-in-RangeDefine-clause-judged g c =
    let k = c.in-RangeDefine in
    let i = ap out-StmtKind k.is ∙ outs-RangeDefine k.names k.expr k.body ∙ ap (λ y. StmtKind-F.RangeDefine y k.expr k.body) (sym c.items-in-RangeDefine.ensures) in
    here_as c.args.walk.now.frame.now c.args.env.now (out-StmtKind c.args.kind.now) (StmtKind-F.RangeDefine c.items-in-RangeDefine.result.now k.expr k.body) i c.defined.result c.defined.ensures.judged
