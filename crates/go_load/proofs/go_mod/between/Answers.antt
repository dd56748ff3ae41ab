use Rattle.std.proofs.Common.{◌++◌, ◌∙◌, ap}
use Rattle.go_load.proofs.ModuleLines.{fronted, not_fronted, tailed}
use Rattle.go_load.proofs.go_mod.between.Goals as goal

pub returns-in-None-clause-none : goal.returns-in-None-clause-none
returns-in-None-clause-none c = λ path. not_fronted c.args.written.now c.args.quote.now (path ++ c.args.quote.now) c.in-None.ensures.cases

pub returns-in-Some-strip_suffix-clause-some : goal.returns-in-Some-strip_suffix-clause-some
returns-in-Some-strip_suffix-clause-some c =
    fronted c.args.written.now c.args.quote.now c.in-Some.rest.now c.in-Some.ensures.cases.0 c.in-Some.ensures.cases.1
    ∙ ap (λ v. c.args.quote.now ++ v) (tailed c.in-Some.rest.now c.args.quote.now c.in-Some-strip_suffix.path.now c.in-Some-strip_suffix.ensures.cases.0 c.in-Some-strip_suffix.ensures.cases.1)
