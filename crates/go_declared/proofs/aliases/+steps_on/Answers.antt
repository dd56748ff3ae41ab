use Rattle.std.proofs.lemmas.Result.{IfOk-weaker}
use Rattle.go_declared.proofs.NumberTables.{even_on, not_on, odd_on}
use Rattle.go_declared.proofs.aliases.+steps_on.Goals as goal

pub returns-then-times-eq0 : goal.returns-then-times-eq0
returns-then-times-eq0 t c = IfOk-weaker c.staying.result _ _ (λ walks are. not_on c.args.numbers.now c.args.times walks.items c.if-times-eq0.true are) c.staying.ensures

pub returns-then-times-eq0-2 : goal.returns-then-times-eq0-2
returns-then-times-eq0-2 t c =
    even_on c.args.numbers.now c.args.times c.in_ok-half.half.items c.deref.result.now c.deref-2.result.now c.in_ok-twice.twice.items c.in_ok-half.ensures c.deref.ensures.value c.deref-2.ensures.value c.in_ok-twice.ensures
    c.if-times-eq0-2.true

pub returns : goal.returns
returns t c = IfOk-weaker c.composed-2.result _ _ (λ walks are.
    odd_on c.args.numbers.now c.args.times c.in_ok-half.half.items c.deref.result.now c.deref-2.result.now c.in_ok-twice.twice.items c.in_ok-half.ensures c.deref.ensures.value c.deref-2.ensures.value c.in_ok-twice.ensures
    c.if-times-eq0-2.false c.deref-3.result.now walks.items c.deref-3.ensures.value are) c.composed-2.ensures
