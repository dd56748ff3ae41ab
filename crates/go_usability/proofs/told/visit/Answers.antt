use Rattle.std.proofs.Common.{◌≡◌, ◌<◌, subst, List, length, get_or}
use Rattle.go_model.specs.declared.types.term.Term.{Term}
use Rattle.go_rules.specs.Scopes.{env_of}
use Rattle.go_usability.proofs.Walked.{untold_level, told_more}
use Rattle.go_usability.proofs.told.visit.Goals as goal

pub returns-then-not-is_told : goal.returns-then-not-is_told
returns-then-not-is_told c =
    let e = c.deref-part-items.ensures.value in
    untold_level (env_of c.args.context.now.env.now) c.args.sel.now c.args.layer.now.items c.loop-part.part-index c.part-item.result c.term-term.result.now c.is_told.result (subst (λ (w : List Term). c.loop-part.part-index < length w) e c.loop-part-test.true) (subst (λ (w : List Term). c.part-item.result ≡ get_or w c.loop-part.part-index c.part-item.result) e c.part-item.is) c.term-term.ensures c.if-not-is_told.true c.is_told.ensures

pub loop-part-preserved : goal.loop-part-preserved
loop-part-preserved c =
    let e = c.deref-part-items.ensures.value in
    told_more (env_of c.args.context.now.env.now) c.args.sel.now c.args.layer.now.items c.loop-part.part-index c.part-item.result c.term-term.result.now c.is_told.result (subst (λ (w : List Term). c.loop-part.part-index < length w) e c.loop-part-test.true) (subst (λ (w : List Term). c.part-item.result ≡ get_or w c.loop-part.part-index c.part-item.result) e c.part-item.is) c.term-term.ensures _ c.loop-part.list.all.items c.push_further.new.list.all.items _ c.loop-part.list.seen.keys c.push_further.new.list.seen.keys c.if-not-is_told.false c.is_told.ensures c.loop-part.invariant c.in_ok-push_further.ensures
