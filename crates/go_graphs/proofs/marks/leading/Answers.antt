use Rattle.std.proofs.Common.{sym, subst, length, drop, arith}
use Rattle.go_base.specs.Lists.{Has}
use Rattle.go_graphs.specs.Flags.{AreFlagsOf}
use Rattle.go_graphs.specs.Walks.{LeadsInto}
use Rattle.go_graphs.proofs.Leading.{leading_flags}
use Rattle.go_graphs.proofs.Members.{written}
use Rattle.go_graphs.proofs.marks.leading.Goals as goal

pub returns : goal.returns
returns c =
    let new = c.close.new.flags in
    let a = c.close.auto.flags in
    let b = c.deref_mut.ensures.len in
    subst (AreFlagsOf (length c.args.rows.now) (LeadsInto c.args.rows.now c.args.ends.now)) (sym (written new (drop (length new) c.in_ok-flags.flags.items) c.in_ok-flags.flags.len (omega (arith, a, b))))
    (leading_flags c.args.rows.now c.args.ends.now c.deref_mut.result.now new (subst (AreFlagsOf (length c.args.rows.now) (Has c.args.ends.now)) (sym c.deref_mut.ensures.value) c.in_ok-flags.ensures) c.close.ensures c.requires)
