use Rattle.std.proofs.Common.{◌∙◌, sym, subst, length, drop, arith}
use Rattle.go_graphs.specs.Flags.{AreFlagsOf}
use Rattle.go_graphs.specs.Ranks.{HasRank}
use Rattle.go_graphs.proofs.Members.{written}
use Rattle.go_graphs.proofs.Ranking.{ranked_flags}
use Rattle.go_graphs.proofs.ranks.ranked.Goals as goal

pub returns : goal.returns
returns c =
    let new = c.close.new.flags in
    let a = c.close.auto.flags in
    let b = c.deref_mut.ensures.len in
    subst (AreFlagsOf (length c.args.rows.now) (HasRank c.args.rows.now)) (sym (written new (drop (length new) c.in_ok-flags.flags.items) c.in_ok-flags.flags.len (omega (arith, a, b))))
    (ranked_flags c.args.rows.now c.deref_mut.result.now new (c.deref_mut.ensures.value ∙ c.in_ok-flags.ensures) c.close.ensures)
