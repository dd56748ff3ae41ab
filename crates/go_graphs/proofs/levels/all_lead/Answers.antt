use Rattle.std.proofs.Common.{ap, ◌∙◌, sym, length, arith}
use Rattle.go_graphs.specs.Flags.{is_flagged}
use Rattle.go_graphs.proofs.levels.all_lead.Goals as goal

pub returns : goal.returns
returns c e n l =
    let v = ap length c.deref.ensures.value in
    let s = c.in_ok-flags.ensures.size in
    c.in_ok-flags.ensures.sound n (ap (λ bs. is_flagged bs n) (sym c.deref.ensures.value) ∙ c.all_set.ensures e n (omega (arith, l, v, s)))
