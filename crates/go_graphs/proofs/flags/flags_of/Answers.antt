use Rattle.std.proofs.Common.{ℕ, ◌<◌, ap, ◌∙◌, sym, subst, length, drop, arith}
use Rattle.go_base.specs.Lists.{Each, Has}
use Rattle.go_graphs.specs.Flags.{AreFlagsOf}
use Rattle.go_graphs.proofs.FlaggedNumbers.{flags_start, replicate_size}
use Rattle.go_graphs.proofs.Members.{written}
use Rattle.go_graphs.proofs.flags.flags_of.Goals as goal

pub flag_each-requires : goal.flag_each-requires
flag_each-requires c = subst (λ (k : ℕ). Each (λ n. n < k) c.args.numbers.now) (sym (ap length (c.deref_mut.ensures.value ∙ c.in_ok-flags.ensures) ∙ replicate_size c.args.count)) c.requires

pub returns : goal.returns
returns c =
    let new = c.flag_each.new.flags in
    let a = c.flag_each.auto.flags in
    let b = c.deref_mut.ensures.len in
    subst (AreFlagsOf c.args.count (Has c.args.numbers.now)) (sym (written new (drop (length new) c.in_ok-flags.flags.items) c.in_ok-flags.flags.len (omega (arith, a, b))))
    (flags_start c.args.count c.deref_mut.result.now new c.args.numbers.now (c.deref_mut.ensures.value ∙ c.in_ok-flags.ensures) (omega (arith, a)) c.flag_each.ensures.sound c.flag_each.ensures.complete)
