use Rattle.std.proofs.Common.{◌<◌, length, subst, sym}
use Rattle.go_base.specs.Lists.{Each}
use Rattle.go_graphs.proofs.Pushed.{each_of}
use Rattle.go_sifting.proofs.sift.depending.Goals as goal

pub leading-requires : goal.leading-requires
leading-requires c =
    subst (Each (λ n. n < length c.items-depends.result.now)) (sym c.deref.ensures.value)
    (each_of (λ n. n < length c.items-depends.result.now) c.in_ok-ends.ends.items (λ n h. ((c.in_ok-ends.ensures n).0 h).0))
