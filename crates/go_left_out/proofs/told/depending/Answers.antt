use Rattle.std.proofs.Common.{◌<◌, Bool, ℕ, List, length, subst, sym}
use Rattle.std.proofs.lemmas.Result.{IfOk-weaker}
use Rattle.go_base.specs.Lists.{Each}
use Rattle.go_exposed.specs.ToldBeyond.{IsToldBeyond}
use Rattle.go_graphs.specs.Flags.{AreFlagsOf}
use Rattle.go_graphs.specs.Walks.{LeadsInto}
use Rattle.go_graphs.proofs.Pushed.{each_of}
use Rattle.go_left_out.proofs.ToldFlags.{told_flags}
use Rattle.go_reach.specs.Numbers.{AreFlagged}
use Rattle.go_typings.specs.Declarations.{declarations}
use Rattle.go_left_out.proofs.told.depending.Goals as goal

pub leading-requires : goal.leading-requires
leading-requires c =
    subst (Each (λ n. n < length c.args.depends.now)) (sym c.deref-2.ensures.value)
    (each_of (λ n. n < length c.args.depends.now) c.in_ok-ends.ends.items (λ n h. ((c.in_ok-ends.ensures n).0 h).0))

pub returns : goal.returns
returns c s u a lost are num inx mis =
    let rows = c.args.depends.now in
    let ends = c.in_ok-ends.ends.items in
    let flagged = subst (λ (xs : List Bool). AreFlagged xs (length rows) ends) c.deref.ensures.value c.in_ok-ends.ensures in
    IfOk-weaker c.leading.result (λ flags. AreFlagsOf (length rows) (LeadsInto rows c.deref-2.result.now) flags.items) (λ flags. AreFlagsOf (length (declarations u)) (IsToldBeyond s u a lost) flags.items)
    (λ flags is. told_flags s u a lost rows are c.args.numbers.now c.args.inexact.now c.args.missing.now c.in_ok-alone.alone.items ends num inx mis c.in_ok-alone.ensures flagged flags.items
    (subst (λ (es : List ℕ). AreFlagsOf (length rows) (LeadsInto rows es) flags.items) c.deref-2.ensures.value is))
    c.leading.ensures
