-- The pair that the search finds has the path, or none has.
use Rattle.std.proofs.Common.{◌≡◌, ◌∙◌, sym, ap, Some}
use Rattle.std.proofs.lemmas.Slice.Eq.{bytes_eq-Decides}
use Rattle.go_outside.proofs.PathOrder.{not_both}
use Rattle.go_outside.proofs.PairOrder.{rising_sorted}
use Rattle.go_outside.proofs.PathSearch.{found_here, found_end, found_other}
use Rattle.go_outside.proofs.memory_files.search.held.Goals as goal

pub first_from-at-requires : goal.first_from-at-requires
first_from-at-requires c = rising_sorted c.args.pairs.now c.requires

pub returns-then-at-pairs : goal.returns-then-at-pairs
returns-then-at-pairs c = sym (found_end c.args.pairs.now c.args.path.now c.first_from-at.result c.if-at-pairs.true c.first_from-at.ensures.point)

pub returns-then-eq : goal.returns-then-eq
returns-then-eq c =
    let same : c.index-pairs-at.result.path ≡ c.args.path.now = sym c.bytes.ensures ∙ (bytes_eq-Decides c.bytes.result.now c.args.path.now).0 (sym c.eq.ensures ∙ c.if-eq.true) in
    ap Some c.bytes-then-eq.ensures ∙ sym (found_here c.args.pairs.now c.args.path.now c.first_from-at.result c.index-pairs-at.result c.if-at-pairs.false c.index-pairs-at.is c.first_from-at.ensures.point same)

pub returns : goal.returns
returns c = sym (found_other c.args.pairs.now c.args.path.now c.first_from-at.result c.index-pairs-at.result c.if-at-pairs.false c.index-pairs-at.is c.requires c.first_from-at.ensures.point
    (λ e. not_both (c.eq.ensures ∙ (bytes_eq-Decides c.bytes.result.now c.args.path.now).1 (c.bytes.ensures ∙ e)) c.if-eq.false))
