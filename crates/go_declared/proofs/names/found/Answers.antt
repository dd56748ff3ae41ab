-- The entry that the search finds has the name, or none has.
use Rattle.std.proofs.Common.{sym, subst, ℕ, List}
use Rattle.go_declared.specs.inner.EntryOrder.{IsFirstFrom}
use Rattle.go_declared.proofs.EntryOrder.{found_end, found_here, found_other}
use Rattle.go_declared.proofs.names.found.Goals as goal

pub returns-then-at-entries : goal.returns-then-at-entries
returns-then-at-entries c = let at = c.first_from-at in
    sym (found_end c.args.entries.now c.args.name.now at.result c.requires c.if-at-entries.true at.ensures.fits (subst (λ (q : List ℕ). IsFirstFrom c.args.entries.now q at.result) c.of-headed.ensures at.ensures.point))

pub returns-then-is_eq : goal.returns-then-is_eq
returns-then-is_eq c = sym (found_here c.args.entries.now c.args.name.now c.first_from-at.result c.index-entries-at.result c.requires c.if-at-entries.false c.index-entries-at.is (cc (c.is_eq.ensures, c.order.ensures, c.headed.ensures, c.of-headed.ensures, c.if-is_eq.true)))

pub returns : goal.returns
returns c = let at = c.first_from-at in
    sym (found_other c.args.entries.now c.args.name.now at.result c.index-entries-at.result c.requires c.if-at-entries.false c.index-entries-at.is (subst (λ (q : List ℕ). IsFirstFrom c.args.entries.now q at.result) c.of-headed.ensures at.ensures.point) (cc (c.is_eq.ensures, c.order.ensures, c.headed.ensures, c.of-headed.ensures, c.if-is_eq.false)))
