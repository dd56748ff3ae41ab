use Rattle.std.proofs.Common.{subst, sym}
use Rattle.go_work.specs.TypedUnits.{AreTypedUnits}
use Rattle.go_work.specs.inner.EarlierUnits.{no_units}
use Rattle.go_work.proofs.TypedSoFar.{all_so_far, none_typed}
use Rattle.go_work.proofs.typed.typed.Goals as goal

pub as_wide-requires-clause-none : goal.as_wide-requires-clause-none
as_wide-requires-clause-none g c = subst AreTypedUnits (sym c.empty-none.ensures) (all_so_far (no_units c.args.bits) (none_typed c.args.bits c.requires.bits))

pub as_wide-requires-2-clause-none : goal.as_wide-requires-2-clause-none
as_wide-requires-2-clause-none g c = subst AreTypedUnits (sym c.empty-none.ensures) (all_so_far (no_units c.args.bits) (none_typed c.args.bits c.requires.bits))
