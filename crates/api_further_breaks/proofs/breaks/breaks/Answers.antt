use Rattle.std.proofs.Common.{subst, sym, List, []}
use Rattle.go_type_images.specs.declared.pair.TypePair.{TypePair}
use Rattle.api_forced.proofs.HeldPairs.{held}
use Rattle.api_further_breaks.specs.inner.Losses.{AreLosses, HoldOwned}
use Rattle.api_further_breaks.proofs.AllBreaks.{all_owned, breaks_exact, whole}
use Rattle.api_further_breaks.proofs.breaks.breaks.Goals as goal

pub returns-clause-exact : goal.returns-clause-exact
returns-clause-exact c = breaks_exact c.args.old.now c.args.new.now c.in_ok-all.all.owners.keys c.in_ok-all.all.pairs.items c.in_ok-all.all.claims.keys c.in_ok-losses.losses.items c.in_ok-all.ensures (subst (λ (w : List TypePair). AreLosses c.args.old.now c.args.new.now w c.in_ok-losses.losses.items) c.deref.ensures.value c.in_ok-losses.ensures) c.in_ok-breaks.breaks.items c.push_claims.new.breaks.items c.in_ok-breaks.ensures.exact c.in_ok-push_claims.ensures

pub returns-clause-compatible : goal.returns-clause-compatible
returns-clause-compatible c = whole c.args.old.now c.args.new.now c.in_ok-all.all.owners.keys c.in_ok-all.all.pairs.items c.in_ok-all.all.claims.keys c.in_ok-losses.losses.items c.in_ok-all.ensures (subst (λ (w : List TypePair). AreLosses c.args.old.now c.args.new.now w c.in_ok-losses.losses.items) c.deref.ensures.value c.in_ok-losses.ensures) c.in_ok-breaks.breaks.items c.push_claims.new.breaks.items c.in_ok-breaks.ensures.exact c.in_ok-push_claims.ensures c.in_ok-breaks.ensures.kept

pub returns-clause-held : goal.returns-clause-held
returns-clause-held c = (c.in_ok-all.all.pairs.items, held c.args.old.now c.args.new.now c.in_ok-all.all.owners.keys c.in_ok-all.all.pairs.items c.in_ok-all.all.claims.keys c.in_ok-all.ensures)

pub all_losses-requires-clause-owned : goal.all_losses-requires-clause-owned
all_losses-requires-clause-owned c = subst (HoldOwned c.args.old.now c.args.new.now) (sym c.deref.ensures.value) (all_owned c.args.old.now c.args.new.now c.in_ok-all.all.owners.keys c.in_ok-all.all.pairs.items c.in_ok-all.all.claims.keys [] c.in_ok-all.ensures)
