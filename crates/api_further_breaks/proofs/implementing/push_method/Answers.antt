use Rattle.std.proofs.Common.{subst, List, ℕ}
use Rattle.api_correspond.specs.inner.Members.{OfSome}
use Rattle.api_breaks.specs.inner.Telling.{Tells, KeptBy}
use Rattle.api_further_breaks.specs.declared.sealed.SealedPair.{SealedPair}
use Rattle.api_further_breaks.specs.inner.Implementing.{KeepsAt, IsLostAt}
use Rattle.api_further_breaks.proofs.implementing.push_method.Goals as goal

pub returns : goal.returns
returns c =
    let K = (λ (rs : List SealedPair). KeepsAt rs c.args.callable.now c.args.called.now) in
    let P = (λ (rs : List SealedPair). IsLostAt rs c.args.callable.now c.args.called.now) in
    let told : Tells (KeptBy (K c.args.sealed.now.pairs.items) c.places_at-places.result.now) (OfSome (P c.args.sealed.now.pairs.items) c.places_at-places.result.now) c.args.losses.now.items c.push_places.new.losses.items = subst (λ (rs : List SealedPair). Tells (KeptBy (K rs) c.places_at-places.result.now) (OfSome (P rs) c.places_at-places.result.now) c.args.losses.now.items c.push_places.new.losses.items) c.deref.ensures.value c.in_ok-push_places.ensures in
    subst (λ (w : List ℕ). Tells (KeptBy (K c.args.sealed.now.pairs.items) w) (OfSome (P c.args.sealed.now.pairs.items) w) c.args.losses.now.items c.push_places.new.losses.items) c.places_at-places.ensures told
