use Rattle.std.proofs.Common.{ℕ, [], List, sym, subst}
use Rattle.api_shared_features.proofs.KeptFeatures.{kept_of}
use Rattle.api_shared_features.specs.UnitWorlds.{sources}
use Rattle.api_shared_features.specs.inner.KeptFeatures.{IsSomeTakenAndPublic}
use Rattle.go_base.specs.Growing.{Grows}
use Rattle.go_base.specs.Lists.{Has}
use Rattle.go_exposed.specs.OfferedWorlds.{IsWorldOf}
use Rattle.api_shared_features.proofs.after.kept_paths.Goals as goal

pub returns : goal.returns
returns c =
    let before = c.args.earlier.now in
    let next = c.args.next.now in
    let keys = c.in_ok-taken.taken.taken.keys in
    kept_of before.bits (sources before.units.now) (sources next.units.now) before.world.now next.world.now keys c.in_ok-public.public c.in_ok-kept.kept c.requires.earlier.own c.requires.next.own c.in_ok-taken.ensures c.requires.earlier.world
    (subst (λ (bits : ℕ). IsWorldOf bits (sources next.units.now) next.world.now) (sym c.requires.bits) c.requires.next.world)
    (subst (λ (paths : List (List ℕ)). Grows (Has paths) [] c.in_ok-public.public) c.public.ensures c.in_ok-public.ensures)
    (subst (λ (paths : List (List ℕ)). Grows (IsSomeTakenAndPublic keys c.in_ok-public.public paths) [] c.in_ok-kept.kept) c.public-2.ensures c.in_ok-kept.ensures)
