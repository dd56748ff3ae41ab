use Rattle.std.proofs.Common.{◌∙◌, length, sym}
use Rattle.go_seen.proofs.SeenFlags.{seen_flags}
use Rattle.go_sources.specs.UnitSources.{source_of}
use Rattle.go_seen.proofs.seen.seen.Goals as goal

pub returns : goal.returns
returns c s a are =
    let offered = c.in_ok-offered.ensures in
    seen_flags s (source_of c.args.unit.now) a c.args.depends.now are c.in_ok-offered.offered.items offered c.in_ok-seen.seen.items (c.in_ok-seen.ensures (offered.size ∙ sym are.size))
