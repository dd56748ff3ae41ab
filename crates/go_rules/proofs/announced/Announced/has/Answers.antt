use Rattle.std.proofs.Common.{ap, ◌∙◌}
use Rattle.std.specs.Option.{is_some}
use Rattle.go_rules.specs.Names.{value_at}
use Rattle.go_rules.proofs.AnnouncedNames.{searched}
use Rattle.go_rules.proofs.announced.Announced.has.Goals as goal

pub returns : goal.returns
returns c =
    c.is_ok.ensures.value
    ∙ searched c.args.name.now c.self.inside.names.items c.deref.result.now c.binary_search.result c.deref.ensures.value c.self.invariant c.binary_search.ensures.bound c.binary_search.ensures.position
    ∙ ap (λ t. is_some (value_at t c.args.name.now)) c.self.view_is
