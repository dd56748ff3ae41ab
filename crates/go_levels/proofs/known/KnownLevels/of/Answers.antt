use Rattle.std.proofs.Common.{ap, ◌∙◌}
use Rattle.go_rules.proofs.TextEntries.{value_is}
use Rattle.go_rules.specs.Names.{value_at}
use Rattle.go_levels.proofs.known.KnownLevels.of.Goals as goal

pub returns : goal.returns
returns c = c.copied.ensures ∙ c.get.ensures.value ∙ value_is c.args.path.now c.self.inside.entries.entries ∙ ap (λ known. value_at known c.args.path.now) c.self.view_is
