use Rattle.std.proofs.Common.{sym, ◌∙◌}
use Rattle.go_rules.proofs.AnnouncedNames.{behind, less}
use Rattle.go_rules.proofs.announced.is_behind.Goals as goal

pub returns-in-Some : goal.returns-in-Some
returns-in-Some c = λ lt. behind c.args.name.now c.args.names.now c.in-Some.last.now c.in-Some.ensures.value (sym c.cmp.ensures ∙ less c.cmp.result (sym c.is_lt.ensures ∙ lt)) c.requires
