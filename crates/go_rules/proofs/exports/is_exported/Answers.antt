use Rattle.std.proofs.Common.{◌∙◌, sym}
use Rattle.go_rules.proofs.ExportedNames.{exported_by}
use Rattle.go_rules.proofs.exports.is_exported.Goals as goal

pub returns : goal.returns
returns c = exported_by c.args.name.now c.is_exported.result (sym c.is_utf8.ensures ∙ c.if-not-is_utf8.false) c.is_exported.ensures.0 c.is_exported.ensures.1
