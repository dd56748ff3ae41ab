use Rattle.std.proofs.Common.{sym, ◌∙◌}
use Rattle.go_sources.proofs.KnownKeys.{here_imported, imported_here}
use Rattle.go_sources.proofs.known_names.is_imported.Goals as goal

pub returns : goal.returns
returns c = (
  (λ h. imported_here c.args.known.now.imports.keys c.args.known.now.imported.keys c.args.known.now.objects.keys c.args.known.now.methods.keys c.args.name (sym c.contains.ensures ∙ h)),
  (λ h. c.contains.ensures ∙ here_imported c.args.known.now.imports.keys c.args.known.now.imported.keys c.args.known.now.objects.keys c.args.known.now.methods.keys c.args.name h),
)
