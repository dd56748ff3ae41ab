use Rattle.std.proofs.Common.{sym, ◌∙◌}
use Rattle.go_sources.proofs.KnownKeys.{here_object, object_here}
use Rattle.go_sources.proofs.known_names.is_object.Goals as goal

pub returns : goal.returns
returns c = (
  (λ h. object_here c.args.known.now.imports.keys c.args.known.now.imported.keys c.args.known.now.objects.keys c.args.known.now.methods.keys c.args.name (sym c.contains.ensures ∙ h)),
  (λ h. c.contains.ensures ∙ here_object c.args.known.now.imports.keys c.args.known.now.imported.keys c.args.known.now.objects.keys c.args.known.now.methods.keys c.args.name h),
)
