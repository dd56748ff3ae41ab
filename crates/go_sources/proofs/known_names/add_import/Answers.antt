use Rattle.go_sources.proofs.KnownKeys.{adds_import}
use Rattle.go_sources.proofs.known_names.add_import.Goals as goal

pub returns : goal.returns
returns c =
    adds_import c.args.known.now.imports.keys c.args.known.now.imported.keys c.args.known.now.objects.keys c.args.known.now.methods.keys c.insert.new.self.keys (record { file = c.args.file; name = c.args.name }) c.in_ok-is_new.is_new c.in_ok-is_new.ensures.keys
    c.in_ok-is_new.ensures.added
