use Rattle.std.proofs.Common.{ap, sym, ◌∙◌}
use Rattle.go_declarations.specs.Listings.{declarations_of}
use Rattle.go_syntax.specs.declared.declaration.File.{File}
use Rattle.go_units.specs.declared.unit.UnitFile.{UnitFile}
use Rattle.go_check.proofs.FilesInOrder.{next_file}
use Rattle.go_check.proofs.declarations.push_files.Goals as goal

pub loop-file-preserved : goal.loop-file-preserved
loop-file-preserved c =
    next_file c.args.files.now c.loop-file.file c.index-files-file.result c.items.result.now (declarations_of c.loop-file.listed) (declarations_of c.push_file.new.listed) _
    c.loop-file-test.true c.index-files-file.is (c.items.ensures ∙ ap (λ (o : File). o.decls) c.value.ensures ∙ ap (λ (x : UnitFile). x.outline.decls) (sym c.index-files-file.is)) c.in_ok-push_file.ensures c.loop-file.invariant
