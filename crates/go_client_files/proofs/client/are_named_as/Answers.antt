use Rattle.go_client_files.specs.inner.Making.{IsNamedAs}
use Rattle.go_imports.proofs.Files.{each_more, has_item}
use Rattle.go_client_files.proofs.client.are_named_as.Goals as goal

pub returns-then-not-is_named_as-clause-no : goal.returns-then-not-is_named_as-clause-no
returns-then-not-is_named_as-clause-no c = λ e. (c.file-item.result, has_item c.args.files.now c.loop-file.file-index c.file-item.result c.loop-file-test.true c.file-item.is, c.is_named_as.ensures.1 c.if-not-is_named_as.true)

pub loop-file-preserved : goal.loop-file-preserved
loop-file-preserved c =
    each_more (IsNamedAs c.args.name.now) c.args.files.now c.loop-file.file-index c.file-item.result c.loop-file-test.true c.file-item.is (c.is_named_as.ensures.0 c.if-not-is_named_as.false) c.loop-file.invariant
