use Rattle.std.proofs.Common.{◌<◌, length, get_or, ap, sym, ◌∙◌, arith}
use Rattle.std.proofs.lemmas.Bool.Decides.{nat_tests}
use Rattle.go_imports.proofs.Members.{has_at}
use Rattle.go_imports.proofs.Files.{one_package, not_one}
use Rattle.go_references.specs.go_syntax.declared.declaration.File.{File}
use Rattle.go_imports.proofs.package_files.are_of_one_package.Goals as goal

pub returns : goal.returns
returns c =
    let some : 0 < length c.args.files.now = first_of (omega arith, grind (arith, nat_tests, c.if-is_empty.ensures)) in (
      λ t. one_package c.args.files.now c.bytes.result.now (c.are_named_as.ensures.yes t),
      λ f. not_one c.args.files.now (get_or c.args.files.now 0 c.index-files-0.result) c.bytes.result.now (has_at c.args.files.now 0 c.index-files-0.result some) (sym (c.bytes.ensures ∙ ap (λ (f : File). f.«package».text) c.value.ensures)) (c.are_named_as.ensures.no f),
    )
