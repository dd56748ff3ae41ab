use Rattle.std.proofs.Common.{sym, ◌∙◌}
use Rattle.go_taken_units.proofs.AlikeFiles.{alike_files}
use Rattle.go_taken_units.proofs.same.is_same_file.Goals as goal

pub returns : goal.returns
returns c = λ e. alike_files c.args.file.now c.args.other.now (sym c.items-2.ensures ∙ c.are_same_imports.ensures c.if-not-are_same_imports.false ∙ c.items.ensures) (c.is_same.ensures e)
