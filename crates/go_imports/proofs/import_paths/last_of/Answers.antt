use Rattle.std.proofs.Common.{◌∙◌, sym}
use Rattle.std.specs.Option.{option_copied}
use Rattle.go_imports.proofs.Paths.{last_behind}
use Rattle.go_imports.proofs.import_paths.last_of.Goals as goal

pub loop-part-preserved : goal.loop-part-preserved
loop-part-preserved c = sym (last_behind (option_copied c.loop-part.before) c.loop-part.rest.now c.in-Some.part.now c.in-Some.more.now c.in-Some.ensures.some) ∙ c.loop-part.invariant
