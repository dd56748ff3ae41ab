use Rattle.go_load.proofs.StoreSteps.{missing_told}
use Rattle.go_load.proofs.reads.list.Goals as goal

pub returns-in-Err-Missing-clause-told : goal.returns-in-Err-Missing-clause-told
returns-in-Err-Missing-clause-told g c = missing_told (g.F.Files.told c.args.files.now) c.args.at.now c.args.folder.now c.in-Err-Missing.field-0 _ c.in-Err-Missing.field-0-is c.in-Err-Missing.ensures.entries c.missing_folder.ensures
