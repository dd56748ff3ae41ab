use Rattle.std.proofs.Common.{refl, sym, ◌∙◌}
use Rattle.go_load.proofs.StoreSteps.{uncounted_told, takes_told}
use Rattle.go_load.proofs.walk.take_candidates.Goals as goal

pub returns-in-Err-count_package-clause-told : goal.returns-in-Err-count_package-clause-told
returns-in-Err-count_package-clause-told g c = uncounted_told (g.F.Files.told c.args.files.now) c.args.kind c.args.at.now c.args.folder.now c.args.entries.now c.in-Ok.names.keys c.args.taken.now (record { files = c.args.taken.now.files; counts = c.count_package.new.counts }) c.count_package.new.counts c.in-Err-count_package.error
    (sym c.takes_files.ensures ∙ c.if-not-takes_files.false) c.in-Ok.ensures.ascending c.in-Ok.ensures.names c.in-Err-count_package.ensures.counted

pub returns-clause-told : goal.returns-clause-told
returns-clause-told g c = takes_told (g.F.Files.told c.args.files.now) c.args.kind c.args.at.now c.args.folder.now c.args.entries.now c.in-Ok.names.keys c.args.taken.now
    (record { files = c.args.taken.now.files; counts = c.count_package.new.counts }) c.take_files.new.taken c.take_files.result
    (sym c.takes_files.ensures ∙ c.if-not-takes_files.false) c.in-Ok.ensures.ascending c.in-Ok.ensures.names refl c.in_default.ensures.counted c.take_files.ensures.told
