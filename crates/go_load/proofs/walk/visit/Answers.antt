use Rattle.std.proofs.Common.{refl, ◌∙◌}
use Rattle.go_load.proofs.FolderEntries.{placed_more}
use Rattle.go_load.proofs.StoreSteps.{told_same, listed_as, other_visit, own_visit, on_ok, kept_mid}
use Rattle.go_load.proofs.walk.visit.Goals as goal

pub returns-then-is_other_module-clause-told : goal.returns-then-is_other_module-clause-told
returns-then-is_other_module-clause-told g c = other_visit (g.F.Files.told c.args.files.now) c.args.kind c.args.root.now c.args.folder.now c.args.pending.now.keys _ c.args.taken.now (record { files = c.args.taken.now.files; counts = c.count_folder.new.counts })
    c.bytes-at.result.now c.items-entries.result.now (c.bytes-at.ensures ∙ c.in-Ok.ensures) (c.is_other_module.ensures.yes c.if-is_other_module.true) c.in_default.ensures.counted refl refl (listed_as (g.F.Files.told c.args.files.now) c.bytes-at.result.now c.args.folder.now c.items-entries.result.now c.in-Ok-list.listing c.items-entries.ensures c.in-Ok-list.ensures.told)

pub returns-clause-told : goal.returns-clause-told
returns-clause-told g c = own_visit (g.F.Files.told c.args.files.now) c.args.kind c.args.root.now c.args.folder.now c.args.pending.now.keys c.enter.new.pending.keys c.args.taken.now c.take_candidates.new.taken
    c.bytes-at.result.now c.items-entries.result.now (record { files = c.args.taken.now.files; counts = c.count_folder.new.counts }) c.take_candidates.result (c.bytes-at.ensures ∙ c.in-Ok.ensures)
    (c.is_other_module.ensures.no c.if-is_other_module.false) c.in_default-enter.ensures c.in_default.ensures.counted refl (listed_as (g.F.Files.told c.args.files.now) c.bytes-at.result.now c.args.folder.now c.items-entries.result.now c.in-Ok-list.listing c.items-entries.ensures c.in-Ok-list.ensures.told) (told_same _ c.list.ensures.same c.take_candidates.ensures.told)

pub returns-clause-kept : goal.returns-clause-kept
returns-clause-kept g c = on_ok c.take_candidates.result _ _ (λ keeps is kept. keeps is (kept_mid c.args.taken.now c.count_folder.new.counts c.in_default.ensures.after kept)) c.take_candidates.ensures.kept

pub returns-clause-placed : goal.returns-clause-placed
returns-clause-placed g c = on_ok c.take_candidates.result _ _ (λ keeps is placed. placed_more c.args.kind c.args.folder.now c.items-entries.result.now c.args.pending.now.keys c.enter.new.pending.keys c.in_default-enter.ensures is placed) c.take_candidates.ensures.kept
