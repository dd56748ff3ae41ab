use Rattle.std.proofs.Common.{sym, ap, ◌∙◌}
use Rattle.go_units.specs.Reached.{IsRefusedFor}
use Rattle.go_client_walks.specs.inner.Reaching.{OwnCause}
use Rattle.go_units.specs.declared.folder.Folder.{Folder}
use Rattle.go_client_walks.proofs.ReachedFolders.{own_next, own_refused}
use Rattle.go_units.proofs.Results.{if_err_as}
use Rattle.go_client_walks.proofs.reached.read_own.Goals as goal

pub returns-clause-cause : goal.returns-clause-cause
returns-clause-cause g c =
    if_err_as (IsRefusedFor c.args.module_path.now c.args.folders.now (g.R.FolderReader.gives c.args.reader.now) c.args.number) (OwnCause c.args.client.now c.args.module_path.now c.args.folders.now (g.R.FolderReader.gives c.args.reader.now))
    (λ e s.
    own_refused c.args.client.now c.args.module_path.now c.args.folders.now (g.R.FolderReader.gives c.args.reader.now) c.args.slots.now.items c.args.number e (sym (ap (λ (f : Folder). f.from_std) c.folder_at.ensures) ∙ c.if-folder_at.false) c.requires.reaching.walked
    (own_next c.args.client.now c.args.module_path.now c.args.folders.now c.args.slots.now.items c.args.number c.requires.within (sym (ap (λ (f : Folder). f.from_std) c.folder_at.ensures) ∙ c.if-folder_at.false) c.requires.before)
    s)
    c.advance.result c.advance.ensures.cause
