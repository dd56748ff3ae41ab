use Rattle.std.proofs.Common.{subst, sym, ◌∙◌}
use Rattle.go_base.specs.Growing.{Grows}
use Rattle.go_units.specs.Reached.{ReadFolders}
use Rattle.go_client_walks.specs.inner.Reaching.{Reaching}
use Rattle.go_units.specs.inner.Reaching.{AsksNew}
use Rattle.go_client_walks.proofs.ReachedFolders.{advanced}
use Rattle.go_client_walks.proofs.reached.advance.Goals as goal

pub returns-clause-reaches : goal.returns-clause-reaches
returns-clause-reaches g c =
    subst (λ (slots : ReadFolders). Reaching c.args.client.now c.args.module_path.now c.args.folders.now (g.R.FolderReader.gives c.args.reader.now) slots c.add_asked_by.new.pending.keys (λ m. ⊥)) (sym c.put.ensures)
    (advanced c.args.client.now c.args.module_path.now c.args.folders.now (g.R.FolderReader.gives c.args.reader.now) c.args.slots.now.items c.args.number c.in-Ok.files c.args.pending.now.keys c.add_asked_by.new.pending.keys
    c.requires.next c.requires.apart c.requires.reaching c.in-Ok.ensures.ok
    (subst (λ (slots : ReadFolders). Grows (AsksNew c.args.module_path.now c.args.folders.now slots c.args.number) c.args.pending.now.keys c.add_asked_by.new.pending.keys) (c.deref.ensures.value ∙ c.put.ensures) c.in_ok-add_asked_by.ensures))
