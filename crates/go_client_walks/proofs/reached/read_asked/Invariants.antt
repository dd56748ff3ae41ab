use Rattle.go_client_walks.specs.inner.Reaching.{Reaching}
use Rattle.go_units.specs.inner.Reaching.{HasModule}
use Rattle.go_client_walks.proofs.reached.read_asked.Given as goal

abbrev pub invariant-loop : goal.invariant-loop
invariant-loop g l = record {
  all : HasModule l.folders l.slots.items;
  reaching : Reaching l.client l.module_path l.folders (g.R.FolderReader.gives l.reader) l.slots.items l.pending.keys (λ m. ⊥);
}
