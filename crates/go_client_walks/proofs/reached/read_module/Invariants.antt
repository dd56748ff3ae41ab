use Rattle.go_client_walks.specs.inner.Reaching.{Reaching}
use Rattle.go_units.specs.inner.Reaching.{HasModuleTo}
use Rattle.go_client_walks.proofs.reached.read_module.Given as goal

abbrev pub invariant-loop-number : goal.invariant-loop-number
invariant-loop-number g l = record {
  to : HasModuleTo l.folders l.slots.items l.number;
  reaching : Reaching l.client l.module_path l.folders (g.R.FolderReader.gives l.reader) l.slots.items l.pending.keys (λ m. ⊥);
}
