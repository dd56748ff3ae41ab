use Rattle.go_units.specs.inner.Reaching.{HasModuleTo, Reaching}
use Rattle.go_units.proofs.reached.read_module.Given as goal

abbrev pub invariant-loop-number : goal.invariant-loop-number
invariant-loop-number g l = record {
  to : HasModuleTo l.folders l.slots.items l.number;
  reaching : Reaching l.module_path l.folders (g.R.FolderReader.gives l.reader) l.slots.items l.pending.keys (λ m. ⊥);
}
