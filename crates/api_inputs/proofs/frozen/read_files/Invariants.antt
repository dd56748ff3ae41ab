use Rattle.std.proofs.Common.{◌≡◌, drop}
use Rattle.api_inputs.specs.Reads.{NeverFell}
use Rattle.api_inputs.proofs.FrozenLists.{ReadTo}
use Rattle.api_inputs.proofs.frozen.read_files.Given as goal

abbrev pub invariant-loop-path : goal.invariant-loop-path
invariant-loop-path g l = record {
  same : g.F.Files.told l.files ≡ g.F.Files.told l.fn.files;
  count : NeverFell (g.F.Files.faults l.fn.files) (g.F.Files.faults l.files);
  read : ReadTo (g.F.Files.told l.fn.files) l.paths (drop l.path-index l.paths) l.all.items;
}
