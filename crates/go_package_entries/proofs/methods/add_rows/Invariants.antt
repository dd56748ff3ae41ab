use Rattle.std.proofs.Common.{◌≡◌, drop}
use Rattle.go_base.specs.Gathered.{gather}
use Rattle.go_package_entries.specs.Settings.{setting_of}
use Rattle.go_package_entries.specs.inner.ShownMethods.{had_row, with_each}
use Rattle.go_package_entries.specs.inner.TakenEntries.{entries_of}
use Rattle.go_package_entries.proofs.methods.add_rows.Given as goal

abbrev pub invariant-loop-row : goal.invariant-loop-row
invariant-loop-row l = record {
  same : setting_of l.env ≡ setting_of l.fn.env;
  path : l.env.path ≡ l.fn.env.path;
  rest : with_each l.env l.type_name (gather (had_row (entries_of l.grown) l.fn.env.path l.name) (drop l.row-index l.rows))
      ≡ with_each l.fn.env l.type_name (gather (had_row (entries_of l.grown) l.fn.env.path l.name) l.rows);
}
