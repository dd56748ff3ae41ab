use Rattle.std.proofs.Common.{◌≡◌, ◌++◌, drop, map}
use Rattle.api_reports.specs.Reports.{skipped_line, unlines}
use Rattle.api_reports.proofs.left_out.add_declarations.Given as goal

abbrev pub invariant-loop-declaration : goal.invariant-loop-declaration
invariant-loop-declaration l = l.text.items ++ unlines (map (skipped_line l.platform) (drop l.declaration-index l.declarations)) ≡ l.fn.text.items ++ unlines (map (skipped_line l.platform) l.declarations)
