use Rattle.std.proofs.Common.{◌≡◌, ◌++◌}
use Rattle.std.specs.Iterator.Adapters.{zip_first, zip_second}
use Rattle.std.specs.Slice.Iter.{iter_rest}
use Rattle.api_reports.specs.Clients.{client_lines}
use Rattle.api_reports.specs.Reports.{by_platform, unlines}
use Rattle.api_reports.proofs.clients.clients_text.Given as goal

abbrev pub invariant-loop-platform : goal.invariant-loop-platform
invariant-loop-platform l =
    l.text.items ++ unlines (by_platform client_lines (iter_rest (zip_first l.platform-iterator)) (iter_rest (zip_second l.platform-iterator))) ≡ unlines (by_platform client_lines l.platforms l.answers)
