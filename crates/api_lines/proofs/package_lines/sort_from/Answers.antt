use Rattle.std.proofs.Common.{◌-◌, length}
use Rattle.std.proofs.lemmas.List.Sorted.{IsPermutation-put_mid}
use Rattle.api_lines.proofs.package_lines.sort_from.Goals as goal

pub returns-then-from-to : goal.returns-then-from-to
returns-then-from-to c = IsPermutation-put_mid c.args.from (length c.args.lines.now - c.args.from) c.args.lines.now c.sort_unstable_by.new.self c.sort_unstable_by.ensures.permutation
