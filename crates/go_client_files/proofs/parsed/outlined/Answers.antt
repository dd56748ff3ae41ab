use Rattle.go_reading.proofs.OneOutlines.{one_outline}
use Rattle.go_client_files.proofs.parsed.outlined.Goals as goal

pub new-requires : goal.new-requires
new-requires c = one_outline c.one_list.ensures.one c.one_tree.ensures.same c.args.bytes.now c.args.tree c.requires
