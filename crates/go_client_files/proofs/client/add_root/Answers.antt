use Rattle.std.proofs.Common.{sym, ◌∙◌}
use Rattle.go_client_files.proofs.RootFiles.{root_none, root_one}
use Rattle.go_reading.specs.inner.Groups.{lent}
use Rattle.go_client_files.proofs.client.add_root.Goals as goal

pub returns-then-not-is_in_root : goal.returns-then-not-is_in_root
returns-then-not-is_in_root c = root_none c.args.file.now (lent c.args.found.now.items) (sym c.is_in_root.ensures ∙ c.if-not-is_in_root.true)

pub returns : goal.returns
returns c = root_one c.args.file c.args.found.now.items c.push.new.self.items (sym c.is_in_root.ensures ∙ c.if-not-is_in_root.false) c.in_ok-push.ensures.items
