use Rattle.std.proofs.Common.{sym}
use Rattle.go_cursor.proofs.Skips.{opens}
use Rattle.go_cursor.proofs.skipping.after_sign.Goals as goal

pub returns-in_ok-push-in-Some : goal.returns-in_ok-push-in-Some
returns-in_ok-push-in-Some c = opens c.args.sign c.in-Some.closing c.args.wanted.now.items c.push.new.self.items (sym c.in-Some.ensures) c.in_ok-push-in-Some.ensures.items
