use Rattle.api_forced.proofs.ClaimSets.{claim_added}
use Rattle.api_forced.proofs.claims.add.Goals as goal

pub returns : goal.returns
returns c = claim_added c.args.claims.now.keys c.insert.new.self.keys c.args.claim c.in_ok-insert.ensures.keys
