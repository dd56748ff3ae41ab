use Rattle.api_correspond.proofs.Selected.{place_added}
use Rattle.api_correspond.proofs.by_sel.add_place.Goals as goal

pub returns : goal.returns
returns c = λ s. place_added c.args.sel.now c.in_ok-key.key s c.args.places.now c.taken-numbers.new.places c.put.new.places c.args.at c.taken-numbers.result c.push.new.self c.taken-numbers.ensures.there c.taken-numbers.ensures.others c.in_ok-push.ensures.ok c.in_ok-key.ensures (c.in_ok-put.ensures s)
