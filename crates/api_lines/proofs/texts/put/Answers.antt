use Rattle.go_model.proofs.TextSets.{texts_grow}
use Rattle.api_lines.proofs.texts.put.Goals as goal

pub returns : goal.returns
returns c = texts_grow c.args.set.now.keys c.insert.new.self.keys c.args.text c.in_ok-_added.ensures.keys
