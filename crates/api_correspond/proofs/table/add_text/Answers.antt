use Rattle.api_correspond.proofs.Tabling.{text_at}
use Rattle.api_correspond.proofs.table.add_text.Goals as goal

pub returns : goal.returns
returns c = text_at c.args.texts.now.keys c.insert_full.new.self.keys c.args.text c.in_ok-insert_full.field-0.0 c.in_ok-insert_full.field-0.1 c.in_ok-insert_full.ensures.keys c.in_ok-insert_full.ensures.added c.in_ok-insert_full.ensures.stored.0 c.in_ok-insert_full.ensures.stored.1 c.in_ok-insert_full.ensures.stored.2
