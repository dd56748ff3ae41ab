use Rattle.api_correspond.proofs.Tabling.{pair_new, pair_known}
use Rattle.api_correspond.proofs.table.PairTable.add.Goals as goal

pub returns-in_ok-push-clause-in_step : goal.returns-in_ok-push-clause-in_step
returns-in_ok-push-clause-in_step c = (pair_new c.args.self.now.codes.keys c.add_text.new.texts.keys c.args.self.now.pairs.items c.push.new.self.items c.args.pair c.in_ok-code.code c.in_ok-at.at c.in_ok-at.fresh c.requires c.in_ok-code.ensures c.in_ok-at.ensures c.if-fresh.true c.in_ok-push.ensures.items).0

pub returns-in_ok-push-clause-adds : goal.returns-in_ok-push-clause-adds
returns-in_ok-push-clause-adds c = (pair_new c.args.self.now.codes.keys c.add_text.new.texts.keys c.args.self.now.pairs.items c.push.new.self.items c.args.pair c.in_ok-code.code c.in_ok-at.at c.in_ok-at.fresh c.requires c.in_ok-code.ensures c.in_ok-at.ensures c.if-fresh.true c.in_ok-push.ensures.items).1

pub returns-else-fresh-clause-in_step : goal.returns-else-fresh-clause-in_step
returns-else-fresh-clause-in_step c = (pair_known c.args.self.now.codes.keys c.add_text.new.texts.keys c.args.self.now.pairs.items c.args.pair c.in_ok-code.code c.in_ok-at.at c.in_ok-at.fresh c.requires c.in_ok-code.ensures c.in_ok-at.ensures c.if-fresh.false).0

pub returns-else-fresh-clause-adds : goal.returns-else-fresh-clause-adds
returns-else-fresh-clause-adds c = (pair_known c.args.self.now.codes.keys c.add_text.new.texts.keys c.args.self.now.pairs.items c.args.pair c.in_ok-code.code c.in_ok-at.at c.in_ok-at.fresh c.requires c.in_ok-code.ensures c.in_ok-at.ensures c.if-fresh.false).1
