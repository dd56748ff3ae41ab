use Rattle.api_forced.proofs.Claiming.{led_none, led_one}
use Rattle.api_forced.proofs.claims.add_led.Goals as goal

pub returns-in-None : goal.returns-in-None
returns-in-None c = led_none c.args.own.now.items c.args.leader c.args.pair c.args.claims.now.keys c.in-None.ensures

pub returns-in_ok-add-in-Some : goal.returns-in_ok-add-in-Some
returns-in_ok-add-in-Some c = led_one c.args.own.now.items c.args.leader c.args.pair c.owner_by-owner.result c.in-Some.name.now c.args.claims.now.keys c.add.new.claims.keys c.in-Some.ensures.0 c.in-Some.ensures.1 c.owner_by-owner.ensures c.in_ok-add-in-Some.ensures
