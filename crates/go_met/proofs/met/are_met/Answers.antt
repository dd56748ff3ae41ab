use Rattle.std.proofs.Common.{arith, subst, sym}
use Rattle.std.specs.Prelude.{Option}
use Rattle.go_declaration_asks.specs.Bases.{TellsBase}
use Rattle.go_declaration_asks.specs.declared.base.Base.{Base}
use Rattle.go_declarations.specs.Forms.{form_of}
use Rattle.go_declarations.specs.Listings.{declarations_of}
use Rattle.go_met.proofs.MetFlags.{met_all, met_next, met_there, moved_on}
use Rattle.go_met.proofs.met.are_met.Goals as goal

pub loop-number-preserved : goal.loop-number-preserved
loop-number-preserved c =
    let xs = c.args.declarations.now in
    let x = c.index-declarations-number.result in
    let n = c.loop-number.number in
    record {
      moved = moved_on c.args.env.now c.loop-number.env c.is_met.new.env c.loop-number.invariant.moved c.in-Ok.ensures.moved;
      met = met_next c.args.env.now c.args.package_name.now (declarations_of xs) n c.loop-number.flags.items c.push.new.self.items c.in-Ok.met c.loop-number.invariant.met
          (met_there c.args.env.now c.loop-number.env c.args.package_name.now xs c.args.told.now n x c.in-Ok.met c.requires.told c.loop-number-test.true c.index-declarations-number.is c.loop-number.invariant.moved
          (λ u number named pathed told. c.in-Ok.ensures.answer u number named pathed (subst (λ (o : Option Base). TellsBase u number (form_of x.form) o) (sym c.told_at.ensures) told)))
          c.in_ok-push-in-Ok.ensures.items;
    }

pub returns-clause-met : goal.returns-clause-met
returns-clause-met c =
    met_all c.args.env.now c.args.package_name.now c.args.declarations.now c.loop-number.number c.loop-number.flags.items (let h = c.loop-number-test.false in let k = c.loop-number.auto.number-end in omega (arith, h, k)) c.loop-number.invariant.met
