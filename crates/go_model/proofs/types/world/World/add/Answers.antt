use Rattle.std.proofs.Common.{◌<◌, ◌∙◌, arith, vec_len, vec_capacity}
use Rattle.go_model.proofs.AddedPackages.{same_world, private_added, public_added}
use Rattle.go_model.proofs.types.world.World.add.Goals as goal

pub invariant_of-self : goal.invariant_of-self
invariant_of-self c = private_added c.self.inside.packages.items c.self.inside.public.items c.args.self.now c.self.view_is c.args.package c.args.public c.requires c.insert_package.new.packages.items c.insert_package.result c.if-not-public.true c.insert_package.ensures.ok c.insert_package.ensures.err c.self.invariant

pub invariant_of-self-in_err-insert_package : goal.invariant_of-self-in_err-insert_package
invariant_of-self-in_err-insert_package c = same_world c.self.inside.packages.items c.insert_package-2.new.packages.items c.self.inside.public.items c.reserve.new.self.items c.in_err-insert_package.ensures.err c.reserve.ensures.items c.self.invariant

pub invariant_of-self-2 : goal.invariant_of-self-2
invariant_of-self-2 c =
    let room : vec_len c.reserve.new.self < vec_capacity c.reserve.new.self = omega (arith, c.in_ok-reserve.ensures.ok) in
    public_added c.self.inside.packages.items c.self.inside.public.items c.args.self.now c.self.view_is c.args.package c.args.public c.requires c.insert_package-2.new.packages.items c.insert_text.new.texts.items c.reserve.new.self.items c.in_ok-path.path c.insert_text.result c.if-not-public.false c.in_ok-insert_package.ensures.ok c.reserve.ensures.items c.in_ok-path.ensures (c.insert_text.ensures.room room) c.insert_text.ensures.ok
