use Rattle.std.proofs.Common.{◌≡◌}
use Rattle.std.proofs.lemmas.Result.{on_ok_weaker}
use Rattle.api_lines.proofs.PackageLines.{constants_grow, functions_grow, types_grow, variables_grow}
use Rattle.api_lines.proofs.package_lines.PackageLines.add.Goals as goal

pub returns-then-first-eq99 : goal.returns-then-first-eq99
returns-then-first-eq99 c =
    on_ok_weaker c.push.result
    (constants_grow (λ l. c.args.line ≡ l) c.self.inside.constants.items c.self.inside.functions.items c.self.inside.pointers.items c.self.inside.methods.items c.self.inside.types.items c.self.inside.variables.items c.push.new.all.items c.args.self.now c.self.view_is) c.push.ensures

pub returns-then-first-eq102 : goal.returns-then-first-eq102
returns-then-first-eq102 c =
    on_ok_weaker c.push-then-first-eq102.result
    (functions_grow (λ l. c.args.line ≡ l) c.self.inside.constants.items c.self.inside.functions.items c.self.inside.pointers.items c.self.inside.methods.items c.self.inside.types.items c.self.inside.variables.items c.push-then-first-eq102.new.all.items c.args.self.now c.self.view_is) c.push-then-first-eq102.ensures

pub returns-then-first-eq116 : goal.returns-then-first-eq116
returns-then-first-eq116 c =
    on_ok_weaker c.push-then-first-eq116.result
    (types_grow (λ l. c.args.line ≡ l) c.self.inside.constants.items c.self.inside.functions.items c.self.inside.pointers.items c.self.inside.methods.items c.self.inside.types.items c.self.inside.variables.items c.push-then-first-eq116.new.all.items c.args.self.now c.self.view_is) c.push-then-first-eq116.ensures

pub returns : goal.returns
returns c =
    on_ok_weaker c.push-2.result
    (variables_grow (λ l. c.args.line ≡ l) c.self.inside.constants.items c.self.inside.functions.items c.self.inside.pointers.items c.self.inside.methods.items c.self.inside.types.items c.self.inside.variables.items c.push-2.new.all.items c.args.self.now c.self.view_is) c.push-2.ensures
