use Rattle.std.proofs.Common.{◌≡◌}
use Rattle.std.proofs.lemmas.Result.{on_ok_weaker}
use Rattle.api_lines.proofs.PackageLines.{methods_grow, pointers_grow}
use Rattle.api_lines.proofs.package_lines.PackageLines.add_method.Goals as goal

pub returns-then-byte_at-eq42 : goal.returns-then-byte_at-eq42
returns-then-byte_at-eq42 c =
    on_ok_weaker c.push.result
    (pointers_grow (λ l. c.args.line ≡ l) c.self.inside.constants.items c.self.inside.functions.items c.self.inside.pointers.items c.self.inside.methods.items c.self.inside.types.items c.self.inside.variables.items c.push.new.all.items c.args.self.now c.self.view_is) c.push.ensures

pub returns : goal.returns
returns c =
    on_ok_weaker c.push-2.result
    (methods_grow (λ l. c.args.line ≡ l) c.self.inside.constants.items c.self.inside.functions.items c.self.inside.pointers.items c.self.inside.methods.items c.self.inside.types.items c.self.inside.variables.items c.push-2.new.all.items c.args.self.now c.self.view_is) c.push-2.ensures
