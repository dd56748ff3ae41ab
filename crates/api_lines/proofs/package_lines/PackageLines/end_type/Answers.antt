use Rattle.api_lines.proofs.PackageLines.{types_grow}
use Rattle.api_lines.proofs.package_lines.PackageLines.end_type.Goals as goal

pub returns : goal.returns
returns c = types_grow (λ l. ⊥) c.self.inside.constants.items c.self.inside.functions.items c.self.inside.pointers.items c.self.inside.methods.items c.self.inside.types.items c.self.inside.variables.items c.sort_last.new.lines.items c.args.self.now c.self.view_is c.sort_last.ensures
