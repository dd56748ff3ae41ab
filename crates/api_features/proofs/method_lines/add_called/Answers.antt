use Rattle.std.proofs.Common.{◌∙◌, sym}
use Rattle.api_features.proofs.MethodRests.{called_line, unsigned}
use Rattle.api_features.proofs.method_lines.add_called.Goals as goal

pub returns-in_ok-add-in-Some : goal.returns-in_ok-add-in-Some
returns-in_ok-add-in-Some c =
    called_line c.args.of.now.world.now.packages c.args.of.now.path.now c.args.of.now.name.now c.args.pointer c.args.except.now c.args.callable.now c.args.sel.now c.in-Some.signature.now c.in_ok-rest-in-Some.rest.items c.args.lines.now c.add.new.lines (c.is_exported.ensures.0 c.if-not-is_exported.false)
    (sym c.called_at.ensures ∙ unsigned c.called_at.result (sym c.is_some.ensures ∙ c.if-is_some.false)) (sym c.in-Some.ensures) c.in_ok-rest-in-Some.ensures c.in_ok-add-in-Some.ensures
