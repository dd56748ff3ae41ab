use Rattle.std.proofs.Common.{◌∙◌, ap}
use Rattle.go_base.specs.Keys.{first_with}
use Rattle.go_model.specs.worlds.Worlds.{object_name}
use Rattle.api_correspond.proofs.ExportedObjects.{unexported, exported}
use Rattle.api_breaks.proofs.PackageBreaks.{object_hidden, object_removed, object_both}
use Rattle.api_breaks.proofs.packages.push_object.Goals as goal

pub returns-then-not-is_exported : goal.returns-then-not-is_exported
returns-then-not-is_exported c = object_hidden c.args.path.now c.args.after.now c.args.before.now c.args.breaks.now.items (unexported c.args.before.now.name c.bytes.result.now c.is_exported.result c.bytes.ensures c.is_exported.ensures c.if-not-is_exported.true)

pub returns-in_ok-push_of-in-None : goal.returns-in_ok-push_of-in-None
returns-in_ok-push_of-in-None c = object_removed c.args.path.now c.args.after.now c.args.before.now c.args.breaks.now.items c.push_of.new.breaks.items (c.in-None.ensures ∙ ap (first_with object_name c.args.after.now.objects) c.bytes-2.ensures) (exported c.args.before.now.name c.bytes.result.now c.is_exported.result c.bytes.ensures c.is_exported.ensures c.if-not-is_exported.false) c.in_ok-push_of-in-None.ensures

pub returns-in_ok-push_constant-in-Some : goal.returns-in_ok-push_constant-in-Some
returns-in_ok-push_constant-in-Some c = object_both c.args.path.now c.args.after.now c.args.before.now c.args.breaks.now.items c.in-Some.object.now c.push_kind.new.breaks.items c.push_constant.new.breaks.items (c.in-Some.ensures ∙ ap (first_with object_name c.args.after.now.objects) c.bytes-2.ensures) (exported c.args.before.now.name c.bytes.result.now c.is_exported.result c.bytes.ensures c.is_exported.ensures c.if-not-is_exported.false) c.in_ok-push_kind-in-Some.ensures c.in_ok-push_constant-in-Some.ensures
