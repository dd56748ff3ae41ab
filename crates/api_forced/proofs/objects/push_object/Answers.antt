use Rattle.std.proofs.Common.{sym, ◌∙◌, ap}
use Rattle.go_base.specs.Keys.{first_with}
use Rattle.go_model.specs.worlds.Worlds.{object_name}
use Rattle.api_correspond.proofs.ExportedObjects.{unexported, exported}
use Rattle.api_forced.proofs.FromObjects.{object_hidden, object_gone, object_apart, object_added}
use Rattle.api_forced.proofs.objects.push_object.Goals as goal

pub returns-then-not-is_exported : goal.returns-then-not-is_exported
returns-then-not-is_exported c = object_hidden c.args.path.now c.args.after.now c.args.before.now c.args.all.now.items (unexported c.args.before.now.name c.bytes.result.now c.is_exported.result c.bytes.ensures c.is_exported.ensures c.if-not-is_exported.true)

pub returns-in-None : goal.returns-in-None
returns-in-None c = object_gone c.args.path.now c.args.after.now c.args.before.now c.args.all.now.items (c.in-None.ensures ∙ ap (first_with object_name c.args.after.now.objects) c.bytes-2.ensures)

pub returns-in-None-types : goal.returns-in-None-types
returns-in-None-types c = object_apart c.args.path.now c.args.after.now c.args.before.now c.args.all.now.items c.in-Some.object.now (c.in-Some.ensures ∙ ap (first_with object_name c.args.after.now.objects) c.bytes-2.ensures) (sym c.in-None-types.is ∙ c.in_ok-types-in-Some.ensures)

pub returns-in_ok-push_named-in-Some-types : goal.returns-in_ok-push_named-in-Some-types
returns-in_ok-push_named-in-Some-types c = object_added c.args.path.now c.args.after.now c.args.before.now c.args.all.now.items c.in-Some.object.now c.in-Some-types.types c.into_value.result c.push_named.new.all.items (exported c.args.before.now.name c.bytes.result.now c.is_exported.result c.bytes.ensures c.is_exported.ensures c.if-not-is_exported.false) (c.in-Some.ensures ∙ ap (first_with object_name c.args.after.now.objects) c.bytes-2.ensures) (sym c.in-Some-types.is ∙ c.in_ok-types-in-Some.ensures) c.into_value.ensures c.in_ok-push_named-in-Some-types.ensures
