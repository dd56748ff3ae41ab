use Rattle.std.proofs.Common.{List, subst, sym}
use Rattle.go_client_files.proofs.Accepted.{free, internal, mixed}
use Rattle.go_client_files.specs.ClientFiles.{AreOfOne}
use Rattle.go_units.specs.PackageUses.{AreFree}
use Rattle.go_units.specs.declared.package_uses.PackageFile.{PackageFile}
use Rattle.go_units.specs.inner.Refusals.{InternalCause}
use Rattle.go_client_files.proofs.client.accepted.Goals as goal

pub returns-then-not-are_of_one-clause-cause : goal.returns-then-not-are_of_one-clause-cause
returns-then-not-are_of_one-clause-cause c =
    mixed c.args.module_path.now c.args.folders.now c.args.client.now c.requires.folder c.args.parsed c.mixed_names.result (λ k. c.are_of_one.ensures.1 c.if-not-are_of_one.true (subst AreOfOne (sym c.items.ensures) k)) c.mixed_names.ensures

pub returns-in-Err-clause-cause : goal.returns-in-Err-clause-cause
returns-in-Err-clause-cause c =
    internal c.args.module_path.now c.args.folders.now c.args.client.now c.requires.folder c.args.parsed c.in_ok-list.list c.in-Err.error (subst AreOfOne c.items.ensures (c.are_of_one.ensures.0 c.if-not-are_of_one.false)) c.in_ok-list.ensures
    (subst (λ (fs : List PackageFile). InternalCause c.args.client.now fs c.in-Err.error) c.items-2.ensures c.in-Err.ensures.cause)

pub returns-in-Ok-clause-ok : goal.returns-in-Ok-clause-ok
returns-in-Ok-clause-ok c = record {
  one = subst AreOfOne c.items.ensures (c.are_of_one.ensures.0 c.if-not-are_of_one.false);
  are = c.in_ok-list.ensures;
  free = free c.args.module_path.now c.args.folders.now c.args.client.now c.requires.folder c.in_ok-list.list (subst (λ (fs : List PackageFile). AreFree c.args.client.now.path c.args.client.now.from_std fs) c.items-2.ensures c.in-Ok.ensures.ok);
}
