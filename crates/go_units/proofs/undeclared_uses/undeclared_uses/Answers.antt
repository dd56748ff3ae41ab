use Rattle.std.proofs.Common.{◌≡◌, List, map}
use Rattle.go_units.specs.UndeclaredUses.{AreUndeclared, undeclared_of}
use Rattle.go_units.specs.declared.package_uses.PackageFile.{PackageFile}
use Rattle.go_units.proofs.Results.{if_ok_as}
use Rattle.go_units.proofs.UndeclaredUses.{left_out, nothing_asked, nothing_declared}
use Rattle.go_units.proofs.undeclared_uses.undeclared_uses.Goals as goal

pub returns-then-is_empty : goal.returns-then-is_empty
returns-then-is_empty c = nothing_asked c.args.files c.items.result.now c.in_ok-asked.asked.keys c.items.ensures (c.is_empty.ensures.0 c.if-is_empty.true) c.in_ok-asked.ensures

pub returns-then-is_empty-2 : goal.returns-then-is_empty-2
returns-then-is_empty-2 c =
    nothing_declared c.args.files c.items.result.now c.items-2.result.now c.in_ok-asked.asked.keys c.in_ok-declared.declared.keys c.items.ensures c.items-2.ensures (c.is_empty-2.ensures.0 c.if-is_empty-2.true) c.in_ok-asked.ensures c.in_ok-declared.ensures

pub returns : goal.returns
returns c =
    if_ok_as (λ (kept : List PackageFile). kept ≡ map (undeclared_of c.in_ok-declared.declared.keys) c.items-3.result.now) (AreUndeclared c.args.files)
    (left_out c.args.files c.items.result.now c.items-2.result.now c.items-3.result.now c.in_ok-asked.asked.keys c.in_ok-declared.declared.keys c.items.ensures c.items-2.ensures c.items-3.ensures c.in_ok-asked.ensures c.in_ok-declared.ensures)
    c.all_undeclared.result c.all_undeclared.ensures
