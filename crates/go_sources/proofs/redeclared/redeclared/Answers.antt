use Rattle.std.proofs.Common.{◌≡◌, ◌<◌, ◌≤◌, ◌+◌, ℕ, List, [], length, get_or, Some, None, subst, ap, arith}
use Rattle.go_units.specs.declared.unit.UnitFile.{UnitFile}
use Rattle.go_sources.specs.inner.DeclarationSites.{unit_file_sites}
use Rattle.go_sources.specs.inner.KnownNames.{keys_of, Steps}
use Rattle.go_sources.proofs.Redeclaring.{first_of_unit, none_of_unit}
use Rattle.go_sources.proofs.Sites.{files_next, files_stop, files_whole}
use Rattle.go_sources.proofs.redeclared.redeclared.Goals as goal

pub returns-in-Some-clause-some : goal.returns-in-Some-clause-some
returns-in-Some-clause-some c =
    first_of_unit c.args.unit.now (keys_of c.names_of_file.new.known) c.in-Some.place
    (files_stop c.args.unit.now.files c.loop-file.file-index c.file-item.result [] (keys_of c.loop-file.known) (keys_of c.names_of_file.new.known) c.in-Some.place
    (subst (λ (w : List UnitFile). c.loop-file.file-index < length w) c.items-file-items.ensures c.loop-file-test.true)
    (subst (λ (w : List UnitFile). c.file-item.result ≡ get_or w c.loop-file.file-index c.file-item.result) c.items-file-items.ensures c.file-item.is)
    c.loop-file.invariant.1
    (subst (λ (n : ℕ). Steps (unit_file_sites n c.file-item.result) (keys_of c.loop-file.known) (keys_of c.names_of_file.new.known) (Some c.in-Some.place)) c.loop-file.invariant.0
    (subst (Steps (unit_file_sites c.loop-file.number c.file-item.result) (keys_of c.loop-file.known) (keys_of c.names_of_file.new.known)) c.in-Some.is c.in_ok-found.ensures)))

pub loop-file-preserved : goal.loop-file-preserved
loop-file-preserved c = (
  ap (λ n. n + 1) c.loop-file.invariant.0,
  files_next c.args.unit.now.files c.loop-file.file-index c.file-item.result [] (keys_of c.loop-file.known) (keys_of c.names_of_file.new.known) None
      (subst (λ (w : List UnitFile). c.loop-file.file-index < length w) c.items-file-items.ensures c.loop-file-test.true)
      (subst (λ (w : List UnitFile). c.file-item.result ≡ get_or w c.loop-file.file-index c.file-item.result) c.items-file-items.ensures c.file-item.is)
      c.loop-file.invariant.1
      (subst (λ (n : ℕ). Steps (unit_file_sites n c.file-item.result) (keys_of c.loop-file.known) (keys_of c.names_of_file.new.known) None) c.loop-file.invariant.0
      (subst (Steps (unit_file_sites c.loop-file.number c.file-item.result) (keys_of c.loop-file.known) (keys_of c.names_of_file.new.known)) c.in-None.is c.in_ok-found.ensures)),
)

pub returns-clause-none : goal.returns-clause-none
returns-clause-none c =
    none_of_unit c.args.unit.now (keys_of c.loop-file.known)
    (files_whole c.args.unit.now.files c.loop-file.file-index [] (keys_of c.loop-file.known)
    (subst (λ (w : List UnitFile). length w ≤ c.loop-file.file-index) c.items-file-items.ensures (let h = c.loop-file-test.false in omega (arith, h)))
    c.loop-file.invariant.1)
