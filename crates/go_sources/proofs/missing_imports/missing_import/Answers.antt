use Rattle.std.proofs.Common.{◌≡◌, ◌<◌, ◌≤◌, ◌+◌, ℕ, List, length, get_or, Some, None, subst, ap, arith}
use Rattle.go_units.specs.declared.unit.UnitFile.{UnitFile}
use Rattle.go_units.specs.declared.unit.UsedImport.{UsedImport}
use Rattle.go_sources.specs.inner.MissingImports.{MissesIn}
use Rattle.go_sources.proofs.Missing.{file_found, file_missing, files_past}
use Rattle.go_sources.proofs.missing_imports.missing_import.Goals as goal

pub returns-in-Some-clause-some : goal.returns-in-Some-clause-some
returns-in-Some-clause-some c =
    c.loop-file.invariant.1 (Some c.in-Some.place)
    (file_missing c.args.unit.now.files c.loop-file.file-index c.file-item.result
    (subst (λ (w : List UnitFile). c.loop-file.file-index < length w) c.items-file-items.ensures c.loop-file-test.true)
    (subst (λ (w : List UnitFile). c.file-item.result ≡ get_or w c.loop-file.file-index c.file-item.result) c.items-file-items.ensures c.file-item.is)
    c.in-Some.place
    (subst (λ (n : ℕ). MissesIn n c.file-item.result.imports (Some c.in-Some.place)) c.loop-file.invariant.0
    (subst (λ (is : List UsedImport). MissesIn c.loop-file.number is (Some c.in-Some.place)) c.items.ensures
    (subst (MissesIn c.loop-file.number c.items.result.now) c.in-Some.is c.first_missing.ensures))))

pub loop-file-preserved : goal.loop-file-preserved
loop-file-preserved c = (
  ap (λ n. n + 1) c.loop-file.invariant.0,
  (λ r k. c.loop-file.invariant.1 r
      (file_found c.args.unit.now.files c.loop-file.file-index c.file-item.result
      (subst (λ (w : List UnitFile). c.loop-file.file-index < length w) c.items-file-items.ensures c.loop-file-test.true)
      (subst (λ (w : List UnitFile). c.file-item.result ≡ get_or w c.loop-file.file-index c.file-item.result) c.items-file-items.ensures c.file-item.is)
      r
      (subst (λ (n : ℕ). MissesIn n c.file-item.result.imports None) c.loop-file.invariant.0
      (subst (λ (is : List UsedImport). MissesIn c.loop-file.number is None) c.items.ensures
      (subst (MissesIn c.loop-file.number c.items.result.now) c.in-None.is c.first_missing.ensures)))
      k)),
)

pub returns-clause-none : goal.returns-clause-none
returns-clause-none c =
    c.loop-file.invariant.1 None
    (files_past c.args.unit.now.files c.loop-file.file-index
    (subst (λ (w : List UnitFile). length w ≤ c.loop-file.file-index) c.items-file-items.ensures (let h = c.loop-file-test.false in omega (arith, h))))
