use Rattle.std.proofs.Common.{◌≡◌, ◌<◌, ◌≤◌, ◌+◌, ℕ, List, length, get_or, Some, None, subst, ap, arith}
use Rattle.go_import_uses.specs.inner.FirstNeeded.{NeedsIn}
use Rattle.go_import_uses.proofs.NeededImports.{file_needed, file_spared, files_past}
use Rattle.go_sources.specs.UnitSources.{source_of}
use Rattle.go_units.specs.declared.unit.UnitFile.{UnitFile}
use Rattle.go_units.specs.declared.unit.UsedImport.{UsedImport}
use Rattle.go_import_uses.proofs.needed.first_needed.Goals as goal

pub returns-in-Some-clause-some : goal.returns-in-Some-clause-some
returns-in-Some-clause-some c are =
    let u = source_of c.args.«unit».now in
    c.loop-file.invariant.1 are (Some c.in-Some.place)
    (file_needed u c.args.«unit».now.files c.loop-file.file-index c.file-item.result
    (subst (λ (w : List UnitFile). c.loop-file.file-index < length w) c.items-file-items.ensures c.loop-file-test.true)
    (subst (λ (w : List UnitFile). c.file-item.result ≡ get_or w c.loop-file.file-index c.file-item.result) c.items-file-items.ensures c.file-item.is)
    c.in-Some.place
    (subst (λ (n : ℕ). NeedsIn u n c.file-item.result.imports (Some c.in-Some.place)) c.loop-file.invariant.0
    (subst (λ (is : List UsedImport). NeedsIn u c.loop-file.number is (Some c.in-Some.place)) c.items-imports.ensures
    (subst (NeedsIn u c.loop-file.number c.items-imports.result.now) c.in-Some.is (c.in_ok-found.ensures are)))))

pub loop-file-preserved : goal.loop-file-preserved
loop-file-preserved c = (
  ap (λ n. n + 1) c.loop-file.invariant.0,
  (λ are r k. let u = source_of c.args.«unit».now in
      c.loop-file.invariant.1 are r
      (file_spared u c.args.«unit».now.files c.loop-file.file-index c.file-item.result
      (subst (λ (w : List UnitFile). c.loop-file.file-index < length w) c.items-file-items.ensures c.loop-file-test.true)
      (subst (λ (w : List UnitFile). c.file-item.result ≡ get_or w c.loop-file.file-index c.file-item.result) c.items-file-items.ensures c.file-item.is)
      r
      (subst (λ (n : ℕ). NeedsIn u n c.file-item.result.imports None) c.loop-file.invariant.0
      (subst (λ (is : List UsedImport). NeedsIn u c.loop-file.number is None) c.items-imports.ensures
      (subst (NeedsIn u c.loop-file.number c.items-imports.result.now) c.in-None.is (c.in_ok-found.ensures are))))
      k)),
)

pub returns-clause-none : goal.returns-clause-none
returns-clause-none c are =
    c.loop-file.invariant.1 are None
    (files_past (source_of c.args.«unit».now) c.args.«unit».now.files c.loop-file.file-index
    (subst (λ (w : List UnitFile). length w ≤ c.loop-file.file-index) c.items-file-items.ensures (let h = c.loop-file-test.false in omega (arith, h))))
