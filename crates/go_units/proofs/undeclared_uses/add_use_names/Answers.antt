use Rattle.std.proofs.Common.{◌≡◌, ℕ, List, subst}
use Rattle.go_base.specs.Growing.{Grows}
use Rattle.go_imports.specs.declared.used_imports.NamedImport.{NamedImport}
use Rattle.go_imports.proofs.GrowingSets.{grows_inserted, grows_next, order, texts_tie}
use Rattle.go_units.proofs.undeclared_uses.add_use_names.Goals as goal

pub loop-import-preserved : goal.loop-import-preserved
loop-import-preserved c =
    grows_next (λ (u : NamedImport) (x : List ℕ). u.name ≡ x) c.args.uses.now c.loop-import.import-index c.import-item.result _ c.loop-import.names.keys c.insert.new.self.keys
    c.loop-import-test.true c.import-item.is c.loop-import.invariant
    (subst (λ (t : List ℕ). Grows (λ x. t ≡ x) c.loop-import.names.keys c.insert.new.self.keys) c.in_ok-copy.ensures (grows_inserted order texts_tie _ _ c.in_ok-copy.field-0 c.in_ok-insert.ensures.keys))
