use Rattle.std.proofs.Common.{ap, ◌∙◌, sym, nat_cmp, nat_eq}
use Rattle.std.proofs.lemmas.Map.Steps.{set_value_same}
use Rattle.std.proofs.lemmas.Result.{on_ok_weaker, on_err_weaker}
use Rattle.std.specs.BTreeMap.{insert_entry, is_at}
use Rattle.std.specs.Map.{lookup, set_value}
use Rattle.go_rules.proofs.NamedEntries.{found_by_number, written_number}
use Rattle.go_rules.specs.Names.{with_value}
use Rattle.go_rules.specs.Scopes.{imports_in}
use Rattle.go_rules.proofs.imports.Imports.add.Goals as goal

pub returns-in-Some-clause-ok : goal.returns-in-Some-clause-ok
returns-in-Some-clause-ok c =
    let es = c.self.inside.files.entries in
    let there = c.in-Some.ensures.value ∙ found_by_number c.args.file es in
    on_ok_weaker c.put.result (λ put.
    (c.get_mut.follows.holds c.put.new.self).0
    ∙ written_number es c.args.file c.put.new.self c.in-Some.names.now c.get_mut.ensures.ordered c.in-Some.ensures.value
    ∙ ap (λ w. insert_entry nat_cmp es c.args.file w) (put ∙ ap (λ r. with_value (imports_in r) c.args.name c.args.path) there)
    ∙ ap (λ files. insert_entry nat_cmp files c.args.file (with_value (imports_in (lookup (nat_eq c.args.file) files)) c.args.name c.args.path)) c.self.view_is) c.put.ensures.ok

pub returns-in-Some-clause-err : goal.returns-in-Some-clause-err
returns-in-Some-clause-err c =
    let es = c.self.inside.files.entries in
    on_err_weaker c.put.result (λ kept.
    (c.get_mut.follows.holds c.put.new.self).0
    ∙ ap (λ w. set_value (is_at (nat_cmp c.args.file)) es w) kept
    ∙ set_value_same (is_at (nat_cmp c.args.file)) es c.in-Some.names.now (sym c.in-Some.ensures.value)
    ∙ c.self.view_is) c.put.ensures.err
