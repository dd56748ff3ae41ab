use Rattle.std.proofs.Common.{rules, ◌≡◌, sym, ap, ◌∙◌, refl, subst, Some, None}
use Rattle.std.specs.BTreeMap.{is_at}
use Rattle.std.specs.BTreeMap.Entry.{MatchEntry, entry_key, entry_value, map_with_value}
use Rattle.std.specs.Cmp.Lexicographic.{slice_cmp}
use Rattle.std.specs.Map.{lookup, lookup_key}
use Rattle.std.specs.Option.{IsSome}
use Rattle.std.specs.Ordering.{nat_cmp}
use Rattle.go_rules.proofs.TextEntries.{kept, none_there, some_there}
use Rattle.go_rules.proofs.names.Names.add.Goals as goal

pub returns-in-Ok-Vacant-clause-already : goal.returns-in-Ok-Vacant-clause-already
returns-in-Ok-Vacant-clause-already g c =
    let es = c.self.inside.entries.entries in
    let at = is_at (slice_cmp nat_cmp c.args.name) in
    let found = subst (λ e. MatchEntry e (IsSome (lookup at es) × (lookup_key at es ≡ Some (entry_key e))) (lookup at es ≡ None)) c.in-Ok-Vacant.field-0-is c.in-Ok-Vacant.ensures.found in
    (λ other. absurd cc, λ there. absurd (none_there c.args.name es c.args.self.now c.self.view_is (sym found) there))

pub returns-in-Ok-Occupied-clause-already : goal.returns-in-Ok-Occupied-clause-already
returns-in-Ok-Occupied-clause-already g c =
    let found = sym c.into_mut-same.ensures.value ∙ ap entry_value (sym c.in-Ok-Occupied.field-0-is) ∙ c.in-Ok-Occupied.ensures.value in
    (λ same. some_there c.args.name c.self.inside.entries.entries c.args.self.now c.self.view_is (Some _) refl found, λ there. refl)

pub returns-in-Ok-Occupied-clause-err : goal.returns-in-Ok-Occupied-clause-err
returns-in-Ok-Occupied-clause-err g c =
    let found = sym c.into_mut-same.ensures.value ∙ ap entry_value (sym c.in-Ok-Occupied.field-0-is) ∙ c.in-Ok-Occupied.ensures.value in
    let update = c.in-Ok-Occupied.ensures.update.1 in
    let same = ap (λ e. (map_with_value e c.into_mut-same.result.now).entries) (sym c.in-Ok-Occupied.field-0-is) ∙ update _ ∙ kept c.args.name c.self.inside.entries.entries c.args.self.now c.self.view_is _ c.in-Ok-Occupied.ensures.ordered found in
    search rules

pub returns-in-Err-clause-already : goal.returns-in-Err-clause-already
returns-in-Err-clause-already g c =
    (λ other. absurd cc, λ there. absurd (none_there c.args.name c.self.inside.entries.entries c.args.self.now c.self.view_is (sym c.in-Err.ensures.absent) there))
