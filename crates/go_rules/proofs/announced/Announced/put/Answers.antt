use Rattle.std.proofs.Common.{◌≡◌, ap, ◌∙◌, sym, subst, ℕ, List, length, ◌≤◌, ◌<◌}
use Rattle.std.specs.Cmp.Lexicographic.{slice_cmp}
use Rattle.std.specs.List.{HoldsAt}
use Rattle.std.specs.Ordering.{nat_cmp}
use Rattle.std.specs.declared.cmp.Ordering.TheVariants.{Equal}
use Rattle.go_rules.specs.Names.{with_value}
use Rattle.go_rules.specs.inner.Announced.{AllBefore, listed}
use Rattle.go_rules.proofs.AnnouncedNames.{inserted, kept, parted, pushed, risen}
use Rattle.go_rules.proofs.announced.Announced.put.Goals as goal

behind_all : (c : goal.In_ok-push) → listed c.push.new.self.items ≡ with_value (listed c.self.inside.names.items) c.args.name tt
behind_all c =
    ap listed c.in_ok-push.ensures.items
    ∙ pushed c.args.name c.self.inside.names.items (subst (λ (ns : List (List ℕ)). AllBefore ns c.args.name) c.deref.ensures.value (c.is_behind.ensures c.if-is_behind.true))

in_place : (c : goal.In_ok-insert-in-Err) → listed c.insert.new.self.items ≡ with_value (listed c.self.inside.names.items) c.args.name tt
in_place c =
    let ns = c.self.inside.names.items in
    ap listed c.in_ok-insert-in-Err.ensures.items
    ∙ inserted c.args.name ns c.in-Err.at (subst (λ (ms : List (List ℕ)). c.in-Err.at ≤ length ms) c.deref-2.ensures.value c.in-Err.ensures.bound)
    (parted c.args.name ns c.deref-2.result.now c.in-Err.at c.deref-2.ensures.value c.self.invariant c.in-Err.ensures.position)

pub invariant_of-self-then-is_behind : goal.invariant_of-self-then-is_behind
invariant_of-self-then-is_behind c = risen c.args.name c.self.inside.names.items c.push.new.self.items c.self.invariant (behind_all c)

pub returns-then-is_behind-clause-ok : goal.returns-then-is_behind-clause-ok
returns-then-is_behind-clause-ok c = behind_all c ∙ ap (λ t. with_value t c.args.name tt) c.self.view_is

pub invariant_of-self-in-Err : goal.invariant_of-self-in-Err
invariant_of-self-in-Err c = risen c.args.name c.self.inside.names.items c.insert.new.self.items c.self.invariant (in_place c)

pub returns-in-Ok-clause-ok : goal.returns-in-Ok-clause-ok
returns-in-Ok-clause-ok c =
    let ns = c.self.inside.names.items in
    sym c.self.view_is
    ∙ kept c.args.name ns c.in-Ok.field-0 (subst (λ (ms : List (List ℕ)). c.in-Ok.field-0 < length ms) c.deref-2.ensures.value c.in-Ok.ensures.bound)
    (subst (λ (ms : List (List ℕ)). HoldsAt (λ n. slice_cmp nat_cmp n c.args.name ≡ Equal) ms c.in-Ok.field-0) c.deref-2.ensures.value c.in-Ok.ensures.ok) c.self.invariant
    ∙ ap (λ t. with_value t c.args.name tt) c.self.view_is

pub returns-in_ok-insert-in-Err-clause-ok : goal.returns-in_ok-insert-in-Err-clause-ok
returns-in_ok-insert-in-Err-clause-ok c = in_place c ∙ ap (λ t. with_value t c.args.name tt) c.self.view_is
