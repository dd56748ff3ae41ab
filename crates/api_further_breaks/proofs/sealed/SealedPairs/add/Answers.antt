use Rattle.std.proofs.Common.{ℕ, length, refl, ap, ◌∙◌, subst}
use Rattle.go_model.specs.types.MethodSets.{method_sel}
use Rattle.go_model.specs.declared.types.term.Term.{out-Term}
use Rattle.api_correspond.specs.inner.BySel.{AddsPlace}
use Rattle.api_further_breaks.proofs.Indexing.{one_added}
use Rattle.api_further_breaks.proofs.sealed.SealedPairs.add.Goals as goal

pub returns-in_ok-push-in-Some : goal.returns-in_ok-push-in-Some
returns-in_ok-push-in-Some c = one_added c.args.old.now c.args.new.now c.args.pair.now c.args.self.now (record { pairs = c.push.new.self; places = c.add_place.new.places }) (record { pair = c.args.pair; old = c.methods_of-methods.result; new = c.methods_of.result }) c.in-Some.first.now (out-Term c.under.result.now) (out-Term c.under-after.result.now) c.is_interface.result c.under.ensures c.methods_of-methods.ensures c.under-after.ensures c.methods_of.ensures c.is_interface.ensures c.if-not-is_interface.false c.in-Some.ensures.0 c.in-Some.ensures.1 refl (subst (λ (n : ℕ). AddsPlace c.args.self.now.places c.add_place.new.places (method_sel c.in-Some.first.now) n) (c.count-at.ensures ∙ ap length c.deref.ensures.value) c.in_ok-add_place-in-Some.ensures) c.in_ok-push-in-Some.ensures.items
