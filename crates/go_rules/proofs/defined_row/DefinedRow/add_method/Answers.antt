use Rattle.std.proofs.Common.{List, ap, length, subst, sym}
use Rattle.go_model.specs.declared.types.package.MethodOf.{MethodOf}
use Rattle.go_rules.specs.inner.Places.{ArePlaces}
use Rattle.go_rules.proofs.MethodPlaces.{places_more}
use Rattle.go_rules.proofs.defined_row.DefinedRow.add_method.Goals as goal

pub invariant_of-self-2 : goal.invariant_of-self-2
invariant_of-self-2 c = λ told.
    subst (λ (ms : List MethodOf). ArePlaces ms c.note.new.places) (sym c.in_ok-push.ensures.ok)
    (places_more c.self.inside.defined.methods c.args.method c.self.inside.places c.note.new.places _ (ap length c.items-at.ensures) (c.self.invariant told) c.in_ok-note.ensures)
