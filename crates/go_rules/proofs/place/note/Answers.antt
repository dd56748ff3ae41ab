use Rattle.std.proofs.Common.{inl, inr}
use Rattle.go_rules.proofs.MethodPlaces.{noted_by}
use Rattle.go_rules.proofs.place.note.Goals.{then-contains_key, else-contains_key}
use Rattle.go_rules.proofs.place.note.Goals as goal

pub returns : goal.returns
returns c =
    noted_by c.args.places.now c.insert.new.self c.args.sel.now c.in_ok-key.key c.args.at c.if-contains_key.place c.contains_key.result c.in_ok-key.ensures c.contains_key.ensures
    (elim c.if-contains_key.branch [
      | then-contains_key w ↦ inl (w.if-contains_key.true, w.place-is)
      | else-contains_key w ↦ inr (w.if-contains_key.false, w.place-is)
    ]) c.in_ok-insert.ensures.updates
