use Rattle.std.proofs.Common.{◌∙◌, ap}
use Rattle.go_model.specs.types.Underlying.{under, fields_of, methods_of, declared_methods}
use Rattle.go_model.specs.declared.types.term.Term.{Term, out-Term}
use Rattle.go_selectors.proofs.Noting.{notes_spot}
use Rattle.go_selectors.proofs.candidates.note_spot.Goals as goal

pub returns-clause-notes : goal.returns-clause-notes
returns-clause-notes g c = notes_spot (g.T.TypeTable.lookup c.args.types.now.table.now) c.args.spot.now c.args.depth c.args.candidates.now c.note_fields.new.candidates c.note_declared.new.candidates c.note_methods.new.candidates c.members-members.result.fields.now c.members-members.result.declared.now c.members-members.result.methods.now c.through.result
    (c.members-members.ensures.fields ∙ ap (λ (x : Term). fields_of (under (g.T.TypeTable.lookup c.args.types.now.table.now) x)) c.term.ensures)
    (c.members-members.ensures.declared ∙ ap (λ (x : Term). declared_methods (g.T.TypeTable.lookup c.args.types.now.table.now) (out-Term x)) c.term.ensures)
    (c.members-members.ensures.methods ∙ ap (λ (x : Term). methods_of (under (g.T.TypeTable.lookup c.args.types.now.table.now) x)) c.term.ensures)
    c.through.ensures c.in_ok-note_fields.ensures c.in_ok-note_declared.ensures c.in_ok-note_methods.ensures
