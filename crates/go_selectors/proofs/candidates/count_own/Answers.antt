use Rattle.std.proofs.Common.{◌∙◌, sym, ap, ◌++◌}
use Rattle.go_base.specs.Gathered.{gather}
use Rattle.go_model.specs.types.Selectors.{Spot, step}
use Rattle.go_model.specs.types.Underlying.{under, fields_of, methods_of, declared_methods}
use Rattle.go_model.specs.declared.types.term.Term.{Term, out-Term}
use Rattle.go_selectors.proofs.OwnMethods.{own_set}
use Rattle.go_selectors.proofs.candidates.count_own.Goals as goal

pub returns-then-is_done : goal.returns-then-is_done
returns-then-is_done g c =
    let T = g.T.TypeTable.lookup c.args.types.now.table.now in
    let at = c.term.ensures ∙ ap (λ (s : Spot). s.term) c.start-start.ensures in
    own_set T c.args.term.now c.through-through.result c.members-members.result.fields.now c.members-members.result.declared.now c.members-members.result.methods.now
    (c.members-members.ensures.fields ∙ ap (λ (x : Term). fields_of (under T x)) at)
    (c.members-members.ensures.declared ∙ ap (λ (x : Term). declared_methods T (out-Term x)) at)
    (c.members-members.ensures.methods ∙ ap (λ (x : Term). methods_of (under T x)) at)
    (c.through-through.ensures ∙ ap (λ (s : Spot). s.through) c.start-start.ensures)
    c.in_ok-own.own
    (sym (c.in_ok-push_steps.ensures ∙ ap (λ w. w ++ gather (step c.through-through.result) c.members-members.result.fields.now) c.new-further.ensures.items) ∙ c.is_done.ensures c.if-is_done.true)
    c.in_ok-own.ensures
