use Rattle.std.proofs.Common.{sym, ◌∙◌}
use Rattle.go_declarations.specs.Listings.{declarations_of}
use Rattle.go_declared.proofs.SameBases.{base_none, same_base}
use Rattle.go_declared.proofs.last_base.base_in_turn.Goals as goal

pub returns-in-None-clause-base : goal.returns-in-None-clause-base
returns-in-None-clause-base c = sym (base_none (declarations_of c.args.declarations.now) c.args.receiver.now (sym c.in-None.ensures))

pub returns-else-is_last-clause-last : goal.returns-else-is_last-clause-last
returns-else-is_last-clause-last c = λ r text e f. c.base-found.ensures ∙ same_base (declarations_of c.args.declarations.now) c.args.receiver.now r text (sym c.in-Some.ensures ∙ e) f
