use Rattle.std.proofs.Common.{subst, List}
use Rattle.go_base.specs.Growing.{Grows}
use Rattle.go_model.specs.declared.types.term.Term.{out-Term}
use Rattle.go_type_images.specs.declared.pair.TypePair.{TypePair}
use Rattle.api_correspond.specs.inner.Leading.{IsPart}
use Rattle.api_correspond.proofs.Leading.{leads_exact}
use Rattle.api_correspond.proofs.leads.leads.Goals as goal

pub returns : goal.returns
returns c = leads_exact c.args.old.now c.args.new.now c.args.pair.now c.push_parts.new.pairs.items c.push_underneath.new.pairs.items c.push_fields.new.pairs.items c.push_members.new.pairs.items (subst (λ (w : List TypePair). Grows (IsPart c.args.old.now c.args.new.now (out-Term c.args.pair.now.old) (out-Term c.args.pair.now.new)) w c.push_parts.new.pairs.items) c.new-pairs.ensures.items c.in_ok-push_parts.ensures) c.in_ok-push_underneath.ensures c.in_ok-push_fields.ensures c.in_ok-push_members.ensures
