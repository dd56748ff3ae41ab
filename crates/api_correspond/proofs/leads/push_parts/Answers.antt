use Rattle.std.proofs.Common.{ap, ◌∙◌, map}
use Rattle.go_model.specs.declared.types.term.Term.{out-Term}
use Rattle.api_correspond.specs.inner.Parts.{type_of}
use Rattle.api_correspond.proofs.Leading.{some_parts}
use Rattle.api_correspond.proofs.leads.push_parts.Goals as goal

pub returns : goal.returns
returns c = some_parts c.args.old.now c.args.new.now (out-Term c.args.before.now) (out-Term c.args.after.now) c.args.pairs.now.items c.push_pairs.new.pairs.items (map type_of c.as_slice-before_parts.result.now) (map type_of c.as_slice-after_parts.result.now) (c.types_match.ensures.0 c.if-not-types_match.false) (ap (map type_of) c.as_slice-before_parts.ensures.value ∙ c.in_ok-first.ensures) (ap (map type_of) c.as_slice-after_parts.ensures.value ∙ c.in_ok-second.ensures) c.in_ok-push_pairs.ensures
