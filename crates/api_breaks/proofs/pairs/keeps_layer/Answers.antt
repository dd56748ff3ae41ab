use Rattle.std.proofs.Common.{sym, ◌∙◌, inl}
use mathlib.Core.Bool.{true≢false}
use Rattle.go_model.specs.declared.types.term.Term.{out-Term}
use Rattle.api_correspond.specs.Outermost.{SameOutermost}
use Rattle.api_breaks.specs.inner.Pairs.{same_form}
use Rattle.api_breaks.proofs.PairLosses.{either_told}
use Rattle.api_breaks.proofs.pairs.keeps_layer.Goals as goal

pub returns-then-types_match : goal.returns-then-types_match
returns-then-types_match c = inl (c.types_match.ensures.0 c.if-types_match.true)

pub returns : goal.returns
returns c = either_told (SameOutermost c.args.old.now c.args.new.now (out-Term c.args.before.now) (out-Term c.args.after.now)) (same_form (out-Term c.args.before.now) (out-Term c.args.after.now)) c.have_same_form.result c.have_same_form.ensures (λ m. true≢false (sym (c.types_match.ensures.1 m) ∙ c.if-types_match.false))
