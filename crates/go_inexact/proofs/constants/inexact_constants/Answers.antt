use Rattle.std.proofs.Common.{length, subst, sym}
use Rattle.std.proofs.lemmas.Result.{IfOk-weaker}
use Rattle.go_declarations.specs.Listings.{declarations_of}
use Rattle.go_exposed.specs.Causes.{IsToldInexact}
use Rattle.go_graphs.specs.Flags.{AreFlagsOf, is_flagged}
use Rattle.go_inexact.proofs.Told.{as_many, told_flags}
use Rattle.go_inexact.specs.inner.NoneLost.{IsInexactThere}
use Rattle.go_typings.specs.Declarations.{declarations}
use Rattle.go_inexact.proofs.constants.inexact_constants.Goals as goal

pub returns-clause-flags : goal.returns-clause-flags
returns-clause-flags c = λ s u a listed named is are.
    let xs = c.args.declarations.now in
    let ds = declarations_of xs in
    let there = IsInexactThere c.args.env.now ds c.args.depends.now c.args.lost.now in
    IfOk-weaker c.flags_there.result (λ flags. AreFlagsOf (length xs) there flags.items) (λ flags. AreFlagsOf (length (declarations u)) (IsToldInexact s u a (is_flagged c.args.lost.now)) flags.items)
    (λ flags f. told_flags s u a c.args.env.now c.args.depends.now c.args.lost.now ds listed are
    (λ d. c.same_environment.ensures.grows s u a c.args.env.now d is named) (λ d. c.same_environment.ensures.back s u a c.args.env.now d is named) flags.items
    (subst (λ n. AreFlagsOf n there flags.items) (sym (as_many xs)) f)) c.flags_there.ensures.flags
