use Rattle.std.proofs.Common.{length}
use Rattle.std.proofs.lemmas.Result.{IfOk-weaker}
use Rattle.go_declarations.specs.Listings.{declarations_of}
use Rattle.go_graphs.specs.Flags.{AreFlagsOf}
use Rattle.go_met.proofs.MetFlags.{met_flags}
use Rattle.go_met.specs.inner.MetAsks.{AreMetThere}
use Rattle.go_soundness.specs.LostDeclarations.{MeetsAsks}
use Rattle.go_typings.specs.Declarations.{declarations}
use Rattle.go_met.proofs.met.met.Goals as goal

pub returns-clause-met : goal.returns-clause-met
returns-clause-met c = λ s u a listed named pathed is.
    let ds = declarations_of c.args.tables.now.declarations.now in
    IfOk-weaker c.are_met.result (λ flags. AreMetThere c.args.env.now c.args.package_name.now ds flags.items) (λ flags. AreFlagsOf (length (declarations u)) (MeetsAsks s u a) flags.items)
    (λ flags there. met_flags s u a c.args.env.now c.args.package_name.now ds flags.items listed named is there (λ d n f. c.same_answers.ensures.asks s u a c.args.env.now d n f is pathed)) c.are_met.ensures.met
