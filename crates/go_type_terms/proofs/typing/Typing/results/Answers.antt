use Rattle.std.proofs.Common.{Some}
use Rattle.go_type_terms.specs.Answers.{env_in}
use Rattle.go_type_terms.proofs.Parameters.{by_results}
use Rattle.go_type_terms.proofs.typing.Typing.results.Goals as goal

pub returns-in-Some : goal.returns-in-Some
returns-in-Some g c = by_results (env_in c.args.self.now.context.now) c.args.written.now (Some c.in-Some.given) c.written_result.result c.in-Some.is c.written_result.ensures
