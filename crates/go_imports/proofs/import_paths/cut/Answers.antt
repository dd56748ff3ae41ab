use Rattle.std.proofs.Common.{arith}
use Rattle.go_imports.proofs.Paths.{parts_whole, parts_at}
use Rattle.go_imports.proofs.import_paths.cut.Goals as goal

pub returns-then-length-path-clause-none : goal.returns-then-length-path-clause-none
returns-then-length-path-clause-none c = parts_whole 47 c.args.path.now (omega (arith, c.length_before_slash-length.ensures.length, c.if-length-path.true))

pub returns-clause-some : goal.returns-clause-some
returns-clause-some c = parts_at 47 c.args.path.now c.split_at.result.0.now c.split_at-2.result.1.now c.length_before_slash-length.result
    c.length_before_slash-length.ensures.length c.length_before_slash-length.ensures.within c.if-length-path.false c.split_at.ensures.front c.split_at-2.ensures.back
