use Rattle.std.proofs.Common.{subst, sym, ◌∙◌}
use Rattle.api_inputs.specs.FrozenInputs.{AreLines}
use Rattle.api_inputs.proofs.FrozenLists.{error_in_files, lines_in_files, never_fell, read_all}
use Rattle.api_inputs.proofs.frozen.read_files.Goals as goal

pub returns-in-Err-clause-answer : goal.returns-in-Err-clause-answer
returns-in-Err-clause-answer g c =
    error_in_files _ _ c.loop-path.invariant.same c.args.paths.now c.loop-path.path-index c.path-item.result _ _ _ _ _ _ c.in-Err.error c.input_error.result c.bytes.ensures c.bytes-in-Err.ensures
    c.loop-path-test.true c.path-item.is c.loop-path.invariant.read c.loop-path.invariant.count c.in-Err.ensures.answer c.input_error.ensures

pub loop-path-preserved : goal.loop-path-preserved
loop-path-preserved g c = record {
  same = c.read_file.ensures.same ∙ c.loop-path.invariant.same;
  count = never_fell _ _ _ c.loop-path.invariant.count c.read_file.ensures.count;
  read =
      lines_in_files _ _ c.loop-path.invariant.same c.args.paths.now c.loop-path.path-index c.path-item.result _ _ c.in-Ok.lines _ c.bytes.ensures c.loop-path-test.true c.path-item.is c.in-Ok-append.ensures
      c.in-Ok.ensures.answer c.loop-path.invariant.read;
}

pub returns-clause-answer : goal.returns-clause-answer
returns-clause-answer g c = subst (AreLines _ c.args.paths.now) (sym c.from_vec.ensures) (read_all _ c.args.paths.now c.loop-path.path-index _ c.loop-path-test.false c.loop-path.invariant.read)
