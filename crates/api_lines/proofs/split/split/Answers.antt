use Rattle.std.proofs.Common.{◌∙◌, subst}
use Rattle.api_lines.specs.inner.Splits.{IsSplitFirst}
use Rattle.api_lines.proofs.Splits.{splitting_as, splitting_both, splitting_first, splitting_none, splitting_second, split_first_all, split_leaving, split_rest, split_second_all, split_shared}
use Rattle.api_lines.proofs.split.split.Goals as goal
use Rattle.api_lines.proofs.split.split.Goals.{in-Both+in_ok-push-in-Both, in-First+in_ok-push-in-First, in-Second+in_ok-push-in-Second}

pub loop-init : goal.loop-init
loop-init c =
    splitting_none c.args.first c.args.second c.from-first.result.items c.from-second.result.items c.in_ok-shared.shared c.new-leaving.result c.new-rest.result (c.from-first.ensures.0 ∙ c.into_vec.ensures) (c.from-second.ensures.0 ∙ c.into_vec-2.ensures) c.in_ok-shared.ensures c.new-leaving.ensures c.new-rest.ensures c.requires.first c.requires.second

pub loop-preserved : goal.loop-preserved
loop-preserved c = elim c.match-branch-3.branch [
  | in-Both+in_ok-push-in-Both w ↦ splitting_as c.args.first c.args.second c.take_first.new.first.items c.take_first.new.second.items w.push.new.self c.loop.leaving c.loop.rest c.match-branch-3.shared c.match-branch-3.leaving c.match-branch-3.rest w.shared-is w.leaving-is w.rest-is
      (splitting_both c.args.first c.args.second c.loop.first.items c.loop.second.items c.loop.shared c.loop.leaving c.loop.rest c.loop.invariant c.take_first.new.first.items c.take_first.new.second.items w.in-Both.line w.push.new.self w.in_ok-push-in-Both.ensures.ok
      (subst (IsSplitFirst c.loop.first.items c.loop.second.items c.take_first.new.first.items c.take_first.new.second.items) w.in-Both.is c.in_ok-take_first.ensures))
  | in-First+in_ok-push-in-First w ↦ splitting_as c.args.first c.args.second c.take_first.new.first.items c.take_first.new.second.items c.loop.shared w.push-in-First.new.self c.loop.rest c.match-branch-3.shared c.match-branch-3.leaving c.match-branch-3.rest w.shared-is w.leaving-is w.rest-is
      (splitting_first c.args.first c.args.second c.loop.first.items c.loop.second.items c.loop.shared c.loop.leaving c.loop.rest c.loop.invariant c.take_first.new.first.items c.take_first.new.second.items w.in-First.line w.push-in-First.new.self w.in_ok-push-in-First.ensures.ok
      (subst (IsSplitFirst c.loop.first.items c.loop.second.items c.take_first.new.first.items c.take_first.new.second.items) w.in-First.is c.in_ok-take_first.ensures))
  | in-Second+in_ok-push-in-Second w ↦ splitting_as c.args.first c.args.second c.take_first.new.first.items c.take_first.new.second.items c.loop.shared c.loop.leaving w.push-in-Second.new.self c.match-branch-3.shared c.match-branch-3.leaving c.match-branch-3.rest w.shared-is w.leaving-is w.rest-is
      (splitting_second c.args.first c.args.second c.loop.first.items c.loop.second.items c.loop.shared c.loop.leaving c.loop.rest c.loop.invariant c.take_first.new.first.items c.take_first.new.second.items w.in-Second.line w.push-in-Second.new.self w.in_ok-push-in-Second.ensures.ok
      (subst (IsSplitFirst c.loop.first.items c.loop.second.items c.take_first.new.first.items c.take_first.new.second.items) w.in-Second.is c.in_ok-take_first.ensures))
]

pub returns-in-Nothing-clause-shared : goal.returns-in-Nothing-clause-shared
returns-in-Nothing-clause-shared c = split_shared c.args.first c.args.second c.loop.first.items c.loop.second.items c.loop.shared c.loop.leaving c.loop.rest c.loop.invariant c.take_first.new.first.items c.take_first.new.second.items (subst (IsSplitFirst c.loop.first.items c.loop.second.items c.take_first.new.first.items c.take_first.new.second.items) c.in-Nothing.is c.in_ok-take_first.ensures)

pub returns-in-Nothing-clause-leaving : goal.returns-in-Nothing-clause-leaving
returns-in-Nothing-clause-leaving c = split_leaving c.args.first c.args.second c.loop.first.items c.loop.second.items c.loop.shared c.loop.leaving c.loop.rest c.loop.invariant c.take_first.new.first.items c.take_first.new.second.items (subst (IsSplitFirst c.loop.first.items c.loop.second.items c.take_first.new.first.items c.take_first.new.second.items) c.in-Nothing.is c.in_ok-take_first.ensures)

pub returns-in-Nothing-clause-rest : goal.returns-in-Nothing-clause-rest
returns-in-Nothing-clause-rest c = split_rest c.args.first c.args.second c.loop.first.items c.loop.second.items c.loop.shared c.loop.leaving c.loop.rest c.loop.invariant c.take_first.new.first.items c.take_first.new.second.items (subst (IsSplitFirst c.loop.first.items c.loop.second.items c.take_first.new.first.items c.take_first.new.second.items) c.in-Nothing.is c.in_ok-take_first.ensures)

pub returns-in-Nothing-clause-first : goal.returns-in-Nothing-clause-first
returns-in-Nothing-clause-first c = split_first_all c.args.first c.args.second c.loop.first.items c.loop.second.items c.loop.shared c.loop.leaving c.loop.rest c.loop.invariant c.take_first.new.first.items c.take_first.new.second.items (subst (IsSplitFirst c.loop.first.items c.loop.second.items c.take_first.new.first.items c.take_first.new.second.items) c.in-Nothing.is c.in_ok-take_first.ensures)

pub returns-in-Nothing-clause-second : goal.returns-in-Nothing-clause-second
returns-in-Nothing-clause-second c = split_second_all c.args.first c.args.second c.loop.first.items c.loop.second.items c.loop.shared c.loop.leaving c.loop.rest c.loop.invariant c.take_first.new.first.items c.take_first.new.second.items (subst (IsSplitFirst c.loop.first.items c.loop.second.items c.take_first.new.first.items c.take_first.new.second.items) c.in-Nothing.is c.in_ok-take_first.ensures)
