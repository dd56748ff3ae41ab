use Rattle.api_worlds.proofs.OneWorld.{same_left_out, same_refusal, same_world, world_or_refusal}
use Rattle.api_worlds.proofs.laws.one_world_on.Goals as goal

pub returns-clause-world : goal.returns-clause-world
returns-clause-world c = λ barred tree std_tree p v w h k. same_world c.one_answer.ensures.units c.one_answer.ensures.refusal c.one_answer.ensures.apart c.one_world.ensures.world c.one_world.ensures.refusal c.one_world.ensures.apart barred tree std_tree p v w h k

pub returns-clause-refusal : goal.returns-clause-refusal
returns-clause-refusal c = λ barred tree std_tree s p a b h k. same_refusal c.one_answer.ensures.units c.one_answer.ensures.refusal c.one_answer.ensures.apart c.one_world.ensures.world c.one_world.ensures.refusal c.one_world.ensures.apart barred tree std_tree p s a b h k

pub returns-clause-apart : goal.returns-clause-apart
returns-clause-apart c = λ barred tree std_tree s p w line h k. world_or_refusal c.one_answer.ensures.units c.one_answer.ensures.refusal c.one_answer.ensures.apart c.one_world.ensures.world c.one_world.ensures.refusal c.one_world.ensures.apart barred tree std_tree p s w line h k

pub returns-clause-left_out : goal.returns-clause-left_out
returns-clause-left_out c = λ barred tree std_tree p a b h k. same_left_out c.one_answer.ensures.units c.one_skipped.ensures.packages barred tree std_tree p a b h k
