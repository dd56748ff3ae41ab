use Rattle.api_clients.proofs.OneVetting.{Below, list_or_first, one_first, one_list}
use Rattle.api_clients.proofs.laws.one_vetting.Goals as goal

pub returns-clause-answers : goal.returns-clause-answers
returns-clause-answers c =
    let below : Below = record {
      units = c.one_client_answer.ensures.units;
      units_refusal = c.one_client_answer.ensures.refusal;
      apart = c.one_client_answer.ensures.apart;
      vetted = c.one_answer.ensures;
      world = c.one_world.ensures.world;
      refusal = c.one_world.ensures.refusal;
      world_or = c.one_world.ensures.apart;
    } in
    λ barred tree std_tree client ps a b s t. one_list below barred tree std_tree client ps a b s t

pub returns-clause-refusal : goal.returns-clause-refusal
returns-clause-refusal c =
    let below : Below = record {
      units = c.one_client_answer.ensures.units;
      units_refusal = c.one_client_answer.ensures.refusal;
      apart = c.one_client_answer.ensures.apart;
      vetted = c.one_answer.ensures;
      world = c.one_world.ensures.world;
      refusal = c.one_world.ensures.refusal;
      world_or = c.one_world.ensures.apart;
    } in
    λ barred tree std_tree client ps a b s t. one_first below barred tree std_tree client s t

pub returns-clause-apart : goal.returns-clause-apart
returns-clause-apart c =
    let below : Below = record {
      units = c.one_client_answer.ensures.units;
      units_refusal = c.one_client_answer.ensures.refusal;
      apart = c.one_client_answer.ensures.apart;
      vetted = c.one_answer.ensures;
      world = c.one_world.ensures.world;
      refusal = c.one_world.ensures.refusal;
      world_or = c.one_world.ensures.apart;
    } in
    λ barred tree std_tree client ps a line s t. list_or_first below barred tree std_tree client a s t
