use Rattle.api_outcomes.proofs.ClientAnswers.{ClientsBelow}
use Rattle.api_outcomes.proofs.RunOutcomes.{run_ends}
use Rattle.api_outcomes.proofs.WorldsOn.{Below}
use Rattle.api_outcomes.proofs.laws.outcome_exists.Goals as goal

pub returns : goal.returns
returns c = λ words m.
    let below : Below = record {
      units = c.units_or_refusal.ensures;
      paths = λ q barred tree std_tree units a b some k u h. (let w = c.unit_paths.ensures q barred tree std_tree units a b some k u h in record { pathed = w.0; foreign = w.1 });
      worlds = c.world_or_refusal.ensures;
      skips = c.skips_exist.ensures;
    } in
    let clients : ClientsBelow = record {
      units = c.client_units_or_refusal.ensures;
      paths = λ q barred tree std_tree client r a b some k u h. (let w = c.client_unit_paths.ensures q barred tree std_tree client r a b some k u h in record { pathed = w.0; foreign = w.1 });
      worlds = c.world_or_refusal.ensures;
      made = c.worlds_of_units.ensures.offered;
      vetted = c.vetted_exists.ensures;
    } in
    run_ends below clients c.verdict_exists.ensures words m
