use Rattle.std.proofs.Common.{inl, inr}
use Rattle.api_outcomes.proofs.WorldsOn.{Below, world_ends}
use Rattle.api_outcomes.proofs.laws.world_or_fault_line.Goals as goal
use Rattle.go_existence.proofs.DoubleNegation.{so}

pub returns : goal.returns
returns c = λ barred tree std_tree s p bars is named std.
    let below : Below = record {
      units = c.units_or_refusal.ensures;
      paths = λ q barred tree std_tree units a b some k u h. (let w = c.unit_paths.ensures q barred tree std_tree units a b some k u h in record { pathed = w.0; foreign = w.1 });
      worlds = c.world_or_refusal.ensures;
      skips = c.skips_exist.ensures;
    } in
    so (world_ends below barred tree std_tree (record { is = is; named = named; bars = bars }) std p) (λ k. elim k [ inl w ↦ inl w | inr r ↦ inr (r s) ])
