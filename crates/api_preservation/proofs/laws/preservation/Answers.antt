use Rattle.go_model.specs.files.Platforms.{bits_of}
use Rattle.api_preservation.proofs.Preserved.{client_kept}
use Rattle.api_preservation.proofs.laws.preservation.Goals as goal

pub returns : goal.returns
returns c = λ p barred old_tree new_tree std_tree client old new pairs trees before after holds compatible typed.
    client_kept p (bits_of p) barred (c.one_reading.ensures p) (c.package_of_outlines.ensures p) c.clients_of_units.ensures old_tree new_tree std_tree client trees before.0 after.0 before.1 after.1 old new before.2 after.2 pairs holds compatible typed
