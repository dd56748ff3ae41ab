use Rattle.std.proofs.Common.{ℕ, List, [], Ok, Err, get_or, subst}
use Rattle.go_client_files.specs.ClientFiles.{ReadsClient}
use Rattle.go_client_units.proofs.JoinedClients.{read_alike, read_answered, read_few, refused_answered}
use Rattle.go_client_units.specs.inner.Walks.{AreWalked, Refuses}
use Rattle.go_client_files.specs.go_reading.inner.Heads.{IsHeadedReading}
use Rattle.go_units.specs.declared.folder.Folder.{Folder}
use Rattle.go_client_units.proofs.units.client_units.Goals as goal

pub walked-requires-clause-few_files : goal.walked-requires-clause-few_files
walked-requires-clause-few_files c = read_few c.bytes-path.result.now c.items-listed.result.now c.args.platform c.args.client.now c.in-Ok-read_client.list c.requires.client c.in-Ok-read_client.ensures

pub walked-requires-clause-alike : goal.walked-requires-clause-alike
walked-requires-clause-alike c = read_alike c.bytes-path.result.now c.items-listed.result.now c.args.platform c.args.client.now c.in-Ok-read_client.list c.in-Ok-read_client.ensures

pub returns-in-Err-read_client : goal.returns-in-Err-read_client
returns-in-Err-read_client c =
    refused_answered c.args.platform c.args.barred.now c.args.tree.now c.args.std_tree.now c.args.client.now c.in-Ok.field-0.folders c.in-Ok.field-0.contents c.in-Ok.ensures.folders c.in-Ok.ensures.contents c.in-Err-read_client.error c.refused.result
    (subst (λ (w : List ℕ × List Folder). ReadsClient w.0 w.1 c.args.platform c.args.client.now (Err c.in-Err-read_client.error)) (λ i. (c.bytes-path.ensures i, c.items-listed.ensures i)) c.in-Err-read_client.ensures)
    (subst (λ (w : List ℕ × List Folder). Refuses w.0 w.1 (λ n x. IsHeadedReading (get_or c.in-Ok.field-0.contents n []) x) c.in-Err-read_client.error c.refused.result) (λ i. (c.bytes-path.ensures i, c.items-listed.ensures i)) c.refused.ensures)

pub returns : goal.returns
returns c =
    read_answered c.args.platform c.args.barred.now c.args.tree.now c.args.std_tree.now c.args.client.now c.in-Ok.field-0.folders c.in-Ok.field-0.contents c.in-Ok.ensures.folders c.in-Ok.ensures.contents c.in-Ok-read_client.list c.walked.result
    (subst (λ (w : List ℕ × List Folder). ReadsClient w.0 w.1 c.args.platform c.args.client.now (Ok c.in-Ok-read_client.list)) (λ i. (c.bytes-path.ensures i, c.items-listed.ensures i)) c.in-Ok-read_client.ensures)
    (subst (λ (w : List ℕ × List Folder). AreWalked w.0 w.1 (λ n x. IsHeadedReading (get_or c.in-Ok.field-0.contents n []) x) c.in-Ok-read_client.list c.walked.result) (λ i. (c.bytes-path.ensures i, c.items-listed.ensures i)) c.walked.ensures)
