use Rattle.std.proofs.lemmas.Result.{IfOk-weaker}
use Rattle.go_client_files.proofs.ClientReadings.{first_refused}
use Rattle.go_client_files.specs.inner.Heads.{GivesHeaded, IsRefusalOf, IsHeadedReading}
use Rattle.go_imports.proofs.Files.{has_item}
use Rattle.go_units.proofs.Giving.{gives_first, gives_more}
use Rattle.go_client_files.proofs.reading.read_files.Goals as goal

pub loop-file-init : goal.loop-file-init
loop-file-init c = gives_first GivesHeaded c.args.files.now c.new-parsed.result c.new-parsed.ensures

pub read_file-requires : goal.read_file-requires
read_file-requires c = c.requires c.file-item.result (has_item c.args.files.now c.loop-file.file-index c.file-item.result c.loop-file-test.true c.file-item.is)

pub returns-in-Err : goal.returns-in-Err
returns-in-Err c =
    IfOk-weaker c.refusal.result (IsRefusalOf c.file-item.result) (IsHeadedReading c.args.files.now)
    (λ x k. first_refused c.args.files.now c.loop-file.file-index c.file-item.result c.loop-file.parsed x c.loop-file-test.true c.file-item.is c.loop-file.invariant k) c.refusal.ensures

pub loop-file-preserved : goal.loop-file-preserved
loop-file-preserved c =
    gives_more GivesHeaded c.args.files.now c.loop-file.file-index c.file-item.result c.in-Ok.given c.loop-file.parsed c.add.new.files c.loop-file-test.true c.file-item.is c.in-Ok.ensures.ok c.in_ok-add-in-Ok.ensures c.loop-file.invariant
