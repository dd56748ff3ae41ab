use Rattle.std.proofs.Common.{◌≤◌, List, length, ap, ◌∙◌, subst, sym}
use Rattle.go_base.specs.Lists.{Has}
use Rattle.go_client_files.proofs.Accepted.{answered, faulty}
use Rattle.go_client_files.proofs.ClientReadings.{faulty_file, parsed_files, small_files}
use Rattle.go_client_files.specs.ClientFiles.{client_files, root_files}
use Rattle.go_client_files.specs.declared.reading.ClientReading.TheVariants as reading
use Rattle.go_client_files.specs.inner.Heads.{IsHeadedReading}
use Rattle.go_model.specs.declared.files.tree.TreeFile.{TreeFile}
use Rattle.go_reading.specs.FilesByName.{by_name}
use Rattle.go_reading.specs.inner.Groups.{lent}
use Rattle.go_reading.specs.declared.heads.HeadedFile.{HeadedFile}
use Rattle.go_reading.specs.inner.Heads.{AreHeads}
use Rattle.go_client_files.proofs.client.read_client.Goals as goal

pub read_files-requires : goal.read_files-requires
read_files-requires c =
    subst (λ (hs : List HeadedFile). (h : HeadedFile) → Has hs h → length h.file.now.bytes ≤ 4194304) (sym c.items-2.ensures)
    (small_files c.args.platform c.args.client.now c.in_ok-headed.headed c.requires.tree
    (subst (λ (fs : List TreeFile). AreHeads c.args.platform fs c.in_ok-headed.headed) (ap lent c.deref-2.ensures.value ∙ c.in_ok-files.ensures ∙ ap by_name (ap lent c.deref.ensures.value ∙ c.in_ok-found.ensures ∙ ap root_files c.items.ensures)) c.in_ok-headed.ensures))

pub returns-in-Refused : goal.returns-in-Refused
returns-in-Refused c =
    faulty c.args.module_path.now c.args.folders.now c.in_ok-own.own c.in_ok-own.ensures c.args.platform c.args.client.now c.in-Refused.file c.in-Refused.fault c.refused.result
    (faulty_file c.args.platform (client_files c.args.client.now) c.in_ok-headed.headed c.in-Refused.file c.in-Refused.fault
    (subst (λ (fs : List TreeFile). AreHeads c.args.platform fs c.in_ok-headed.headed) (ap lent c.deref-2.ensures.value ∙ c.in_ok-files.ensures ∙ ap by_name (ap lent c.deref.ensures.value ∙ c.in_ok-found.ensures ∙ ap root_files c.items.ensures)) c.in_ok-headed.ensures)
    (subst (λ (hs : List HeadedFile). IsHeadedReading hs (reading.Refused c.in-Refused.file c.in-Refused.fault)) c.items-2.ensures (subst (IsHeadedReading c.items-2.result.now) c.in-Refused.is c.in_ok-file.ensures)))
    c.refused.ensures

pub returns : goal.returns
returns c =
    answered c.args.module_path.now c.args.folders.now c.in_ok-own.own c.in_ok-own.ensures c.args.platform c.args.client.now c.in-Files.parsed c.accepted.result
    (parsed_files c.args.platform (client_files c.args.client.now) c.in_ok-headed.headed c.in-Files.parsed
    (subst (λ (fs : List TreeFile). AreHeads c.args.platform fs c.in_ok-headed.headed) (ap lent c.deref-2.ensures.value ∙ c.in_ok-files.ensures ∙ ap by_name (ap lent c.deref.ensures.value ∙ c.in_ok-found.ensures ∙ ap root_files c.items.ensures)) c.in_ok-headed.ensures)
    (subst (λ (hs : List HeadedFile). IsHeadedReading hs (reading.Files c.in-Files.parsed)) c.items-2.ensures (subst (IsHeadedReading c.items-2.result.now) c.in-Files.is c.in_ok-file.ensures)))
    c.accepted.ensures.ok c.accepted.ensures.cause
