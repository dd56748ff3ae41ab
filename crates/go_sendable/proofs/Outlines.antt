-- The outline of a file with its bytes may be sent to another thread and shared with one, since each of its parts may.
use denote.Param.Send.{sendable}
use Rattle.std.specs.Thread.{IsSend, IsSync}
use Rattle.go_base.proofs.shared.Shared.TheSendSync as shares
use Rattle.go_base.proofs.text.Text.TheSendSync as text
use Rattle.go_imports.specs.contracts.outline.Outline as outline
use Rattle.go_imports.specs.contracts.outline.Outlined as outlined
use Rattle.go_sendable.proofs.Files.{file_field_send, file_field_sync}

outlined_send : IsSend outlined.the_row
outlined_send =
    let t = text.the_send in
    let f = file_field_send in
    search sendable depth 20

outlined_sync : IsSync outlined.the_row
outlined_sync =
    let t = text.the_sync in
    let f = file_field_sync in
    search sendable depth 20

pub outline_field_send : IsSend (outline.the_field).row
outline_field_send =
    let o = shares.the_send outlined.the_row outlined_send outlined_sync in
    search sendable depth 20

pub outline_field_sync : IsSync (outline.the_field).row
outline_field_sync =
    let o = shares.the_sync outlined.the_row outlined_send outlined_sync in
    search sendable depth 20

pub outline_send : IsSend outline.the_row
outline_send =
    let o = shares.the_send outlined.the_row outlined_send outlined_sync in
    search sendable depth 20
