-- A unit may be sent to another thread and shared with one, since each of its parts may.
use denote.Param.Send.{sendable}
use Rattle.std.specs.Thread.{IsSend, IsSync}
use Rattle.go_base.proofs.list.List.TheSendSync as lists
use Rattle.go_base.proofs.text.Text.TheSendSync as text
use Rattle.go_base.specs.contracts.text.Text as text_row
use Rattle.go_sendable.proofs.Outlines.{outline_field_send, outline_field_sync}
use Rattle.go_units.proofs.unit.UsedImport.TheSendSync as used_import
use Rattle.go_units.specs.contracts.unit.«Unit» as package_unit
use Rattle.go_units.specs.contracts.unit.UnitFile as unit_file
use Rattle.go_units.specs.contracts.unit.UsedImport as import_row

unit_file_send : IsSend unit_file.the_row
unit_file_send =
    let t = text.the_send in
    let o = outline_field_send in
    let i = lists.the_send import_row.the_row used_import.the_send in
    search sendable depth 20

unit_file_sync : IsSync unit_file.the_row
unit_file_sync =
    let t = text.the_sync in
    let o = outline_field_sync in
    let i = lists.the_sync import_row.the_row used_import.the_sync in
    search sendable depth 20

pub unit_send : IsSend package_unit.the_row
unit_send =
    let t = text.the_send in
    let f = lists.the_send unit_file.the_row unit_file_send in
    let n = lists.the_send text_row.the_row text.the_send in
    search sendable depth 20

pub unit_sync : IsSync package_unit.the_row
unit_sync =
    let t = text.the_sync in
    let f = lists.the_sync unit_file.the_row unit_file_sync in
    let n = lists.the_sync text_row.the_row text.the_sync in
    search sendable depth 20
