-- What is found in a thread may be sent to another one. It is proved of its parts, since a search that goes down through all of them gives up.
use denote.Param.Send.{sendable}
use denote.RattleType.{RattleType}
use Rattle.std.specs.Thread.{IsSend}
use Rattle.go_base.proofs.list.List.TheSendSync as lists
use Rattle.go_base.proofs.text.Text.TheSendSync as text
use Rattle.go_base.specs.contracts.text.Text as text_row
use Rattle.go_model.proofs.Sendable.{world_send}
use Rattle.api_lines.proofs.line.Line.TheSendSync as line
use Rattle.api_lines.specs.contracts.line.Line as line_row
use Rattle.api_worlds.proofs.error.PlatformError.TheSendSync as error
use Rattle.api_findings.specs.contracts.sides.CountedWorld as counted
use Rattle.api_findings.specs.contracts.listed.Listed as listed
use Rattle.api_findings.specs.contracts.sides.ListedWorld as listed_world

listed_send : IsSend (listed.the_field).row
listed_send = let t = lists.the_send text_row.the_row text.the_send in let l = lists.the_send line_row.the_row line.the_send in search sendable depth 20

listed_world_send : IsSend listed_world.the_row
listed_world_send = let w = world_send in let l = listed_send in search sendable depth 20

listed_world_field_send : IsSend (listed_world.the_field).row
listed_world_field_send = let w = world_send in let l = listed_send in search sendable depth 20

pub counted_send : (L : RattleType) → IsSend L → IsSend (counted.the_row L)
counted_send L s = let l = listed_world_send in let f = listed_world_field_send in let e = error.the_send in search sendable depth 20
