-- What a file gives may cross threads. It is proved of its parts, since a search that goes down through all of an outline gives up.
use denote.Param.Send.{plain_send, recorded_send, sendable}
use Rattle.std.proofs.option.Option.TheSendSync as options
use Rattle.std.specs.Thread.{IsSend}
use Rattle.go_base.proofs.list.List.TheSendSync as lists
use Rattle.go_base.proofs.text.Text.TheSendSync as text
use Rattle.go_read_ahead.specs.contracts.files.ParsedFile as parsed_file
use Rattle.go_sendable.proofs.Outlines.{outline_send}
use Rattle.go_read_ahead.proofs.read_ahead.parsed_files.Goals as goal

ruleset sends = (
  plain_send,
  recorded_send,
  options.the_send,
  options.the_field_send,
  lists.the_send,
  text.the_send,
  outline_send,
)

parsed_send : IsSend parsed_file.the_row
parsed_send = search (sends, sendable) depth 20

pub dynamic_map-parsed-requires-send-T : goal.dynamic_map-parsed-requires-send-T
dynamic_map-parsed-requires-send-T g c κs within = let p = parsed_send in search sendable depth 20
