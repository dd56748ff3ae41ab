use Rattle.api_frozen.proofs.ReadLines.{few_lines}
use Rattle.api_frozen.proofs.file.read_frozen.Goals as goal

pub read_lines-requires : goal.read_lines-requires
read_lines-requires c = few_lines c.args.bytes.now c.in-Ok.text.now c.in-Ok-lines_of.lines.items c.deref.result.now c.requires c.in-Ok.ensures.cases.0 c.in-Ok-lines_of.ensures c.deref.ensures.value
