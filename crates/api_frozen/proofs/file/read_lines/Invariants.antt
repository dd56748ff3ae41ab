use Rattle.std.proofs.Common.{take, map}
use Rattle.api_frozen.specs.FrozenFiles.{AreFrozen}
use Rattle.api_frozen.proofs.file.read_lines.Given as goal

abbrev pub invariant-loop-i : goal.invariant-loop-i
invariant-loop-i l = AreFrozen (take l.i (map (λ line. line.now) l.lines)) l.texts
