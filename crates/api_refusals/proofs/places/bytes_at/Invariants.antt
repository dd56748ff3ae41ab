use Rattle.std.proofs.Common.{◌≡◌, drop}
use Rattle.api_refusals.specs.Places.{bytes_at}
use Rattle.api_refusals.proofs.places.bytes_at.Given as goal

abbrev pub invariant-loop-file : goal.invariant-loop-file
invariant-loop-file l = bytes_at (drop l.file-index l.files) l.path ≡ bytes_at l.files l.path
