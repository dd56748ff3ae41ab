use Rattle.std.proofs.Common.{◌≡◌, ◌++◌, drop}
use Rattle.go_type_codes.specs.Codes.{code_of_text}
use Rattle.go_type_codes.proofs.codes.put_text.Given as goal

abbrev pub invariant-loop-byte : goal.invariant-loop-byte
invariant-loop-byte l = l.out.items ++ code_of_text (drop l.byte-index l.bytes) ≡ l.fn.out.items ++ code_of_text l.bytes
