-- The exit statuses.
-- Own: this project's exit statuses.
use Rattle.std.specs.Prelude.{ℕ}
use Rattle.api_gate.specs.declared.status.Status.{Status}
use Rattle.api_gate.specs.declared.status.Status.TheVariants as status

-- the exit status of the program
abbrev pub code_of : Status → ℕ
code_of status.Pass = 0
code_of status.Broken = 1
code_of status.Words = 2
code_of status.Refused = 3
code_of status.ReadFault = 4
code_of status.WriteFault = 5
code_of status.NoMemory = 6
