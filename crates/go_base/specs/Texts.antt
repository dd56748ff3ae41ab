-- The bytes of a text, wherever they stand. No public clause cites this module.
-- Own: where a text has its bytes.
use Rattle.std.specs.Prelude.{ℕ, List}
use Rattle.go_base.specs.declared.text.Held.{Held}
use Rattle.go_base.specs.declared.text.Held.TheVariants.{Short, Common}

abbrev pub held_bytes : Held → List ℕ
held_bytes (Short bytes) = bytes
held_bytes (Common v) = v.items
