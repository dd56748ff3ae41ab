-- The names by which types are written.
-- Public source: Go specification, "Method declarations". Own: words of contracts.
use Rattle.std.specs.Prelude.{ℕ, List, Option, None, Some}
use denote.Ref.{Bor}
use Rattle.go_declarations.specs.go_typings.Receivers.{NameForm}
use Rattle.go_declared.specs.declared.receivers.WrittenName.{WrittenName}

abbrev pub form_of : Option WrittenName → Option NameForm
form_of None = None
form_of (Some w) = Some (record { pointer = w.pointer; name = w.name.now })

abbrev pub text_of : Option (Bor (List ℕ)) → Option (List ℕ)
text_of None = None
text_of (Some t) = Some t.now
