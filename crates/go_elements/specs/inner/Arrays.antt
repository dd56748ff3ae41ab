-- The lengths of arrays, by what is underneath a type.
use Rattle.std.specs.Prelude.{◌≡◌, ℕ}
use Rattle.go_model.specs.declared.types.term.Term.{Term-F}
use Rattle.go_model.specs.types.Terms.{Layer}
use Rattle.go_model.specs.types.Underlying.{under}
use Rattle.go_rules.specs.Environments.{Env}

-- an array type of this length
abbrev pub BaseLength : Layer → ℕ → Type 0
BaseLength (Term-F.Array n e) m = m ≡ n
BaseLength l m = ⊥

-- an array type of this length, or a pointer to one
abbrev pub LengthAt : Env → Layer → ℕ → Type 0
LengthAt E (Term-F.Array n e) m = m ≡ n
LengthAt E (Term-F.Pointer base) m = BaseLength (under E.table base) m
LengthAt E l m = ⊥
