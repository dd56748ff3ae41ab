-- What holds of one of the items of a list.
-- Own: words of the contracts inside this crate.
use Rattle.std.specs.Prelude.{List}
use Rattle.go_base.specs.Lists.{Has}

-- the fact holds of the value and one of the items
abbrev pub OfSome : {A B : Type 0} → (B → A → Type 0) → List B → A → Type 0
OfSome {A} {B} P xs y = (x : B) × Has xs x × P x y
