-- The ends of paths, as the code holds them.
-- Own: words of the contracts inside this crate.
use Rattle.std.specs.Prelude.{◌≡◌, ◌≤◌, ◌⊎◌, ℕ, Bool, true, false, List, [], ◌∷◌, map, length, Option, Some, None}
use denote.Ref.{Bor}
use Rattle.go_model.specs.declared.types.names.TypeName.{TypeName}
use Rattle.go_model.specs.declared.types.term.Signature.{Signature}
use Rattle.go_model.specs.declared.types.found.Found.{Found}
use Rattle.go_model.specs.declared.types.found.Found.TheVariants as found
use Rattle.go_model.specs.types.Selectors.{Spot, Ending, Target, field, method, bounded_depth}
use Rattle.go_selectors.specs.declared.ending.Ending.{Ending as Held}
use Rattle.go_selectors.specs.declared.ending.Target.{Target as HeldTarget}
use Rattle.go_selectors.specs.declared.ending.Target.TheVariants as held

abbrev pub owner_of : Option (Bor TypeName) → Option TypeName
owner_of None = None
owner_of (Some n) = Some n.now

abbrev pub target_of : HeldTarget → Target
target_of (held.Field t) = field t.now
target_of (held.Method owner pointer g) = method (owner_of owner) pointer g.now

abbrev pub ending_of : Held → Ending
ending_of e = record { through = e.through; target = target_of e.target }

abbrev pub endings_of : List Held → List Ending
endings_of es = map ending_of es

-- what the only path finds, where methods are hidden or not
abbrev pub FindsOne : Ending → Bool → ℕ → Found → Type 0
FindsOne e hidden depth (found.FieldAt f) = (e ≡ record { through = f.through_pointer; target = field f.term }) × (f.depth ≡ bounded_depth depth)
FindsOne e hidden depth (found.MethodAt m) = (e ≡ record { through = m.through_pointer; target = method m.owner m.pointer_receiver m.signature }) × (m.depth ≡ bounded_depth depth) × (hidden ≡ false)
FindsOne e hidden depth found.Ambiguous = ⊥
FindsOne e hidden depth found.Nothing = (through : Bool) × (owner : Option TypeName) × (pointer : Bool) × (g : Signature) × (e ≡ record { through = through; target = method owner pointer g }) × (hidden ≡ true)

-- what a layer tells
abbrev pub LayerFinds : List Ending → List Spot → Bool → ℕ → Option Found → Type 0
LayerFinds es layer hidden depth None = es ≡ []
LayerFinds es layer hidden depth (Some found.Ambiguous) = 2 ≤ length es
LayerFinds es layer hidden depth (Some found.Nothing) = ((es ≡ []) × (layer ≡ [])) ⊎ ((e : Ending) × (es ≡ e ∷ []) × FindsOne e hidden depth found.Nothing)
LayerFinds es layer hidden depth (Some (found.FieldAt f)) = (e : Ending) × (es ≡ e ∷ []) × FindsOne e hidden depth (found.FieldAt f)
LayerFinds es layer hidden depth (Some (found.MethodAt m)) = (e : Ending) × (es ≡ e ∷ []) × FindsOne e hidden depth (found.MethodAt m)
