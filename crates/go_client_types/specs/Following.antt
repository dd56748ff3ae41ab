-- What an operand of the old side is on the new one.
-- Own: a value may become addressable, where a function became a variable, or a field stands behind a pointer.
use Rattle.std.specs.Prelude.{List, Bool, map}
use Rattle.go_base.specs.Lists.{Each}
use Rattle.go_model.specs.declared.constants.value.Value.{Value}
use Rattle.go_model.specs.declared.types.names.Sel.{Sel}
use Rattle.go_model.specs.declared.types.names.TypeName.{TypeName}
use Rattle.go_model.specs.declared.types.package.ConstTerm.{ConstTerm}
use Rattle.go_model.specs.declared.types.term.Term.{Term}
use Rattle.go_rules.specs.Operands.{constant_of, tuple, value_of}
use Rattle.go_rules.specs.declared.operand.Mode.{Mode}
use Rattle.go_rules.specs.declared.operand.Mode.TheVariants as mode
use Rattle.go_rules.specs.declared.operand.Operand.{Operand}
use Rattle.go_rules.specs.declared.operand.Shape.{Shape}
use Rattle.go_rules.specs.declared.operand.Shape.TheVariants as shape
use Rattle.go_type_images.specs.EntryImages.{const_to}
use Rattle.go_type_images.specs.Images.{Naming, image, same_sels}
use Rattle.go_type_images.specs.declared.pair.TypePair.{TypePair}
use Rattle.go_client_types.specs.Reached.{ConstReached, IsReached}

-- a value stays as it is, or becomes addressable
pub data Becomes : Mode → Mode → Type 0 where
  same_mode : {m : Mode} → Becomes m m
  addressable : Becomes mode.Plain mode.Variable

-- a shape without types
abbrev pub IsBare : Shape → Type 0
IsBare (shape.Of t) = ⊥
IsBare (shape.Fixed c v) = ⊥
IsBare (shape.Many ts) = ⊥
IsBare s = Unit {0}

-- what an operand of the old side is on the new one
pub data After (r : Naming) (pairs : List TypePair) (std : TypeName → Bool) (is_open : Sel → Bool) : Operand → Operand → Type 0 where
  after_value : {m k : Mode} {t : Term} → Becomes m k → IsReached pairs std is_open t → After r pairs std is_open (value_of m t) (value_of k (image r same_sels t))
  after_constant : {c : ConstTerm} {v : Value} → ConstReached pairs std is_open c → After r pairs std is_open (constant_of c v) (constant_of (const_to r c) v)
  after_tuple : {ts : List Term} → Each (IsReached pairs std is_open) ts → After r pairs std is_open (tuple ts) (tuple (map (image r same_sels) ts))
  after_bare : {o : Operand} → IsBare o.shape → After r pairs std is_open o o
