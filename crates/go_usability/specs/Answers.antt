-- What calls answer that look for a value of which a fact holds.
-- Own: words of the contracts.
use Rattle.std.specs.Prelude.{◌≡◌, Bool, false, Option, Some, None}
use denote.Ref.{Bor}
use Rattle.go_model.specs.declared.types.found.Found.{Found as Find}
use Rattle.go_model.specs.declared.types.found.Found.TheVariants as find
use Rattle.go_model.specs.declared.types.names.Sel.{Sel}
use Rattle.go_model.specs.declared.types.names.TypeName.{TypeName}
use Rattle.go_model.specs.declared.types.term.Signature.{Signature}
use Rattle.go_model.specs.declared.types.term.Term.{Term}
use Rattle.go_model.specs.types.Selectors.{field, method, is_defined_pointer}
use Rattle.go_rules.specs.Environments.{Env, Found}

-- a value of which the fact holds, where there is one
abbrev pub Gives : {A : Type 0} → (A → Type 0) → Option A → Type 0
Gives P (Some x) = P x
Gives {A} P None = (x : A) → P x → ⊥

-- the type that was borrowed
abbrev pub term_of : Option (Bor Term) → Option Term
term_of None = None
term_of (Some t) = Some t.now

-- neither a field is found, nor a method in a type that isn't defined over a pointer
pub record FindsNone (E : Env) (s : Sel) (t : Term) : Type 0 where
  pub no_field : (through : Bool) (u : Term) → Found E s t (record { through = through; target = field u }) → ⊥
  pub no_method : (through : Bool) (owner : Option TypeName) (pointer : Bool) (g : Signature)
      → Found E s t (record { through = through; target = method owner pointer g }) → is_defined_pointer E.table t ≡ false → ⊥

-- the field that the selector finds in the type and its depth, or the method, where the type isn't defined over a pointer
abbrev pub FindsIn : Env → Sel → Term → Option Find → Type 0
FindsIn E s t (Some (find.FieldAt f)) = (x : Found E s t (record { through = f.through_pointer; target = field f.term })) × (f.depth ≡ x.depth)
FindsIn E s t (Some (find.MethodAt m)) =
    (x : Found E s t (record { through = m.through_pointer; target = method m.owner m.pointer_receiver m.signature })) × (m.depth ≡ x.depth) × (is_defined_pointer E.table t ≡ false)
FindsIn E s t (Some find.Ambiguous) = ⊥
FindsIn E s t (Some find.Nothing) = ⊥
FindsIn E s t None = FindsNone E s t
