-- What ranges give, by what is underneath a type.
use Rattle.std.specs.Prelude.{◌≡◌, true, List, [], ◌∷◌}
use Rattle.go_model.specs.declared.constants.value.Basic.TheVariants as basic
use Rattle.go_model.specs.declared.types.term.Term.{Term, Term-F}
use Rattle.go_model.specs.types.Terms.{Layer}
use Rattle.go_model.specs.types.Underlying.{under}
use Rattle.go_rules.specs.Environments.{Env}
use Rattle.go_rules.specs.Expressions.{receives}
use Rattle.go_rules.specs.Operands.{IsTyped, basic_term}
use Rattle.go_rules.specs.declared.operand.Operand.{Operand}

-- a range over an array gives these types
abbrev pub RangesArray : Layer → List Term → Type 0
RangesArray (Term-F.Array n e) ts = ts ≡ basic_term basic.Int ∷ e ∷ []
RangesArray l ts = ⊥

-- the same of an array, a pointer to one, a slice, a map or a channel
abbrev pub RangesLevel : Env → Layer → List Term → Type 0
RangesLevel E (Term-F.Array n e) ts = ts ≡ basic_term basic.Int ∷ e ∷ []
RangesLevel E (Term-F.Pointer base) ts = RangesArray (under E.table base) ts
RangesLevel E (Term-F.Slice e) ts = ts ≡ basic_term basic.Int ∷ e ∷ []
RangesLevel E (Term-F.Map k e) ts = ts ≡ k ∷ e ∷ []
RangesLevel E (Term-F.Chan d e) ts = (receives d ≡ true) × (ts ≡ e ∷ [])
RangesLevel E l ts = ⊥

-- the same of a value
abbrev pub RangesValue : Env → Operand → List Term → Type 0
RangesValue E o ts = (t : Term) × IsTyped o t × RangesLevel E (under E.table t) ts
