-- The form of a defined type.
use Rattle.std.proofs.Common.{◌≡◌, ◌≢◌, List, [], map, subst, true}
use Rattle.go_base.specs.Lists.{Each}
use Rattle.go_model.specs.declared.types.names.TypeName.{TypeName}
use Rattle.go_model.specs.declared.types.package.Defined.{Defined}
use Rattle.go_model.specs.declared.types.package.MethodOf.{MethodOf}
use Rattle.go_model.specs.declared.types.term.Field.{Field}
use Rattle.go_model.specs.declared.types.term.Term.{Term-F, out-Term}
use Rattle.go_model.specs.types.Members.{AreOrdered, field_sel}
use Rattle.go_model.specs.types.Underlying.{fields_of}
use Rattle.go_model.specs.worlds.Worlds.{bars_methods, declared_sel}
use Rattle.worlds.specs.inner.Admission.{IsShaped}

abbrev Apart : List Field → List MethodOf → Type 0
Apart fs ms = Each (λ m. Each (λ f. (field_sel f).name ≢ m.sel.name) fs) ms

pub shaped : (d : Defined) (ms : List MethodOf) (fs : List Field) → ms ≡ d.methods → fs ≡ fields_of (out-Term d.underlying) → ((n : TypeName) → out-Term d.underlying ≢ Term-F.Named n) → AreOrdered (map declared_sel ms)
    → (bars_methods (out-Term d.underlying) ≡ true → d.methods ≡ []) → Apart fs ms → IsShaped d
shaped d ms fs e f structured ordered bare apart = record {
  structured = structured;
  methods = subst (λ (xs : List MethodOf). AreOrdered (map declared_sel xs)) e ordered;
  bare = bare;
  apart = subst (λ (gs : List Field). Apart gs d.methods) f (subst (Apart fs) e apart);
}
