-- What is underneath a type, where the code has seen its form.
use Rattle.std.proofs.Common.{◌≡◌, ℕ, List, sym, ap, ◌∙◌}
use Rattle.go_model.specs.types.Tables.{Table}
use Rattle.go_model.specs.declared.types.term.Term.{Term, Term-F, out-Term}
use Rattle.go_model.specs.declared.types.term.Term.TheVariants as t
use Rattle.go_model.specs.declared.types.term.Term.TheVariants.{outs-Slice, outs-Map, outs-Func, outs-Array, outs-Struct}
use Rattle.go_model.specs.declared.types.term.Field.{Field}
use Rattle.go_model.specs.declared.types.term.Signature.{Signature}
use Rattle.go_model.specs.types.Underlying.{under}

module _ (T : Table) (u v : Term) (is : out-Term v ≡ under T u) where
  pub under_slice : (e : Term) → v ≡ t.Slice e → under T u ≡ Term-F.Slice e
  under_slice e s = sym is ∙ ap out-Term s ∙ outs-Slice e

  pub under_map : (k e : Term) → v ≡ t.Map k e → under T u ≡ Term-F.Map k e
  under_map k e s = sym is ∙ ap out-Term s ∙ outs-Map k e

  pub under_func : (g : Signature) → v ≡ t.Func g → under T u ≡ Term-F.Func g
  under_func g s = sym is ∙ ap out-Term s ∙ outs-Func g

  pub under_array : (n : ℕ) (e : Term) → v ≡ t.Array n e → under T u ≡ Term-F.Array n e
  under_array n e s = sym is ∙ ap out-Term s ∙ outs-Array n e

  pub under_struct : (fs : List Field) → v ≡ t.Struct fs → under T u ≡ Term-F.Struct fs
  under_struct fs s = sym is ∙ ap out-Term s ∙ outs-Struct fs
