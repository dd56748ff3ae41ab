-- The parts of the forms of types.
use Rattle.std.proofs.Common.{◌≡◌, sym, ap, ◌∙◌}
use Rattle.go_model.specs.declared.types.term.Direction.{Direction}
use Rattle.go_model.specs.declared.types.term.Signature.{Signature}
use Rattle.go_model.specs.declared.types.term.Term.{Term, Term-F, out-Term}
use Rattle.go_model.specs.declared.types.term.Term.TheVariants as term
use Rattle.go_model.specs.declared.types.term.Term.TheVariants.{outs-Slice, outs-Map, outs-Chan}
use Rattle.go_model.specs.types.Terms.{Layer}

module _ (v : Term) (l : Layer) (is : out-Term v ≡ l) where
  pub at_slice : (e : Term) → v ≡ term.Slice e → l ≡ Term-F.Slice e
  at_slice e s = sym is ∙ ap out-Term s ∙ outs-Slice e

  pub at_map : (k e : Term) → v ≡ term.Map k e → l ≡ Term-F.Map k e
  at_map k e s = sym is ∙ ap out-Term s ∙ outs-Map k e

  pub at_chan : (d : Direction) (e : Term) → v ≡ term.Chan d e → l ≡ Term-F.Chan d e
  at_chan d e s = sym is ∙ ap out-Term s ∙ outs-Chan d e

-- ---- equal forms have equal parts

pub same_element : {t u : Term} → ◌≡◌ {A = Layer} (Term-F.Slice t) (Term-F.Slice u) → t ≡ u
same_element e = cc

pub same_function : {g h : Signature} → ◌≡◌ {A = Layer} (Term-F.Func g) (Term-F.Func h) → g ≡ h
same_function e = cc

pub same_key : {k l t u : Term} → ◌≡◌ {A = Layer} (Term-F.Map k t) (Term-F.Map l u) → k ≡ l
same_key e = cc
