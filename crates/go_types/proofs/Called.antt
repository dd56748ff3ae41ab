-- The method that a search finds is the one in the method set.
use Rattle.std.proofs.Common.{◌≡◌, Bool, true, false, inl, inr, List, sym, ap, ◌∙◌, subst}
use mathlib.Core.Bool.{true≢false}
use Rattle.go_model.specs.types.Tables.{Table}
use Rattle.go_model.specs.declared.types.names.Sel.{Sel}
use Rattle.go_model.specs.declared.types.term.Term.{Term}
use Rattle.go_model.specs.declared.types.term.Signature.{Signature}
use Rattle.go_model.specs.declared.types.found.Found.{Found}
use Rattle.go_model.specs.declared.types.found.Found.TheVariants as found
use Rattle.go_model.specs.declared.types.found.MethodFound.{MethodFound}
use Rattle.go_model.specs.types.Selectors.{Ending, field, method, start, IsOnly, Finds}
use Rattle.go_model.specs.types.MethodSets.{Reaches, InSet, HasMethods}
use Rattle.go_model.specs.declared.types.term.Method.{Method, out-Method}
use Rattle.go_selectors.specs.Candidates.{Candidates, HoldMethodSet, AreCandidates}
use Rattle.go_selectors.specs.Answers.{Decides}
use Rattle.go_selectors.proofs.UniqueFind.{same_ending, no_many, one_some}
use Rattle.go_types.specs.Answers.{IsCalled}

module _ (T : Table) (s : Sel) (t : Term) where
  called_by : (m : MethodFound) (g : Signature) → Finds T s t (found.MethodAt m) → InSet T t s g → IsCalled g (found.MethodAt m)
  called_by m g f i = by_target (same_ending T s (start T t) f.0 i.depth _ _ f.1 i.only)
    where
      by_target : ◌≡◌ {A = Ending} (record { through = m.through_pointer; target = method m.owner m.pointer_receiver m.signature }) (record { through = i.through; target = method i.owner i.pointer g }) → IsCalled g (found.MethodAt m)
      by_target e = let h : method m.owner m.pointer_receiver m.signature ≡ method i.owner i.pointer g = ap (λ (x : Ending). x.target) e in
          (cc, subst (λ (p : Bool). Reaches p m.through_pointer) (let k : i.pointer ≡ m.pointer_receiver = cc in k) (subst (Reaches i.pointer) (ap (λ (x : Ending). x.through) (sym e)) i.reaches))

  called_of : (r : Found) (g : Signature) → Finds T s t r → InSet T t s g → IsCalled g r
  called_of (found.FieldAt f) g (d, o, is) i = absurd (no_field (ap (λ (x : Ending). x.target) (same_ending T s (start T t) d i.depth _ _ o i.only)))
    where
      no_field : field f.term ≡ method i.owner i.pointer g → ⊥
      no_field e = absurd (cc)
  called_of (found.MethodAt m) g f i = called_by m g f i
  called_of found.Ambiguous g f i = no_many T s (start T t) i.depth f.0 _ i.only f.1 f.2
  called_of found.Nothing g (inl f) i = one_some _ _ (f i.depth) i.only.only
  called_of found.Nothing g (inr f) i = true≢false (sym f.6 ∙ i.counts)

  set_of : (r : Found) (g : Signature) → Finds T s t r → IsCalled g r → InSet T t s g
  set_of (found.MethodAt m) g f c = record { depth = f.0; through = m.through_pointer; owner = m.owner; pointer = m.pointer_receiver; only = subst (λ (h : Signature). IsOnly T s (start T t) f.0 (record { through = m.through_pointer; target = method m.owner m.pointer_receiver h })) c.0 f.1; counts = f.3; reaches = c.1 }
  set_of (found.FieldAt f) g h c = absurd c
  set_of found.Ambiguous g h c = absurd c
  set_of found.Nothing g h c = absurd c

  pub decided : (r : Found) (g : Signature) (b : Bool) → Finds T s t r → Decides b (IsCalled g r) → Decides b (InSet T t s g)
  decided r g true f d = set_of r g f d
  decided r g false f d = λ i. d (called_of r g f i)

-- whether the candidates hold these methods
pub set_decided : (T : Table) (t : Term) (candidates : Candidates) (ms : List Method) (b : Bool) → HoldMethodSet T t candidates → Decides b (AreCandidates candidates ms) → Decides b (HasMethods T t ms)
set_decided T t candidates ms true holds d = λ m h. (holds (out-Method m).sel (out-Method m).signature).0 (d m h)
set_decided T t candidates ms false holds d = λ all. d (λ m h. (holds (out-Method m).sel (out-Method m).signature).1 (all m h))
