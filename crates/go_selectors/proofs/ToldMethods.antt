-- The ends of paths in the declared methods of a selector.
use Rattle.std.proofs.Common.{◌≡◌, Bool, true, false, List, [], ◌∷◌, ◌++◌, map, refl, sym, ap, ◌∙◌, Option, append-nil, if◌then◌else◌}
use Rattle.go_base.specs.Gathered.{gather}
use Rattle.go_model.specs.declared.types.names.Sel.{Sel}
use Rattle.go_model.specs.declared.types.names.TypeName.{TypeName}
use Rattle.go_model.specs.declared.types.package.MethodOf.{MethodOf}
use Rattle.go_model.specs.types.DeclaredMethods.{with_sel}
use Rattle.go_model.specs.types.Selectors.{Ending, declared_ending, method}
use Rattle.go_model.specs.types.Terms.{same_sel}

module _ (owner : Option TypeName) (s : Sel) (through : Bool) where
  abbrev ending : MethodOf → Ending
  ending m = record { through = through; target = method owner m.pointer m.signature }

  step : (m : MethodOf) (ms : List MethodOf) (b : Bool) → gather (declared_ending owner s through) ms ≡ map ending (with_sel s ms)
      → (if b then ending m ∷ [] else []) ++ gather (declared_ending owner s through) ms ≡ map ending ((if b then m ∷ [] else []) ++ with_sel s ms)
  step m ms true h = ap (λ w. ending m ∷ w) h
  step m ms false h = h

  told : (ms : List MethodOf) → gather (declared_ending owner s through) ms ≡ map ending (with_sel s ms)
  told [] = refl
  told (m ∷ ms) = step m ms (same_sel m.sel s) (told ms)

  pub told_none : (ms : List MethodOf) (found : List Ending) → with_sel s ms ≡ [] → found ≡ found ++ gather (declared_ending owner s through) ms
  told_none ms found h = sym (ap (λ w. found ++ w) (told ms ∙ ap (map ending) h) ∙ append-nil found)

  pub told_once : (ms : List MethodOf) (m : MethodOf) → with_sel s ms ≡ m ∷ [] → gather (declared_ending owner s through) ms ≡ record { through = through; target = method owner m.pointer m.signature } ∷ []
  told_once ms m h = told ms ∙ ap (map ending) h
