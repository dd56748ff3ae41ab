-- Types with the same interface underneath implement each other.
use Rattle.std.proofs.Common.{◌≡◌, Bool, true, false, inl, inr, List, [], ◌∷◌, ◌++◌, map, refl, sym, ap, ◌∙◌, subst, arith, None, if◌then◌else◌}
use Rattle.go_selectors.specs.go_base.Lists.{Has, Once}
use Rattle.go_selectors.specs.go_base.Gathered.{gather}
use Rattle.go_model.specs.types.Tables.{Table}
use Rattle.go_model.specs.types.Terms.{Layer, same_sel}
use Rattle.go_model.specs.types.Underlying.{under, under_layer, fields_of, methods_of, declared_methods}
use Rattle.go_model.specs.types.Selectors.{Ending, method, name_of, field_ending, declared_ending, method_ending, endings, ends, start, start_layer, start_named, is_defined_pointer, is_defined_layer}
use Rattle.go_model.specs.types.MethodSets.{InSet, Implements, method_sel}
use Rattle.go_model.specs.declared.types.names.Sel.{Sel}
use Rattle.go_model.specs.declared.types.term.Term.{Term, Term-F, out-Term}
use Rattle.go_model.specs.declared.types.term.Method.{Method, out-Method}
use Rattle.go_selectors.proofs.Noting.{sel_is, sel_self}

abbrev method_end : Method → Ending
method_end m = record { through = false; target = method None false (out-Method m).signature }

-- no method of the list has the selector
none_named : (ms : List Method) (s : Sel) → (Has (map method_sel ms) s → ⊥) → gather (method_ending s false) ms ≡ []
none_named [] s n = refl
none_named (m ∷ ms) s n = by (none_named ms s (λ h. n (inr h))) (same_sel (method_sel m) s) refl
  where
    by : gather (method_ending s false) ms ≡ [] → (b : Bool) → same_sel (method_sel m) s ≡ b → gather (method_ending s false) (m ∷ ms) ≡ []
    by f true e = absurd (n (inl (sel_is (method_sel m) s e)))
    by f false e = ap (λ b. (if b then method_end m ∷ [] else []) ++ gather (method_ending s false) ms) e ∙ f

-- exactly one has it
one_named : (ms : List Method) (m : Method) → Once (map method_sel ms) → Has ms m → gather (method_ending (method_sel m) false) ms ≡ method_end m ∷ []
one_named [] m o h = absurd h
one_named (x ∷ ms) m o (inl e) =
    ap (λ b. (if b then method_end x ∷ [] else []) ++ gather (method_ending (method_sel m) false) ms) (subst (λ (w : Method). same_sel (method_sel x) (method_sel w) ≡ true) e (sel_self (method_sel x)))
    ∙ ap (λ w. method_end x ∷ w) (none_named ms (method_sel m) (subst (λ (w : Method). Has (map method_sel ms) (method_sel w) → ⊥) e o.0))
    ∙ ap (λ w. method_end w ∷ []) e
one_named (x ∷ ms) m o (inr h) =
    ap (λ b. (if b then method_end x ∷ [] else []) ++ gather (method_ending (method_sel m) false) ms) (other (same_sel (method_sel x) (method_sel m)) refl)
    ∙ one_named ms m o.1 h
  where
    stands : (xs : List Method) → Has xs m → Has (map method_sel xs) (method_sel m)
    stands [] k = absurd k
    stands (y ∷ xs) (inl e) = inl (ap method_sel e)
    stands (y ∷ xs) (inr k) = inr (stands xs k)

    other : (b : Bool) → same_sel (method_sel x) (method_sel m) ≡ b → same_sel (method_sel x) (method_sel m) ≡ false
    other true e = absurd (o.0 (subst (Has (map method_sel ms)) (sym (sel_is (method_sel x) (method_sel m) e)) (stands ms h)))
    other false e = e

module _ (T : Table) (t : Term) (ms : List Method) (e : under T t ≡ Term-F.Interface ms) where
  -- the search begins at the type itself
  start_self : start T t ≡ record { through = false; term = t }
  start_self = by (out-Term t) refl
    where
      no_pointer : (b : Term) → under_layer T (Term-F.Pointer b) ≡ Term-F.Interface ms → ⊥
      no_pointer b k = absurd (cc)

      by : (l : Layer) → out-Term t ≡ l → start_layer T t l ≡ record { through = false; term = t }
      by (Term-F.Plain b) i = refl
      by (Term-F.Named n) i = ap (start_named t) e
      by (Term-F.Pointer b) i = absurd (no_pointer b (sym (ap (under_layer T) i) ∙ e))
      by (Term-F.Slice b) i = refl
      by (Term-F.Array k b) i = refl
      by (Term-F.Map k b) i = refl
      by (Term-F.Chan d b) i = refl
      by (Term-F.Func g) i = refl
      by (Term-F.Struct fs) i = refl
      by (Term-F.Interface xs) i = refl

  not_defined : is_defined_pointer T t ≡ false
  not_defined = ap (is_defined_layer (out-Term t)) e ∙ by (out-Term t)
    where
      by : (l : Layer) → is_defined_layer l (Term-F.Interface ms) ≡ false
      by (Term-F.Plain b) = refl
      by (Term-F.Named n) = refl
      by (Term-F.Pointer b) = refl
      by (Term-F.Slice b) = refl
      by (Term-F.Array k b) = refl
      by (Term-F.Map k b) = refl
      by (Term-F.Chan d b) = refl
      by (Term-F.Func g) = refl
      by (Term-F.Struct fs) = refl
      by (Term-F.Interface xs) = refl

  module _ (bare : declared_methods T (out-Term t) ≡ []) (once : Once (map method_sel ms)) where
    at_once : (m : Method) → Has ms m → ends T (method_sel m) 0 (start T t) ≡ method_end m ∷ []
    unfolding ends
    at_once m h =
        ap (endings T (method_sel m)) start_self
        ∙ ap (λ l. gather (field_ending (method_sel m) false) (fields_of l) ++ gather (declared_ending (name_of (out-Term t)) (method_sel m) false) (declared_methods T (out-Term t)) ++ gather (method_ending (method_sel m) false) (methods_of l)) e
        ∙ ap (λ w. gather (declared_ending (name_of (out-Term t)) (method_sel m) false) w ++ gather (method_ending (method_sel m) false) ms) bare
        ∙ one_named ms m once h

    has_all : (m : Method) → Has ms m → InSet T t (method_sel m) (out-Method m).signature
    has_all m h = record { depth = 0; through = false; owner = None; pointer = false; only = record { none = λ k l. absurd (omega arith); only = at_once m h }; counts = not_defined; reaches = inl refl }

pub same_implement : (T : Table) (t i : Term) (ms : List Method) → under T t ≡ Term-F.Interface ms → under T i ≡ Term-F.Interface ms → Once (map method_sel ms) → declared_methods T (out-Term t) ≡ [] → Implements T t i
same_implement T t i ms e f once bare = (ms, f, λ m h. has_all T t ms e bare once m h)
