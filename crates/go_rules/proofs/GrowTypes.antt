-- Among more entries a type is the same underneath, and a selector finds the same in it.
use Rattle.std.proofs.Common.{◌≡◌, ℕ, zero, suc, ◌≤◌, Bool, true, false, List, [], ◌∷◌, ◌++◌, Option, Some, None, refl, sym, ap, ◌∙◌, subst, inl, inr, arith}
use Rattle.std.specs.Prelude.{map, if◌then◌else◌}
use Rattle.go_syntax.specs.go_base.Gathered.{gather}
use Rattle.go_syntax.specs.go_base.Lists.{Has}
use Rattle.go_model.specs.declared.types.names.Sel.{Sel}
use Rattle.go_model.specs.declared.types.names.TypeName.{TypeName}
use Rattle.go_model.specs.declared.types.package.Defined.{Defined}
use Rattle.go_model.specs.declared.types.package.MethodOf.{MethodOf}
use Rattle.go_model.specs.declared.types.term.Signature.{Signature}
use Rattle.go_model.specs.declared.types.term.Term.{Term, Term-F, out-Term}
use Rattle.go_model.specs.types.Selectors.{Spot, Ending, method, declared_ending, endings, ends, field_ending, is_defined_layer, is_defined_pointer, method_ending, name_of, start, start_layer, start_named, start_pointer, step, steps}
use Rattle.go_model.specs.types.Terms.{Layer, same_sel}
use Rattle.go_model.specs.types.Underlying.{declared_methods, entry, fields_of, methods_of, methods_of_entry, under, under_entry, under_layer}
use Rattle.go_rules.specs.Environments.{Begins, BeginsLayer, Entered, EnteredLayer, Env, Found, HasMethod, Told, ToldLayer, ToldTo}
use Rattle.go_rules.specs.Growth.{Grows, methods_named}
use Rattle.go_rules.proofs.OneKind.{no_truth}

-- the second environment at the place and with the sizes of the first
abbrev pub joined : Env → Env → Env
joined E F = record { meaning = F.meaning; object = F.object; table = F.table; missing = F.missing; path = E.path; bits = E.bits; profile = F.profile; iota = E.iota }

pub joined_is : (E F : Env) → Grows E F → joined E F ≡ F
joined_is E F m = λ i. record { meaning = F.meaning; object = F.object; table = F.table; missing = F.missing; path = m.path i; bits = m.bits i; profile = F.profile; iota = m.iota i }

-- a level that is no name
abbrev pub is_form : Layer → Bool
is_form (Term-F.Named n) = false
is_form l = true

form_layer : (E : Env) (k l : Layer) → is_form l ≡ true → under_layer E.table k ≡ l → EnteredLayer E k
form_layer E (Term-F.Named n) l h e = by (entry E.table n) refl
  where
    by : (c : Option Defined) → entry E.table n ≡ c → (d : Defined) × (entry E.table n ≡ Some d)
    by (Some d) q = (d, q)
    by None q = absurd (no_truth (sym h ∙ ap is_form (sym e) ∙ ap (λ c. is_form (under_entry n c)) q))
form_layer E k l h e = tt

-- what is underneath is no name only where there is an entry
pub form_entered : (E : Env) (t : Term) (l : Layer) → is_form l ≡ true → under E.table t ≡ l → Entered E t
form_entered E t l h e = form_layer E (out-Term t) l h e

declared_by : (owner : Option TypeName) (through : Bool) (m : MethodOf) → Ending
declared_by owner through m = record { through = through; target = method owner m.pointer m.signature }

declared_one : (owner : Option TypeName) (through : Bool) (m : MethodOf) (b : Bool) (xs : List Ending) (ms : List MethodOf) → xs ≡ map (declared_by owner through) ms → (if b then record { through = through; target = method owner m.pointer m.signature } ∷ [] else []) ++ xs ≡ map (declared_by owner through) ((if b then m ∷ [] else []) ++ ms)
unfolding declared_by
declared_one owner through m true xs ms e = ap (λ ys. record { through = through; target = method owner m.pointer m.signature } ∷ ys) e
declared_one owner through m false xs ms e = e

declared_named : (owner : Option TypeName) (s : Sel) (through : Bool) (ms : List MethodOf) → gather (declared_ending owner s through) ms ≡ map (declared_by owner through) (methods_named s ms)
declared_named owner s through [] = refl
declared_named owner s through (m ∷ ms) = declared_one owner through m (same_sel m.sel s) (gather (declared_ending owner s through) ms) (methods_named s ms) (declared_named owner s through ms)

gather_same : {A B : Type 0} (f g : A → List B) (xs : List A) → ((x : A) → Has xs x → f x ≡ g x) → gather f xs ≡ gather g xs
gather_same f g [] h = refl
gather_same f g (x ∷ xs) h = let p = h x (inl refl) in let q = gather_same f g xs (λ y i. h y (inr i)) in λ i. p i ++ q i

module _ (E F : Env) (m : Grows E F) where
  abbrev G : Env
  G = joined E F

  under_layer_more : (k : Layer) → EnteredLayer E k → under_layer E.table k ≡ under_layer F.table k
  under_layer_more (Term-F.Named n) (d, e) = let g = m.table n d e in ap (under_entry n) e ∙ ap out-Term g.underlying ∙ sym (ap (under_entry n) g.stored)
  under_layer_more k h = refl

  pub under_more : (t : Term) → Entered E t → under E.table t ≡ under F.table t
  under_more t h = under_layer_more (out-Term t) h

  -- a form stays what is underneath
  pub form_more : (t : Term) (l : Layer) → is_form l ≡ true → under E.table t ≡ l → under F.table t ≡ l
  form_more t l h e = sym (under_more t (form_entered E t l h e)) ∙ e

  entered_layer : (k : Layer) → EnteredLayer E k → EnteredLayer F k
  entered_layer (Term-F.Named n) (d, e) = let g = m.table n d e in (g.grown, g.stored)
  entered_layer k h = tt

  pub entered_more : (t : Term) → Entered E t → Entered G t
  entered_more t h = entered_layer (out-Term t) h

  told_entered_layer : (s : Sel) (k : Layer) → ToldLayer E s k → EnteredLayer E k
  told_entered_layer s (Term-F.Named n) (d, e, f) = (d, e)
  told_entered_layer s k h = tt

  told_entered : (s : Sel) (t : Term) → Told E s t → Entered E t
  told_entered s t h = told_entered_layer s (out-Term t) h

  told_layer : (s : Sel) (k : Layer) → ToldLayer E s k → ToldLayer G s k
  told_layer s (Term-F.Named n) (d, e, f) = let g = m.table n d e in (g.grown, g.stored, g.told s f)
  told_layer s k h = tt

  told_more : (s : Sel) (t : Term) → Told E s t → Told G s t
  told_more s t h = told_layer s (out-Term t) h

  methods_layer : (s : Sel) (through : Bool) (k : Layer) → ToldLayer E s k → gather (declared_ending (name_of k) s through) (declared_methods E.table k) ≡ gather (declared_ending (name_of k) s through) (declared_methods F.table k)
  methods_layer s through (Term-F.Named n) (d, e, f) =
      let g = m.table n d e in let of = λ (c : Option Defined). gather (declared_ending (Some n) s through) (methods_of_entry c) in
      ap of e ∙ declared_named (Some n) s through d.methods ∙ ap (map (declared_by (Some n) through)) (g.methods s f) ∙ sym (declared_named (Some n) s through g.grown.methods) ∙ sym (ap of g.stored)
  methods_layer s through k h = refl

  steps_more : (at : Spot) → Entered E at.term → steps E.table at ≡ steps F.table at
  steps_more at h = ap (λ l. gather (step at.through) (fields_of l)) (under_more at.term h)

  endings_more : (s : Sel) (at : Spot) → Told E s at.term → endings E.table s at ≡ endings F.table s at
  endings_more s at h =
      let u = under_more at.term (told_entered s at.term h) in let d = methods_layer s at.through (out-Term at.term) h in
      λ i. gather (field_ending s at.through) (fields_of (u i)) ++ d i ++ gather (method_ending s at.through) (methods_of (u i))

  told_top : (s : Sel) (n : ℕ) (at : Spot) → ToldTo E s n at → Told E s at.term
  told_top s zero at h = h
  told_top s (suc n) at h = h.0

  -- each depth that is told has the same ends
  ends_more : (s : Sel) (n : ℕ) (at : Spot) → ToldTo E s n at → (k : ℕ) → k ≤ n → ends E.table s k at ≡ ends F.table s k at
  unfolding ends
  ends_more s n at h zero l = endings_more s at (told_top s n at h)
  ends_more s zero at h (suc k) l = absurd (omega (arith, l))
  ends_more s (suc n) at h (suc k) l =
      gather_same (ends E.table s k) (ends F.table s k) (steps E.table at) (λ x i. ends_more s n x (h.1 x i) k (omega (arith, l)))
      ∙ ap (gather (ends F.table s k)) (steps_more at (told_entered s at.term h.0))

  told_to_more : (s : Sel) (n : ℕ) (at : Spot) → ToldTo E s n at → ToldTo G s n at
  told_to_more s zero at h = told_more s at.term h
  told_to_more s (suc n) at h = (told_more s at.term h.0, λ x i. told_to_more s n x (h.1 x (subst (λ xs. Has xs x) (sym (steps_more at (told_entered s at.term h.0))) i)))

  start_layer_more : (t : Term) (k : Layer) → BeginsLayer E t k → start_layer E.table t k ≡ start_layer F.table t k
  start_layer_more t (Term-F.Pointer base) h = ap (start_pointer t base) (under_more base h)
  start_layer_more t (Term-F.Named n) h = ap (start_named t) (under_more t h)
  start_layer_more t k h = refl

  start_more : (t : Term) → Begins E t → start E.table t ≡ start F.table t
  start_more t h = start_layer_more t (out-Term t) h

  begins_layer : (t : Term) (k : Layer) → BeginsLayer E t k → BeginsLayer G t k
  begins_layer t (Term-F.Pointer base) h = entered_more base h
  begins_layer t k h = entered_more t h

  begins_more : (t : Term) → Begins E t → Begins G t
  begins_more t h = begins_layer t (out-Term t) h

  defined_layer : (t : Term) (k : Layer) → BeginsLayer E t k → is_defined_layer k (under E.table t) ≡ is_defined_layer k (under F.table t)
  defined_layer t (Term-F.Named n) h = ap (is_defined_layer (Term-F.Named n)) (under_more t h)
  defined_layer t k h = refl

  defined_more : (t : Term) → Begins E t → is_defined_pointer E.table t ≡ is_defined_pointer F.table t
  defined_more t h = defined_layer t (out-Term t) h

  pub found_more : {s : Sel} {t : Term} {e : Ending} → Found E s t e → Found G s t e
  found_more {s = s} {t = t} {e = e} f =
      let p = start_more t f.begins in
      let same : (k : ℕ) → k ≤ f.depth → ends E.table s k (start E.table t) ≡ ends F.table s k (start F.table t)
      = λ k l. ends_more s f.depth (start E.table t) f.told k l ∙ ap (ends F.table s k) p in
      record {
        depth = f.depth;
        only = record { none = λ k l. sym (same k (omega (arith, l))) ∙ f.only.none k l; only = sym (same f.depth (omega arith)) ∙ f.only.only };
        begins = begins_more t f.begins;
        told = subst (ToldTo G s f.depth) p (told_to_more s f.depth (start E.table t) f.told);
      }

  pub method_more : {a : Bool} {t : Term} {s : Sel} {g : Signature} → HasMethod E a t s g → HasMethod G a t s g
  method_more {t = t} h = record { through = h.through; owner = h.owner; pointer = h.pointer; found = found_more h.found; counts = sym (defined_more t h.found.begins) ∙ h.counts; reaches = h.reaches }
