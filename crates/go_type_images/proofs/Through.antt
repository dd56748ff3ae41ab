-- The way to where a search begins counts in what it finds: with a pointer on it, the ends are the same but for the pointer.
use Rattle.std.proofs.Common.{◌≡◌, ℕ, zero, suc, Bool, true, false, ◌||◌, List, [], ◌∷◌, ◌++◌, map, refl, sym, ap, ◌∙◌, None}
use Rattle.std.specs.Prelude.{if◌then◌else◌}
use Rattle.go_base.specs.Gathered.{gather}
use Rattle.go_model.specs.declared.types.names.Sel.{Sel}
use Rattle.go_model.specs.declared.types.package.MethodOf.{MethodOf}
use Rattle.go_model.specs.declared.types.term.Field.{Field, out-Field}
use Rattle.go_model.specs.declared.types.term.Method.{Method, out-Method}
use Rattle.go_model.specs.declared.types.term.Term.{Term, out-Term}
use Rattle.go_model.specs.types.Selectors.{Ending, IsOnly, Spot, Target, base_of, declared_ending, ends, field, field_ending, is_pointer, method, method_ending, name_of, step, steps}
use Rattle.go_model.specs.types.Tables.{Table}
use Rattle.go_model.specs.types.Terms.{same_sel}
use Rattle.go_model.specs.types.Underlying.{declared_methods, fields_of, methods_of, under}
use Rattle.go_type_images.specs.SpotImages.{at_spot}
use Rattle.go_type_images.proofs.ImageParts.{map_append}

abbrev pub behind : Bool → Ending → Ending
behind b e = record { through = b || e.through; target = e.target }

abbrev spot_behind : Bool → Spot → Spot
spot_behind b x = record { through = b || x.through; term = x.term }

abbrev ends_as : Target → Bool → Ending
ends_as g b = record { through = b; target = g }

or_none : (b : Bool) → (b || false) ≡ b
or_none true = refl
or_none false = refl

or_three : (a b c : Bool) → ((a || b) || c) ≡ (a || (b || c))
or_three true b c = refl
or_three false b c = refl

one_or_none : (c b : Bool) (g : Target) → (if c then ends_as g b ∷ [] else []) ≡ map (behind b) (if c then ends_as g false ∷ [] else [])
one_or_none true b g = ap (λ x. ends_as g x ∷ []) (sym (or_none b))
one_or_none false b g = refl

gathered : {A B : Type 0} (f g : A → List B) (h : B → B) (xs : List A) → ((x : A) → f x ≡ map h (g x)) → gather f xs ≡ map h (gather g xs)
gathered f g h [] e = refl
gathered f g h (x ∷ xs) e = (λ i. e x i ++ gathered f g h xs e i) ∙ sym (map_append h (g x) (gather g xs))

three : (h : Ending → Ending) (a b c p q r : List Ending) → a ≡ map h p → b ≡ map h q → c ≡ map h r → (a ++ b) ++ c ≡ map h ((p ++ q) ++ r)
three h a b c p q r d e f = (λ i. (d i ++ e i) ++ f i) ∙ ap (λ w. w ++ map h r) (sym (map_append h p q)) ∙ sym (map_append h (p ++ q) r)

one_mapped : {A B : Type 0} (f : A → B) (xs : List A) (y : B) → map f xs ≡ y ∷ [] → (x : A) × (xs ≡ x ∷ []) × (f x ≡ y)
one_mapped f [] y e = absurd (cc)
one_mapped f (x ∷ []) y e = (x, refl, cc)
one_mapped f (x ∷ z ∷ xs) y e = absurd (cc)

none_mapped : {A B : Type 0} (f : A → B) (xs : List A) → map f xs ≡ [] → xs ≡ []
none_mapped f [] e = refl
none_mapped f (x ∷ xs) e = absurd (cc)

module _ (T : Table) (s : Sel) where
  here : (b : Bool) (t : Term) → ends T s 0 (at_spot b t) ≡ map (behind b) (ends T s 0 (at_spot false t))
  unfolding ends
  here b t =
      three (behind b)
      (gather (field_ending s b) (fields_of (under T t))) (gather (declared_ending (name_of (out-Term t)) s b) (declared_methods T (out-Term t))) (gather (method_ending s b) (methods_of (under T t)))
      (gather (field_ending s false) (fields_of (under T t))) (gather (declared_ending (name_of (out-Term t)) s false) (declared_methods T (out-Term t))) (gather (method_ending s false) (methods_of (under T t)))
      (gathered (field_ending s b) (field_ending s false) (behind b) (fields_of (under T t)) (λ (f : Field). one_or_none (same_sel (out-Field f).sel s) b (field (out-Field f).term)))
      (gathered (declared_ending (name_of (out-Term t)) s b) (declared_ending (name_of (out-Term t)) s false) (behind b) (declared_methods T (out-Term t)) (λ (m : MethodOf). one_or_none (same_sel m.sel s) b (method (name_of (out-Term t)) m.pointer m.signature)))
      (gathered (method_ending s b) (method_ending s false) (behind b) (methods_of (under T t)) (λ (m : Method). one_or_none (same_sel (out-Method m).sel s) b (method None false (out-Method m).signature)))

  one_step : (b : Bool) (f : Field) → step b f ≡ map (spot_behind b) (step false f)
  one_step b f = by (out-Field f).embedded
    where
      by : (c : Bool) → (if c then at_spot (b || is_pointer (out-Field f).term) (base_of (out-Field f).term) ∷ [] else []) ≡ map (spot_behind b) (if c then at_spot (false || is_pointer (out-Field f).term) (base_of (out-Field f).term) ∷ [] else [])
      by true = refl
      by false = refl

  all_steps : (b : Bool) (t : Term) → steps T (at_spot b t) ≡ map (spot_behind b) (steps T (at_spot false t))
  all_steps b t = by (fields_of (under T t))
    where
      by : (fs : List Field) → gather (step b) fs ≡ map (spot_behind b) (gather (step false) fs)
      by [] = refl
      by (f ∷ fs) = (λ i. one_step b f i ++ by fs i) ∙ sym (map_append (spot_behind b) (step false f) (gather (step false) fs))

  twice : (a b : Bool) (es : List Ending) → map (behind (a || b)) es ≡ map (behind a) (map (behind b) es)
  twice a b [] = refl
  twice a b (e ∷ es) = λ i. ends_as e.target (or_three a b e.through i) ∷ twice a b es i

  over : (k : ℕ) (b : Bool) → ((c : Bool) (u : Term) → ends T s k (at_spot c u) ≡ map (behind c) (ends T s k (at_spot false u))) → (xs : List Spot) → gather (ends T s k) (map (spot_behind b) xs) ≡ map (behind b) (gather (ends T s k) xs)
  over k b h [] = refl
  over k b h (x ∷ xs) =
      (λ i. (h (b || x.through) x.term ∙ twice b x.through (ends T s k (at_spot false x.term)) ∙ ap (map (behind b)) (sym (h x.through x.term))) i ++ over k b h xs i)
      ∙ sym (map_append (behind b) (ends T s k x) (gather (ends T s k) xs))

  -- with a pointer on the way, or none, the ends are the same but for the pointer
  pub ends_behind : (k : ℕ) (b : Bool) (t : Term) → ends T s k (at_spot b t) ≡ map (behind b) (ends T s k (at_spot false t))
  unfolding ends
  ends_behind zero b t = here b t
  ends_behind (suc k) b t = ap (gather (ends T s k)) (all_steps b t) ∙ over k b (λ c u. ends_behind k c u) (steps T (at_spot false t))

  -- what is found without a pointer on the way is found with one, through it
  pub only_behind : (b : Bool) (t : Term) (d : ℕ) (e : Ending) → IsOnly T s (at_spot false t) d e → IsOnly T s (at_spot b t) d (behind b e)
  only_behind b t d e o = record { none = λ k l. ends_behind k b t ∙ ap (map (behind b)) (o.none k l); only = ends_behind d b t ∙ ap (map (behind b)) o.only }

  -- and what is found with one is found without
  pub only_before : (b : Bool) (t : Term) (d : ℕ) (e : Ending) → IsOnly T s (at_spot b t) d e → (f : Ending) × IsOnly T s (at_spot false t) d f × (behind b f ≡ e)
  only_before b t d e o =
      let g = one_mapped (behind b) (ends T s d (at_spot false t)) e (sym (ends_behind d b t) ∙ o.only) in
      (g.0, record { none = λ k l. none_mapped (behind b) (ends T s k (at_spot false t)) (sym (ends_behind k b t) ∙ o.none k l); only = g.1 }, g.2)
