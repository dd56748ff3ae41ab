-- The candidates of a type without embedded fields: its own methods, but those whose selectors its fields have.
use Rattle.std.proofs.Common.{◌≡◌, ◌<◌, ◌+◌, ℕ, zero, suc, Bool, true, false, List, [], ◌∷◌, ◌++◌, length, take, get_or, refl, sym, ap, ◌∙◌, append_assoc, arith, Option, Some, None, if◌then◌else◌, nat_eq, append-nil}
use Rattle.go_base.specs.Gathered.{gather}
use Rattle.go_model.specs.types.Tables.{Table}
use Rattle.go_model.specs.types.Terms.{same_sel}
use Rattle.go_model.specs.types.Underlying.{under, fields_of, methods_of, declared_methods}
use Rattle.go_model.specs.types.Selectors.{Spot, Ending, field, name_of, field_ending, declared_ending, method_ending, step, steps, endings, ends, start, is_defined_pointer}
use Rattle.go_model.specs.types.MethodSets.{InSet}
use Rattle.go_model.specs.declared.types.names.Sel.{Sel}
use Rattle.go_model.specs.declared.types.names.TypeName.{TypeName}
use Rattle.go_model.specs.declared.types.package.MethodOf.{MethodOf}
use Rattle.go_model.specs.declared.types.term.Term.{Term, out-Term}
use Rattle.go_model.specs.declared.types.term.Field.{Field, out-Field}
use Rattle.go_model.specs.declared.types.term.Method.{Method}
use Rattle.go_model.specs.declared.types.term.Signature.{Signature}
use Rattle.go_selectors.specs.Candidates.{Candidate, Candidates, candidate_at, called_of, called_at, called_target, all_noted, unhidden, Removes, Hides, Notes, HoldOwnMethods, HoldMethodSet}
use Rattle.go_selectors.proofs.Counting.{sole, two_noted, one_some, called_alone, alone, called_so}
use Rattle.go_selectors.proofs.Layers.{reach_none}
use Rattle.go_selectors.proofs.Lists.{gather-append, taken_next}
use Rattle.go_selectors.proofs.Noting.{notes_more, no_candidate}

unhidden_append : (xs ys : List Ending) (o : Option Candidate) → unhidden (xs ++ ys) o ≡ unhidden ys (unhidden xs o)
unhidden_append [] ys o = refl
unhidden_append (x ∷ xs) [] o = refl
unhidden_append (x ∷ xs) (y ∷ ys) o = refl

hidden_one : (b : Bool) (e : Ending) (o : Option Candidate) → (if b then None else o) ≡ unhidden (if b then e ∷ [] else []) o
hidden_one true e o = refl
hidden_one false e o = refl

pub hides_one : (old new : Candidates) (k : Sel) (e : Ending) → Removes old new k → Hides old new (λ s. if same_sel k s then e ∷ [] else [])
hides_one old new k e n s = n s ∙ hidden_one (same_sel k s) e (candidate_at old s)

pub hides_next : {A : Type 0} (f : Sel → A → List Ending) (xs : List A) (i : ℕ) (x : A) (a b c : Candidates) → i < length xs → x ≡ get_or xs i x → Hides a b (λ s. gather (f s) (take i xs)) → Hides b c (λ s. f s x) → Hides a c (λ s. gather (f s) (take (i + 1) xs))
hides_next f xs i x a b c h e m n s =
    n s ∙ ap (unhidden (f s x)) (m s) ∙ sym (unhidden_append (gather (f s) (take i xs)) (f s x) (candidate_at a s))
    ∙ ap (λ w. unhidden w (candidate_at a s)) (sym (ap (gather (f s)) (taken_next xs i x h e) ∙ gather-append (f s) (take i xs) (x ∷ []) ∙ ap (λ w. gather (f s) (take i xs) ++ w) (append-nil (f s x))))

-- what is noted of the methods, and hidden by the fields
pub own_held : (through : Bool) (fields : List Field) (declared : List MethodOf) (methods : List Method) (a b c d : Candidates) → a.entries ≡ [] → ((o : Option TypeName) → Notes 0 a b (λ s. gather (declared_ending o s through) declared)) → ((t : Bool) → Notes 0 b c (λ s. gather (method_ending s t) methods)) → ((t : Bool) → Hides c d (λ s. gather (field_ending s t) fields)) → HoldOwnMethods through fields declared methods d
own_held through fields declared methods a b c d empty m n h owner s =
    h through s ∙ ap (unhidden (gather (field_ending s through) fields))
    (notes_more 0 a b c (λ q. gather (declared_ending owner q through) declared) (λ q. gather (method_ending q through) methods) (m owner) (n through) s ∙ ap (all_noted 0 (gather (declared_ending owner s through) declared ++ gather (method_ending s through) methods)) (no_candidate a s empty))

noted_sole : (es : List Ending) → called_of (all_noted 0 es None) ≡ sole es
noted_sole [] = refl
noted_sole (e ∷ []) = refl
noted_sole (e ∷ (f ∷ es)) = ap called_of (two_noted 0 (called_target e.through e.target) es (nat_eq 0 0) refl)

-- no path ends in a method first
abbrev NoMethod : List Ending → Type 0
NoMethod [] = Unit {0}
NoMethod (e ∷ es) = called_target e.through e.target ≡ None

no_method : (s : Sel) (through : Bool) (fs : List Field) → NoMethod (gather (field_ending s through) fs)
no_method s through [] = tt
no_method s through (f ∷ fs) = by (same_sel (out-Field f).sel s) (no_method s through fs)
  where
    by : (b : Bool) → NoMethod (gather (field_ending s through) fs) → NoMethod ((if b then record { through = through; target = field (out-Field f).term } ∷ [] else []) ++ gather (field_ending s through) fs)
    by true h = refl
    by false h = h

hidden_sole : (fs es : List Ending) → NoMethod fs → called_of (unhidden fs (all_noted 0 es None)) ≡ sole (fs ++ es)
hidden_sole [] es h = noted_sole es
hidden_sole (f ∷ []) [] h = sym h
hidden_sole (f ∷ []) (e ∷ es) h = refl
hidden_sole (f ∷ (g ∷ fs)) es h = refl

deeper : (T : Table) (s : Sel) (d : ℕ) (at : Spot) → steps T at ≡ [] → ends T s (suc d) at ≡ []
unfolding ends
deeper T s d at e = ap (gather (ends T s d)) e

module _ (T : Table) (t : Term) (none : steps T (start T t) ≡ []) (counts : is_defined_pointer T t ≡ false) (s : Sel) (g : Signature) where
  sound : sole (endings T s (start T t)) ≡ Some g → InSet T t s g
  sound h =
      let a = alone T t (endings T s (start T t)) g h in
      let c = called_alone T t a.0 g a.2 in
      record { depth = 0; through = a.0.through; owner = c.0; pointer = c.1; only = record { none = λ k l. absurd (omega arith); only = reach_none T s (start T t) ∙ a.1 ∙ ap (λ w. record { through = a.0.through; target = w } ∷ []) c.2 }; counts = counts; reaches = c.3 }

  complete : (i : InSet T t s g) → sole (endings T s (start T t)) ≡ Some g
  complete i = by i.depth refl
    where
      by : (d : ℕ) → i.depth ≡ d → sole (endings T s (start T t)) ≡ Some g
      by zero e = ap sole (sym (reach_none T s (start T t)) ∙ sym (ap (λ n. ends T s n (start T t)) e) ∙ i.only.only) ∙ called_so T t i.pointer i.through g i.reaches
      by (suc d) e = absurd (one_some _ _ i.only.only (ap (λ n. ends T s n (start T t)) e ∙ deeper T s d (start T t) none))

module _ (T : Table) (t : Term) (through : Bool) (fields : List Field) (declared : List MethodOf) (methods : List Method) (e : fields ≡ fields_of (under T (start T t).term)) (f : declared ≡ declared_methods T (out-Term (start T t).term)) (h : methods ≡ methods_of (under T (start T t).term)) (way : through ≡ (start T t).through) where
  abbrev owner : Option TypeName
  owner = name_of (out-Term (start T t).term)

  ends_here : (s : Sel) → gather (field_ending s through) fields ++ gather (declared_ending owner s through) declared ++ gather (method_ending s through) methods ≡ endings T s (start T t)
  ends_here s =
      ap (λ w. gather (field_ending s through) w ++ gather (declared_ending owner s through) declared ++ gather (method_ending s through) methods) e
      ∙ ap (λ w. gather (field_ending s through) (fields_of (under T (start T t).term)) ++ gather (declared_ending owner s through) w ++ gather (method_ending s through) methods) f
      ∙ ap (λ w. gather (field_ending s through) (fields_of (under T (start T t).term)) ++ gather (declared_ending owner s through) (declared_methods T (out-Term (start T t).term)) ++ gather (method_ending s through) w) h
      ∙ ap (λ b. gather (field_ending s b) (fields_of (under T (start T t).term)) ++ gather (declared_ending owner s b) (declared_methods T (out-Term (start T t).term)) ++ gather (method_ending s b) (methods_of (under T (start T t).term))) way

  no_steps : gather (step through) fields ≡ [] → steps T (start T t) ≡ []
  no_steps n = sym (ap (gather (step through)) e ∙ ap (λ b. gather (step b) (fields_of (under T (start T t).term))) way) ∙ n

  -- they hold the method set, where no field is embedded
  pub own_set : (m : Candidates) → gather (step through) fields ≡ [] → HoldOwnMethods through fields declared methods m → is_defined_pointer T t ≡ false → HoldMethodSet T t m
  own_set m n held counts s g = (λ i. sound T t (no_steps n) counts s g (sym same ∙ i), λ i. same ∙ complete T t (no_steps n) counts s g i)
    where
      same : called_at m s ≡ sole (endings T s (start T t))
      same = ap called_of (held owner s)
          ∙ hidden_sole (gather (field_ending s through) fields) (gather (declared_ending owner s through) declared ++ gather (method_ending s through) methods) (no_method s through fields)
          ∙ ap sole (sym (append_assoc (gather (field_ending s through) fields) (gather (declared_ending owner s through) declared) (gather (method_ending s through) methods)) ∙ ends_here s)
