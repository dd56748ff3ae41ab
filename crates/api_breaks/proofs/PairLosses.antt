-- What the types of a pair lose, rule by rule.
use Rattle.std.proofs.Common.{◌≡◌, ◌⊎◌, inl, inr, ℕ, Bool, true, false, List, [], ◌∷◌, ◌++◌, map, refl, sym, ap, ◌∙◌, subst}
use mathlib.Core.Bool.{true≢false}
use Rattle.std.specs.Prelude.{◌&&◌, not}
use Rattle.std.specs.Cmp.{first_so, second_so}
use Rattle.go_base.specs.Lists.{Has}
use Rattle.go_model.specs.types.Comparison.{Comparable}
use Rattle.go_model.specs.types.Terms.{Layer}
use Rattle.go_model.specs.types.Members.{field_sel}
use Rattle.go_model.specs.types.Underlying.{under, fields_of}
use Rattle.go_model.specs.worlds.Worlds.{Packages}
use Rattle.go_model.specs.declared.types.term.Term.{Term, out-Term, roll-Term, roll-out-Term}
use Rattle.go_model.specs.declared.types.names.Sel.{Sel}
use Rattle.go_model.specs.declared.types.term.Field.{Field}
use Rattle.go_selectors.specs.Answers.{Decides}
use Rattle.go_type_images.specs.declared.pair.TypePair.{TypePair}
use Rattle.api_correspond.specs.Outermost.{SameOutermost}
use Rattle.api_correspond.specs.OwnedPairs.{are_of_module}
use Rattle.go_type_images.specs.Levels.{struct_layer}
use Rattle.api_correspond.specs.Publics.{types_of, IsExported}
use Rattle.api_correspond.specs.Rules.{KeepsType, CoversComparable, KeepsComparable, KeepsPair, have_structs}
use Rattle.api_correspond.specs.inner.BySel.{PlaceTable, places_at, ArePlaces}
use Rattle.api_correspond.proofs.Selected.{placed_item, item_placed}
use Rattle.api_correspond.proofs.Places.{at_has}
use Rattle.api_breaks.specs.declared.broken.Lost.{Lost}
use Rattle.api_breaks.specs.declared.broken.Lost.TheVariants as lost
use Rattle.api_breaks.specs.Breaks.{IsLoss, types_apart, underlying_apart, field_gone, not_selectable, not_comparable, sealing_apart, interface_method_gone, interface_method_new, method_gone, pointer_method_gone}
use Rattle.api_breaks.specs.inner.Interfaces.{KeepsInterface, IsInterfaceLoss, sealed_apart, methods_gone, methods_new}
use Rattle.api_breaks.specs.inner.MethodSets.{KeepsSets, IsMethodSetLoss}
use Rattle.api_breaks.specs.inner.Pairs.{KeepsLayer, KeepsUnderneath, KeepsIn, KeepsFields, KeepsComparison, IsTypesLoss, IsUnderlyingLoss, IsComparableLoss, HasField, IsFieldGone, AreFieldsGone, IsFieldsLoss}
use Rattle.api_breaks.specs.inner.Selecting.{KeepsSels, IsSelectableLoss}
use Rattle.api_breaks.specs.inner.Telling.{Tells, KeptBy}
use Rattle.api_breaks.proofs.Telling.{told_kept, told_lost, told_as, told_both}

-- a fact or a test
pub either_told : (A : Type 0) (f b : Bool) → b ≡ f → (A → ⊥) → Decides b (A ⊎ (f ≡ true))
either_told A f true e n = inr (sym e)
either_told A f false e n = λ h. elim h [ inl a ↦ n a | inr g ↦ true≢false (sym g ∙ sym e) ]

-- whether a type was comparable, where the outermost constructor is the same
pub compared : (old new : Packages) (p : TypePair) (b : Bool) → SameOutermost old new (out-Term p.old) (out-Term p.new) → Decides b (Comparable (types_of old) p.old) → Decides b (CoversComparable old new p)
compared old new p true m d = record { alike = m; before = d }
compared old new p false m d = λ x. d x.before

-- whether a list has an item
pub some_told : {A : Type 0} (X : Type 0) (xs : List A) (b r : Bool) → Decides b (xs ≡ []) → r ≡ not b → ((x : A) → Has xs x → X) → (X → (x : A) × Has xs x) → Decides r X
some_told X [] true r d e f g = subst (λ b. Decides b X) (sym e) (λ x. (g x).1)
some_told X (y ∷ xs) true r d e f g = absurd (cc)
some_told X [] false r d e f g = absurd (d refl)
some_told X (y ∷ xs) false r d e f g = subst (λ b. Decides b X) (sym e) (f y (inl refl))

pub field_told : (fs : List Field) (m : PlaceTable) (s : Sel) (places : List ℕ) (b r : Bool) → ArePlaces (map field_sel fs) m → places ≡ places_at m s → Decides b (places ≡ []) → r ≡ not b → Decides r (HasField fs s)
field_told fs m s places b r p e d f =
    some_told (HasField fs s) (places_at m s) b r (subst (λ (w : List ℕ). Decides b (w ≡ [])) e d) f
    (λ i h. let k = placed_item field_sel fs m s i p h in (k.0, at_has fs i k.0 k.1, k.2))
    (λ h. let k = item_placed field_sel fs m s h.0 p h.1 h.2 in (k.0, k.1))

-- one field
module _ (gs : List Field) (f : Field) (ls : List Lost) where
  pub field_hidden : (IsExported (field_sel f) → ⊥) → Tells (KeepsIn gs f) (IsFieldGone gs f) ls ls
  field_hidden n = told_kept ls (λ x. absurd (n x)) (λ l h. n h.0)

  pub field_kept : HasField gs (field_sel f) → Tells (KeepsIn gs f) (IsFieldGone gs f) ls ls
  field_kept k = told_kept ls (λ x. k) (λ l h. h.1 k)

  pub field_lost : (grown : List Lost) (name : List ℕ) → IsExported (field_sel f) → (HasField gs (field_sel f) → ⊥) → name ≡ (field_sel f).name → grown ≡ ls ++ lost.Field name ∷ [] → Tells (KeepsIn gs f) (IsFieldGone gs f) ls grown
  field_lost grown name x n e g = told_lost ls grown (lost.Field (field_sel f).name) (g ∙ ap (λ (w : List ℕ). ls ++ lost.Field w ∷ []) e) (x, n, refl) (λ l s. s.2)

module _ (old new : Packages) (p : TypePair) (ls : List Lost) where
  pub types_kept : SameOutermost old new (out-Term p.old) (out-Term p.new) → Tells (KeepsType old new p) (IsTypesLoss old new p) ls ls
  types_kept m = told_kept ls m (λ l h. h.0 m)

  pub types_lost : (grown : List Lost) (before after : Term) → (SameOutermost old new (out-Term p.old) (out-Term p.new) → ⊥) → before ≡ p.old → after ≡ p.new → grown ≡ ls ++ lost.Type before after ∷ [] → Tells (KeepsType old new p) (IsTypesLoss old new p) ls grown
  types_lost grown before after n e f g = told_lost ls grown (lost.Type p.old p.new) (g ∙ (λ i. ls ++ lost.Type (e i) (f i) ∷ [])) (n, refl) (λ l s. s.1)

  pub underlying_foreign : are_of_module old new p ≡ false → Tells (KeepsUnderneath old new p) (IsUnderlyingLoss old new p) ls ls
  underlying_foreign e = told_kept ls (λ o. absurd (true≢false (sym o ∙ e))) (λ l h. true≢false (sym h.0 ∙ e))

  -- what is underneath, as it was looked up
  rolled : (t : Term) (l : Layer) → out-Term t ≡ l → t ≡ roll-Term l
  rolled t l e = sym (roll-out-Term t) ∙ ap roll-Term e

  keeps_over : (k l m n : Layer) → k ≡ l → m ≡ n → KeepsLayer old new k m → KeepsLayer old new l n
  keeps_over k l m n e f h = subst (λ (x : Layer). KeepsLayer old new x n) e (subst (λ (y : Layer). KeepsLayer old new k y) f h)

  pub underlying_kept : (before after : Term) → out-Term before ≡ under (types_of old) p.old → out-Term after ≡ under (types_of new) p.new → KeepsLayer old new (out-Term before) (out-Term after) → Tells (KeepsUnderneath old new p) (IsUnderlyingLoss old new p) ls ls
  underlying_kept before after e f k =
      let kept = keeps_over (out-Term before) (under (types_of old) p.old) (out-Term after) (under (types_of new) p.new) e f k in
      told_kept ls (λ o. kept) (λ l h. h.1 kept)

  pub underlying_lost : (grown : List Lost) (before after first second : Term) → are_of_module old new p ≡ true → out-Term before ≡ under (types_of old) p.old → out-Term after ≡ under (types_of new) p.new → (KeepsLayer old new (out-Term before) (out-Term after) → ⊥) → first ≡ before → second ≡ after → grown ≡ ls ++ lost.Underlying first second ∷ [] → Tells (KeepsUnderneath old new p) (IsUnderlyingLoss old new p) ls grown
  underlying_lost grown before after first second o e f n s t g =
      let a : first ≡ roll-Term (under (types_of old) p.old) = s ∙ rolled before (under (types_of old) p.old) e in
      let b : second ≡ roll-Term (under (types_of new) p.new) = t ∙ rolled after (under (types_of new) p.new) f in
      told_lost ls grown (lost.Underlying (roll-Term (under (types_of old) p.old)) (roll-Term (under (types_of new) p.new))) (g ∙ (λ i. ls ++ lost.Underlying (a i) (b i) ∷ []))
      (o, (λ h. n (keeps_over (under (types_of old) p.old) (out-Term before) (under (types_of new) p.new) (out-Term after) (sym e) (sym f) h)), refl)
      (λ l s. s.2)

  pub comparable_free : (CoversComparable old new p → ⊥) → Tells (KeepsComparison old new p) (IsComparableLoss old new p) ls ls
  comparable_free n = told_kept ls (λ x. absurd (n x)) (λ l h. n h.0)

  pub comparable_kept : KeepsComparable new p → Tells (KeepsComparison old new p) (IsComparableLoss old new p) ls ls
  comparable_kept k = told_kept ls (λ x. k) (λ l h. h.1 k)

  pub comparable_lost : (grown : List Lost) → CoversComparable old new p → (KeepsComparable new p → ⊥) → grown ≡ ls ++ lost.Comparable ∷ [] → Tells (KeepsComparison old new p) (IsComparableLoss old new p) ls grown
  comparable_lost grown x n g = told_lost ls grown lost.Comparable g (x, n, refl) (λ l s. s.2)

  pub fields_foreign : are_of_module old new p ≡ false → Tells (KeepsFields old new p) (IsFieldsLoss old new p) ls ls
  fields_foreign e =
      let apart : (are_of_module old new p && have_structs old new p) ≡ true → ⊥ = (λ b. true≢false (sym (first_so (are_of_module old new p) (have_structs old new p) b) ∙ e)) in
      told_kept ls (λ f x. absurd (apart x.structs)) (λ l h. apart h.0)

  structs_over : (k l m n : Layer) (b : Bool) → k ≡ l → m ≡ n → (struct_layer k && struct_layer m) ≡ b → (struct_layer l && struct_layer n) ≡ b
  structs_over k l m n b e f h = subst (λ (x : Layer). (struct_layer x && struct_layer n) ≡ b) e (subst (λ (y : Layer). (struct_layer k && struct_layer y) ≡ b) f h)

  pub fields_unstructured : (before after : Term) → out-Term before ≡ under (types_of old) p.old → out-Term after ≡ under (types_of new) p.new → (struct_layer (out-Term before) && struct_layer (out-Term after)) ≡ false → Tells (KeepsFields old new p) (IsFieldsLoss old new p) ls ls
  fields_unstructured before after e f n =
      let none : have_structs old new p ≡ false = structs_over (out-Term before) (under (types_of old) p.old) (out-Term after) (under (types_of new) p.new) false e f n in
      let apart : (are_of_module old new p && have_structs old new p) ≡ true → ⊥ = (λ b. true≢false (sym (second_so (are_of_module old new p) (have_structs old new p) b) ∙ none)) in
      told_kept ls (λ f x. absurd (apart x.structs)) (λ l h. apart h.0)

  pub fields_lost : (grown : List Lost) (before after : Term) (fs gs : List Field) → are_of_module old new p ≡ true → out-Term before ≡ under (types_of old) p.old → out-Term after ≡ under (types_of new) p.new → (struct_layer (out-Term before) && struct_layer (out-Term after)) ≡ true → fs ≡ fields_of (out-Term before) → gs ≡ fields_of (out-Term after) → Tells (KeptBy (KeepsIn gs) fs) (AreFieldsGone gs fs) ls grown → Tells (KeepsFields old new p) (IsFieldsLoss old new p) ls grown
  fields_lost grown before after fs gs o e f s a b t =
      let both : (are_of_module old new p && have_structs old new p) ≡ true = ap (λ (x : Bool). x && have_structs old new p) o ∙ structs_over (out-Term before) (under (types_of old) p.old) (out-Term after) (under (types_of new) p.new) true e f s in
      let first = fields_of (under (types_of old) p.old) in
      let second = fields_of (under (types_of new) p.new) in
      let k : Tells (KeptBy (KeepsIn second) first) (AreFieldsGone second first) ls grown = subst (λ (x : List Field). Tells (KeptBy (KeepsIn x) first) (AreFieldsGone x first) ls grown) (b ∙ ap fields_of f) (subst (λ (x : List Field). Tells (KeptBy (KeepsIn gs) x) (AreFieldsGone gs x) ls grown) (a ∙ ap fields_of e) t) in
      told_as ls grown (λ d g x. d g x.there x.exported) (λ l h. (both, h)) (λ l h. h.1) k

-- all rules of one pair
module _ (old new : Packages) (p : TypePair) where
  interface_lost : (l : Lost) → IsInterfaceLoss old new p l → IsLoss old new p l
  interface_lost l (o, sealed_apart n e) = sealing_apart o (λ k. n (k.kept, k.not_new)) e
  interface_lost l (o, methods_gone k) = interface_method_gone k.0 (record { interfaces = o; there = k.1; counts = k.2.0 }) k.2.1 k.2.2
  interface_lost l (o, methods_new n m k) = interface_method_new k.0 (record { interfaces = o; before = n; after = m; there = k.1 }) k.2.0 k.2.1

  set_lost : (l : Lost) → IsMethodSetLoss old new p l → IsLoss old new p l
  set_lost l (o, inl k) = method_gone k.0 k.1 (record { sets = o; counts = k.2; there = k.3 }) k.4 k.5
  set_lost l (o, inr k) = pointer_method_gone k.0 k.1 (record { sets = o; counts = k.2; there = k.3 }) k.4 k.5

  abbrev Losses : Lost → Type 0
  Losses l = IsTypesLoss old new p l ⊎ (IsUnderlyingLoss old new p l ⊎ (IsFieldsLoss old new p l ⊎ (IsSelectableLoss old new p l ⊎ (IsComparableLoss old new p l ⊎ (IsInterfaceLoss old new p l ⊎ IsMethodSetLoss old new p l)))))

  of_losses : (l : Lost) → Losses l → IsLoss old new p l
  of_losses l (inl k) = types_apart k.0 k.1
  of_losses l (inr (inl k)) = underlying_apart k.0 k.1 k.2
  of_losses l (inr (inr (inl k))) = field_gone k.1.0 (record { structs = k.0; there = k.1.1; exported = k.1.2.0 }) k.1.2.1 k.1.2.2
  of_losses l (inr (inr (inr (inl k)))) = not_selectable k.1.0 k.1.1.1.0 (record { structs = k.0; exported = k.1.1.0; found = k.1.1.1.1; deep = k.1.1.1.2 }) k.1.1.1.3 k.1.1.1.4
  of_losses l (inr (inr (inr (inr (inl k))))) = not_comparable k.0 k.1 k.2
  of_losses l (inr (inr (inr (inr (inr (inl k)))))) = interface_lost l k
  of_losses l (inr (inr (inr (inr (inr (inr k)))))) = set_lost l k

  losses_of : (l : Lost) → IsLoss old new p l → Losses l
  losses_of l (types_apart n k) = inl (n, k)
  losses_of l (underlying_apart o n k) = inr (inl (o, n, k))
  losses_of l (field_gone y x n k) = inr (inr (inl (x.structs, (y, x.there, (x.exported, n, k)))))
  losses_of l (not_selectable s f x n k) = inr (inr (inr (inl (x.structs, (s, (x.exported, (f, x.found, x.deep, n, k)))))))
  losses_of l (not_comparable x n k) = inr (inr (inr (inr (inl (x, n, k)))))
  losses_of l (sealing_apart o n k) = inr (inr (inr (inr (inr (inl (o, sealed_apart (λ s. n (record { kept = s.0; not_new = s.1 })) k))))))
  losses_of l (interface_method_gone m x n k) = inr (inr (inr (inr (inr (inl (x.interfaces, methods_gone (m, x.there, (x.counts, n, k))))))))
  losses_of l (interface_method_new m x n k) = inr (inr (inr (inr (inr (inl (x.interfaces, methods_new x.before x.after (m, x.there, (n, k))))))))
  losses_of l (method_gone s m x n k) = inr (inr (inr (inr (inr (inr (x.sets, inl (s, m, x.counts, x.there, n, k)))))))
  losses_of l (pointer_method_gone s m x n k) = inr (inr (inr (inr (inr (inr (x.sets, inr (s, m, x.counts, x.there, n, k)))))))

  -- one rule after another
  then : {K L : Type 0} {P Q : Lost → Type 0} (a b c : List Lost) → Tells K P a b → Tells L Q b c → Tells (K × L) (λ l. P l ⊎ Q l) a c
  then a b c s t = told_both a b c (λ k l. (k, l)) (λ x h. inl h) (λ x h. inr h) (λ x h. h) s t

  pub pair_exact : (a b c d e f g h : List Lost) → Tells (KeepsType old new p) (IsTypesLoss old new p) a b → Tells (KeepsUnderneath old new p) (IsUnderlyingLoss old new p) b c → Tells (KeepsFields old new p) (IsFieldsLoss old new p) c d → Tells (KeepsSels old new p) (IsSelectableLoss old new p) d e → Tells (KeepsComparison old new p) (IsComparableLoss old new p) e f → Tells (KeepsInterface old new p) (IsInterfaceLoss old new p) f g → Tells (KeepsSets old new p) (IsMethodSetLoss old new p) g h → Tells (KeepsPair old new p) (IsLoss old new p) a h
  pair_exact a b c d e f g h types layers fields sels comparison interfaces sets =
      told_as a h kept of_losses losses_of
      (then a b h types (then b c h layers (then c d h fields (then d e h sels (then e f h comparison (then f g h interfaces sets))))))
    where
      kept : KeepsType old new p × (KeepsUnderneath old new p × (KeepsFields old new p × (KeepsSels old new p × (KeepsComparison old new p × (KeepsInterface old new p × KeepsSets old new p))))) → KeepsPair old new p
      kept (t, (u, (v, (w, (x, (y, z)))))) = record {
        types = t;
        underlying = u;
        fields = v;
        selectable = w;
        comparable = x;
        sealing = λ o. record { kept = (y o).alike.0; not_new = (y o).alike.1 };
        interface_methods = λ m k. (y k.interfaces).methods m k.there k.counts;
        open_interfaces = λ n k. (y k.interfaces).open_kept k.before k.after n k.there;
        method_sets = λ s g k. (z k.sets).0 s g k.counts k.there;
        pointer_sets = λ s g k. (z k.sets).1 s g k.counts k.there;
      }
