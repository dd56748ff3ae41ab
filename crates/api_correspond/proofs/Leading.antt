-- The ways in which a pair leads to others are all of them.
use Rattle.std.proofs.Common.{◌≡◌, ◌↔◌, ◌≤◌, ◌<◌, ◌⊎◌, inl, inr, ℕ, Bool, true, false, not, List, [], ◌∷◌, ◌++◌, length, take, map, get_or, refl, sym, ap, ◌∙◌, subst, arith, Option, None, Some}
use mathlib.Core.Bool.{true≢false}
use Rattle.go_base.specs.Lists.{Has}
use Rattle.go_base.specs.Growing.{Grows}
use Rattle.go_base.proofs.Lists.{take_past}
use Rattle.go_model.specs.types.Tables.{Table}
use Rattle.go_model.specs.types.Terms.{Layer}
use Rattle.go_model.specs.types.Underlying.{under, fields_of}
use Rattle.go_model.specs.types.Selectors.{Finds}
use Rattle.go_model.specs.types.MethodSets.{InSet, IsMethodSet, method_sel}
use Rattle.go_model.specs.types.Members.{field_sel}
use Rattle.go_model.specs.worlds.Worlds.{Packages}
use Rattle.go_model.specs.declared.types.names.Sel.{Sel}
use Rattle.go_model.specs.declared.types.found.Found.{Found}
use Rattle.go_model.specs.declared.types.found.Found.TheVariants.{FieldAt}
use Rattle.go_model.specs.declared.types.found.FieldFound.{FieldFound}
use Rattle.go_model.specs.declared.types.term.Term.{Term, Term-F, out-Term}
use Rattle.go_model.specs.declared.types.term.Field.{Field}
use Rattle.go_model.specs.declared.types.term.Method.{Method, out-Method, roll-Method, out-roll-Method}
use Rattle.go_model.specs.declared.types.term.Signature.{Signature}
use Rattle.go_selectors.specs.Candidates.{Candidates, called_at, HoldMethodSet}
use Rattle.go_type_images.specs.declared.pair.TypePair.{TypePair}
use Rattle.api_correspond.specs.Publics.{types_of, IsExported}
use Rattle.api_correspond.specs.Outermost.{SameOutermost, pair, side_by_side}
use Rattle.go_type_images.specs.Parts.{parts, function_type, field_type, method_type}
use Rattle.api_correspond.specs.OwnedPairs.{are_of_module, have_members, receiver, Leads, to_part, to_part_underneath, to_field, to_promoted_field, to_method}
use Rattle.go_type_images.specs.Levels.{is_structured}
use Rattle.api_correspond.specs.inner.Members.{OfSome}
use Rattle.api_correspond.specs.inner.Leading.{IsPart, IsPartUnderneath, IsFieldAt, AreFieldsAt, IsExportedWith, IsFoundAfter, IsPromotedBy, IsCommonField, IsTopField, FieldTerm, IsFieldFound, FieldOf, IsFoundField, IsPromotedField, ArePromoted, IsCalledIn, AreCalledIn, IsCommonMethod, IsMember, HoldDeepFields}
use Rattle.api_correspond.specs.inner.Spreading.{IsSelOf}
use Rattle.api_correspond.specs.inner.BySel.{PlaceTable, places_at, ArePlaces}
use Rattle.api_correspond.specs.inner.Tables.{At}
use Rattle.api_correspond.proofs.Places.{at_within, at_same, at_get, at_has}
use Rattle.api_correspond.proofs.Selected.{placed_item, item_placed}
use Rattle.api_correspond.proofs.Growing.{grows_none, grows_one, grows_all, grows_both, grows_as}

module _ (old new : Packages) (p : TypePair) where
  member_leads : (q : TypePair) → IsMember old new p q → Leads old new p q
  member_leads q (h, inl m) = subst (Leads old new p) (pairs_equal q m.2.0 m.2.1) (to_promoted_field m.0 m.2.0.0 m.2.1.0 h m.1 m.2.0.1 m.2.0.2 m.2.1.1)
    where
      pairs_equal : (r : TypePair) (a : IsFieldFound (types_of old) m.0 p.old 1 r.old) (b : IsFieldFound (types_of new) m.0 p.new 0 r.new) → pair a.0.term b.0.term ≡ r
      pairs_equal r a b = (λ i. record { old = a.3 i; new = b.3 i })
  member_leads q (h, inr m) = subst (Leads old new p) m.2.4 (to_method m.0 m.2.0 m.2.1 h m.1 m.2.2 m.2.3)

  field_leads : (q : TypePair) → IsTopField old new p q → Leads old new p q
  field_leads q (h, f) = subst (Leads old new p) f.2.1.2.1 (to_field f.0 f.2.1.0 h f.1 f.2.1.1 f.2.0 f.2.1.2.0)

  pub leads_exact : (a b c d : List TypePair) → Grows (IsPart old new (out-Term p.old) (out-Term p.new)) [] a → Grows (IsPartUnderneath old new p) a b → Grows (IsTopField old new p) b c → Grows (IsMember old new p) c d → (q : TypePair) → Has d q ↔ Leads old new p q
  leads_exact a b c d g h i j q = (to, back)
    where
      to : Has d q → Leads old new p q
      to m = elim (j.sound q m) [
        | inl m ↦ elim (i.sound q m) [
          | inl m ↦ elim (h.sound q m) [
            | inl m ↦ elim (g.sound q m) [ inl m ↦ absurd m | inr k ↦ to_part k.0 k.1 ]
            | inr k ↦ to_part_underneath k.0 k.2.0 k.1 k.2.1
          ]
          | inr k ↦ field_leads q k
        ]
        | inr k ↦ member_leads q k
      ]

      late : Has a q → Has d q
      late m = j.kept q (i.kept q (h.kept q m))

      back : Leads old new p q → Has d q
      back l = leads_back q l
        where
          leads_back : (r : TypePair) → Leads old new p r → Has d r
          leads_back r (to_part m k) = j.kept r (i.kept r (h.kept r (g.complete r (m, k))))
          leads_back r (to_part_underneath o m s k) = j.kept r (i.kept r (h.complete r (o, s, (m, k))))
          leads_back r (to_field f e o m n x s) = j.kept r (i.complete r (o, (f, m, (x, (e, n, (s, refl))))))
          leads_back r (to_promoted_field s f e o x m k n) = j.complete r (o, inl (s, x, ((f, m, k, refl), (e, n, omega arith, refl))))
          leads_back r (to_method s f e o x m n) = j.complete r (o, inr (s, x, (f, e, m, n, refl)))

-- what is underneath, and members, where they are followed
module _ (old new : Packages) (p : TypePair) where
  pub no_underneath : (xs : List TypePair) → are_of_module old new p ≡ false → Grows (IsPartUnderneath old new p) xs xs
  no_underneath xs e = grows_none xs (λ q h. true≢false (sym h.0 ∙ e))

  pub no_structured : (xs : List TypePair) (b : Term) → out-Term b ≡ under (types_of old) p.old → is_structured (out-Term b) ≡ true → Grows (IsPartUnderneath old new p) xs xs
  no_structured xs b u e = grows_none xs (λ q h. true≢false (sym (subst (λ (l : Layer). is_structured l ≡ true) u e) ∙ h.1))

  pub some_underneath : (xs ys : List TypePair) (b a : Term) → out-Term b ≡ under (types_of old) p.old → out-Term a ≡ under (types_of new) p.new → are_of_module old new p ≡ true → is_structured (out-Term b) ≡ false → Grows (IsPart old new (out-Term b) (out-Term a)) xs ys → Grows (IsPartUnderneath old new p) xs ys
  some_underneath xs ys b a u v e s g = subst (λ (l : Layer). Grows (λ q. (are_of_module old new p ≡ true) × (is_structured l ≡ false) × IsPart old new l (under (types_of new) p.new) q) xs ys) u (subst (λ (k : Layer). Grows (λ q. (are_of_module old new p ≡ true) × (is_structured (out-Term b) ≡ false) × IsPart old new (out-Term b) k q) xs ys) v (grows_as xs ys (λ q h. (e, s, h)) (λ q h. h.2) g))

  pub no_top_fields : (xs : List TypePair) → are_of_module old new p ≡ false → Grows (IsTopField old new p) xs xs
  no_top_fields xs e = grows_none xs (λ q h. true≢false (sym h.0 ∙ e))

  pub some_top_fields : (xs ys : List TypePair) (fs gs : List Field) → fs ≡ fields_of (under (types_of old) p.old) → gs ≡ fields_of (under (types_of new) p.new) → are_of_module old new p ≡ true → Grows (IsCommonField fs gs) xs ys → Grows (IsTopField old new p) xs ys
  some_top_fields xs ys fs gs u v e g = subst (λ (l : List Field). Grows (λ q. (are_of_module old new p ≡ true) × IsCommonField l (fields_of (under (types_of new) p.new)) q) xs ys) u (subst (λ (k : List Field). Grows (λ q. (are_of_module old new p ≡ true) × IsCommonField fs k q) xs ys) v (grows_as xs ys (λ q h. (e, h)) (λ q h. h.1) g))

  pub no_members : (xs : List TypePair) → have_members old new p ≡ false → Grows (IsMember old new p) xs xs
  no_members xs e = grows_none xs (λ q h. true≢false (sym h.0 ∙ e))

  pub some_members : (xs ys zs : List TypePair) → have_members old new p ≡ true → Grows (IsPromotedField (types_of old) (types_of new) p) xs ys → Grows (IsCommonMethod (types_of old) (types_of new) p) ys zs → Grows (IsMember old new p) xs zs
  some_members xs ys zs e g h = grows_both xs ys zs (λ q m. (e, inl m)) (λ q m. (e, inr m)) (λ q m. m.1) g h

-- parts, where the outermost constructors match or don't
pub no_parts : (old new : Packages) (l k : Layer) (xs : List TypePair) → (SameOutermost old new l k → ⊥) → Grows (IsPart old new l k) xs xs
no_parts old new l k xs n = grows_none xs (λ q h. n h.0)

pub some_parts : (old new : Packages) (l k : Layer) (xs ys : List TypePair) (ss ts : List Term) → SameOutermost old new l k → ss ≡ parts l → ts ≡ parts k → ys ≡ xs ++ side_by_side ss ts → Grows (IsPart old new l k) xs ys
some_parts old new l k xs ys ss ts m e f g = grows_all xs (side_by_side (parts l) (parts k)) ys (g ∙ ap (λ w. xs ++ side_by_side w ts) e ∙ ap (λ w. xs ++ side_by_side (parts l) w) f) (λ q h. (m, h)) (λ q h. h.1)

-- the field that a selector finds
module _ (T : Table) (s : Sel) (t : Term) (once : (a b : Found) → Finds T s t a → Finds T s t b → a ≡ b) where
  same_field : (f g : FieldFound) → ◌≡◌ {A = Found} (FieldAt f) (FieldAt g) → f ≡ g
  same_field f g e = cc

  pub field_none : (found : Found) (least : ℕ) → Finds T s t found → FieldTerm found least None → FieldOf T s t least None
  field_none found least h n u w = by found h n (once found (FieldAt w.0) h w.1)
    where
      by : (r : Found) → Finds T s t r → FieldTerm r least None → r ≡ FieldAt w.0 → ⊥
      by (FieldAt f) i m e = (let k : f ≡ w.0 = same_field f w.0 e in let l = w.2 in let d = ap (λ (x : FieldFound). x.depth) k in let z : ⊥ = absurd (omega (arith, m, l, d)) in z)
      by r i m e = absurd (cc)

  pub field_some : (found : Found) (least : ℕ) (u : Term) → Finds T s t found → FieldTerm found least (Some u) → FieldOf T s t least (Some u)
  field_some (FieldAt f) least u h m = (f, h, m.0, m.1)
  field_some r least u h m = absurd m

  -- at most one field is found
  pub field_only : (least : ℕ) (u v : Term) → IsFieldFound T s t least u → IsFieldFound T s t least v → u ≡ v
  field_only least u v a b = sym a.3 ∙ ap (λ (x : FieldFound). x.term) (same_field a.0 b.0 (once (FieldAt a.0) (FieldAt b.0) a.1 b.1)) ∙ b.3

-- methods of method sets
module _ (S T : Table) (p : TypePair) where
  pub methods_called : (before after : Term) (ms : List Method) (callable : Candidates) (xs ys : List TypePair) → before ≡ receiver S p.old → after ≡ receiver T p.new → IsMethodSet S before ms → HoldMethodSet T after callable → Grows (AreCalledIn callable ms) xs ys → Grows (IsCommonMethod S T p) xs ys
  methods_called before after ms callable xs ys e f m h g = grows_as xs ys to back g
    where
      to : (q : TypePair) → AreCalledIn callable ms q → IsCommonMethod S T p q
      to q k = (method_sel k.0, k.2.0, ((out-Method k.0).signature, k.2.1.0, subst (λ (x : Term). InSet S x (method_sel k.0) (out-Method k.0).signature) e (m.sound k.0 k.1), subst (λ (x : Term). InSet T x (method_sel k.0) k.2.1.0) f ((h (method_sel k.0) k.2.1.0).0 k.2.1.1), k.2.1.2))

      back : (q : TypePair) → IsCommonMethod S T p q → AreCalledIn callable ms q
      back q k =
          let n = roll-Method (record { sel = k.0; signature = k.2.0 }) in
          let o = out-roll-Method (record { sel = k.0; signature = k.2.0 }) in
          let at_sel : k.0 ≡ method_sel n = ap (λ x. x.sel) (sym o) in
          let at_type : k.2.0 ≡ (out-Method n).signature = ap (λ x. x.signature) (sym o) in
          let set : InSet S before k.0 k.2.0 = subst (λ (x : Term). InSet S x k.0 k.2.0) (sym e) k.2.2 in
          let in_set : InSet S before (method_sel n) (out-Method n).signature = subst (λ (s : Sel). InSet S before s (out-Method n).signature) at_sel (subst (λ (g : Signature). InSet S before k.0 g) at_type set) in
          let called : called_at callable k.0 ≡ Some k.2.1 = (h k.0 k.2.1).1 (subst (λ (x : Term). InSet T x k.0 k.2.1) (sym f) k.2.3) in
          (n, m.complete n in_set, (subst IsExported at_sel k.1, (k.2.1, subst (λ (s : Sel). called_at callable s ≡ Some k.2.1) at_sel called, ap (λ (g : Signature). pair (function_type g) (function_type k.2.1)) (sym at_type) ∙ k.2.4)))

  pub promoted_by : (sels : List Sel) (xs ys : List TypePair) → HoldDeepFields S p.old sels → Grows (ArePromoted S T p sels) xs ys → Grows (IsPromotedField S T p) xs ys
  promoted_by sels xs ys h g = grows_as xs ys (λ q k. (k.0, k.2.0, k.2.1)) (λ q k. (k.0, h k.0 k.2.0.0 k.1 k.2.0.1 k.2.0.2, (k.1, k.2))) g

-- single pushes
pub at_none : (f : Field) (gs : List Field) (at : ℕ) (xs : List TypePair) → length gs ≤ at → Grows (IsFieldAt f gs at) xs xs
at_none f gs at xs l = grows_none xs (λ q h. let k = at_within gs at h.0 h.1 in absurd (omega (arith, k, l)))

pub at_pushed : (f g : Field) (gs : List Field) (at : ℕ) (xs ys : List TypePair) → at < length gs → g ≡ get_or gs at g → ys ≡ xs ++ pair (field_type f) (field_type g) ∷ [] → Grows (IsFieldAt f gs at) xs ys
at_pushed f g gs at xs ys l e h = let k = at_get gs at g l e in grows_one xs ys (pair (field_type f) (field_type g)) h (g, k, refl) (λ q m. ap (λ (x : Field). pair (field_type f) (field_type x)) (at_same gs at g m.0 k m.1) ∙ m.2)

pub fields_hidden : (f : Field) (gs : List Field) (xs : List TypePair) → (IsExported (field_sel f) → ⊥) → Grows (IsExportedWith gs f) xs xs
fields_hidden f gs xs n = grows_none xs (λ q h. n h.0)

-- the fields at the places of a selector are those with it
pub fields_placed : (f : Field) (gs : List Field) (m : PlaceTable) (places : List ℕ) (xs ys : List TypePair) → ArePlaces (map field_sel gs) m → places ≡ places_at m (field_sel f) → IsExported (field_sel f) → Grows (AreFieldsAt f gs places) xs ys → Grows (IsExportedWith gs f) xs ys
fields_placed f gs m places xs ys p e x g = grows_as xs ys to back (subst (λ (w : List ℕ). Grows (AreFieldsAt f gs w) xs ys) e g)
  where
    to : (q : TypePair) → AreFieldsAt f gs (places_at m (field_sel f)) q → IsExportedWith gs f q
    to q h =
        let k = placed_item field_sel gs m (field_sel f) h.0 p h.1 in
        let s : k.0 ≡ h.2.0 = at_same gs h.0 k.0 h.2.0 k.1 h.2.1 in
        (x, (h.2.0, at_has gs h.0 h.2.0 h.2.1, (ap field_sel (sym s) ∙ k.2, h.2.2)))

    back : (q : TypePair) → IsExportedWith gs f q → AreFieldsAt f gs (places_at m (field_sel f)) q
    back q h = let k = item_placed field_sel gs m (field_sel f) h.1.0 p h.1.1 h.1.2.0 in (k.0, k.1, (h.1.0, k.2, h.1.2.1))

signature_same : (g : Signature) (o : Option Signature) (h : Signature) → Some g ≡ o → o ≡ Some h → g ≡ h
signature_same g o h e f = cc

pub method_pushed : (callable : Candidates) (m : Method) (h : Signature) (xs ys : List TypePair) → IsExported (method_sel m) → Some h ≡ called_at callable (method_sel m) → ys ≡ xs ++ pair (method_type m) (function_type h) ∷ [] → Grows (IsCalledIn callable m) xs ys
method_pushed callable m h xs ys x c e = grows_one xs ys (pair (method_type m) (function_type h)) e (x, (h, sym c, refl)) (λ q k. ap (λ (g : Signature). pair (method_type m) (function_type g)) (signature_same h (called_at callable (method_sel m)) k.1.0 c k.1.1) ∙ k.1.2)

pub sel_pushed : (f : Field) (xs ys : List Sel) (s : Sel) → IsExported (field_sel f) → s ≡ field_sel f → ys ≡ xs ++ s ∷ [] → Grows (IsSelOf f) xs ys
sel_pushed f xs ys s x e g = grows_one xs ys s g (x, sym e) (λ t h. e ∙ h.1)

pub field_told : (T : Table) (s : Sel) (t : Term) → ((a b : Found) → Finds T s t a → Finds T s t b → a ≡ b) → (found : Found) (least : ℕ) (o : Option Term) → Finds T s t found → FieldTerm found least o → FieldOf T s t least o
field_told T s t once found least None h m = field_none T s t once found least h m
field_told T s t once found least (Some u) h m = field_some T s t once found least u h m

pub found_none : (T : Table) (t : Term) (s : Sel) (before : Term) (xs : List TypePair) → FieldOf T s t 0 None → Grows (IsFoundAfter T t s before) xs xs
found_none T t s before xs n = grows_none xs (λ q h. n q.new h.1)

pub found_pushed : (T : Table) (t : Term) (s : Sel) (before after : Term) (xs ys : List TypePair) → ((a b : Found) → Finds T s t a → Finds T s t b → a ≡ b) → FieldOf T s t 0 (Some after) → (u v : Term) → u ≡ before → v ≡ after → ys ≡ xs ++ record { old = u; new = v } ∷ [] → Grows (IsFoundAfter T t s before) xs ys
found_pushed T t s before after xs ys once f u v e g h = grows_one xs ys (pair u v) h (sym e, subst (IsFieldFound T s t 0) (sym g) f) (λ q k. let a = e ∙ k.0 in let b = g ∙ field_only T s t once 0 after q.new f k.1 in (λ i. record { old = a i; new = b i }))

pub promoted_none : (S T : Table) (p : TypePair) (s : Sel) (xs : List TypePair) → FieldOf S s p.old 1 None → Grows (IsPromotedBy S T p s) xs xs
promoted_none S T p s xs n = grows_none xs (λ q h. n q.old h.1.0)

pub promoted_some : (S T : Table) (p : TypePair) (s : Sel) (before : Term) (xs ys : List TypePair) → ((a b : Found) → Finds S s p.old a → Finds S s p.old b → a ≡ b) → IsExported s → FieldOf S s p.old 1 (Some before) → Grows (IsFoundAfter T p.new s before) xs ys → Grows (IsPromotedBy S T p s) xs ys
promoted_some S T p s before xs ys once x f g = grows_as xs ys (λ q h. (x, (subst (IsFieldFound S s p.old 1) h.0 f, h.1))) (λ q h. (field_only S s p.old once 1 before q.old f h.1.0, h.1.1)) g

pub promoted_all : (S T : Table) (p : TypePair) (sels all : List Sel) (i : ℕ) (xs ys : List TypePair) → all ≡ sels → length all ≤ i → Grows (ArePromoted S T p (take i all)) xs ys → Grows (ArePromoted S T p sels) xs ys
promoted_all S T p sels all i xs ys e h g = subst (λ (w : List Sel). Grows (ArePromoted S T p w) xs ys) (take_past i all h ∙ e) g
