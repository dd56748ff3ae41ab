-- The types that stand in a type are those of a list.
use Rattle.std.proofs.Common.{◌≡◌, ◌⊎◌, ℕ, zero, suc, ◌<◌, ◌≤◌, max, List, [], ◌∷◌, ◌++◌, map, refl, sym, ap, ◌∙◌, subst, inl, inr, arith}
use Rattle.go_type_images.specs.Parts.{field_type, function_type, method_type, parts}
use Rattle.go_base.proofs.Members.{gather_of, has_split}
use Rattle.go_base.specs.Gathered.{gather}
use Rattle.go_base.specs.Lists.{Has}
use Rattle.go_existence.proofs.FiniteSets.{has_left, has_map, has_right}
use Rattle.go_model.specs.declared.types.term.Field.{Field, fold_out-Field, out-Field}
use Rattle.go_model.specs.declared.types.term.Method.{Method, fold_out-Method, out-Method}
use Rattle.go_model.specs.declared.types.term.Signature.{Signature, fold_out-Signature, out-Signature}
use Rattle.go_model.specs.declared.types.term.Term.{Term, Term-F, fold-roll-Term, fold_out-Term, map-Term, out-Term, roll-Term}
use Rattle.go_model.specs.types.Bounds.{above, field_size, greatest, height, height_of_field, height_of_method, height_of_signature, height_step, method_size, signature_height}
use Rattle.go_model.specs.types.Terms.{Layer}

pub has_gathered : {A B : Type 0} (f : A → List B) (xs : List A) (x : A) (y : B) → Has xs x → Has (f x) y → Has (gather f xs) y
has_gathered f [] x y h k = absurd h
has_gathered f (z ∷ xs) x y (inl e) k = has_left (f z) (gather f xs) y (subst (λ w. Has (f w) y) (sym e) k)
has_gathered f (z ∷ xs) x y (inr h) k = has_right (f z) (gather f xs) y (has_gathered f xs x y h k)

-- ---- heights

in_greatest : (hs : List ℕ) (h : ℕ) → Has hs h → h ≤ greatest hs
in_greatest [] h i = absurd i
in_greatest (k ∷ hs) h (inl e) = omega (arith, e)
in_greatest (k ∷ hs) h (inr i) = let l = in_greatest hs h i in omega (arith, l)

in_above : (hs : List ℕ) (h : ℕ) → Has hs h → h < above hs
in_above [] h i = absurd i
in_above (k ∷ hs) h (inl e) = omega (arith, e)
in_above (k ∷ hs) h (inr i) = let l = in_greatest hs h i in omega (arith, l)

abbrev layer_height : Layer → ℕ
layer_height l = height_step (map-Term Term Field Method Signature ℕ ℕ ℕ ℕ height height_of_field height_of_method height_of_signature l)

field_lower : (fs : List Field) (q : Term) → Has (map field_type fs) q → Has (map height_of_field fs) (height q)
field_lower [] q h = absurd h
field_lower (f ∷ fs) q (inl e) = inl (fold_out-Field ℕ ℕ ℕ ℕ height_step field_size method_size signature_height f ∙ ap height e)
field_lower (f ∷ fs) q (inr h) = inr (field_lower fs q h)

function_height : (g : Signature) → height (function_type g) ≡ height_of_signature g
function_height g = fold-roll-Term ℕ ℕ ℕ ℕ height_step field_size method_size signature_height (Term-F.Func g)

method_lower : (ms : List Method) (q : Term) → Has (map method_type ms) q → Has (map height_of_method ms) (height q)
method_lower [] q h = absurd h
method_lower (m ∷ ms) q (inl e) = inl (fold_out-Method ℕ ℕ ℕ ℕ height_step field_size method_size signature_height m ∙ sym (function_height (out-Method m).signature) ∙ ap height e)
method_lower (m ∷ ms) q (inr h) = inr (method_lower ms q h)

signature_lower : (g : Signature) (q : Term) → Has ((out-Signature g).params ++ (out-Signature g).results) q → height q < height_of_signature g
signature_lower g q h =
    subst (λ (n : ℕ). height q < n) (sym (fold_out-Signature ℕ ℕ ℕ ℕ height_step field_size method_size signature_height g))
    (in_above (map height (out-Signature g).params ++ map height (out-Signature g).results) (height q) (both (out-Signature g).params (out-Signature g).results h))
  where
    both : (ps rs : List Term) → Has (ps ++ rs) q → Has (map height ps ++ map height rs) (height q)
    both ps rs k = elim (has_split ps rs q k) [ inl i ↦ has_left (map height ps) (map height rs) (height q) (has_map height ps q i) | inr i ↦ has_right (map height ps) (map height rs) (height q) (has_map height rs q i) ]

layer_lower : (l : Layer) (q : Term) → Has (parts l) q → height q < layer_height l
layer_lower (Term-F.Plain b) q h = absurd h
layer_lower (Term-F.Named n) q h = absurd h
layer_lower (Term-F.Pointer e) q (inl i) = let s = ap height i in omega (arith, s)
layer_lower (Term-F.Pointer e) q (inr h) = absurd h
layer_lower (Term-F.Slice e) q (inl i) = let s = ap height i in omega (arith, s)
layer_lower (Term-F.Slice e) q (inr h) = absurd h
layer_lower (Term-F.Array n e) q (inl i) = let s = ap height i in omega (arith, s)
layer_lower (Term-F.Array n e) q (inr h) = absurd h
layer_lower (Term-F.Map k e) q (inl i) = let s = ap height i in omega (arith, s)
layer_lower (Term-F.Map k e) q (inr (inl i)) = let s = ap height i in omega (arith, s)
layer_lower (Term-F.Map k e) q (inr (inr h)) = absurd h
layer_lower (Term-F.Chan d e) q (inl i) = let s = ap height i in omega (arith, s)
layer_lower (Term-F.Chan d e) q (inr h) = absurd h
layer_lower (Term-F.Func g) q h = signature_lower g q h
layer_lower (Term-F.Struct fs) q h = in_above (map height_of_field fs) (height q) (field_lower fs q h)
layer_lower (Term-F.Interface ms) q h = in_above (map height_of_method ms) (height q) (method_lower ms q h)

part_lower : (t q : Term) → Has (parts (out-Term t)) q → height q < height t
part_lower t q h = subst (λ (n : ℕ). height q < n) (sym (fold_out-Term ℕ ℕ ℕ ℕ height_step field_size method_size signature_height t)) (layer_lower (out-Term t) q h)

-- ---- the types within

-- those that stand at most so deep
within : ℕ → Term → List Term
within zero t = t ∷ []
within (suc n) t = t ∷ gather (within n) (parts (out-Term t))

first_in : (n : ℕ) (t : Term) → Has (within n t) t
unfolding within
first_in zero t = inl refl
first_in (suc n) t = inl refl

part_in : (n : ℕ) (t q x : Term) → height t ≤ n → Has (within n t) x → Has (parts (out-Term x)) q → Has (within n t) q
unfolding within
part_in zero t q x few (inl e) h = absurd (let l = part_lower t q (subst (λ (w : Term). Has (parts (out-Term w)) q) (sym e) h) in omega (arith, few, l))
part_in zero t q x few (inr k) h = absurd k
part_in (suc n) t q x few (inl e) h =
    let k = subst (λ (w : Term). Has (parts (out-Term w)) q) (sym e) h in
    inr (has_gathered (within n) (parts (out-Term t)) q q k (first_in n q))
part_in (suc n) t q x few (inr k) h =
    let p = gather_of (within n) (parts (out-Term t)) x k in
    let l = part_lower t p.0 p.1 in
    inr (has_gathered (within n) (parts (out-Term t)) p.0 q p.1 (part_in n p.0 q x (omega (arith, few, l)) p.2 h))

pub types_in : Term → List Term
types_in t = within (height t) t

pub itself_in : (t : Term) → Has (types_in t) t
unfolding types_in
itself_in t = first_in (height t) t

pub parts_in : (t x q : Term) → Has (types_in t) x → Has (parts (out-Term x)) q → Has (types_in t) q
unfolding types_in
parts_in t x q h k = part_in (height t) t q x (omega arith) h k
