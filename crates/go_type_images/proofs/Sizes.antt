-- An image is as large and as high as the type.
use Rattle.std.proofs.Common.{◌≡◌, ℕ, suc, ◌+◌, max, sum, List, [], ◌∷◌, ◌++◌, map, inl, inr, refl, sym, ap, ◌∙◌, arith}
use Rattle.std.proofs.lemmas.List.Sums.{sum_by-append}
use Rattle.go_base.specs.Lists.{Has}
use Rattle.go_model.specs.declared.types.term.Term.{Term, Term-F, out-Term, roll-Term, fold-roll-Term, roll-out-Term}
use Rattle.go_model.specs.declared.types.term.Field.{fold_out-Field}
use Rattle.go_model.specs.declared.types.term.Method.{Method, out-Method, fold_out-Method}
use Rattle.go_model.specs.declared.types.term.Signature.{Signature, out-Signature, fold_out-Signature}
use Rattle.go_model.specs.types.Bounds.{above, field_size, height, height_of_field, height_of_method, height_of_signature, height_step, method_size, node_step, nodes, nodes_of_field, nodes_of_method, nodes_of_signature, signature_height, signature_nodes}
use Rattle.go_model.specs.types.Terms.{Layer}
use Rattle.go_type_images.specs.Images.{Naming, Selecting, image}
use Rattle.go_type_images.specs.Parts.{field_type, function_type, method_type, parts}
use Rattle.go_type_images.proofs.ImageParts.{map_append, parts_image}
use Rattle.go_type_images.proofs.ImageLevels.{out_image}
use Rattle.go_type_images.proofs.ByParts.{by_parts}

sum_append : (xs ys : List ℕ) → sum (xs ++ ys) ≡ sum xs + sum ys
sum_append xs ys = sum_by-append (λ n. n) xs ys

map_map : {A B C : Type 0} (f : B → C) (g : A → B) (h : A → C) (xs : List A) → ((x : A) → h x ≡ f (g x)) → map h xs ≡ map f (map g xs)
map_map f g h [] e = refl
map_map f g h (x ∷ xs) e = λ i. e x i ∷ map_map f g h xs e i

-- what is made of the same of the parts alone is the same of an image
module _ (size : Term → ℕ) (made : List ℕ → ℕ) (is : (t : Term) → size t ≡ made (map size (parts (out-Term t)))) (r : Naming) (s : Selecting) where
  abbrev Same : Term → Type 0
  Same t = size (image r s t) ≡ size t

  all : (ts : List Term) → ((u : Term) → Has ts u → Same u) → map size (map (image r s) ts) ≡ map size ts
  all [] h = refl
  all (t ∷ ts) h = λ i. h t (inl refl) i ∷ all ts (λ u k. h u (inr k)) i

  pub same_size : (t : Term) → size (image r s t) ≡ size t
  same_size t = by_parts Same (λ u h.
      is (image r s u) ∙ ap (λ l. made (map size (parts l))) (out_image r s u) ∙ ap (λ ts. made (map size ts)) (parts_image r s (out-Term u)) ∙ ap made (all (parts (out-Term u)) h) ∙ sym (is u)) t

-- ---- nodes

abbrev all_nodes : List Term → ℕ
all_nodes ts = suc (sum (map nodes ts))

function_nodes : (g : Signature) → nodes_of_signature g ≡ all_nodes ((out-Signature g).params ++ (out-Signature g).results)
function_nodes g =
    fold_out-Signature ℕ ℕ ℕ ℕ node_step field_size method_size signature_nodes g
    ∙ ap suc (sym (ap sum (map_append nodes (out-Signature g).params (out-Signature g).results) ∙ sum_append (map nodes (out-Signature g).params) (map nodes (out-Signature g).results)))

rolled_function : (g : Signature) → nodes (function_type g) ≡ nodes_of_signature g
rolled_function g = fold-roll-Term ℕ ℕ ℕ ℕ node_step field_size method_size signature_nodes (Term-F.Func g)

method_nodes : (m : Method) → nodes_of_method m ≡ nodes (method_type m)
method_nodes m = fold_out-Method ℕ ℕ ℕ ℕ node_step field_size method_size signature_nodes m ∙ sym (rolled_function (out-Method m).signature)

one_part : (e : Term) → suc (nodes e) ≡ all_nodes (e ∷ [])
one_part e = omega arith

two_parts : (k e : Term) → suc (nodes k + nodes e) ≡ all_nodes (k ∷ e ∷ [])
two_parts k e = omega arith

level_nodes : (l : Layer) → nodes (roll-Term l) ≡ all_nodes (parts l)
level_nodes (Term-F.Plain b) = fold-roll-Term ℕ ℕ ℕ ℕ node_step field_size method_size signature_nodes (Term-F.Plain b)
level_nodes (Term-F.Named n) = fold-roll-Term ℕ ℕ ℕ ℕ node_step field_size method_size signature_nodes (Term-F.Named n)
level_nodes (Term-F.Pointer e) = fold-roll-Term ℕ ℕ ℕ ℕ node_step field_size method_size signature_nodes (Term-F.Pointer e) ∙ one_part e
level_nodes (Term-F.Slice e) = fold-roll-Term ℕ ℕ ℕ ℕ node_step field_size method_size signature_nodes (Term-F.Slice e) ∙ one_part e
level_nodes (Term-F.Array n e) = fold-roll-Term ℕ ℕ ℕ ℕ node_step field_size method_size signature_nodes (Term-F.Array n e) ∙ one_part e
level_nodes (Term-F.Map k e) = fold-roll-Term ℕ ℕ ℕ ℕ node_step field_size method_size signature_nodes (Term-F.Map k e) ∙ two_parts k e
level_nodes (Term-F.Chan d e) = fold-roll-Term ℕ ℕ ℕ ℕ node_step field_size method_size signature_nodes (Term-F.Chan d e) ∙ one_part e
level_nodes (Term-F.Func g) = rolled_function g ∙ function_nodes g
level_nodes (Term-F.Struct fs) = fold-roll-Term ℕ ℕ ℕ ℕ node_step field_size method_size signature_nodes (Term-F.Struct fs) ∙ ap (λ ns. suc (sum ns)) (map_map nodes field_type nodes_of_field fs (λ f. fold_out-Field ℕ ℕ ℕ ℕ node_step field_size method_size signature_nodes f))
level_nodes (Term-F.Interface ms) = fold-roll-Term ℕ ℕ ℕ ℕ node_step field_size method_size signature_nodes (Term-F.Interface ms) ∙ ap (λ ns. suc (sum ns)) (map_map nodes method_type nodes_of_method ms method_nodes)

pub same_nodes : (r : Naming) (s : Selecting) (t : Term) → nodes (image r s t) ≡ nodes t
same_nodes r s t = same_size nodes (λ ns. suc (sum ns)) (λ u. ap nodes (sym (roll-out-Term u)) ∙ level_nodes (out-Term u)) r s t

-- ---- height

function_height : (g : Signature) → height_of_signature g ≡ above (map height ((out-Signature g).params ++ (out-Signature g).results))
function_height g = fold_out-Signature ℕ ℕ ℕ ℕ height_step field_size method_size signature_height g ∙ ap above (sym (map_append height (out-Signature g).params (out-Signature g).results))

rolled_height : (g : Signature) → height (function_type g) ≡ height_of_signature g
rolled_height g = fold-roll-Term ℕ ℕ ℕ ℕ height_step field_size method_size signature_height (Term-F.Func g)

method_height : (m : Method) → height_of_method m ≡ height (method_type m)
method_height m = fold_out-Method ℕ ℕ ℕ ℕ height_step field_size method_size signature_height m ∙ sym (rolled_height (out-Method m).signature)

one_above : (e : Term) → suc (height e) ≡ above (height e ∷ [])
one_above e = omega arith

two_above : (k e : Term) → suc (max (height k) (height e)) ≡ above (height k ∷ height e ∷ [])
two_above k e = omega arith

level_height : (l : Layer) → height (roll-Term l) ≡ above (map height (parts l))
level_height (Term-F.Plain b) = fold-roll-Term ℕ ℕ ℕ ℕ height_step field_size method_size signature_height (Term-F.Plain b)
level_height (Term-F.Named n) = fold-roll-Term ℕ ℕ ℕ ℕ height_step field_size method_size signature_height (Term-F.Named n)
level_height (Term-F.Pointer e) = fold-roll-Term ℕ ℕ ℕ ℕ height_step field_size method_size signature_height (Term-F.Pointer e) ∙ one_above e
level_height (Term-F.Slice e) = fold-roll-Term ℕ ℕ ℕ ℕ height_step field_size method_size signature_height (Term-F.Slice e) ∙ one_above e
level_height (Term-F.Array n e) = fold-roll-Term ℕ ℕ ℕ ℕ height_step field_size method_size signature_height (Term-F.Array n e) ∙ one_above e
level_height (Term-F.Map k e) = fold-roll-Term ℕ ℕ ℕ ℕ height_step field_size method_size signature_height (Term-F.Map k e) ∙ two_above k e
level_height (Term-F.Chan d e) = fold-roll-Term ℕ ℕ ℕ ℕ height_step field_size method_size signature_height (Term-F.Chan d e) ∙ one_above e
level_height (Term-F.Func g) = rolled_height g ∙ function_height g
level_height (Term-F.Struct fs) = fold-roll-Term ℕ ℕ ℕ ℕ height_step field_size method_size signature_height (Term-F.Struct fs) ∙ ap above (map_map height field_type height_of_field fs (λ f. fold_out-Field ℕ ℕ ℕ ℕ height_step field_size method_size signature_height f))
level_height (Term-F.Interface ms) = fold-roll-Term ℕ ℕ ℕ ℕ height_step field_size method_size signature_height (Term-F.Interface ms) ∙ ap above (map_map height method_type height_of_method ms method_height)

pub same_height : (r : Naming) (s : Selecting) (t : Term) → height (image r s t) ≡ height t
same_height r s t = same_size height above (λ u. ap height (sym (roll-out-Term u)) ∙ level_height (out-Term u)) r s t
