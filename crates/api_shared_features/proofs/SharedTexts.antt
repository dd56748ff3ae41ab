-- Types have the same texts in two worlds that share what they name.
use Rattle.std.proofs.Common.{◌≡◌, ℕ, Bool, true, false, ◌||◌, List, [], ◌∷◌, ◌++◌, map, Option, Some, None, refl, sym, ap, ◌∙◌, subst, inl, inr, ◌⊎◌, if◌then◌else◌}
use mathlib.Core.Bool.{true≢false}
use Rattle.std.specs.Prelude.{codes, decimal}
use Rattle.std.specs.Str.{bytes_eq}
use Rattle.go_base.specs.Keys.{first_with}
use Rattle.go_base.specs.Lists.{Has}
use Rattle.go_selectors.proofs.Lists.{has-left, has-right}
use Rattle.go_model.specs.declared.types.names.TypeName.{TypeName}
use Rattle.go_model.specs.declared.types.package.Package.{Package}
use Rattle.go_model.specs.declared.types.term.Direction.{Direction}
use Rattle.go_model.specs.declared.types.term.Field.{Field, fold-Field}
use Rattle.go_model.specs.declared.types.term.Method.{Method, fold-Method, fold_out-Method}
use Rattle.go_model.specs.declared.types.term.Signature.{Signature, fold-Signature, fold_out-Signature, out-Signature}
use Rattle.go_model.specs.declared.types.term.Term.{Term, Term-F, fold-roll-Term, map-Term, out-Term, roll-Term, roll-out-Term}
use Rattle.go_model.specs.types.Terms.{Layer, is_error}
use Rattle.go_model.specs.worlds.Worlds.{path_of}
use Rattle.go_type_images.specs.Leaves.{Leaves, leaves}
use Rattle.go_type_images.specs.Parts.{parts}
use Rattle.go_type_images.proofs.ByParts.{by_parts}
use Rattle.go_type_images.proofs.Leaves.{leaf, part_leaves}
use Rattle.api_features.specs.TypeTexts.{Shown, as_parameter, basic_text, commas, direction_text, field_step, interface_text, is_last, method_step, name_of_method, name_text, parameter_texts, qualified, result_text, shown, shown_type, signature_step, signature_text, text_of, type_step, type_text}

module _ (ws vs : List Package) (path : List ℕ) (P : TypeName → Bool) (names_same : (n : TypeName) → P n ≡ true → name_text ws path n ≡ name_text vs path n) where
  -- the texts of the type are the same
  abbrev pub Same : Term → Type 0
  Same t = shown_type ws path t ≡ shown_type vs path t

  abbrev level : List Package → Layer → Shown
  level ps l = shown_type ps path (roll-Term l)

  all_same : (ts : List Term) → ((u : Term) → Has ts u → Same u) → map (shown_type ws path) ts ≡ map (shown_type vs path) ts
  all_same [] h = refl
  all_same (t ∷ ts) h = let p = h t (inl refl) in let q = all_same ts (λ u k. h u (inr k)) in λ i. p i ∷ q i

  signature_as : (ps : List Package) (g : Signature) → signature_text ps path g ≡ codes "(" ++ commas (parameter_texts (map (shown_type ps path) (out-Signature g).params) (out-Signature g).variadic) ++ codes ")" ++ result_text (map text_of (map (shown_type ps path) (out-Signature g).results))
  signature_as ps g = fold_out-Signature Shown (List ℕ) (List ℕ) (List ℕ) (type_step (name_text ps path)) field_step method_step signature_step g

  pub signature_same : (g : Signature) → ((u : Term) → Has ((out-Signature g).params ++ (out-Signature g).results) u → Same u) → signature_text ws path g ≡ signature_text vs path g
  signature_same g h =
      let p = all_same (out-Signature g).params (λ u k. h u (has-left (out-Signature g).params (out-Signature g).results u k)) in
      let r = all_same (out-Signature g).results (λ u k. h u (has-right (out-Signature g).params (out-Signature g).results u k)) in
      signature_as ws g
      ∙ (λ i. codes "(" ++ commas (parameter_texts (p i) (out-Signature g).variadic) ++ codes ")" ++ result_text (map text_of (r i)))
      ∙ sym (signature_as vs g)

  abbrev fields : List Package → Field → List ℕ
  fields ps = fold-Field Shown (List ℕ) (List ℕ) (List ℕ) (type_step (name_text ps path)) field_step method_step signature_step

  abbrev methods : List Package → Method → List ℕ
  methods ps = fold-Method Shown (List ℕ) (List ℕ) (List ℕ) (type_step (name_text ps path)) field_step method_step signature_step

  rolled : (ps : List Package) (l : Layer) → level ps l ≡ type_step (name_text ps path) (map-Term Term Field Method Signature Shown (List ℕ) (List ℕ) (List ℕ) (shown_type ps path) (fields ps) (methods ps) (signature_text ps path) l)
  rolled ps l = fold-roll-Term Shown (List ℕ) (List ℕ) (List ℕ) (type_step (name_text ps path)) field_step method_step signature_step l

  method_names : (ps : List Package) (ms : List Method) → map (methods ps) ms ≡ map name_of_method ms
  method_names ps [] = refl
  method_names ps (m ∷ ms) =
      let first = fold_out-Method Shown (List ℕ) (List ℕ) (List ℕ) (type_step (name_text ps path)) field_step method_step signature_step m in
      let rest = method_names ps ms in
      λ i. first i ∷ rest i

  level_same : (l : Layer) → ((n : TypeName) → l ≡ Term-F.Named n → P n ≡ true) → ((u : Term) → Has (parts l) u → Same u) → level ws l ≡ level vs l
  level_same (Term-F.Plain b) f h = rolled ws (Term-F.Plain b) ∙ sym (rolled vs (Term-F.Plain b))
  level_same (Term-F.Named n) f h = rolled ws (Term-F.Named n) ∙ ap shown (names_same n (f n refl)) ∙ sym (rolled vs (Term-F.Named n))
  level_same (Term-F.Pointer e) f h = rolled ws (Term-F.Pointer e) ∙ ap (λ (x : Shown). shown (codes "*" ++ x.text)) (h e (inl refl)) ∙ sym (rolled vs (Term-F.Pointer e))
  level_same (Term-F.Slice e) f h = rolled ws (Term-F.Slice e) ∙ ap (λ (x : Shown). record { text = codes "[]" ++ x.text; spread = codes "..." ++ x.text }) (h e (inl refl)) ∙ sym (rolled vs (Term-F.Slice e))
  level_same (Term-F.Array n e) f h = rolled ws (Term-F.Array n e) ∙ ap (λ (x : Shown). shown (codes "[" ++ decimal n ++ codes "]" ++ x.text)) (h e (inl refl)) ∙ sym (rolled vs (Term-F.Array n e))
  level_same (Term-F.Map k e) f h =
      let p = h k (inl refl) in
      let q = h e (inr (inl refl)) in
      rolled ws (Term-F.Map k e) ∙ (λ i. shown (codes "map[" ++ text_of (p i) ++ codes "]" ++ text_of (q i))) ∙ sym (rolled vs (Term-F.Map k e))
  level_same (Term-F.Chan d e) f h = rolled ws (Term-F.Chan d e) ∙ ap (λ (x : Shown). shown (direction_text d ++ x.text)) (h e (inl refl)) ∙ sym (rolled vs (Term-F.Chan d e))
  level_same (Term-F.Func g) f h = rolled ws (Term-F.Func g) ∙ ap (λ (x : List ℕ). shown (codes "func" ++ x)) (signature_same g h) ∙ sym (rolled vs (Term-F.Func g))
  level_same (Term-F.Struct fs) f h = rolled ws (Term-F.Struct fs) ∙ sym (rolled vs (Term-F.Struct fs))
  level_same (Term-F.Interface ms) f h = rolled ws (Term-F.Interface ms) ∙ ap (λ (x : List (List ℕ)). shown (interface_text x)) (method_names ws ms ∙ sym (method_names vs ms)) ∙ sym (rolled vs (Term-F.Interface ms))

  -- where each name in a type passes, its texts are the same
  pub shown_same : (t : Term) → Leaves P t → Same t
  shown_same = by_parts (λ t. Leaves P t → Same t) (λ t h k. ap (shown_type ws path) (sym (roll-out-Term t)) ∙ level_same (out-Term t) (leaf k) (λ u j. h u j (part_leaves k u j)) ∙ ap (shown_type vs path) (roll-out-Term t))

  pub text_same : (t : Term) → Leaves P t → type_text ws path t ≡ type_text vs path t
  text_same t h = ap text_of (shown_same t h)
