-- Types and signatures as text, part by part.
use Rattle.std.proofs.Common.{◌≡◌, ℕ, ◌+◌, ◌<◌, Bool, true, false, ◌&&◌, List, [], ◌∷◌, ◌++◌, map, length, drop, get_or, refl, sym, ap, ◌∙◌, subst, arith, append_assoc, drop-cons, add-one, length-drop}
use mathlib.Core.Bool.{true≢false}
use Rattle.std.specs.Prelude.{◌==◌, codes}
use Rattle.std.proofs.Math.Dec.{eqb-suc-zero}
use Rattle.go_model.specs.declared.types.package.Package.{Package}
use Rattle.go_model.specs.declared.types.term.Term.{Term, Term-F, roll-Term, roll-out-Term, fold-roll-Term}
use Rattle.go_model.specs.declared.types.term.Term.TheVariants as term
use Rattle.go_model.specs.declared.types.term.Term.TheVariants.{outs-Interface}
use Rattle.go_model.specs.declared.types.term.Method.{Method, fold-Method, fold_out-Method}
use Rattle.go_model.specs.declared.types.term.Signature.{Signature, out-Signature, fold_out-Signature}
use Rattle.api_features.specs.TypeTexts.{as_parameter, commas, field_step, interface_text, is_last, method_step, name_of_method, name_text, others, parameter_texts, result_text, Shown, shown_type, signature_step, signature_text, text_of, type_step, type_text}

-- ---- lists with commas

-- texts, the first behind a separator and each other one behind a comma
abbrev pub separated : List ℕ → List (List ℕ) → List ℕ
separated separator [] = []
separated separator (x ∷ xs) = separator ++ (x ++ others xs)

comma_separator : (xs : List (List ℕ)) → separated (codes ", ") xs ≡ others xs
comma_separator [] = refl
comma_separator (x ∷ xs) = refl

-- one text more
separated_more : (separator text old mid new whole : List ℕ) (texts : List (List ℕ)) → mid ≡ old ++ separator → new ≡ mid ++ text → old ++ separated separator (text ∷ texts) ≡ whole → new ++ separated (codes ", ") texts ≡ whole
separated_more separator text old mid new whole texts m n so =
    ap (λ (w : List ℕ). new ++ w) (comma_separator texts) ∙ ap (λ (w : List ℕ). w ++ others texts) (n ∙ ap (λ (w : List ℕ). w ++ text) m)
    ∙ append_assoc (old ++ separator) text (others texts) ∙ append_assoc old separator (text ++ others texts) ∙ so

rest_of : {A : Type 0} (xs : List A) (i : ℕ) (x : A) → i < length xs → x ≡ get_or xs i x → drop i xs ≡ x ∷ drop (i + 1) xs
rest_of xs i x h is = drop-cons xs i x h ∙ (λ j. sym is j ∷ drop (sym (add-one i) j) xs)

-- ---- interfaces, and pieces in a row

pub interface_some : (ms : List Method) → (length ms == 0) ≡ false → codes "interface{ " ++ commas (map name_of_method ms) ++ codes " }" ≡ interface_text (map name_of_method ms)
interface_some [] n = absurd (true≢false n)
interface_some (m ∷ ms) n = refl

-- what went in three pieces, and in four
pub three_pieces : (a b c old one two three : List ℕ) → one ≡ old ++ a → two ≡ one ++ b → three ≡ two ++ c → three ≡ old ++ (a ++ b ++ c)
three_pieces a b c old one two three p q r =
    r ∙ ap (λ (w : List ℕ). w ++ c) (q ∙ ap (λ (w : List ℕ). w ++ b) p ∙ append_assoc old a b) ∙ append_assoc old (a ++ b) c

pub four_pieces : (a b c d old one two three four : List ℕ) → one ≡ old ++ a → two ≡ one ++ b → three ≡ two ++ c → four ≡ three ++ d → four ≡ old ++ (a ++ b ++ c ++ d)
four_pieces a b c d old one two three four p q r s =
    s ∙ ap (λ (w : List ℕ). w ++ d) (three_pieces a b c old one two three p q r) ∙ append_assoc old (a ++ b ++ c) d

-- ---- types

module _ (packages : List Package) (path : List ℕ) where
  names_are : (ms : List Method) → map name_of_method ms ≡ map (fold-Method Shown (List ℕ) (List ℕ) (List ℕ) (type_step (name_text packages path)) field_step method_step signature_step) ms
  names_are [] = refl
  names_are (m ∷ ms) =
      let first = fold_out-Method Shown (List ℕ) (List ℕ) (List ℕ) (type_step (name_text packages path)) field_step method_step signature_step m in
      let rest = names_are ms in
      (λ i. sym first i ∷ rest i)

  pub interface_is : (t : Term) (ms names : List Method) → t ≡ term.Interface ms → names ≡ ms → interface_text (map name_of_method names) ≡ type_text packages path t
  interface_is t ms names e n =
      ap (λ (w : List Method). interface_text (map name_of_method w)) n ∙ ap interface_text (names_are ms)
      ∙ sym (ap text_of (fold-roll-Term Shown (List ℕ) (List ℕ) (List ℕ) (type_step (name_text packages path)) field_step method_step signature_step (Term-F.Interface ms)))
      ∙ sym (ap (type_text packages path) (e ∙ sym (roll-out-Term (term.Interface ms)) ∙ ap roll-Term (outs-Interface ms)))

  texts_are : (ts : List Term) → map (type_text packages path) ts ≡ map text_of (map (shown_type packages path) ts)
  texts_are [] = refl
  texts_are (t ∷ ts) = ap (λ (w : List (List ℕ)). type_text packages path t ∷ w) (texts_are ts)

  pub signature_is : (g : Signature) (ps rs : List Term) → ps ≡ (out-Signature g).params → rs ≡ (out-Signature g).results
      → codes "(" ++ commas (parameter_texts (map (shown_type packages path) ps) (out-Signature g).variadic) ++ codes ")" ++ result_text (map (type_text packages path) rs) ≡ signature_text packages path g
  signature_is g ps rs p r =
      (λ i. codes "(" ++ commas (parameter_texts (map (shown_type packages path) (p i)) (out-Signature g).variadic) ++ codes ")" ++ result_text (map (type_text packages path) (r i)))
      ∙ ap (λ (w : List (List ℕ)). codes "(" ++ commas (parameter_texts (map (shown_type packages path) (out-Signature g).params) (out-Signature g).variadic) ++ codes ")" ++ result_text w) (texts_are (out-Signature g).results)
      ∙ sym (fold_out-Signature Shown (List ℕ) (List ℕ) (List ℕ) (type_step (name_text packages path)) field_step method_step signature_step g)

  -- ---- parameters

  last_is : (ts : List Term) (n : ℕ) → length ts ≡ n → is_last (map (shown_type packages path) ts) ≡ (n == 0)
  last_is [] n e = subst (λ (m : ℕ). true ≡ (m == 0)) e refl
  last_is (t ∷ ts) n e = subst (λ (m : ℕ). false ≡ (m == 0)) e (sym (eqb-suc-zero (length ts)))

  pub parameters_next : (ts : List Term) (variadic : Bool) (i left : ℕ) (t : Term) (separator text old mid new whole : List ℕ) → i < length ts → t ≡ get_or ts i t → left + (i + 1) ≡ length ts
      → text ≡ as_parameter (variadic && (left == 0)) (shown_type packages path t) → mid ≡ old ++ separator → new ≡ mid ++ text
      → old ++ separated separator (parameter_texts (map (shown_type packages path) (drop i ts)) variadic) ≡ whole
      → new ++ separated (codes ", ") (parameter_texts (map (shown_type packages path) (drop (i + 1) ts)) variadic) ≡ whole
  parameters_next ts variadic i left t separator text old mid new whole h is l e m n so =
      let long : length (drop (i + 1) ts) ≡ left = omega (arith, length-drop (i + 1) ts) in
      let here : text ≡ as_parameter (variadic && is_last (map (shown_type packages path) (drop (i + 1) ts))) (shown_type packages path t) = e ∙ ap (λ (b : Bool). as_parameter (variadic && b) (shown_type packages path t)) (sym (last_is (drop (i + 1) ts) left long)) in
      separated_more separator text old mid new whole (parameter_texts (map (shown_type packages path) (drop (i + 1) ts)) variadic) m n
      (ap (λ (w : List ℕ). old ++ separated separator (w ∷ parameter_texts (map (shown_type packages path) (drop (i + 1) ts)) variadic)) here
      ∙ ap (λ (w : List Term). old ++ separated separator (parameter_texts (map (shown_type packages path) w) variadic)) (sym (rest_of ts i t h is)) ∙ so)
