-- Types as text, part by part.
use Rattle.std.proofs.Common.{◌≡◌, ℕ, ◌+◌, ◌<◌, Bool, true, false, ◌&&◌, List, [], ◌∷◌, ◌++◌, map, length, drop, get_or, refl, sym, ap, ◌∙◌, subst, arith, append_assoc, drop-cons, add-one, length-drop}
use mathlib.Core.Bool.{true≢false}
use Rattle.std.specs.Prelude.{◌==◌, codes}
use Rattle.std.proofs.Math.Dec.{eqb-suc-zero}
use Rattle.go_model.specs.declared.types.term.Term.{Term}
use Rattle.go_model.specs.declared.types.term.Method.{Method}
use Rattle.go_model.specs.declared.types.term.Signature.{Signature, out-Signature, fold_out-Signature}
use Rattle.api_features.specs.ConstantTexts.{AppendsQuoted}
use Rattle.api_features.specs.TypeTexts.{as_parameter, commas, interface_text, is_last, parameter_texts, result_text, Shown, signature_step, text_of}
use Rattle.api_features.proofs.TypeParts.{three_pieces}
use Rattle.api_subjects.specs.TypeTexts.{behind, field_text, layer_text, method_text, shown_type, tag_text, type_text}
use Rattle.api_subjects.specs.inner.Appended.{method_of, separated, signature_of}
use Rattle.api_subjects.specs.inner.Quoting.{quoted}
use Rattle.api_subjects.proofs.Quotes.{quoted_so}

-- ---- texts behind separators

behind_same : (between : List ℕ) (xs : List (List ℕ)) → separated between between xs ≡ behind between xs
behind_same between [] = refl
behind_same between (x ∷ xs) = refl

-- one text more
separated_more : (between separator text old mid new whole : List ℕ) (texts : List (List ℕ)) → mid ≡ old ++ separator → new ≡ mid ++ text → old ++ separated between separator (text ∷ texts) ≡ whole → new ++ separated between between texts ≡ whole
separated_more between separator text old mid new whole texts m n so =
    ap (λ (w : List ℕ). new ++ w) (behind_same between texts) ∙ ap (λ (w : List ℕ). w ++ behind between texts) (n ∙ ap (λ (w : List ℕ). w ++ text) m)
    ∙ append_assoc (old ++ separator) text (behind between texts) ∙ append_assoc old separator (text ++ behind between texts) ∙ so

rest_of : {A : Type 0} (xs : List A) (i : ℕ) (x : A) → i < length xs → x ≡ get_or xs i x → drop i xs ≡ x ∷ drop (i + 1) xs
rest_of xs i x h is = drop-cons xs i x h ∙ (λ j. sym is j ∷ drop (sym (add-one i) j) xs)

-- ---- tags and interfaces

pub tag_appended : (tag old one two new : List ℕ) → (length tag == 0) ≡ false → one ≡ old ++ codes " \"" → AppendsQuoted tag one two → new ≡ two ++ 34 ∷ [] → new ≡ old ++ tag_text quoted tag
tag_appended [] old one two new some p q r = absurd (true≢false some)
tag_appended (b ∷ bs) old one two new some p q r = three_pieces (codes " \"") (quoted (b ∷ bs)) (34 ∷ []) old one two new p (q.2 ∙ ap (λ (w : List ℕ). one ++ w) (quoted_so (b ∷ bs) q.0 q.1)) r

pub interface_some : (ms : List Method) → (length ms == 0) ≡ false → codes "interface{ " ++ commas (map method_of ms) ++ codes " }" ≡ interface_text (map method_of ms)
interface_some [] n = absurd (true≢false n)
interface_some (m ∷ ms) n = refl

-- ---- signatures

texts_are : (ts : List Term) → map (type_text quoted) ts ≡ map text_of (map (shown_type quoted) ts)
texts_are [] = refl
texts_are (t ∷ ts) = ap (λ (w : List (List ℕ)). type_text quoted t ∷ w) (texts_are ts)

pub signature_is : (g : Signature) (ps rs : List Term) → ps ≡ (out-Signature g).params → rs ≡ (out-Signature g).results
    → codes "(" ++ commas (parameter_texts (map (shown_type quoted) ps) (out-Signature g).variadic) ++ codes ")" ++ result_text (map (type_text quoted) rs) ≡ signature_of g
signature_is g ps rs p r =
    (λ i. codes "(" ++ commas (parameter_texts (map (shown_type quoted) (p i)) (out-Signature g).variadic) ++ codes ")" ++ result_text (map (type_text quoted) (r i)))
    ∙ ap (λ (w : List (List ℕ)). codes "(" ++ commas (parameter_texts (map (shown_type quoted) (out-Signature g).params) (out-Signature g).variadic) ++ codes ")" ++ result_text w) (texts_are (out-Signature g).results)
    ∙ sym (fold_out-Signature Shown (List ℕ) (List ℕ) (List ℕ) layer_text (field_text quoted) method_text signature_step g)

last_is : (ts : List Term) (n : ℕ) → length ts ≡ n → is_last (map (shown_type quoted) ts) ≡ (n == 0)
last_is [] n e = subst (λ (m : ℕ). true ≡ (m == 0)) e refl
last_is (t ∷ ts) n e = subst (λ (m : ℕ). false ≡ (m == 0)) e (sym (eqb-suc-zero (length ts)))

pub parameters_next : (ts : List Term) (variadic : Bool) (i left : ℕ) (t : Term) (separator text old mid new whole : List ℕ) → i < length ts → t ≡ get_or ts i t → left + (i + 1) ≡ length ts
    → text ≡ as_parameter (variadic && (left == 0)) (shown_type quoted t) → mid ≡ old ++ separator → new ≡ mid ++ text
    → old ++ separated (codes ", ") separator (parameter_texts (map (shown_type quoted) (drop i ts)) variadic) ≡ whole
    → new ++ separated (codes ", ") (codes ", ") (parameter_texts (map (shown_type quoted) (drop (i + 1) ts)) variadic) ≡ whole
parameters_next ts variadic i left t separator text old mid new whole h is l e m n so =
    let long : length (drop (i + 1) ts) ≡ left = omega (arith, length-drop (i + 1) ts) in
    let here : text ≡ as_parameter (variadic && is_last (map (shown_type quoted) (drop (i + 1) ts))) (shown_type quoted t) = e ∙ ap (λ (b : Bool). as_parameter (variadic && b) (shown_type quoted t)) (sym (last_is (drop (i + 1) ts) left long)) in
    separated_more (codes ", ") separator text old mid new whole (parameter_texts (map (shown_type quoted) (drop (i + 1) ts)) variadic) m n
    (ap (λ (w : List ℕ). old ++ separated (codes ", ") separator (w ∷ parameter_texts (map (shown_type quoted) (drop (i + 1) ts)) variadic)) here
    ∙ ap (λ (w : List Term). old ++ separated (codes ", ") separator (parameter_texts (map (shown_type quoted) w) variadic)) (sym (rest_of ts i t h is)) ∙ so)
