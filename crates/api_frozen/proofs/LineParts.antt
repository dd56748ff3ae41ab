-- The parts of feature lines.
use Rattle.std.proofs.Common.{◌≡◌, ℕ, false, List, ◌++◌, drop, get_or, refl, sym, ap, ◌∙◌, Option, Some, None, append_assoc}
use mathlib.Core.Bool.{true≢false}
use denote.Ref.{Bor}
use Rattle.std.specs.Prelude.{◌==◌, codes, is_some}
use Rattle.api_frozen.specs.LineShapes.{ends_path, ends_context, after_path, line_of, IsAfterPath, HasParts, IsFeatureLine, IsInContext}
use Rattle.api_frozen.specs.inner.Readings.{context_of, IsStopped, IsSplit, IsFollowed}
use Rattle.api_frozen.proofs.Words.{not_word, word_once}

-- a context in brackets, and then the rest
bracketed : (context rest : List ℕ) → after_path (Some context) rest ≡ codes " (" ++ (context ++ (codes "), " ++ rest))
bracketed context rest = ap (λ (w : List ℕ). codes " (" ++ w) (append_assoc context (codes ")") (codes ", " ++ rest))

path_stopped : (context : Option (List ℕ)) (rest : List ℕ) → IsStopped ends_path (after_path context rest)
path_stopped None rest = refl
path_stopped (Some context) rest = refl

context_stopped : (rest : List ℕ) → IsStopped ends_context (codes "), " ++ rest)
context_stopped rest = refl

-- ---- behind a path

module _ (bytes : List ℕ) where
  pub no_bracket : ((rest : List ℕ) → bytes ≡ codes " (" ++ rest → ⊥) → (context rest : List ℕ) → IsAfterPath bytes (Some context) rest → ⊥
  no_bracket none context rest a = none (context ++ (codes "), " ++ rest)) (a.is ∙ bracketed context rest)

  inside : (after context rest : List ℕ) → bytes ≡ codes " (" ++ after → IsAfterPath bytes (Some context) rest → after ≡ context ++ (codes "), " ++ rest)
  inside after context rest e a = ap (drop 2) (sym e ∙ a.is ∙ bracketed context rest)

  pub no_context : (after : List ℕ) → bytes ≡ codes " (" ++ after → IsStopped ends_context after → (context rest : List ℕ) → IsAfterPath bytes (Some context) rest → ⊥
  no_context after e stopped context rest a = not_word ends_context after context (codes "), " ++ rest) stopped a.context_is (inside after context rest e a)

  module _ (after found behind : List ℕ) (e : bytes ≡ codes " (" ++ after) (s : IsSplit ends_context after found behind) where
    same_context : (context rest : List ℕ) → IsAfterPath bytes (Some context) rest → (found ≡ context) × (behind ≡ codes "), " ++ rest)
    same_context context rest a = word_once ends_context found behind context (codes "), " ++ rest) s.word_is.plain s.stopped a.context_is.plain (context_stopped rest) (sym s.is ∙ inside after context rest e a)

    pub no_end : ((rest : List ℕ) → IsFollowed (codes "), ") behind rest → ⊥) → (context rest : List ℕ) → IsAfterPath bytes (Some context) rest → ⊥
    no_end none context rest a = none rest ((same_context context rest a).1, a.some)

    pub in_brackets : (rest : List ℕ) → IsFollowed (codes "), ") behind rest → IsAfterPath bytes (Some found) rest
    in_brackets rest f = record {
      is = e ∙ ap (λ (w : List ℕ). codes " (" ++ w) (s.is ∙ ap (λ (w : List ℕ). found ++ w) f.0) ∙ sym (bracketed found rest);
      context_is = s.word_is;
      some = f.1;
    }

pub without_context : (bytes rest : List ℕ) → IsFollowed (codes ", ") bytes rest → IsAfterPath bytes None rest
without_context bytes rest f = record { is = f.0; context_is = tt; some = f.1 }

pub nothing_after : (bytes : List ℕ) → ((rest : List ℕ) → IsFollowed (codes ", ") bytes rest → ⊥) → ((context rest : List ℕ) → IsAfterPath bytes (Some context) rest → ⊥) → (context : Option (List ℕ)) (rest : List ℕ) → IsAfterPath bytes context rest → ⊥
nothing_after bytes f g None rest a = f rest (a.is, a.some)
nothing_after bytes f g (Some context) rest a = g context rest a

after_once : (bytes : List ℕ) (c d : Option (List ℕ)) (r s : List ℕ) → IsAfterPath bytes c r → IsAfterPath bytes d s → (c ≡ d) × (r ≡ s)
after_once bytes None None r s a b = (refl, ap (drop 2) (sym a.is ∙ b.is))
after_once bytes None (Some d) r s a b = absurd (true≢false (ap (λ (w : List ℕ). get_or w 0 0 == 44) (sym a.is ∙ b.is)))
after_once bytes (Some c) None r s a b = absurd (true≢false (ap (λ (w : List ℕ). get_or w 0 0 == 32) (sym a.is ∙ b.is)))
after_once bytes (Some c) (Some d) r s a b =
    let e : c ++ (codes "), " ++ r) ≡ d ++ (codes "), " ++ s) = ap (drop 2) (sym (bracketed c r) ∙ sym a.is ∙ b.is ∙ bracketed d s) in
    let k = word_once ends_context c (codes "), " ++ r) d (codes "), " ++ s) a.context_is.plain (context_stopped r) b.context_is.plain (context_stopped s) e in
    (ap Some k.0, ap (drop 3) k.1)

-- ---- the whole line

module _ (text : List ℕ) where
  pub no_package : ((rest : List ℕ) → text ≡ codes "pkg " ++ rest → ⊥) → IsFeatureLine text → ⊥
  no_package none f = none (f.0 ++ after_path f.1 f.2) f.3.is

  tail : (after path : List ℕ) (context : Option (List ℕ)) (rest : List ℕ) → text ≡ codes "pkg " ++ after → HasParts text path context rest → after ≡ path ++ after_path context rest
  tail after path context rest e h = ap (drop 4) (sym e ∙ h.is)

  pub no_path : (after : List ℕ) → text ≡ codes "pkg " ++ after → IsStopped ends_path after → IsFeatureLine text → ⊥
  no_path after e stopped f = not_word ends_path after f.0 (after_path f.1 f.2) stopped f.3.path_is (tail after f.0 f.1 f.2 e f.3)

  module _ (after found behind : List ℕ) (e : text ≡ codes "pkg " ++ after) (s : IsSplit ends_path after found behind) where
    same_path : (path : List ℕ) (context : Option (List ℕ)) (rest : List ℕ) → HasParts text path context rest → (found ≡ path) × (behind ≡ after_path context rest)
    same_path path context rest h = word_once ends_path found behind path (after_path context rest) s.word_is.plain s.stopped h.path_is.plain (path_stopped context rest) (sym s.is ∙ tail after path context rest e h)

    pub no_rest : ((context : Option (List ℕ)) (rest : List ℕ) → IsAfterPath behind context rest → ⊥) → IsFeatureLine text → ⊥
    no_rest none f = none f.1 f.2 (record { is = (same_path f.0 f.1 f.2 f.3).1; context_is = f.3.context_is; some = f.3.some })

    pub all_parts : (context : Option (List ℕ)) (rest : List ℕ) → IsAfterPath behind context rest → HasParts text found context rest
    all_parts context rest a = record {
      is = e ∙ ap (λ (w : List ℕ). codes "pkg " ++ w) (s.is ∙ ap (λ (w : List ℕ). found ++ w) a.is);
      path_is = s.word_is;
      context_is = a.context_is;
      some = a.some;
    }

-- a line has its parts once
pub parts_once : (text p q : List ℕ) (c d : Option (List ℕ)) (r s : List ℕ) → HasParts text p c r → HasParts text q d s → (p ≡ q) × (c ≡ d) × (r ≡ s)
parts_once text p q c d r s h k =
    let e : p ++ after_path c r ≡ q ++ after_path d s = ap (drop 4) (sym h.is ∙ k.is) in
    let w = word_once ends_path p (after_path c r) q (after_path d s) h.path_is.plain (path_stopped c r) k.path_is.plain (path_stopped d s) e in
    let a = after_once (after_path c r) c d r s (record { is = refl; context_is = h.context_is; some = h.some }) (record { is = w.1; context_is = k.context_is; some = k.some }) in
    (w.0, a.0, a.1)

-- a line without context is in none
pub no_plain : (text path rest : List ℕ) → HasParts text path None rest → (plain : List ℕ) → IsInContext text plain → ⊥
no_plain text path rest h plain i = let e : None ≡ Some i.1 = (parts_once text path i.0 None (Some i.1) rest i.2 h i.3).1 in absurd (cc)

-- what is no feature line is in no context
pub none_plain : (text : List ℕ) → (IsFeatureLine text → ⊥) → (plain : List ℕ) → IsInContext text plain → ⊥
none_plain text none plain i = none (i.0, Some i.1, i.2, i.3)

-- a line is in one context
pub plain_once : (text a b : List ℕ) → IsInContext text a → IsInContext text b → a ≡ b
plain_once text a b i j =
    let k = parts_once text i.0 j.0 (Some i.1) (Some j.1) i.2 j.2 i.3 j.3 in
    i.4 ∙ (λ n. line_of (k.0 n) None (k.2 n)) ∙ sym j.4

pub no_context_of : (o : Option (Bor (List ℕ))) → is_some o ≡ false → context_of o ≡ None
no_context_of None e = refl
no_context_of (Some x) e = absurd (true≢false e)
