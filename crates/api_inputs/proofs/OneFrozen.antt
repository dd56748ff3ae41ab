-- Files of frozen lines give one list of lines or have one fault.
use Rattle.std.proofs.Common.{◌≡◌, ℕ, Bool, true, false, List, [], ◌∷◌, ◌++◌, length, refl, sym, ◌∙◌, subst, inl, inr, arith}
use Rattle.std.specs.Prelude.{IsUtf8}
use Rattle.std.specs.Str.{IsValidUpTo}
use Rattle.std.specs.Str.Lines.{lines}
use Rattle.std.proofs.lemmas.Str.{utf8_valid_len-IsValidUpTo}
use mathlib.Core.Bool.{true≢false}
use Rattle.api_frozen.proofs.Cutting.{cut_once}
use Rattle.api_frozen.specs.FrozenFiles.{AreFrozen, frozen_none, frozen_skipped, frozen_line, HasCause, IsBad, IsCut, IsFirstBad, IsFrozenFile, is_skipped}
use Rattle.api_frozen.specs.declared.error.FrozenError.TheVariants as error
use Rattle.go_base.proofs.Lists.{take_past}
use Rattle.go_base.specs.Lists.{Has}

yes_no : {A : Type 0} (b : Bool) → b ≡ true → b ≡ false → A
yes_no b e f = absurd (true≢false (sym e ∙ f))

-- ---- the lines of a file

pub one_frozen : {ls a b : List (List ℕ)} → AreFrozen ls a → AreFrozen ls b → a ≡ b
one_frozen frozen_none frozen_none = refl
one_frozen (frozen_skipped s d) (frozen_skipped t e) = one_frozen d e
one_frozen (frozen_skipped {line = line} s d) (frozen_line t c f e) = yes_no (is_skipped line) s t
one_frozen (frozen_line {line = line} s c f d) (frozen_skipped t e) = yes_no (is_skipped line) t s
one_frozen (frozen_line {line = line} {text = x} s c f d) (frozen_line {text = y} t k g e) =
    let text : x ≡ y = cut_once line x y c k in
    let rest = one_frozen d e in
    (λ i. text i ∷ rest i)

good_line : {ls texts : List (List ℕ)} → AreFrozen ls texts → (line : List ℕ) → Has ls line → IsBad line → ⊥
good_line frozen_none line h b = h
good_line (frozen_skipped {line = l} s d) line (inl e) b = yes_no (is_skipped line) (subst (λ (w : List ℕ). is_skipped w ≡ true) e s) b.counts
good_line (frozen_skipped s d) line (inr h) b = good_line d line h b
good_line (frozen_line {line = l} {text = x} s c f d) line (inl e) b = b.other x (subst (λ (w : List ℕ). IsCut w x) e c) f
good_line (frozen_line s c f d) line (inr h) b = good_line d line h b

middle : (xs ys : List (List ℕ)) (x : List ℕ) → Has (xs ++ x ∷ ys) x
middle [] ys x = inl refl
middle (z ∷ xs) ys x = inr (middle xs ys x)

-- the first bad item of a list stands at one place
same_place : (Good Bad : List ℕ → Type 0) → ((x : List ℕ) → Good x → Bad x → ⊥) → (b c more rest : List (List ℕ)) (x y : List ℕ) → b ++ x ∷ more ≡ c ++ y ∷ rest → ((z : List ℕ) → Has b z → Good z) → ((z : List ℕ) → Has c z → Good z)
    → Bad x → Bad y → length b ≡ length c
same_place Good Bad apart [] [] more rest x y e g h k l = refl
same_place Good Bad apart [] (z ∷ c) more rest x y e g h k l = absurd (apart z (h z (inl refl)) (subst Bad (let s : x ≡ z = cc in s) k))
same_place Good Bad apart (z ∷ b) [] more rest x y e g h k l = absurd (apart z (g z (inl refl)) (subst Bad (let s : y ≡ z = cc in s) l))
same_place Good Bad apart (z ∷ b) (w ∷ c) more rest x y e g h k l =
    let s : b ++ x ∷ more ≡ c ++ y ∷ rest = cc in
    omega (arith, same_place Good Bad apart b c more rest x y s (λ v i. g v (inr i)) (λ v i. h v (inr i)) k l)

one_bad : (ls : List (List ℕ)) (m n : ℕ) → IsFirstBad ls m → IsFirstBad ls n → m ≡ n
one_bad ls m n a b =
    let place : length a.0 ≡ length b.0 = same_place (λ l. IsBad l → ⊥) IsBad (λ x g k. g k) a.0 b.0 a.2 b.2 a.1 b.1 (sym a.4 ∙ b.4) (λ z h. good_line a.5 z h) (λ z h. good_line b.5 z h) a.6 b.6 in
    omega (arith, a.7, b.7, place)

frozen_or_bad : (ls texts : List (List ℕ)) (n : ℕ) → AreFrozen ls texts → IsFirstBad ls n → ⊥
frozen_or_bad ls texts n d b = good_line d b.1 (subst (λ (w : List (List ℕ)). Has w b.1) (sym b.4) (middle b.0 b.2 b.1)) b.6

-- ---- bytes

utf8_or : (bytes : List ℕ) (n : ℕ) → IsUtf8 bytes → IsValidUpTo bytes n → ⊥
utf8_or bytes n u v = v.longest (length bytes) v.short (subst IsUtf8 (sym (take_past (length bytes) bytes (omega arith))) u)

pub one_file : (bytes : List ℕ) (a b : List (List ℕ)) → IsFrozenFile bytes a → IsFrozenFile bytes b → a ≡ b
one_file bytes a b f g = one_frozen f.frozen g.frozen

pub file_or_offset : (bytes : List ℕ) (a : List (List ℕ)) (n : ℕ) → IsFrozenFile bytes a → HasCause bytes (error.NotUtf8 n) → ⊥
file_or_offset bytes a n f h = utf8_or bytes n f.utf8 h

pub file_or_line : (bytes : List ℕ) (a : List (List ℕ)) (n : ℕ) → IsFrozenFile bytes a → HasCause bytes (error.NotALine n) → ⊥
file_or_line bytes a n f h = frozen_or_bad (lines bytes) a n f.frozen h.1

pub one_offset : (bytes : List ℕ) (m n : ℕ) → HasCause bytes (error.NotUtf8 m) → HasCause bytes (error.NotUtf8 n) → m ≡ n
one_offset bytes m n a b = sym (utf8_valid_len-IsValidUpTo bytes m a) ∙ utf8_valid_len-IsValidUpTo bytes n b

pub one_line : (bytes : List ℕ) (m n : ℕ) → HasCause bytes (error.NotALine m) → HasCause bytes (error.NotALine n) → m ≡ n
one_line bytes m n a b = one_bad (lines bytes) m n a.1 b.1

pub offset_or_line : (bytes : List ℕ) (m n : ℕ) → HasCause bytes (error.NotUtf8 m) → HasCause bytes (error.NotALine n) → ⊥
offset_or_line bytes m n a b = utf8_or bytes m b.0 a
