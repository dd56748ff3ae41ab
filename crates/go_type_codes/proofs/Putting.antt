-- Codes of texts and lists, an item at a time.
use Rattle.std.proofs.Math.Nat.{pow-suc, div-lt_iff_lt-mul}
use Rattle.std.proofs.Common.{◌≡◌, ◌<◌, ◌≤◌, ◌+◌, ◌-◌, ◌/◌, ◌%◌, ◌^◌, ◌*◌, ℕ, zero, suc, List, [], ◌∷◌, ◌++◌, length, drop, get_or, map, refl, sym, ap, ◌∙◌, subst, arith, append_assoc}
use Rattle.go_selectors.proofs.Lists.{drop_next, drop_all}
use Rattle.go_type_codes.specs.Codes.{Code, code_of_text, code_of_list, digits}

joined : (a b d : Code) → ((a ++ 1 ∷ []) ++ b) ++ d ≡ a ++ (1 ∷ (b ++ d))
joined a b d = append_assoc (a ++ 1 ∷ []) b d ∙ append_assoc a (1 ∷ []) (b ++ d)

module _ {A : Type 0} (c : A → Code) where
  pub list_more : (xs : List A) (i : ℕ) (x : A) (out mid new whole : Code) → i < length xs → x ≡ get_or xs i x → mid ≡ out ++ 1 ∷ [] → new ≡ mid ++ c x → out ++ code_of_list (map c (drop i xs)) ≡ whole → new ++ code_of_list (map c (drop (i + 1) xs)) ≡ whole
  list_more xs i x out mid new whole h e f g w =
      ap (λ z. z ++ code_of_list (map c (drop (i + 1) xs))) (g ∙ ap (λ z. z ++ c x) f)
      ∙ joined out (c x) (code_of_list (map c (drop (i + 1) xs)))
      ∙ ap (λ ys. out ++ code_of_list (map c ys)) (sym (drop_next i xs x h e))
      ∙ w

  pub list_end : (xs : List A) (i : ℕ) (out new whole : Code) → length xs ≤ i → new ≡ out ++ 0 ∷ [] → out ++ code_of_list (map c (drop i xs)) ≡ whole → new ≡ whole
  list_end xs i out new whole h g w = g ∙ ap (λ ys. out ++ code_of_list (map c ys)) (sym (drop_all i xs h)) ∙ w

pub text_more : (bytes : List ℕ) (i b : ℕ) (out mid new whole : Code) → i < length bytes → b ≡ get_or bytes i b → mid ≡ out ++ 1 ∷ [] → new ≡ mid ++ b ∷ [] → out ++ code_of_text (drop i bytes) ≡ whole → new ++ code_of_text (drop (i + 1) bytes) ≡ whole
text_more bytes i b out mid new whole h e f g w =
    ap (λ z. z ++ code_of_text (drop (i + 1) bytes)) (g ∙ ap (λ z. z ++ b ∷ []) f)
    ∙ joined out (b ∷ []) (code_of_text (drop (i + 1) bytes))
    ∙ ap (λ ys. out ++ code_of_text ys) (sym (drop_next i bytes b h e))
    ∙ w

pub text_end : (bytes : List ℕ) (i : ℕ) (out new whole : Code) → length bytes ≤ i → new ≡ out ++ 0 ∷ [] → out ++ code_of_text (drop i bytes) ≡ whole → new ≡ whole
text_end bytes i out new whole h g w = g ∙ ap (λ ys. out ++ code_of_text ys) (sym (drop_all i bytes h)) ∙ w

pub get_self : (xs : List ℕ) (i d : ℕ) → i < length xs → get_or xs i 0 ≡ get_or xs i d
get_self [] i d h = absurd (omega arith)
get_self (x ∷ xs) zero d h = refl
get_self (x ∷ xs) (suc i) d h = get_self xs i d (omega arith)

-- what was put twice
pub put_both : (out mid new x y : Code) → mid ≡ out ++ x → new ≡ mid ++ y → new ≡ out ++ (x ++ y)
put_both out mid new x y f g = g ∙ ap (λ z. z ++ y) f ∙ append_assoc out x y

-- a number, a digit at a time
digits_step : (k n : ℕ) → 0 < k → digits k n ≡ n % 256 ∷ digits (k - 1) (n / 256)
digits_step zero n h = absurd (omega arith)
digits_step (suc k) n h = ap (λ j. n % 256 ∷ digits j (n / 256)) (let e : k ≡ suc k - 1 = omega arith in e)

pub digits_smaller : (k n : ℕ) → 0 < k → n < 256 ^ k → n / 256 < 256 ^ (k - 1)
digits_smaller zero n h l = absurd (omega arith)
digits_smaller (suc k) n h l =
    let e : k ≡ suc k - 1 = omega arith in
    let m : n < 256 ^ k * 256 = subst (λ (x : ℕ). n < x) (pow-suc 256 k) l in
    subst (λ (j : ℕ). n / 256 < 256 ^ j) e ((div-lt_iff_lt-mul {k = 256} {x = n} {y = 256 ^ k} (omega arith)).1 m)

pub digits_more : (k n d r j : ℕ) (out new whole : Code) → 0 < k → d ≡ n % 256 → r ≡ n / 256 → j ≡ k - 1 → new ≡ out ++ d ∷ [] → out ++ digits k n ≡ whole → new ++ digits j r ≡ whole
digits_more k n d r j out new whole h e f g i w =
    ap (λ z. z ++ digits j r) (i ∙ ap (λ x. out ++ x ∷ []) e)
    ∙ append_assoc out (n % 256 ∷ []) (digits j r)
    ∙ ap (λ x. out ++ n % 256 ∷ x) (ap (λ x. digits x r) g ∙ ap (digits (k - 1)) f)
    ∙ ap (λ x. out ++ x) (sym (digits_step k n h))
    ∙ w

pub digits_end : (k n : ℕ) (out new whole : Code) → k ≤ 0 → n < 256 ^ k → new ≡ out ++ 0 ∷ [] → out ++ digits k n ≡ whole → new ≡ whole
digits_end zero zero out new whole h l i w = i ∙ w
digits_end zero (suc n) out new whole h l i w = absurd (omega arith)
digits_end (suc k) n out new whole h l i w = absurd (omega arith)
