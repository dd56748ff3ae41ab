-- Settings that are read from words.
use Rattle.std.proofs.Common.{◌≡◌, ℕ, zero, suc, ◌+◌, ◌-◌, ◌<◌, List, [], ◌∷◌, ◌++◌, length, drop, get_or, map, refl, sym, ap, ◌∙◌, subst, append_assoc, append-nil, arith, inl, inr}
use Rattle.std.proofs.lemmas.List.{drop_all, drop_more}
use Rattle.go_base.specs.Lists.{Has}
use Rattle.api_words.specs.declared.settings.Setting.{Setting}
use Rattle.api_words.specs.Words.{AreSettings, IsSetting}

-- the settings so far, read from the prefix of the words: more of them go on in the rest
pub record ReadTo (words rest : List (List ℕ)) (settings : List Setting) : Type 0 where
  pub forth : (more : List Setting) → AreSettings rest more → AreSettings words (settings ++ more)
  pub back : (all : List Setting) → AreSettings words all → (more : List Setting) × AreSettings rest more

pub read_none : (words : List (List ℕ)) → ReadTo words words []
read_none words = record { forth = λ more h. h; back = λ all h. (all, h) }

pub read_more : (words rest more : List (List ℕ)) (word value : List ℕ) (settings : List Setting) (s : Setting) → rest ≡ word ∷ value ∷ more → IsSetting word value s → ReadTo words rest settings → ReadTo words more (settings ++ s ∷ [])
read_more words rest more word value settings s e is r = record {
  forth = λ ss h. subst (AreSettings words) (sym (append_assoc settings (s ∷ []) ss)) (r.forth (s ∷ ss) (subst (λ (ws : List (List ℕ)). AreSettings ws (s ∷ ss)) (sym e) (is, h)));
  back = λ all h. behind (r.back all h).0 (subst (λ (ws : List (List ℕ)). AreSettings ws (r.back all h).0) e (r.back all h).1);
}
  where
    behind : (ss : List Setting) → AreSettings (word ∷ value ∷ more) ss → (ts : List Setting) × AreSettings more ts
    behind [] h = absurd h
    behind (t ∷ ts) h = (ts, h.1)

pub read_not : (words rest more : List (List ℕ)) (word value : List ℕ) (settings : List Setting) → rest ≡ word ∷ value ∷ more → ((s : Setting) → IsSetting word value s → ⊥) → ReadTo words rest settings → (all : List Setting) → AreSettings words all → ⊥
read_not words rest more word value settings e none r all h = none_of (r.back all h).0 (subst (λ (ws : List (List ℕ)). AreSettings ws (r.back all h).0) e (r.back all h).1)
  where
    none_of : (ss : List Setting) → AreSettings (word ∷ value ∷ more) ss → ⊥
    none_of [] h = h
    none_of (t ∷ ts) h = none t h.0

pub read_odd : (words rest : List (List ℕ)) (settings : List Setting) → length rest ≡ 1 → ReadTo words rest settings → (all : List Setting) → AreSettings words all → ⊥
read_odd words rest settings one r all h = odd rest (r.back all h).0 one (r.back all h).1
  where
    odd : (ws : List (List ℕ)) (ss : List Setting) → length ws ≡ 1 → AreSettings ws ss → ⊥
    odd [] ss e a = absurd (omega arith)
    odd (w ∷ []) [] e a = a
    odd (w ∷ []) (s ∷ ss) e a = a
    odd (w ∷ v ∷ ws) ss e a = absurd (omega arith)

pub read_all : (words : List (List ℕ)) (settings : List Setting) → ReadTo words [] settings → AreSettings words settings
read_all words settings r = subst (AreSettings words) (append-nil settings) (r.forth [] tt)

-- the words as the code has them
pub setting_as : {word word' value value' : List ℕ} {s : Setting} → word ≡ word' → value ≡ value' → IsSetting word value s → IsSetting word' value' s
setting_as {word' = word'} {value = value} {s = s} e f h = subst (λ (v : List ℕ). IsSetting word' v s) f (subst (λ (w : List ℕ). IsSetting w value s) e h)

pub no_setting_as : {word word' value value' : List ℕ} → word ≡ word' → value ≡ value' → ((s : Setting) → IsSetting word value s → ⊥) → (s : Setting) → IsSetting word' value' s → ⊥
no_setting_as e f none s h = none s (setting_as (sym e) (sym f) h)

-- two words more
pub two_more : {A B : Type 0} (f : A → B) (xs : List A) (i : ℕ) (x y : A) → i + 1 < length xs → x ≡ get_or xs i x → y ≡ get_or xs (i + 1) y → map f (drop i xs) ≡ f x ∷ f y ∷ map f (drop (i + 2) xs)
two_more {A = A} f xs i x y h e g =
    let two : i + 1 + 1 ≡ i + 2 = omega arith in
    let second : drop (i + 1) xs ≡ y ∷ drop (i + 2) xs = subst (λ (n : ℕ). drop (i + 1) xs ≡ y ∷ drop n xs) two (drop_more xs (i + 1) y h ∙ ap (λ (z : A). z ∷ drop (i + 1 + 1) xs) (sym g)) in
    ap (map f) (drop_more xs i x (omega arith) ∙ ap (λ (z : A). z ∷ drop (i + 1) xs) (sym e) ∙ ap (λ (ys : List A). x ∷ ys) second)

length_map_drop : {A B : Type 0} (f : A → B) (xs : List A) (i : ℕ) → length (map f (drop i xs)) ≡ length xs - i
length_map_drop f [] zero = refl
length_map_drop f [] (suc i) = omega arith
length_map_drop f (x ∷ xs) zero = ap suc (length_map_drop f xs 0) ∙ omega arith
length_map_drop f (x ∷ xs) (suc i) = length_map_drop f xs i ∙ omega arith

pub one_left : {A B : Type 0} (f : A → B) (xs : List A) (i : ℕ) → length xs - i ≡ 1 → length (map f (drop i xs)) ≡ 1
one_left f xs i h = length_map_drop f xs i ∙ h

pub none_left : {A B : Type 0} (f : A → B) (xs : List A) (i : ℕ) → length xs ≡ i → map f (drop i xs) ≡ []
none_left f xs i h = ap (map f) (drop_all i xs (omega (arith, h)))

-- the value of a setting is one of the words
pub value_among : (words : List (List ℕ)) (settings : List Setting) (s : Setting) → AreSettings words settings → Has settings s → Has words s.value
value_among [] [] s are h = absurd h
value_among [] (t ∷ ts) s are h = absurd are
value_among (w ∷ []) [] s are h = absurd are
value_among (w ∷ []) (t ∷ ts) s are h = absurd are
value_among (w ∷ v ∷ ws) [] s are h = absurd are
value_among (w ∷ v ∷ ws) (t ∷ ts) s are (inl e) = inr (inl (are.0.same ∙ ap (λ (it : Setting). it.value) e))
value_among (w ∷ v ∷ ws) (t ∷ ts) s are (inr h) = inr (inr (value_among ws ts s are.1 h))
