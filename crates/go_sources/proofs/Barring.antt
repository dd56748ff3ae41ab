-- A name can't be declared beside those of the keys exactly where it clashes with one of them.
use Rattle.std.proofs.Common.{◌≡◌, ◌≢◌, inl, inr, ℕ, Bool, true, false, None, Some, List, [], ◌∷◌, refl, sym, ap, ◌∙◌, subst}
use Rattle.std.specs.Prelude.{if◌then◌else◌}
use mathlib.Core.Bool.{true≢false}
use Rattle.go_base.specs.Growing.{Grows}
use Rattle.go_base.specs.Lists.{Has}
use Rattle.go_syntax.specs.declared.name.Place.{Place}
use Rattle.go_typings.specs.go_rules.Expressions.{is_blank}
use Rattle.go_typings.specs.Declarations.{is_init}
use Rattle.go_typings.specs.Redeclarations.{Clash, Collide, Role, of_import, of_package, of_receiver, Site, site}
use Rattle.go_sources.specs.inner.KnownNames.{AreKeysOf, Bars, key, Puts, Steps, Key, Block, one_file, all_files, one_package, one_receiver}
use Rattle.go_sources.proofs.Visiting.{first_more, free_more, step_nothing}

-- ---- the keys of a name tell what it is declared as

abbrev is_file : Block → Bool
is_file (one_file n) = true
is_file b = false

abbrev is_files : Block → Bool
is_files all_files = true
is_files b = false

abbrev is_package : Block → Bool
is_package one_package = true
is_package b = false

abbrev file_number : Block → ℕ
file_number (one_file n) = n
file_number b = 0

abbrev methods_of : Block → List ℕ
methods_of (one_receiver r) = r
methods_of b = []

abbrev is_methods : Block → Bool
is_methods (one_receiver r) = true
is_methods b = false

module _ (ss : List Site) (keys : List Key) (are : AreKeysOf ss keys) where
  -- what a key of a block was put by
  by_file : (file : ℕ) (name : List ℕ) → Has keys (key (one_file file) name) → (q : Site) × Has ss q × (q.name ≡ name) × (q.role ≡ of_import file)
  by_file file name h = let m = (are (key (one_file file) name)).0 h in let k = of_role m.0.name m.0.role m.2 in (m.0, m.1, k.0, k.1)
    where
      of_role : (n : List ℕ) (r : Role) → Puts n r (key (one_file file) name) → (n ≡ name) × (r ≡ of_import file)
      of_role n (of_import f) (inl e) = (ap (λ (k : Key). k.name) e, ap (λ (k : Key). of_import (file_number k.block)) e)
      of_role n (of_import f) (inr e) = absurd (true≢false (sym (ap (λ (k : Key). is_file k.block) e)))
      of_role n of_package e = absurd (true≢false (sym (ap (λ (k : Key). is_file k.block) e)))
      of_role n (of_receiver r) e = absurd (true≢false (sym (ap (λ (k : Key). is_file k.block) e)))

  by_files : (name : List ℕ) → Has keys (key all_files name) → (q : Site) × Has ss q × (q.name ≡ name) × ((file : ℕ) × (q.role ≡ of_import file))
  by_files name h = let m = (are (key all_files name)).0 h in let k = of_role m.0.name m.0.role m.2 in (m.0, m.1, k.0, k.1)
    where
      of_role : (n : List ℕ) (r : Role) → Puts n r (key all_files name) → (n ≡ name) × ((file : ℕ) × (r ≡ of_import file))
      of_role n (of_import f) (inl e) = absurd (true≢false (sym (ap (λ (k : Key). is_files k.block) e)))
      of_role n (of_import f) (inr e) = (ap (λ (k : Key). k.name) e, (f, refl))
      of_role n of_package e = absurd (true≢false (sym (ap (λ (k : Key). is_files k.block) e)))
      of_role n (of_receiver r) e = absurd (true≢false (sym (ap (λ (k : Key). is_files k.block) e)))

  by_package : (name : List ℕ) → Has keys (key one_package name) → (q : Site) × Has ss q × (q.name ≡ name) × (q.role ≡ of_package)
  by_package name h = let m = (are (key one_package name)).0 h in let k = of_role m.0.name m.0.role m.2 in (m.0, m.1, k.0, k.1)
    where
      of_role : (n : List ℕ) (r : Role) → Puts n r (key one_package name) → (n ≡ name) × (r ≡ of_package)
      of_role n (of_import f) (inl e) = absurd (true≢false (sym (ap (λ (k : Key). is_package k.block) e)))
      of_role n (of_import f) (inr e) = absurd (true≢false (sym (ap (λ (k : Key). is_package k.block) e)))
      of_role n of_package e = (ap (λ (k : Key). k.name) e, refl)
      of_role n (of_receiver r) e = absurd (true≢false (sym (ap (λ (k : Key). is_package k.block) e)))

  by_methods : (receiver name : List ℕ) → Has keys (key (one_receiver receiver) name) → (q : Site) × Has ss q × (q.name ≡ name) × (q.role ≡ of_receiver receiver)
  by_methods receiver name h = let m = (are (key (one_receiver receiver) name)).0 h in let k = of_role m.0.name m.0.role m.2 in (m.0, m.1, k.0, k.1)
    where
      of_role : (n : List ℕ) (r : Role) → Puts n r (key (one_receiver receiver) name) → (n ≡ name) × (r ≡ of_receiver receiver)
      of_role n (of_import f) (inl e) = absurd (true≢false (sym (ap (λ (k : Key). is_methods k.block) e)))
      of_role n (of_import f) (inr e) = absurd (true≢false (sym (ap (λ (k : Key). is_methods k.block) e)))
      of_role n of_package e = absurd (true≢false (sym (ap (λ (k : Key). is_methods k.block) e)))
      of_role n (of_receiver r) e = (ap (λ (k : Key). k.name) e, ap (λ (k : Key). of_receiver (methods_of k.block)) e)

  -- a clash with a name of the keys bars the name
  puts_of : (q : Site) (k : Key) → Has ss q → Puts q.name q.role k → Has keys k
  puts_of q k h p = (are k).1 (q, h, p)

  clash_bars : (q : Site) (name : List ℕ) (r : Role) → Has ss q → q.name ≡ name → Collide q.name q.role r → (p : Role) → q.role ≡ p → Bars keys name r
  clash_bars q name (of_import file) h e c (of_import other) f =
      let k : (other ≡ file) × (q.name ≢ []) = subst (λ (w : Role). Collide q.name w (of_import file)) f c in
      ((λ z. k.1 (e ∙ z)), inl (puts_of q (key (one_file file) name) h (subst (λ (w : Role). Puts q.name w (key (one_file file) name)) (sym f) (inl (λ i. key (one_file (k.0 i)) (e i))))))
  clash_bars q name (of_import file) h e c of_package f =
      let k : q.name ≢ [] = subst (λ (w : Role). Collide q.name w (of_import file)) f c in
      ((λ z. k (e ∙ z)), inr (puts_of q (key one_package name) h (subst (λ (w : Role). Puts q.name w (key one_package name)) (sym f) (ap (key one_package) e))))
  clash_bars q name (of_import file) h e c (of_receiver r) f = absurd (subst (λ (w : Role). Collide q.name w (of_import file)) f c)
  clash_bars q name of_package h e c (of_import other) f =
      let k : q.name ≢ [] = subst (λ (w : Role). Collide q.name w of_package) f c in
      inr ((λ z. k (e ∙ z)), puts_of q (key all_files name) h (subst (λ (w : Role). Puts q.name w (key all_files name)) (sym f) (inr (ap (key all_files) e))))
  clash_bars q name of_package h e c of_package f =
      let k : is_init q.name ≡ false = subst (λ (w : Role). Collide q.name w of_package) f c in
      inl (sym (ap is_init e) ∙ k, puts_of q (key one_package name) h (subst (λ (w : Role). Puts q.name w (key one_package name)) (sym f) (ap (key one_package) e)))
  clash_bars q name of_package h e c (of_receiver r) f = absurd (subst (λ (w : Role). Collide q.name w of_package) f c)
  clash_bars q name (of_receiver receiver) h e c (of_import other) f = absurd (subst (λ (w : Role). Collide q.name w (of_receiver receiver)) f c)
  clash_bars q name (of_receiver receiver) h e c of_package f = absurd (subst (λ (w : Role). Collide q.name w (of_receiver receiver)) f c)
  clash_bars q name (of_receiver receiver) h e c (of_receiver other) f =
      let k : other ≡ receiver = subst (λ (w : Role). Collide q.name w (of_receiver receiver)) f c in
      puts_of q (key (one_receiver receiver) name) h (subst (λ (w : Role). Puts q.name w (key (one_receiver receiver) name)) (sym f) (λ i. key (one_receiver (k i)) (e i)))

  -- a name that is barred clashes with one of the keys
  bars_clash : (s : Site) (r : Role) → s.role ≡ r → Bars keys s.name r → (q : Site) × Has ss q × Clash q s
  bars_clash s (of_import file) g (n, inl h) =
      let m = by_file file s.name h in
      (m.0, m.1, (m.2, subst (λ (w : Role × Role). Collide m.0.name w.0 w.1) (λ i. (sym m.3 i, sym g i)) (refl, λ z. n (sym m.2 ∙ z))))
  bars_clash s (of_import file) g (n, inr h) =
      let m = by_package s.name h in
      (m.0, m.1, (m.2, subst (λ (w : Role × Role). Collide m.0.name w.0 w.1) (λ i. (sym m.3 i, sym g i)) (λ z. n (sym m.2 ∙ z))))
  bars_clash s of_package g (inl h) =
      let m = by_package s.name h.1 in
      (m.0, m.1, (m.2, subst (λ (w : Role × Role). Collide m.0.name w.0 w.1) (λ i. (sym m.3 i, sym g i)) (ap is_init m.2 ∙ h.0)))
  bars_clash s of_package g (inr h) =
      let m = by_files s.name h.1 in
      (m.0, m.1, (m.2, subst (λ (w : Role × Role). Collide m.0.name w.0 w.1) (λ i. (sym m.3.1 i, sym g i)) (λ z. h.0 (sym m.2 ∙ z))))
  bars_clash s (of_receiver receiver) g h =
      let m = by_methods receiver s.name h in
      (m.0, m.1, (m.2, subst (λ (w : Role × Role). Collide m.0.name w.0 w.1) (λ i. (sym m.3 i, sym g i)) refl))

abbrev at : ℕ → ℕ → Place
at file offset = record { file = file; offset = offset }

abbrev named : ℕ → ℕ → List ℕ → Role → Site
named file offset name r = record { place = at file offset; name = name; role = r }

-- a blank name is passed over
pub blank_steps : (file offset : ℕ) (name : List ℕ) (r : Role) (keys : List Key) → is_blank name ≡ true → Steps (site file offset name r) keys keys None
blank_steps file offset name r keys b = subst (λ (c : Bool). Steps (if c then [] else (named file offset name r ∷ [])) keys keys None) (sym b) (step_nothing keys)

pub barred_steps : (file offset : ℕ) (name : List ℕ) (r : Role) (old new : List Key) → is_blank name ≡ false → Bars old name r → Steps (site file offset name r) old new (Some (at file offset))
barred_steps file offset name r old new b h = subst (λ (c : Bool). Steps (if c then [] else (named file offset name r ∷ [])) old new (Some (at file offset))) (sym b)
    (λ ss v. let k = bars_clash ss old v.keys (named file offset name r) r refl h in first_more ss old v (named file offset name r) k.0 k.1 k.2)

pub free_steps : (file offset : ℕ) (name : List ℕ) (r : Role) (old new : List Key) → is_blank name ≡ false → (Bars old name r → ⊥) → Grows (Puts name r) old new → Steps (site file offset name r) old new None
free_steps file offset name r old new b h g = subst (λ (c : Bool). Steps (if c then [] else (named file offset name r ∷ [])) old new None) (sym b)
    (λ ss v. free_more ss old v (named file offset name r) new g (λ q m c. h (clash_bars ss old v.keys q name r m c.0 c.1 q.role refl)))
