-- What settings give to options.
use Rattle.std.proofs.Common.{◌≡◌, ℕ, ◌<◌, Bool, List, [], ◌∷◌, length, get_or, map, Option, Some, None, refl, sym, ap, ◌∙◌, subst, inl, inr, Decides, is_some}
use denote.Ref.{Bor}
use Rattle.std.specs.Option.{option_copied}
use Rattle.std.specs.Prelude.{MatchOption}
use Rattle.go_base.specs.Lists.{Has, Once}
use Rattle.api_words.specs.Words.{AreSettings, AsksFor, IsGiven, IsMade, Means, option_in}
use Rattle.api_words.specs.declared.option_name.OptionName.{OptionName}
use Rattle.api_words.specs.declared.option_name.OptionName.TheVariants as option
use Rattle.api_words.specs.declared.request.MadeTrees.{MadeTrees}
use Rattle.api_words.specs.declared.request.Request.{Request}
use Rattle.api_words.specs.declared.settings.Setting.{Setting}
use Rattle.api_words.proofs.ReadSettings.{value_among}
use Rattle.api_words.proofs.Searches.{has_at, has_map, map_has, no, yes}

abbrev pub setting : OptionName → List ℕ → Setting
setting name value = record { name = name; value = value }

pub given_at : (settings : List Setting) (i : ℕ) (s : Setting) (name : OptionName) (value : List ℕ) → i < length settings → s ≡ get_or settings i s → s.name ≡ name → value ≡ s.value → Has settings (setting name value)
given_at settings i s name value h is e f =
    let same : s ≡ setting name value = λ j. record { name = e j; value = sym f j } in
    subst (Has settings) same (has_at settings i s h is)

pub given_here : (settings : List Setting) (name : OptionName) → Has (map option_in settings) name → (value : List ℕ) × Has settings (setting name value)
given_here settings name h =
    let k = map_has option_in settings name h in
    let same : k.0 ≡ setting name k.0.value = λ j. record { name = k.2 j; value = k.0.value } in
    (k.0.value, subst (Has settings) same k.1)

pub given_has : (settings : List Setting) (name : OptionName) (r : Option (Bor (List ℕ))) (b : Bool) → IsGiven settings name (option_copied r) → b ≡ is_some r → Decides b (Has (map option_in settings) name)
given_has settings name None b g e = subst (λ (t : Bool). Decides t (Has (map option_in settings) name)) (sym e) (no (λ h. let k = given_here settings name h in g k.0 k.1))
given_has settings name (Some value) b g e = subst (λ (t : Bool). Decides t (Has (map option_in settings) name)) (sym e) (yes (has_map option_in settings (setting name value.now) g))

-- two settings of one option are one, where no option stands twice
one_setting : (settings : List Setting) (a b : Setting) → Once (map option_in settings) → Has settings a → Has settings b → a.name ≡ b.name → a ≡ b
one_setting [] a b once h k e = absurd h
one_setting (s ∷ ss) a b once (inl h) (inl k) e = sym h ∙ k
one_setting (s ∷ ss) a b once (inl h) (inr k) e = absurd (once.0 (subst (Has (map option_in ss)) (sym e ∙ ap option_in (sym h)) (has_map option_in ss b k)))
one_setting (s ∷ ss) a b once (inr h) (inl k) e = absurd (once.0 (subst (Has (map option_in ss)) (e ∙ ap option_in (sym k)) (has_map option_in ss a h)))
one_setting (s ∷ ss) a b once (inr h) (inr k) e = one_setting ss a b once.1 h k e

pub one_given : (settings : List Setting) (name : OptionName) (a b : Option (List ℕ)) → Once (map option_in settings) → IsGiven settings name a → IsGiven settings name b → a ≡ b
one_given settings name None None once g h = refl
one_given settings name None (Some value) once g h = absurd (g value h)
one_given settings name (Some value) None once g h = absurd (h value g)
one_given settings name (Some v) (Some w) once g h = ap Some (ap (λ (s : Setting). s.value) (one_setting settings (setting name v) (setting name w) once g h refl))

-- a value that is out of form means nothing
pub means_nothing : {A : Type 0} (settings : List Setting) (name : OptionName) (Meaning : Option (List ℕ) → A → Type 0) (given : Option (List ℕ)) → Once (map option_in settings) → IsGiven settings name given → ((x : A) → Meaning given x → ⊥) → (x : A) → Means settings name Meaning x → ⊥
means_nothing settings name Meaning given once g none x m = none x (subst (λ (o : Option (List ℕ)). Meaning o x) (one_given settings name m.0 given once m.1 g) m.2)

-- a value means one thing, where one of its form does
pub one_meaning : {A : Type 0} (settings : List Setting) (name : OptionName) (Meaning : Option (List ℕ) → A → Type 0) → ((given : Option (List ℕ)) (x y : A) → Meaning given x → Meaning given y → x ≡ y) → Once (map option_in settings) → (x y : A) → Means settings name Meaning x → Means settings name Meaning y → x ≡ y
one_meaning settings name Meaning one once x y m n = one n.0 x y (subst (λ (o : Option (List ℕ)). Meaning o x) (one_given settings name m.0 n.0 once m.1 n.1) m.2) n.2

-- the word that is the value of an option
pub given_word : (words : List (List ℕ)) (settings : List Setting) (name : OptionName) (value : List ℕ) (r : Option (Bor (List ℕ))) → AreSettings words settings → Has settings (setting name value)
    → MatchOption r (Has words value → ⊥) (λ word. word.now ≡ value) → IsGiven settings name (option_copied r)
given_word words settings name value None are h none = absurd (none (value_among words settings (setting name value) are h))
given_word words settings name value (Some word) are h same = subst (λ (v : List ℕ). Has settings (setting name v)) (sym same) h

-- trees that are asked for in no form
pub made_nothing : (settings : List Setting) (seed size : Option (List ℕ)) → IsGiven settings option.Seed seed → IsGiven settings option.Size size → ((m : Option MadeTrees) → IsMade seed size m → ⊥) → (r : Request) → AsksFor settings r → ⊥
made_nothing settings seed size g h none r a =
    let one : a.seed ≡ seed = one_given settings option.Seed a.seed seed a.of_mode.once a.seed_given g in
    let other : a.size ≡ size = one_given settings option.Size a.size size a.of_mode.once a.size_given h in
    none r.made (subst (λ (z : Option (List ℕ)). IsMade seed z r.made) other (subst (λ (z : Option (List ℕ)). IsMade z a.size r.made) one a.made))
