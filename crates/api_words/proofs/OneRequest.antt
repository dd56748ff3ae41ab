-- Words make one request.
use Rattle.std.specs.Prelude.{IfOk, MatchOption}
use Rattle.std.proofs.Common.{◌≡◌, ◌-◌, ◌≤◌, Result, Ok, Err, ℕ, zero, suc, List, [], ◌∷◌, length, length-drop, take, drop, get_or, map, Option, Some, None, refl, sym, ap, ◌∙◌, subst, arith}
use Rattle.std.proofs.lemmas.Fmt.{decimal_injective}
use Rattle.std.proofs.lemmas.List.{drop_more}
use Rattle.go_base.specs.declared.memory.NoMemory.{NoMemory}
use Rattle.go_base.specs.Lists.{Once}
use Rattle.go_model.specs.declared.files.platform.Platform.{Platform}
use Rattle.go_model.specs.files.Platforms.{name_of}
use Rattle.semver.specs.Parse.{Parts}
use Rattle.semver.specs.declared.error.Error.{Error}
use Rattle.api_words.specs.Options.{spelling, word_of}
use Rattle.api_words.specs.Words.{AreFileNames, AreMade, ArePlatforms, AreSettings, AsksFor, IsAskedVersion, IsMade, IsNewFolder, IsOldFolder, IsRequest, IsSetting, IsVersion, IsWorkers, Means, option_in, release_of}
use Rattle.api_words.specs.inner.Requests.{AsksInMode}
use Rattle.api_words.specs.declared.option_name.Mode.{Mode}
use Rattle.api_words.specs.declared.option_name.Mode.TheVariants as mode
use Rattle.api_words.specs.declared.option_name.OptionName.{OptionName}
use Rattle.api_words.specs.declared.option_name.OptionName.TheVariants as option
use Rattle.api_words.specs.declared.request.AskedVersion.{AskedVersion}
use Rattle.api_words.specs.declared.request.MadeTrees.{MadeTrees}
use Rattle.api_words.specs.declared.request.Request.{Request}
use Rattle.api_words.specs.declared.settings.Setting.{Setting}
use Rattle.api_words.proofs.GivenOptions.{one_given, one_meaning}
use Rattle.api_words.proofs.Searches.{map_once}

-- ---- the settings that words are

one_spelling : (n m : OptionName) → spelling n ≡ spelling m → n ≡ m
one_spelling option.Old option.Old e = refl
one_spelling option.New option.New e = refl
one_spelling option.Std option.Std e = refl
one_spelling option.Client option.Client e = refl
one_spelling option.Platforms option.Platforms e = refl
one_spelling option.Workers option.Workers e = refl
one_spelling option.Api option.Api e = refl
one_spelling option.Except option.Except e = refl
one_spelling option.Version option.Version e = refl
one_spelling option.Seed option.Seed e = refl
one_spelling option.Size option.Size e = refl
one_spelling n m e = absurd (omega (arith, ap (λ (w : List ℕ). get_or w 2 0) e, ap (λ (w : List ℕ). get_or w 3 0) e))

same_setting : (word value : List ℕ) (s t : Setting) → IsSetting word value s → IsSetting word value t → s ≡ t
same_setting word value s t a b =
    let name : s.name ≡ t.name = one_spelling s.name t.name (sym a.name ∙ b.name) in
    let text : s.value ≡ t.value = sym a.same ∙ b.same in
    λ i. record { name = name i; value = text i }

pub same_settings : (words : List (List ℕ)) (ss ts : List Setting) → AreSettings words ss → AreSettings words ts → ss ≡ ts
same_settings [] [] [] a b = refl
same_settings [] [] (t ∷ ts) a b = absurd b
same_settings [] (s ∷ ss) ts a b = absurd a
same_settings (w ∷ []) [] ts a b = absurd a
same_settings (w ∷ []) (s ∷ ss) ts a b = absurd a
same_settings (w ∷ v ∷ ws) [] ts a b = absurd a
same_settings (w ∷ v ∷ ws) (s ∷ ss) [] a b = absurd b
same_settings (w ∷ v ∷ ws) (s ∷ ss) (t ∷ ts) a b =
    let first : s ≡ t = same_setting w v s t a.0 b.0 in
    let rest : ss ≡ ts = same_settings ws ss ts a.1 b.1 in
    λ i. first i ∷ rest i

one_word : (a b : Mode) → word_of a ≡ word_of b → a ≡ b
one_word mode.Features mode.Features e = refl
one_word mode.Frozen mode.Frozen e = refl
one_word mode.Judge mode.Judge e = refl
one_word mode.Advise mode.Advise e = refl
one_word mode.Gate mode.Gate e = refl
one_word mode.Skipped mode.Skipped e = refl
one_word mode.Vet mode.Vet e = refl
one_word mode.Make mode.Make e = refl
one_word a b e = absurd (omega (arith, ap (λ (w : List ℕ). get_or w 0 0) e, ap (λ (w : List ℕ). get_or w 1 0) e))

first_of : {x y : List ℕ} {xs ys : List (List ℕ)} → x ∷ xs ≡ y ∷ ys → x ≡ y
first_of e = cc

rest_of : {x y : List ℕ} {xs ys : List (List ℕ)} → x ∷ xs ≡ y ∷ ys → xs ≡ ys
rest_of e = cc

-- ---- what values mean

one_ok : (p q : Parts) → ◌≡◌ {A = Result Parts Error} (Ok p) (Ok q) → p ≡ q
one_ok p q e = cc

module _ (one_platform : (p q : Platform) → name_of p ≡ name_of q → p ≡ q) where
  same_platforms : (given : Option (List ℕ)) (ps qs : List Platform) → ArePlatforms given ps → ArePlatforms given qs → ps ≡ qs
  same_platforms None ps qs a b = a ∙ sym b
  same_platforms (Some value) ps qs a b = map_once name_of one_platform ps qs (sym a.0 ∙ b.0)

  same_workers : (given : Option (List ℕ)) (m n : ℕ) → IsWorkers given m → IsWorkers given n → m ≡ n
  same_workers None m n a b = a ∙ sym b
  same_workers (Some value) m n a b = decimal_injective m n (omega (arith, a.2)) (omega (arith, b.2)) (sym a.0 ∙ b.0)

  same_files : (given : Option (List ℕ)) (xs ys : List (List ℕ)) → AreFileNames given xs → AreFileNames given ys → xs ≡ ys
  same_files None xs ys a b = a ∙ sym b
  same_files (Some value) xs ys a b = sym a.0 ∙ b.0

  same_old : (mode : Mode) (given : Option (List ℕ)) (f g : Option (List ℕ)) → IsOldFolder mode given f → IsOldFolder mode given g → f ≡ g
  same_old mode.Features given f g a b = a ∙ sym b
  same_old mode.Frozen given f g a b = a ∙ sym b
  same_old mode.Judge given f g a b = a ∙ sym b
  same_old mode.Advise given f g a b = a ∙ sym b
  same_old mode.Gate given f g a b = a ∙ sym b
  same_old mode.Skipped given f g a b = a ∙ sym b
  same_old mode.Vet given f g a b = a ∙ sym b
  same_old mode.Make given f g a b = a ∙ sym b

  same_new : (given : Option (List ℕ)) (f g : List ℕ) → IsNewFolder given f → IsNewFolder given g → f ≡ g
  same_new None f g a b = a ∙ sym b
  same_new (Some value) f g a b = a ∙ sym b

  same_asked_version : (value : List ℕ) (v w : AskedVersion) → IsAskedVersion value v → IsAskedVersion value w → v ≡ w
  same_asked_version value v w a b =
      let word : v.word ≡ w.word = a.word ∙ sym b.word in
      let parts : a.parts ≡ b.parts = one_ok a.parts b.parts (sym a.parsed ∙ b.parsed) in
      let release : v.release ≡ w.release = a.release ∙ ap release_of parts ∙ sym b.release in
      λ i. record { word = word i; release = release i }

  same_version : (given : Option (List ℕ)) (v w : Option AskedVersion) → IsVersion given v → IsVersion given w → v ≡ w
  same_version None v w a b = a ∙ sym b
  same_version (Some value) v w a b = a.2 ∙ ap Some (same_asked_version value a.0 b.0 a.1 b.1) ∙ sym b.2

  same_trees : (seed size : List ℕ) (m n : MadeTrees) → AreMade seed size m → AreMade seed size n → m ≡ n
  same_trees seed size m n a b =
      let one : m.seed ≡ n.seed = decimal_injective m.seed n.seed a.held b.held (sym a.seed_is ∙ b.seed_is) in
      let other : m.size ≡ n.size = decimal_injective m.size n.size (omega (arith, a.few)) (omega (arith, b.few)) (sym a.size_is ∙ b.size_is) in
      λ i. record { seed = one i; size = other i }

  same_made : (seed size : Option (List ℕ)) (m n : Option MadeTrees) → IsMade seed size m → IsMade seed size n → m ≡ n
  same_made None size m n a b = a ∙ sym b
  same_made (Some seed) None m n a b = a ∙ sym b
  same_made (Some seed) (Some size) m n a b = a.2 ∙ ap Some (same_trees seed size a.0 b.0 a.1 b.1) ∙ sym b.2

  same_asked : (settings : List Setting) (r s : Request) → r.mode ≡ s.mode → AsksFor settings r → AsksFor settings s → r ≡ s
  same_asked settings r s mode a b =
      let once : Once (map option_in settings) = a.of_mode.once in
      let there : Means settings option.Old (IsOldFolder r.mode) s.old = subst (λ (m : Mode). Means settings option.Old (IsOldFolder m) s.old) (sym mode) b.old in
      let old : r.old ≡ s.old = one_meaning settings option.Old (IsOldFolder r.mode) (same_old r.mode) once r.old s.old a.old there in
      let new : r.new ≡ s.new = one_meaning settings option.New IsNewFolder same_new once r.new s.new a.new b.new in
      let std : r.std ≡ s.std = one_given settings option.Std r.std s.std once a.std b.std in
      let client : r.client ≡ s.client = one_given settings option.Client r.client s.client once a.client b.client in
      let platforms : r.platforms ≡ s.platforms = one_meaning settings option.Platforms ArePlatforms same_platforms once r.platforms s.platforms a.platforms b.platforms in
      let workers : r.workers ≡ s.workers = one_meaning settings option.Workers IsWorkers same_workers once r.workers s.workers a.workers b.workers in
      let api : r.api ≡ s.api = one_meaning settings option.Api AreFileNames same_files once r.api s.api a.api b.api in
      let except : r.except ≡ s.except = one_given settings option.Except r.except s.except once a.except b.except in
      let version : r.version ≡ s.version = one_meaning settings option.Version IsVersion same_version once r.version s.version a.version b.version in
      let seed : a.seed ≡ b.seed = one_given settings option.Seed a.seed b.seed once a.seed_given b.seed_given in
      let size : a.size ≡ b.size = one_given settings option.Size a.size b.size once a.size_given b.size_given in
      let made : r.made ≡ s.made = same_made b.seed b.size r.made s.made (subst (λ (z : Option (List ℕ)). IsMade b.seed z r.made) size (subst (λ (z : Option (List ℕ)). IsMade z a.size r.made) seed a.made)) b.made in
      λ i. record { mode = mode i; old = old i; new = new i; std = std i; client = client i; platforms = platforms i; workers = workers i; api = api i; except = except i; version = version i; made = made i }

  -- ---- requests

  pub same_request : (words : List (List ℕ)) (r s : Request) → IsRequest words r → IsRequest words s → r ≡ s
  same_request words r s a b =
      let mode : r.mode ≡ s.mode = one_word r.mode s.mode (first_of (sym a.mode ∙ b.mode)) in
      let rest : a.rest ≡ b.rest = rest_of (sym a.mode ∙ b.mode) in
      let settings : a.settings ≡ b.settings = same_settings b.rest a.settings b.settings (subst (λ (ws : List (List ℕ)). AreSettings ws a.settings) rest a.spelled) b.spelled in
      same_asked b.settings r s mode (subst (λ (ss : List Setting). AsksFor ss r) settings a.asked) b.asked

-- ---- the request of a mode and settings

module _ (words rest : List (List ℕ)) (settings : List Setting) (m : Mode) (is : words ≡ word_of m ∷ rest) (are : AreSettings rest settings) where
  is_request : (r : Request) → AsksInMode m settings r → IsRequest words r
  is_request r a = record { rest = rest; settings = settings; mode = is ∙ ap (λ (n : Mode). word_of n ∷ rest) (sym a.mode_is); spelled = are; asked = a.asked }

  no_request : ((r : Request) → AsksInMode m settings r → ⊥) → (r : Request) → IsRequest words r → ⊥
  no_request none r i =
      let same : i.rest ≡ rest = rest_of (sym i.mode ∙ is) in
      none r (record {
        mode_is = one_word r.mode m (first_of (sym i.mode ∙ is));
        asked = subst (λ (ss : List Setting). AsksFor ss r) (same_settings rest i.settings settings (subst (λ (ws : List (List ℕ)). AreSettings ws i.settings) same i.spelled) are) i.asked;
      })

take_whole : {A : Type 0} (n : ℕ) (xs : List A) → length xs ≡ n → take n xs ≡ xs
take_whole zero [] h = refl
take_whole zero (x ∷ xs) h = absurd (omega arith)
take_whole (suc n) [] h = absurd (omega arith)
take_whole (suc n) (x ∷ xs) h = ap (λ ys. x ∷ ys) (take_whole n xs (omega arith))

pub first_word : {A B : Type 0} (f : A → B) (xs : List A) (x : A) → 1 ≤ length xs → x ≡ get_or xs 0 x → map f xs ≡ f x ∷ map f (take (length xs - 1) (drop 1 xs))
first_word {A = A} f xs x h e = ap (map f) (drop_more xs 0 x (omega arith) ∙ ap (λ (y : A). y ∷ drop 1 xs) (sym e)) ∙ ap (λ ys. f x ∷ map f ys) (sym (take_whole (length xs - 1) (drop 1 xs) (length-drop 1 xs)))

pub request_told : (words rest : List (List ℕ)) (items settings : List Setting) (m : Mode) (r : Result (Option Request) NoMemory) → words ≡ word_of m ∷ rest → AreSettings rest settings → items ≡ settings
    → IfOk r (λ o. MatchOption o ((q : Request) → AsksInMode m items q → ⊥) (AsksInMode m items)) → IfOk r (λ o. MatchOption o ((q : Request) → IsRequest words q → ⊥) (IsRequest words))
request_told words rest items settings m (Ok None) is are e h = no_request words rest settings m is are (subst (λ (ss : List Setting). (q : Request) → AsksInMode m ss q → ⊥) e h)
request_told words rest items settings m (Ok (Some q)) is are e h = is_request words rest settings m is are q (subst (λ (ss : List Setting). AsksInMode m ss q) e h)
request_told words rest items settings m (Err error) is are e h = tt
