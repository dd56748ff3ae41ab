-- What is told of a client, platform by platform.
use Rattle.std.proofs.Common.{◌≡◌, ◌+◌, ◌<◌, ◌≤◌, ℕ, zero, suc, Option, Some, List, [], ◌∷◌, ◌++◌, length, get_or, slice_get, drop, take, Err, refl, sym, ap, ◌∙◌, subst, arith}
use Rattle.std.proofs.lemmas.List.{drop_more, take_more}
use Rattle.api_clients.specs.ClientAnswers.{Answers, AreAnswers, IsAnsweredOn, IsFirstRefusal, refused_here, refused_later}
use Rattle.api_clients.specs.ClientChecks.{CountsAtMost, CountsPackages, count_more, count_none, no_package}
use Rattle.api_clients.specs.inner.ClientSteps.{IsAdded, IsAnsweredAlike, IsErrorOn}
use Rattle.api_reports.specs.declared.clients.ClientAnswer.{ClientAnswer}
use Rattle.api_worlds.specs.declared.error.PlatformError.{PlatformError}
use Rattle.api_worlds.specs.declared.error.PlatformError.TheVariants as error
use Rattle.go_base.proofs.Lists.{drop_past, length_take, take_past}
use Rattle.go_file_choices.specs.AlikePlatforms.{AreFirsts, files_of, platform_at}
use Rattle.go_model.specs.declared.files.platform.Platform.{Platform}
use Rattle.go_model.specs.declared.files.platform.Platform.TheVariants as platform
use Rattle.go_model.specs.declared.files.tree.Tree.{Tree}

-- a platform among the first ones is the one at its place
taken_at : (qs : List Platform) (k m : ℕ) → m < k → get_or (take k qs) m platform.Linux386 ≡ platform_at qs m
taken_at [] zero m h = absurd (omega (arith, h))
taken_at [] (suc k) m h = refl
taken_at (q ∷ qs) zero m h = absurd (omega (arith, h))
taken_at (q ∷ qs) (suc k) zero h = refl
taken_at (q ∷ qs) (suc k) (suc m) h = taken_at qs k m (omega (arith, h))

module _ (barred : List (List ℕ)) (tree std_tree client : Tree) where
  -- ---- how many packages

  abbrev pub Counts : List Platform → ℕ → Type 0
  Counts ps n = CountsPackages barred tree std_tree client ps n

  pub skip_all : (ps : List Platform) → Counts ps 0
  skip_all [] = count_none
  skip_all (p ∷ ps) = count_more 0 no_package (skip_all ps)

  pub counts_then : (p : Platform) (ps : List Platform) (k m : ℕ) → Counts (p ∷ []) k → Counts ps m → Counts (p ∷ ps) (k + m)
  counts_then p ps k m (count_more here i count_none) d = let e : here + m ≡ here + 0 + m = omega arith in subst (Counts (p ∷ ps)) e (count_more here i d)

  -- no package is counted where nothing is typed
  pub none_counted : (ps : List Platform) (before now : ℕ) → now ≡ before → CountsAtMost barred tree std_tree client ps before now
  none_counted ps before now e = (0, skip_all ps, omega (arith, e))

  -- ---- what was told on each of the platforms

  abbrev Told : List Platform → List ClientAnswer → Type 0
  Told ps given = AreAnswers barred tree std_tree client ps given

  told_next : (ps : List Platform) (given : List ClientAnswer) (p : Platform) (a : ClientAnswer) → Told ps given → IsAnsweredOn barred tree std_tree client p a → Told (ps ++ p ∷ []) (given ++ a ∷ [])
  told_next [] [] p a t h = (h, tt)
  told_next [] (b ∷ given) p a t h = absurd t
  told_next (q ∷ ps) [] p a t h = absurd t
  told_next (q ∷ ps) (b ∷ given) p a t h = (t.0, told_next ps given p a t.1 h)

  told_length : (ps : List Platform) (given : List ClientAnswer) → Told ps given → length given ≡ length ps
  told_length [] [] t = refl
  told_length [] (a ∷ given) t = absurd t
  told_length (p ∷ ps) [] t = absurd t
  told_length (p ∷ ps) (a ∷ given) t = ap suc (told_length ps given t.1)

  record ToldThere (p : Platform) (found : Option ClientAnswer) : Type 0 where
    pub answer : ClientAnswer
    pub «is» : found ≡ Some answer
    pub there : IsAnsweredOn barred tree std_tree client p answer

  told_there : (ps : List Platform) (given : List ClientAnswer) (n : ℕ) (d : Platform) → Told ps given → n < length given → ToldThere (get_or ps n d) (slice_get given n)
  told_there [] [] n d t h = absurd (omega (arith, h))
  told_there [] (a ∷ given) n d t h = absurd t
  told_there (p ∷ ps) [] n d t h = absurd t
  told_there (p ∷ ps) (a ∷ given) zero d t h = record { answer = a; «is» = refl; there = t.0 }
  told_there (p ∷ ps) (a ∷ given) (suc n) d t h = told_there ps given n d t.1 (omega (arith, h))

  -- ---- what is had so far, on the first platforms

  pub record TakenTo (ps : List Platform) (i : ℕ) (given : List ClientAnswer) (before now : ℕ) : Type 0 where
    pub told : Told (take i ps) given
    pub refused : (line : List ℕ) → IsFirstRefusal barred tree std_tree client (drop i ps) line → IsFirstRefusal barred tree std_tree client ps line
    pub count : ℕ
    pub counted : now ≤ before + count
    pub counts : (m : ℕ) → Counts (drop i ps) m → Counts ps (count + m)

  pub taken_none : (ps : List Platform) (given : List ClientAnswer) (before : ℕ) → given ≡ [] → TakenTo ps 0 given before before
  taken_none ps given before e = record {
    told = subst (Told []) (sym e) tt;
    refused = λ line h. h;
    count = 0;
    counted = omega arith;
    counts = λ m h. let z : m ≡ 0 + m = omega arith in subst (Counts ps) z h;
  }

  module _ (ps : List Platform) (i : ℕ) (d : Platform) (given : List ClientAnswer) (before mid now : ℕ) (within : i < length ps) (t : TakenTo ps i given before mid)
      (k : CountsAtMost barred tree std_tree client (get_or ps i d ∷ []) mid now) where
    here : drop i ps ≡ get_or ps i d ∷ drop (i + 1) ps
    here = drop_more ps i d within

    pub taken_more : (as_now : List ClientAnswer) → IsAdded barred tree std_tree client (get_or ps i d) given as_now → TakenTo ps (i + 1) as_now before now
    taken_more as_now l = record {
      told =
          subst (λ (qs : List Platform). Told qs as_now) (sym (take_more ps i d within))
          (subst (Told (take i ps ++ get_or ps i d ∷ [])) (sym l.added) (told_next (take i ps) given (get_or ps i d) l.more t.told l.is));
      refused = λ line h. t.refused line (subst (λ (w : List Platform). IsFirstRefusal barred tree std_tree client w line) (sym here) (refused_later l.more l.is h));
      count = t.count + k.0;
      counted = omega (arith, t.counted, k.2);
      counts = λ m h. subst (Counts ps) (omega arith) (t.counts (k.0 + m) (subst (λ (w : List Platform). Counts w (k.0 + m)) (sym here) (counts_then (get_or ps i d) (drop (i + 1) ps) k.0 m k.1 h)));
    }

    pub error_here : (e : PlatformError) → IsErrorOn barred tree std_tree client (get_or ps i d) e → Answers barred tree std_tree client ps (Err e)
    error_here (error.Refused line) h = t.refused line (subst (λ (w : List Platform). IsFirstRefusal barred tree std_tree client w line) (sym here) (refused_here h))
    error_here error.NoMemory h = tt

    pub count_here : CountsAtMost barred tree std_tree client ps before now
    count_here = (
      t.count + k.0,
      subst (Counts ps) (omega arith) (t.counts (k.0 + 0) (subst (λ (w : List Platform). Counts w (k.0 + 0)) (sym here) (counts_then (get_or ps i d) (drop (i + 1) ps) k.0 0 k.1 (skip_all (drop (i + 1) ps))))),
      omega (arith, t.counted, k.2),
    )

  module _ (ps : List Platform) (i : ℕ) (given : List ClientAnswer) (before now : ℕ) (h : length ps ≤ i) (t : TakenTo ps i given before now) where
    pub taken_all : AreAnswers barred tree std_tree client ps given
    taken_all = subst (λ (qs : List Platform). Told qs given) (take_past i ps h) t.told

    pub count_all : CountsAtMost barred tree std_tree client ps before now
    count_all = (t.count, subst (Counts ps) (omega arith) (t.counts 0 (subst (λ (w : List Platform). Counts w 0) (sym (drop_past i ps h)) count_none)), t.counted)

  pub many_taken : (ps : List Platform) (i : ℕ) (given : List ClientAnswer) (before now : ℕ) → i < length ps → TakenTo ps i given before now → length given ≡ i
  many_taken ps i given before now within t = told_length (take i ps) given t.told ∙ length_take i ps (omega (arith, within))

  -- what is told on the next platform, where an earlier one is alike
  pub alike_earlier : (ps : List Platform) (ns : List ℕ) → AreFirsts (files_of (Some client) tree std_tree) ps ns → (i : ℕ) (given : List ClientAnswer) (before now : ℕ) → i < length ps → TakenTo ps i given before now → get_or ns i 0 < length given
      → IsAnsweredAlike barred tree std_tree client (platform_at ps i) (slice_get given (get_or ns i 0))
  alike_earlier ps ns firsts i given before now within t h =
      let many = many_taken ps i given before now within t in
      let there : ToldThere (get_or (take i ps) (get_or ns i 0) platform.Linux386) (slice_get given (get_or ns i 0)) = told_there (take i ps) given (get_or ns i 0) platform.Linux386 t.told h in
      record {
        earlier = platform_at ps (get_or ns i 0);
        alike = (firsts.each i within).alike;
        answer = there.answer;
        is = there.«is»;
        there = subst (λ (q : Platform). IsAnsweredOn barred tree std_tree client q there.answer) (taken_at ps i (get_or ns i 0) (omega (arith, h, many))) there.there;
      }
