-- What is found, platform by platform.
use Rattle.std.proofs.Common.{◌≡◌, ◌+◌, ◌<◌, ◌≤◌, ℕ, zero, suc, Option, Some, None, List, [], ◌∷◌, ◌++◌, length, get_or, slice_get, drop, take, Result, Ok, Err, IfOk, refl, sym, ◌∙◌, subst, append_assoc, append-nil, arith}
use Rattle.std.proofs.lemmas.List.{drop_more, take_more}
use Rattle.api_findings.proofs.LeftOutPlatforms.{LeftTo, left_length, taken_at}
use Rattle.api_findings.specs.Checks.{CountsAtMost, CountsOf, CountsPackages, count_more, count_none}
use Rattle.api_findings.specs.Findings.{AnswersFindings, AreFindings, find_none, find_more, Finds, features_alone, with_verdict, IsFirstRefusal, refused_here, refused_later, OldStands}
use Rattle.api_findings.specs.declared.findings.Findings.{Findings}
use Rattle.api_findings.specs.declared.found.Found.{Found}
use Rattle.api_findings.specs.inner.Found.{IsAdded, IsError, IsFoundAlike, listed, verdicts_of}
use Rattle.api_judge.specs.declared.verdict.Verdict.{Verdict}
use Rattle.api_features.specs.Features.{IsFeature}
use Rattle.api_lines.proofs.Growing.{each_of}
use Rattle.api_lines.specs.Lines.{AreInOrder, IsListing}
use Rattle.api_lines.specs.Merging.{HasNoContext}
use Rattle.api_lines.specs.declared.line.Line.{Line}
use Rattle.api_texts.specs.declared.left_out.LeftOut.{LeftOut}
use Rattle.api_worlds.specs.PlatformWorlds.{IsWorldOn, no_package}
use Rattle.api_worlds.specs.declared.error.PlatformError.{PlatformError}
use Rattle.api_worlds.specs.declared.error.PlatformError.TheVariants as error
use Rattle.go_base.proofs.Lists.{drop_past, length_take, take_past}
use Rattle.go_base.specs.Lists.{Each}
use Rattle.go_file_choices.specs.AlikePlatforms.{AreFirsts, files_of, platform_at}
use Rattle.go_model.specs.declared.files.platform.Platform.{Platform}
use Rattle.go_model.specs.declared.files.platform.Platform.TheVariants as platform
use Rattle.go_model.specs.declared.files.tree.Tree.{Tree}
use Rattle.go_model.specs.worlds.Worlds.{Packages}

slice_none : (vs : List Verdict) (n : ℕ) → vs ≡ [] → slice_get vs n ≡ None
slice_none [] n e = refl
slice_none (v ∷ vs) n e = absurd (cc)

module _ (barred : List (List ℕ)) (old : Option Tree) (tree std_tree : Tree) where
  -- ---- the worlds of a platform on which something is found

  pub record IsFeatured (p : Platform) (lines : List Line) : Type 0 where
    pub world : Packages
    pub is : IsWorldOn barred tree std_tree p world
    pub features : IsListing (IsFeature world) lines

  pub featured : {p : Platform} {lines : List Line} {vs : List Verdict} → Finds barred old tree std_tree p lines vs → IsFeatured p lines
  featured (features_alone w e i f) = record { world = w; is = i; features = f }
  featured (with_verdict o w v e i j f k) = record { world = v; is = j; features = f }

  pub old_stands : {p : Platform} {lines : List Line} {vs : List Verdict} → Finds barred old tree std_tree p lines vs → OldStands barred old tree std_tree p
  old_stands (features_alone w e i f) = λ o k. absurd (cc)
  old_stands {p = p} (with_verdict o w v e i j f k) = λ t l. (w, subst (λ (s : Tree). IsWorldOn barred s std_tree p w) (let same : o ≡ t = cc in same) i)

  -- ---- how many packages

  abbrev pub Counts : List Platform → ℕ → Type 0
  Counts ps n = CountsPackages barred std_tree old tree ps n

  no_packages : (p : Platform) (t : Option Tree) → CountsOf barred std_tree p t 0
  no_packages p None = refl
  no_packages p (Some t) = no_package

  pub skip_all : (ps : List Platform) → Counts ps 0
  skip_all [] = count_none
  skip_all (p ∷ ps) = count_more 0 0 (no_packages p old) no_package (skip_all ps)

  pub counts_then : (p : Platform) (ps : List Platform) (k m : ℕ) → Counts (p ∷ []) k → Counts ps m → Counts (p ∷ ps) (k + m)
  counts_then p ps k m (count_more a b h i count_none) d = let e : a + b + m ≡ a + b + 0 + m = omega arith in subst (Counts (p ∷ ps)) e (count_more a b h i d)

  -- ---- what was found on each of the platforms

  found_none : {ps : List Platform} {lists : List (List Line)} {vs : List Verdict} → old ≡ None → AreFindings barred old tree std_tree ps lists vs → vs ≡ []
  found_none e find_none = refl
  found_none e (find_more (features_alone w n i f) a) = found_none e a
  found_none e (find_more (with_verdict o w v s i j f k) a) = absurd (cc)

  pub found_there : (n : ℕ) (d : Platform) {ps : List Platform} {lists : List (List Line)} {vs : List Verdict} → AreFindings barred old tree std_tree ps lists vs → n < length lists
      → Finds barred old tree std_tree (get_or ps n d) (get_or lists n []) (listed (slice_get vs n))
  found_there n d find_none h = absurd (omega (arith, h))
  found_there zero d (find_more {p = p} {lines = lines} {ws = ws} (features_alone w e i f) a) h =
      subst (λ (v : Option Verdict). Finds barred old tree std_tree p lines (listed v)) (sym (slice_none ws 0 (found_none e a))) (features_alone w e i f)
  found_there zero d (find_more (with_verdict o w v e i j f k) a) h = with_verdict o w v e i j f k
  found_there (suc n) d (find_more {ps = ps} {lists = lists} {ws = ws} (features_alone w e i f) a) h =
      let none = found_none e a in
      subst (λ (v : Option Verdict). Finds barred old tree std_tree (get_or ps n d) (get_or lists n []) (listed v)) (slice_none ws n none ∙ sym (slice_none ws (suc n) none)) (found_there n d a (omega (arith, h)))
  found_there (suc n) d (find_more (with_verdict o w v e i j f k) a) h = found_there n d a (omega (arith, h))

  found_next : {ps : List Platform} {lists : List (List Line)} {vs : List Verdict} {p : Platform} {lines : List Line} {ws : List Verdict} → AreFindings barred old tree std_tree ps lists vs → Finds barred old tree std_tree p lines ws
      → AreFindings barred old tree std_tree (ps ++ p ∷ []) (lists ++ lines ∷ []) (vs ++ ws)
  found_next {p = p} {lines = lines} {ws = ws} find_none l = subst (AreFindings barred old tree std_tree (p ∷ []) (lines ∷ [])) (append-nil ws) (find_more l find_none)
  found_next {p = q} {lines = more} {ws = new} (find_more {p = p} {ps = ps} {lines = lines} {lists = lists} {vs = vs} {ws = ws} f a) l =
      subst (AreFindings barred old tree std_tree (p ∷ (ps ++ q ∷ [])) (lines ∷ (lists ++ more ∷ []))) (sym (append_assoc vs ws new)) (find_more f (found_next a l))

  pub same_length : {ps : List Platform} {lists : List (List Line)} {vs : List Verdict} → AreFindings barred old tree std_tree ps lists vs → length lists ≡ length ps
  same_length find_none = refl
  same_length (find_more f a) = omega (arith, same_length a)

  -- ---- what is had so far, on the first platforms

  pub record TakenTo (ps : List Platform) (i : ℕ) (lists : List (List Line)) (vs : List Verdict) (before now : ℕ) : Type 0 where
    pub found : AreFindings barred old tree std_tree (take i ps) lists vs
    pub refused : (line : List ℕ) → IsFirstRefusal barred old tree std_tree (drop i ps) line → IsFirstRefusal barred old tree std_tree ps line
    pub count : ℕ
    pub counted : now ≤ before + count
    pub counts : (m : ℕ) → Counts (drop i ps) m → Counts ps (count + m)

  pub taken_none : (ps : List Platform) (lists : List (List Line)) (vs : List Verdict) (before : ℕ) → lists ≡ [] → vs ≡ [] → TakenTo ps 0 lists vs before before
  taken_none ps lists vs before e f = record {
    found = subst (λ (ls : List (List Line)). AreFindings barred old tree std_tree [] ls vs) (sym e) (subst (AreFindings barred old tree std_tree [] []) (sym f) find_none);
    refused = λ line h. h;
    count = 0;
    counted = omega arith;
    counts = λ m h. let z : m ≡ 0 + m = omega arith in subst (Counts ps) z h;
  }

  module _ (ps : List Platform) (i : ℕ) (d : Platform) (lists : List (List Line)) (vs : List Verdict) (before mid now : ℕ) (within : i < length ps) (t : TakenTo ps i lists vs before mid)
      (k : CountsAtMost barred old tree std_tree (get_or ps i d ∷ []) mid now) where
    here : drop i ps ≡ get_or ps i d ∷ drop (i + 1) ps
    here = drop_more ps i d within

    pub taken_more : (lines : List Line) (ws : List Verdict) (lists_now : List (List Line)) (vs_now : List Verdict) → lists_now ≡ lists ++ lines ∷ [] → vs_now ≡ vs ++ ws
        → Finds barred old tree std_tree (get_or ps i d) lines ws → TakenTo ps (i + 1) lists_now vs_now before now
    taken_more lines ws lists_now vs_now e f l =
        let world = featured l in
        record {
          found =
              subst (λ (qs : List Platform). AreFindings barred old tree std_tree qs lists_now vs_now) (sym (take_more ps i d within))
              (subst (λ (ls : List (List Line)). AreFindings barred old tree std_tree (take i ps ++ get_or ps i d ∷ []) ls vs_now) (sym e)
              (subst (AreFindings barred old tree std_tree (take i ps ++ get_or ps i d ∷ []) (lists ++ lines ∷ [])) (sym f) (found_next t.found l)));
          refused = λ line h. t.refused line (subst (λ (w : List Platform). IsFirstRefusal barred old tree std_tree w line) (sym here) (refused_later world.world (old_stands l) world.is h));
          count = t.count + k.0;
          counted = omega (arith, t.counted, k.2);
          counts = λ m h. subst (Counts ps) (omega arith) (t.counts (k.0 + m) (subst (λ (w : List Platform). Counts w (k.0 + m)) (sym here) (counts_then (get_or ps i d) (drop (i + 1) ps) k.0 m k.1 h)));
        }

    pub error_here : (e : PlatformError) → IsError barred old tree std_tree (get_or ps i d) e → AnswersFindings barred old tree std_tree ps (Err e)
    error_here (error.Refused line) h = t.refused line (subst (λ (w : List Platform). IsFirstRefusal barred old tree std_tree w line) (sym here) (refused_here h))
    error_here error.NoMemory h = tt

    pub count_here : CountsAtMost barred old tree std_tree ps before now
    count_here = (
      t.count + k.0,
      subst (Counts ps) (omega arith) (t.counts (k.0 + 0) (subst (λ (w : List Platform). Counts w (k.0 + 0)) (sym here) (counts_then (get_or ps i d) (drop (i + 1) ps) k.0 0 k.1 (skip_all (drop (i + 1) ps))))),
      omega (arith, t.counted, k.2),
    )

  module _ (ps : List Platform) (i : ℕ) (lists : List (List Line)) (vs : List Verdict) (before now : ℕ) (h : length ps ≤ i) (t : TakenTo ps i lists vs before now) where
    pub taken_all : AreFindings barred old tree std_tree ps lists vs
    taken_all = subst (λ (qs : List Platform). AreFindings barred old tree std_tree qs lists vs) (take_past i ps h) t.found

    pub count_all : CountsAtMost barred old tree std_tree ps before now
    count_all = (t.count, subst (Counts ps) (omega arith) (t.counts 0 (subst (λ (w : List Platform). Counts w 0) (sym (drop_past i ps h)) count_none)), t.counted)

  -- and there is as much that was left out
  pub as_many : (ps : List Platform) (i : ℕ) (lists : List (List Line)) (vs : List Verdict) (ls : List LeftOut) (before now : ℕ) → TakenTo ps i lists vs before now → LeftTo barred std_tree old tree ps i ls → {n : ℕ} → n < length lists → n < length ls
  as_many ps i lists vs ls before now t l h = omega (arith, h, same_length t.found, left_length barred std_tree old tree (take i ps) ls l)

  -- no package is counted where nothing is typed
  pub none_counted : (ps : List Platform) (before now : ℕ) → now ≡ before → CountsAtMost barred old tree std_tree ps before now
  none_counted ps before now e = (0, skip_all ps, omega (arith, e))

  pub many_taken : (ps : List Platform) (i : ℕ) (lists : List (List Line)) (vs : List Verdict) (before now : ℕ) → i < length ps → TakenTo ps i lists vs before now → length lists ≡ i
  many_taken ps i lists vs before now within t = same_length t.found ∙ length_take i ps (omega (arith, within))

  -- what is found on the next platform, where an earlier one is alike
  module _ (ps : List Platform) (ns : List ℕ) (firsts : AreFirsts (files_of old tree std_tree) ps ns) (i : ℕ) (lists : List (List Line)) (vs : List Verdict) (before now : ℕ) (within : i < length ps) (t : TakenTo ps i lists vs before now) where
    many : length lists ≡ i
    many = many_taken ps i lists vs before now within t

    pub alike_earlier : get_or ns i 0 < length lists → IsFoundAlike barred old tree std_tree (platform_at ps i) (get_or lists (get_or ns i 0) []) (slice_get vs (get_or ns i 0))
    alike_earlier h = record {
      earlier = platform_at ps (get_or ns i 0);
      alike = (firsts.each i within).alike;
      found = subst (λ (q : Platform). Finds barred old tree std_tree q (get_or lists (get_or ns i 0) []) (listed (slice_get vs (get_or ns i 0)))) (taken_at ps i (get_or ns i 0) (omega (arith, h, many))) (found_there (get_or ns i 0) platform.Linux386 t.found h);
    }

  -- ---- what is added

  pub in_order : (p : Platform) (found : Found) → Finds barred old tree std_tree p found.lines (verdicts_of found) → AreInOrder found.lines
  in_order p found f = (featured f).features.ordered

  pub added_now : (p : Platform) (found : Found) (lists : List (List Line)) (vs : List Verdict) (new_lists : List (List Line)) (new_vs : List Verdict) → new_lists ≡ lists ++ found.lines ∷ [] → new_vs ≡ vs ++ verdicts_of found
      → Finds barred old tree std_tree p found.lines (verdicts_of found) → IsAdded barred old tree std_tree p lists vs new_lists new_vs
  added_now p found lists vs new_lists new_vs e f k = record { lines = found.lines; verdict = found.verdict; features = e; verdicts = f; found = k }

  -- ---- what is merged

  pub are_plain : {ps : List Platform} {lists : List (List Line)} {vs : List Verdict} → AreFindings barred old tree std_tree ps lists vs → Each (Each HasNoContext) lists
  are_plain find_none = tt
  are_plain (find_more {lines = lines} f a) = (each_of HasNoContext lines (λ k h. ((featured f).features.sound k h).context), are_plain a)

  pub answered_many : (ps : List Platform) (r : Result Findings PlatformError) → AnswersFindings barred old tree std_tree ps r → IfOk r (λ found. length found.features ≡ length ps)
  answered_many ps (Ok found) h = same_length h
  answered_many ps (Err e) h = tt

  pub answered_plain : (ps : List Platform) (r : Result Findings PlatformError) → AnswersFindings barred old tree std_tree ps r → IfOk r (λ found. Each (Each HasNoContext) found.features)
  answered_plain ps (Ok found) h = are_plain h
  answered_plain ps (Err e) h = tt
