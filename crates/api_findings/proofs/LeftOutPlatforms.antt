-- What is left out, platform by platform.
use Rattle.std.proofs.Common.{◌≡◌, ◌<◌, ◌≤◌, ◌+◌, ℕ, zero, suc, Option, Some, None, List, [], ◌∷◌, ◌++◌, length, get_or, slice_get, take, refl, sym, ap, ◌∙◌, subst, arith}
use Rattle.std.proofs.lemmas.List.{take_more}
use Rattle.std.specs.Prelude.{Result, Ok}
use Rattle.api_findings.specs.Findings.{AreLeftOut, CountsLeftOut, IsLeftOut}
use Rattle.api_findings.specs.inner.Found.{IsLeftOutAlike, IsMoreLeftOut, left_out_alone, left_out_of, listed}
use Rattle.api_findings.proofs.Alike.{of_old, of_std, of_tree}
use Rattle.api_texts.specs.declared.left_out.LeftOut.{LeftOut}
use Rattle.api_worlds.specs.LeftOut.{AreLeftOutOn}
use Rattle.api_worlds.specs.PlatformWorlds.{sources_of}
use Rattle.go_base.proofs.Lists.{length_take, take_past}
use Rattle.go_exposed.specs.SkippedWorlds.{AreSkipped}
use Rattle.go_file_choices.specs.AlikePlatforms.{AllChosenAlike, AreAlike, AreFirsts, files_of, platform_at}
use Rattle.go_model.specs.declared.files.platform.Platform.{Platform}
use Rattle.go_model.specs.declared.files.platform.Platform.TheVariants as platform
use Rattle.go_model.specs.declared.files.tree.Tree.{Tree}
use Rattle.go_reading.specs.TreeUnits.{AreUnitsOfTrees}
use Rattle.go_units.specs.declared.unit_error.UnitError.{UnitError}
use Rattle.go_units.specs.declared.unit_list.Units.{Units}

-- a platform among the first ones is the one at its place
pub taken_at : (qs : List Platform) (k m : ℕ) → m < k → get_or (take k qs) m platform.Linux386 ≡ platform_at qs m
taken_at [] zero m h = absurd (omega (arith, h))
taken_at [] (suc k) m h = refl
taken_at (q ∷ qs) zero m h = absurd (omega (arith, h))
taken_at (q ∷ qs) (suc k) zero h = refl
taken_at (q ∷ qs) (suc k) (suc m) h = taken_at qs k m (omega (arith, h))

module _ (barred : List (List ℕ)) (std_tree : Tree) (old : Option Tree) (tree : Tree) where
  -- ---- of one platform

  pub alone_left_out : (p : Platform) (lines : List (List ℕ)) (l : LeftOut) → old ≡ None → AreLeftOutOn barred tree std_tree p lines → l ≡ left_out_alone lines → IsLeftOut barred std_tree old tree p l
  alone_left_out p lines l none new e = subst (IsLeftOut barred std_tree old tree p) (sym e) (record { of_old = subst (λ (t : Option Tree). CountsLeftOut barred std_tree t p 0) (sym none) refl; of_new = new })

  pub both_left_out : (o : Tree) (p : Platform) (before now : List (List ℕ)) (l : LeftOut) → old ≡ Some o → AreLeftOutOn barred o std_tree p before → AreLeftOutOn barred tree std_tree p now → l ≡ left_out_of before now → IsLeftOut barred std_tree old tree p l
  both_left_out o p before now l some a b e =
      subst (IsLeftOut barred std_tree old tree p) (sym e) (record { of_old = subst (λ (t : Option Tree). CountsLeftOut barred std_tree t p (length before)) (sym some) (before, a, refl); of_new = b })

  -- ---- of several

  pub left_next : (ps : List Platform) (ls : List LeftOut) (p : Platform) (l : LeftOut) → AreLeftOut barred std_tree old tree ps ls → IsLeftOut barred std_tree old tree p l
      → AreLeftOut barred std_tree old tree (ps ++ p ∷ []) (ls ++ l ∷ [])
  left_next [] [] p l a h = (h, tt)
  left_next [] (m ∷ ls) p l a h = absurd a
  left_next (q ∷ ps) [] p l a h = absurd a
  left_next (q ∷ ps) (m ∷ ls) p l a h = (a.0, left_next ps ls p l a.1 h)

  pub left_length : (ps : List Platform) (ls : List LeftOut) → AreLeftOut barred std_tree old tree ps ls → length ls ≡ length ps
  left_length [] [] a = refl
  left_length [] (m ∷ ls) a = absurd a
  left_length (q ∷ ps) [] a = absurd a
  left_length (q ∷ ps) (m ∷ ls) a = ap suc (left_length ps ls a.1)

  record LeftThere (p : Platform) (found : Option LeftOut) : Type 0 where
    pub left_out : LeftOut
    pub «is» : found ≡ Some left_out
    pub there : IsLeftOut barred std_tree old tree p left_out

  left_there : (ps : List Platform) (ls : List LeftOut) (n : ℕ) (d : Platform) → AreLeftOut barred std_tree old tree ps ls → n < length ls → LeftThere (get_or ps n d) (slice_get ls n)
  left_there [] [] n d a h = absurd (omega (arith, h))
  left_there [] (m ∷ ls) n d a h = absurd a
  left_there (q ∷ ps) [] n d a h = absurd a
  left_there (q ∷ ps) (m ∷ ls) zero d a h = record { left_out = m; «is» = refl; there = a.0 }
  left_there (q ∷ ps) (m ∷ ls) (suc n) d a h = left_there ps ls n d a.1 (omega (arith, h))

  -- ---- what is had so far, on the first platforms

  abbrev pub LeftTo : List Platform → ℕ → List LeftOut → Type 0
  LeftTo ps i ls = AreLeftOut barred std_tree old tree (take i ps) ls

  pub left_none : (ps : List Platform) (ls : List LeftOut) → ls ≡ [] → LeftTo ps 0 ls
  left_none ps ls e = subst (AreLeftOut barred std_tree old tree []) (sym e) tt

  pub left_more : (ps : List Platform) (i : ℕ) (d : Platform) (ls now : List LeftOut) → i < length ps → LeftTo ps i ls → IsMoreLeftOut barred old tree std_tree (get_or ps i d) ls now → LeftTo ps (i + 1) now
  left_more ps i d ls now within t m =
      subst (λ (qs : List Platform). AreLeftOut barred std_tree old tree qs now) (sym (take_more ps i d within))
      (subst (AreLeftOut barred std_tree old tree (take i ps ++ get_or ps i d ∷ [])) (sym m.added) (left_next (take i ps) ls (get_or ps i d) m.more t m.«is»))

  pub left_all : (ps : List Platform) (i : ℕ) (ls : List LeftOut) → length ps ≤ i → LeftTo ps i ls → AreLeftOut barred std_tree old tree ps ls
  left_all ps i ls h t = subst (λ (qs : List Platform). AreLeftOut barred std_tree old tree qs ls) (take_past i ps h) t

  pub left_alike : (ps : List Platform) (ns : List ℕ) → AreFirsts (files_of old tree std_tree) ps ns → (i : ℕ) (ls : List LeftOut) → i < length ps → LeftTo ps i ls → get_or ns i 0 < length ls
      → IsLeftOutAlike barred old tree std_tree (platform_at ps i) (slice_get ls (get_or ns i 0))
  left_alike ps ns firsts i ls within t h =
      let many : length ls ≡ i = left_length (take i ps) ls t ∙ length_take i ps (omega (arith, within)) in
      let there : LeftThere (get_or (take i ps) (get_or ns i 0) platform.Linux386) (slice_get ls (get_or ns i 0)) = left_there (take i ps) ls (get_or ns i 0) platform.Linux386 t h in
      record {
        earlier = platform_at ps (get_or ns i 0);
        alike = (firsts.each i within).alike;
        left_out = there.left_out;
        «is» = there.«is»;
        there = subst (λ (q : Platform). IsLeftOut barred std_tree old tree q there.left_out) (taken_at ps i (get_or ns i 0) (omega (arith, h, many))) there.there;
      }

  -- ---- on platforms that are alike

  module _ (units : (p q : Platform) (barred : List (List ℕ)) (tree std_tree : Tree) (r : Result Units UnitError) → AllChosenAlike tree.files p q → AllChosenAlike std_tree.files p q → AreUnitsOfTrees p barred tree std_tree r → AreUnitsOfTrees q barred tree std_tree r) where
    same_left_out_on : (t : Tree) (p q : Platform) (lines : List (List ℕ)) → AreAlike (files_of old tree std_tree) p q → AllChosenAlike t.files p q → AreLeftOutOn barred t std_tree p lines → AreLeftOutOn barred t std_tree q lines
    same_left_out_on t p q lines a b l = record {
      units = l.units;
      are = units p q barred t std_tree (Ok l.units) b (of_std old tree std_tree p q a) l.are;
      skipped = l.skipped;
      skips = subst (λ (n : ℕ). AreSkipped n (sources_of l.units) l.skipped) a.bits l.skips;
      «is» = l.«is»;
    }

    counted_alike : (o : Option Tree) → old ≡ o → (p q : Platform) (n : ℕ) → AreAlike (files_of old tree std_tree) p q → CountsLeftOut barred std_tree o p n → CountsLeftOut barred std_tree o q n
    counted_alike None e p q n a c = c
    counted_alike (Some o) e p q n a c = (c.0, same_left_out_on o p q c.0 a (of_old old tree std_tree p q a o e) c.1, c.2)

    pub left_out_again : (p : Platform) (ls new : List LeftOut) (found : Option LeftOut) → IsLeftOutAlike barred old tree std_tree p found → new ≡ ls ++ listed found → IsMoreLeftOut barred old tree std_tree p ls new
    left_out_again p ls new found k e = record {
      more = k.left_out;
      «is» = record {
        of_old = counted_alike old refl k.earlier p k.left_out.old k.alike k.there.of_old;
        of_new = same_left_out_on tree k.earlier p k.left_out.new k.alike (of_tree old tree std_tree k.earlier p k.alike) k.there.of_new;
      };
      added = e ∙ ap (λ (f : Option LeftOut). ls ++ listed f) k.«is»;
    }

  -- ---- one list

  module _ (one : (t : Tree) (p : Platform) (x y : List (List ℕ)) → AreLeftOutOn barred t std_tree p x → AreLeftOutOn barred t std_tree p y → x ≡ y) where
    same_count : (o : Option Tree) (p : Platform) (m n : ℕ) → CountsLeftOut barred std_tree o p m → CountsLeftOut barred std_tree o p n → m ≡ n
    same_count None p m n a b = a ∙ sym b
    same_count (Some o) p m n a b = a.2 ∙ ap length (one o p a.0 b.0 a.1 b.1) ∙ sym b.2

    same_left_out : (p : Platform) (l m : LeftOut) → IsLeftOut barred std_tree old tree p l → IsLeftOut barred std_tree old tree p m → l ≡ m
    same_left_out p l m a b =
        let before = same_count old p l.old m.old a.of_old b.of_old in
        let now = one tree p l.new m.new a.of_new b.of_new in
        λ i. record { old = before i; new = now i }

    pub same_left_outs : (ps : List Platform) (ls ms : List LeftOut) → AreLeftOut barred std_tree old tree ps ls → AreLeftOut barred std_tree old tree ps ms → ls ≡ ms
    same_left_outs [] [] [] a b = refl
    same_left_outs [] [] (m ∷ ms) a b = absurd b
    same_left_outs [] (l ∷ ls) ms a b = absurd a
    same_left_outs (p ∷ ps) [] ms a b = absurd a
    same_left_outs (p ∷ ps) (l ∷ ls) [] a b = absurd b
    same_left_outs (p ∷ ps) (l ∷ ls) (m ∷ ms) a b =
        let head = same_left_out p l m a.0 b.0 in
        let tail = same_left_outs ps ls ms a.1 b.1 in
        λ i. head i ∷ tail i
