-- Over a store that tells its files, files of frozen lines give one list of lines or have one fault.
use Rattle.std.proofs.Common.{◌≡◌, ℕ, Option, None, Some, List, ◌++◌, length, Ok, Err, refl, sym, ap, ◌∙◌, subst, arith}
use Rattle.std.specs.FinMap.{get}
use Rattle.api_frozen.specs.FrozenFiles.{HasCause, IsFrozenFile}
use Rattle.api_frozen.specs.declared.error.FrozenError.TheVariants as error
use Rattle.api_inputs.proofs.OneFrozen.{file_or_line, file_or_offset, offset_or_line, one_file, one_line, one_offset}
use Rattle.api_inputs.specs.FrozenInputs.{AreLines, lines_none, lines_more, GivesLines, HasFault, IsFirstFault, fault_here, fault_later}
use Rattle.api_inputs.specs.Reads.{MayRead}
use Rattle.api_texts.specs.declared.lines.FrozenFault.{FrozenFault}
use Rattle.api_texts.specs.declared.lines.FrozenFault.TheVariants as fault
use Rattle.go_outside.specs.Stores.{Contents}
use Rattle.go_outside.specs.declared.files.FilesError.TheVariants as files

same_held : (held : Option (List ℕ)) (x y : List ℕ) → held ≡ Some x → held ≡ Some y → x ≡ y
same_held held x y e f = let s : Some x ≡ Some y = sym e ∙ f in cc

held_or_none : (held : Option (List ℕ)) (x : List ℕ) → held ≡ Some x → held ≡ None → ⊥
held_or_none held x e f = let s : ◌≡◌ {A = Option (List ℕ)} (Some x) None = sym e ∙ f in absurd (cc)

module _ (m : Contents) (path : List ℕ) where
  one_read : (x y : List ℕ) → MayRead (Some m) path (Ok x) → MayRead (Some m) path (Ok y) → x ≡ y
  one_read x y a b = same_held (get m path) x y a.bytes.0 b.bytes.0

  read_or_missing : (x : List ℕ) → MayRead (Some m) path (Ok x) → MayRead (Some m) path (Err files.Missing) → ⊥
  read_or_missing x a b = held_or_none (get m path) x a.bytes.0 b.bytes

  read_or_large : (x : List ℕ) → MayRead (Some m) path (Ok x) → MayRead (Some m) path (Err files.TooLarge) → ⊥
  read_or_large x a b =
      let k = b.bytes in
      let same : x ≡ k.0 = same_held (get m path) x k.0 a.bytes.0 k.1 in
      let s = a.bytes.1 in
      let l = k.2 in
      omega (arith, ap length same, s, l)

  missing_or_large : MayRead (Some m) path (Err files.Missing) → MayRead (Some m) path (Err files.TooLarge) → ⊥
  missing_or_large a b = let k = b.bytes in held_or_none (get m path) k.0 k.1 a.bytes

  pub one_lines : (x y : List (List ℕ)) → GivesLines (Some m) path x → GivesLines (Some m) path y → x ≡ y
  one_lines x y a b = one_file b.0 x y (subst (λ (w : List ℕ). IsFrozenFile w x) (one_read a.0 b.0 a.1 b.1) a.2) b.2

  pub lines_or_fault : (x : List (List ℕ)) (f : FrozenFault) → GivesLines (Some m) path x → HasFault (Some m) path f → ⊥
  lines_or_fault x fault.Missing a b = read_or_missing a.0 a.1 b
  lines_or_fault x fault.TooLarge a b = read_or_large a.0 a.1 b
  lines_or_fault x (fault.NotUtf8 n) a b = file_or_offset b.0 x n (subst (λ (w : List ℕ). IsFrozenFile w x) (one_read a.0 b.0 a.1 b.1) a.2) b.2
  lines_or_fault x (fault.NotALine n) a b = file_or_line b.0 x n (subst (λ (w : List ℕ). IsFrozenFile w x) (one_read a.0 b.0 a.1 b.1) a.2) b.2

  pub one_fault : (f g : FrozenFault) → HasFault (Some m) path f → HasFault (Some m) path g → f ≡ g
  one_fault fault.Missing fault.Missing a b = refl
  one_fault fault.Missing fault.TooLarge a b = absurd (missing_or_large a b)
  one_fault fault.Missing (fault.NotUtf8 n) a b = absurd (read_or_missing b.0 b.1 a)
  one_fault fault.Missing (fault.NotALine n) a b = absurd (read_or_missing b.0 b.1 a)
  one_fault fault.TooLarge fault.Missing a b = absurd (missing_or_large b a)
  one_fault fault.TooLarge fault.TooLarge a b = refl
  one_fault fault.TooLarge (fault.NotUtf8 n) a b = absurd (read_or_large b.0 b.1 a)
  one_fault fault.TooLarge (fault.NotALine n) a b = absurd (read_or_large b.0 b.1 a)
  one_fault (fault.NotUtf8 k) fault.Missing a b = absurd (read_or_missing a.0 a.1 b)
  one_fault (fault.NotUtf8 k) fault.TooLarge a b = absurd (read_or_large a.0 a.1 b)
  one_fault (fault.NotUtf8 k) (fault.NotUtf8 n) a b = ap fault.NotUtf8 (one_offset b.0 k n (subst (λ (w : List ℕ). HasCause w (error.NotUtf8 k)) (one_read a.0 b.0 a.1 b.1) a.2) b.2)
  one_fault (fault.NotUtf8 k) (fault.NotALine n) a b = absurd (offset_or_line b.0 k n (subst (λ (w : List ℕ). HasCause w (error.NotUtf8 k)) (one_read a.0 b.0 a.1 b.1) a.2) b.2)
  one_fault (fault.NotALine k) fault.Missing a b = absurd (read_or_missing a.0 a.1 b)
  one_fault (fault.NotALine k) fault.TooLarge a b = absurd (read_or_large a.0 a.1 b)
  one_fault (fault.NotALine k) (fault.NotUtf8 n) a b = absurd (offset_or_line a.0 n k (subst (λ (w : List ℕ). HasCause w (error.NotUtf8 n)) (one_read b.0 a.0 b.1 a.1) b.2) a.2)
  one_fault (fault.NotALine k) (fault.NotALine n) a b = ap fault.NotALine (one_line b.0 k n (subst (λ (w : List ℕ). HasCause w (error.NotALine k)) (one_read a.0 b.0 a.1 b.1) a.2) b.2)

module _ (m : Contents) where
  pub one_of_all : {paths a b : List (List ℕ)} → AreLines (Some m) paths a → AreLines (Some m) paths b → a ≡ b
  one_of_all lines_none lines_none = refl
  one_of_all (lines_more {path = path} {lines = x} g d) (lines_more {lines = y} h e) =
      let first : x ≡ y = one_lines m path x y g h in
      let rest = one_of_all d e in
      (λ i. first i ++ rest i)

  pub all_or_fault : {paths a : List (List ℕ)} {at : List ℕ} {f : FrozenFault} → AreLines (Some m) paths a → IsFirstFault (Some m) paths at f → ⊥
  all_or_fault lines_none d = elim d [ ]
  all_or_fault (lines_more {path = path} {lines = x} g d) (fault_here {f = f} h) = lines_or_fault m path x f g h
  all_or_fault (lines_more g d) (fault_later h e) = all_or_fault d e

  pub one_first : {paths : List (List ℕ)} {at bt : List ℕ} {f g : FrozenFault} → IsFirstFault (Some m) paths at f → IsFirstFault (Some m) paths bt g → (at ≡ bt) × (f ≡ g)
  one_first (fault_here {path = path} {f = f} h) (fault_here {f = g} k) = (refl, one_fault m path f g h k)
  one_first (fault_here {path = path} {f = f} h) (fault_later {lines = x} g e) = absurd (lines_or_fault m path x f g h)
  one_first (fault_later {path = path} {lines = x} g d) (fault_here {f = f} k) = absurd (lines_or_fault m path x f g k)
  one_first (fault_later g d) (fault_later h e) = one_first d e
