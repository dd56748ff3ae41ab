-- Lines that are read file by file, and counts of faults.
use Rattle.std.proofs.Common.{◌≡◌, ◌+◌, ◌<◌, ◌≤◌, ℕ, Option, None, List, [], ◌∷◌, ◌++◌, length, get_or, drop, Err, refl, sym, ap, ◌∙◌, subst, append_assoc, arith, append-nil}
use denote.Ref.{Bor}
use Rattle.std.proofs.lemmas.List.{drop_more}
use Rattle.std.specs.Option.{option_copied}
use Rattle.go_base.proofs.Lists.{drop_past}
use Rattle.go_outside.specs.Faults.{Rose}
use Rattle.go_outside.specs.Stores.{Contents}
use Rattle.api_inputs.specs.FrozenInputs.{AreLines, lines_none, lines_more, GivesLines, HasFault, IsFirstFault, fault_here, fault_later}
use Rattle.api_inputs.specs.Inputs.{optional}
use Rattle.api_inputs.specs.Reads.{NeverFell}
use Rattle.api_inputs.specs.declared.frozen.FileError.{FileError}
use Rattle.api_inputs.specs.declared.frozen.FileError.TheVariants as file
use Rattle.api_inputs.specs.declared.inputs.InputError.{InputError}
use Rattle.api_inputs.specs.declared.inputs.InputError.TheVariants as error
use Rattle.api_inputs.specs.inner.Answers.{AnswersFile, AnswersFiles}
use Rattle.api_inputs.specs.inner.FrozenSteps.{IsInputError}
use Rattle.api_texts.specs.declared.lines.FrozenFault.{FrozenFault}

-- ---- counts

pub rose_later : (a b c : ℕ) → NeverFell a b → Rose b c → Rose a c
rose_later a b c n r = omega (arith, n, r)

pub never_fell : (a b c : ℕ) → NeverFell a b → NeverFell b c → NeverFell a c
never_fell a b c n m = omega (arith, n, m)

-- ---- files

module _ (told : Option Contents) where
  -- the lines so far are those of the files before the rest
  pub record ReadTo (paths rest lines : List (List ℕ)) : Type 0 where
    pub forth : (more : List (List ℕ)) → AreLines told rest more → AreLines told paths (lines ++ more)
    pub fault : (at : List ℕ) (f : FrozenFault) → IsFirstFault told rest at f → IsFirstFault told paths at f

  pub read_none : (paths : List (List ℕ)) → ReadTo paths paths []
  read_none paths = record { forth = λ more h. h; fault = λ at f h. h }

  pub read_more : (paths : List (List ℕ)) (i : ℕ) (path : List ℕ) (old lines new : List (List ℕ)) → i < length paths → path ≡ get_or paths i path → new ≡ old ++ lines
      → GivesLines told path lines → ReadTo paths (drop i paths) old → ReadTo paths (drop (i + 1) paths) new
  read_more paths i path old lines new h is e g r = record {
    forth = λ more l. subst (AreLines told paths) (sym (append_assoc old lines more) ∙ ap (λ (w : List (List ℕ)). w ++ more) (sym e)) (r.forth (lines ++ more) (subst (λ (w : List (List ℕ)). AreLines told w (lines ++ more)) (sym from_here) (lines_more g l)));
    fault = λ at f d. r.fault at f (subst (λ (w : List (List ℕ)). IsFirstFault told w at f) (sym from_here) (fault_later g d));
  }
    where
      from_here : drop i paths ≡ path ∷ drop (i + 1) paths
      from_here = drop_more paths i path h ∙ ap (λ (p : List ℕ). p ∷ drop (i + 1) paths) (sym is)

  pub read_all : (paths : List (List ℕ)) (i : ℕ) (lines : List (List ℕ)) → length paths ≤ i → ReadTo paths (drop i paths) lines → AreLines told paths lines
  read_all paths i lines h r = subst (AreLines told paths) (append-nil lines) (r.forth [] (subst (λ (w : List (List ℕ)). AreLines told w []) (sym (drop_past i paths h)) lines_none))

  -- why a file in its place gives no lines
  error_at : (paths rest : List (List ℕ)) (path : List ℕ) (before mid now : ℕ) (e : FileError) (x : InputError) → ((f : FrozenFault) → HasFault told path f → IsFirstFault told paths path f) → NeverFell before mid
      → AnswersFile told path mid now (Err e) → IsInputError path e x → AnswersFiles told paths before now (Err x)
  error_at paths rest path before mid now (file.Fault f) (error.Refused line) to n a is = (path, f, to f a, is)
  error_at paths rest path before mid now (file.Fault f) error.ReadFault to n a is = absurd is
  error_at paths rest path before mid now (file.Fault f) error.NoMemory to n a is = tt
  error_at paths rest path before mid now file.ReadFault x to n a is = subst (λ (y : InputError). AnswersFiles told paths before now (Err y)) (sym is) (rose_later before mid now n a)
  error_at paths rest path before mid now file.NoMemory x to n a is = subst (λ (y : InputError). AnswersFiles told paths before now (Err y)) (sym is) tt

  pub error_of_one : (path : List ℕ) (before now : ℕ) (e : FileError) (x : InputError) → AnswersFile told path before now (Err e) → IsInputError path e x → AnswersFiles told (path ∷ []) before now (Err x)
  error_of_one path before now e x a is = error_at (path ∷ []) [] path before before now e x (λ f h. fault_here h) (omega arith) a is

  pub error_of_next : (paths : List (List ℕ)) (i : ℕ) (path lines : _) (before mid now : ℕ) (e : FileError) (x : InputError) → i < length paths → path ≡ get_or paths i path → ReadTo paths (drop i paths) lines
      → NeverFell before mid → AnswersFile told path mid now (Err e) → IsInputError path e x → AnswersFiles told paths before now (Err x)
  error_of_next paths i path lines before mid now e x h is r n a told_as =
      error_at paths (drop (i + 1) paths) path before mid now e x
      (λ f d. r.fault path f (subst (λ (w : List (List ℕ)). IsFirstFault told w path f) (sym (drop_more paths i path h ∙ ap (λ (p : List ℕ). p ∷ drop (i + 1) paths) (sym is))) (fault_here d)))
      n a told_as

  pub one_file : (path : List ℕ) (lines : List (List ℕ)) → GivesLines told path lines → AreLines told (path ∷ []) lines
  one_file path lines g = subst (AreLines told (path ∷ [])) (append-nil lines) (lines_more g lines_none)

  pub no_file : (path : Option (Bor (List ℕ))) (lines : List (List ℕ)) → path ≡ None → lines ≡ [] → AreLines told (optional (option_copied path)) lines
  no_file path lines e f = subst (λ (p : Option (Bor (List ℕ))). AreLines told (optional (option_copied p)) lines) (sym e) (subst (AreLines told []) (sym f) lines_none)

-- ---- over the store as it is by then

module _ (told then : Option Contents) (same : then ≡ told) where
  pub error_in_files : (paths : List (List ℕ)) (i : ℕ) (path read named : List ℕ) (lines : List (List ℕ)) (before mid now : ℕ) (e : FileError) (x : InputError) → read ≡ path → named ≡ path
      → i < length paths → path ≡ get_or paths i path → ReadTo told paths (drop i paths) lines → NeverFell before mid → AnswersFile then read mid now (Err e) → IsInputError named e x → AnswersFiles told paths before now (Err x)
  error_in_files paths i path read named lines before mid now e x f n h is r k a told_as =
      error_of_next told paths i path lines before mid now e x h is r k
      (subst (λ (p : List ℕ). AnswersFile told p mid now (Err e)) f (subst (λ (t : Option Contents). AnswersFile t read mid now (Err e)) same a))
      (subst (λ (p : List ℕ). IsInputError p e x) n told_as)

  pub lines_in_files : (paths : List (List ℕ)) (i : ℕ) (path read : List ℕ) (old lines new : List (List ℕ)) → read ≡ path → i < length paths → path ≡ get_or paths i path → new ≡ old ++ lines
      → GivesLines then read lines → ReadTo told paths (drop i paths) old → ReadTo told paths (drop (i + 1) paths) new
  lines_in_files paths i path read old lines new f h is e g r =
      read_more told paths i path old lines new h is e (subst (λ (p : List ℕ). GivesLines told p lines) f (subst (λ (t : Option Contents). GivesLines t read lines) same g)) r
