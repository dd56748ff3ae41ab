-- The paths that have one entry in a folder.
use Rattle.std.proofs.Common.{◌≡◌, ◌≢◌, ℕ, suc, ◌+◌, Bool, true, false, not, nat_eq, if◌then◌else◌, cond, Some, [], ◌∷◌, ◌++◌, length, take, refl, sym, ap, ◌∙◌, arith, append_assoc, length-append}
use mathlib.Core.Bool.{true≢false}
use Rattle.std.specs.List.{prefix_len}
use Rattle.std.proofs.lemmas.Bool.Decides.{Decides-eqb}
use Rattle.std.proofs.lemmas.List.Folds.{length-prefix_len}
use Rattle.go_outside.specs.declared.files.Entry.{Entry}
use Rattle.go_outside.specs.declared.files.EntryKind.{EntryKind}
use Rattle.go_outside.specs.declared.files.EntryKind.TheVariants as kind
use Rattle.go_outside.specs.Paths.{Path, not_slash, entry_at, entry_of}
use Rattle.go_outside.proofs.FolderPaths.{entry_rest, entry_from}

made : Path → EntryKind → Entry
made name k = record { name = name; kind = k }

all_taken : (xs : Path) → take (length xs) xs ≡ xs
all_taken [] = refl
all_taken (x ∷ xs) = ap (λ ys. x ∷ ys) (all_taken xs)

front_taken : (a r : Path) → take (length a) (a ++ r) ≡ a
front_taken [] r = refl
front_taken (x ∷ a) r = ap (λ ys. x ∷ ys) (front_taken a r)

file_by : (rest : Path) (n : ℕ) (b : Bool) → nat_eq n (length rest) ≡ b → ◌≡◌ {A = EntryKind} (if b then kind.File else kind.Folder) kind.File → take n rest ≡ rest
file_by rest n true e k = ap (λ m. take m rest) ((Decides-eqb n (length rest)).0 e) ∙ all_taken rest
file_by rest n false e k = absurd (cc)

-- a file's path is the folder, a slash and its name
pub file_path : (f q : Path) (e : Entry) → e.kind ≡ kind.File → entry_of f q ≡ Some e → q ≡ f ++ 47 ∷ e.name
file_path f q e k h =
    let r = entry_rest f q e h in
    let n : ℕ = prefix_len not_slash r.0 in
    let whole : take n r.0 ≡ r.0 = file_by r.0 n (nat_eq n (length r.0)) refl (ap (λ (w : Entry). w.kind) r.2 ∙ k) in
    r.1 ∙ ap (λ w. f ++ 47 ∷ w) (sym whole ∙ ap (λ (w : Entry). w.name) r.2)

slash_is : (x : ℕ) → not_slash x ≡ false → x ≡ 47
slash_is x h = (Decides-eqb x 47).0 (by (nat_eq x 47) h) where
  by : (b : Bool) → not b ≡ false → b ≡ true
  by true e = refl
  by false e = absurd (true≢false e)

-- an element that a slash ends
Ended : Path → ℕ → Type 0
Ended rest n = (more : Path) × (rest ≡ take n rest ++ 47 ∷ more)

ended_by : (x : ℕ) (xs : Path) (n : ℕ) (b : Bool) → not_slash x ≡ b → (n ≢ length xs → Ended xs n) → cond b (1 + n) 0 ≢ length (x ∷ xs) → Ended (x ∷ xs) (cond b (1 + n) 0)
unfolding Ended
ended_by x xs n true e rest h =
    let r = rest (λ k. h (omega arith)) in
    let s : 1 + n ≡ suc n = omega arith in
    (r.0, ap (λ w. x ∷ w) r.1 ∙ ap (λ m. take m (x ∷ xs) ++ 47 ∷ r.0) (sym s))
ended_by x xs n false e rest h = (xs, ap (λ w. w ∷ xs) (slash_is x e))

ended : (rest : Path) → prefix_len not_slash rest ≢ length rest → Ended rest (prefix_len not_slash rest)
ended [] h = absurd (h refl)
ended (x ∷ xs) h = ended_by x xs (prefix_len not_slash xs) (not_slash x) refl (ended xs) h

folder_by : (rest : Path) (n : ℕ) (b : Bool) → nat_eq n (length rest) ≡ b → ◌≢◌ {A = EntryKind} (if b then kind.File else kind.Folder) kind.File → (n ≢ length rest) × (b ≡ false)
folder_by rest n true e k = absurd (k refl)
folder_by rest n false e k = ((λ s. true≢false (sym ((Decides-eqb n (length rest)).1 s) ∙ e)), refl)

join : (f name : Path) (more : Path) → f ++ 47 ∷ (name ++ 47 ∷ more) ≡ ((f ++ 47 ∷ []) ++ name) ++ 47 ∷ more
join f name more = sym (append_assoc f (47 ∷ []) (name ++ 47 ∷ more)) ∙ sym (append_assoc (f ++ 47 ∷ []) name (47 ∷ more))

-- what lies in a folder's folder begins with both names, each ended by a slash
pub folder_path : (f q : Path) (e : Entry) → e.kind ≢ kind.File → entry_of f q ≡ Some e → (more : Path) × (q ≡ ((f ++ 47 ∷ []) ++ e.name) ++ 47 ∷ more)
unfolding Ended
folder_path f q e k h =
    let r = entry_rest f q e h in
    let n : ℕ = prefix_len not_slash r.0 in
    let open_end = (folder_by r.0 n (nat_eq n (length r.0)) refl (λ s. k (ap (λ (w : Entry). w.kind) (sym r.2) ∙ s))).0 in
    let m = ended r.0 open_end in
    (m.0, r.1 ∙ ap (λ w. f ++ 47 ∷ w) (m.1 ∙ ap (λ (w : Entry). w.name ++ 47 ∷ m.0) r.2) ∙ join f e.name m.0)

again_by : (x : ℕ) (xs : Path) (n : ℕ) (b : Bool) (more : Path) → not_slash x ≡ b → prefix_len not_slash (take n xs ++ 47 ∷ more) ≡ n
    → prefix_len not_slash (take (cond b (1 + n) 0) (x ∷ xs) ++ 47 ∷ more) ≡ cond b (1 + n) 0
again_by x xs n true more e h =
    let s : 1 + n ≡ suc n = omega arith in
    ap (λ m. prefix_len not_slash (take m (x ∷ xs) ++ 47 ∷ more)) s ∙ ap (λ b. cond b (1 + prefix_len not_slash (take n xs ++ 47 ∷ more)) 0) e ∙ ap (λ m. 1 + m) h
again_by x xs n false more e h = refl

again : (rest more : Path) → prefix_len not_slash (take (prefix_len not_slash rest) rest ++ 47 ∷ more) ≡ prefix_len not_slash rest
again [] more = refl
again (x ∷ xs) more = again_by x xs (prefix_len not_slash xs) (not_slash x) more refl (again xs more)

longer : (name more : Path) → nat_eq (length name) (length (name ++ 47 ∷ more)) ≡ false
longer name more = no _ (λ e. let s : length name ≡ length (name ++ 47 ∷ more) = (Decides-eqb _ _).0 e in absurd (omega (arith, length-append name (47 ∷ more)))) where
  no : (b : Bool) → (b ≡ true → ⊥) → b ≡ false
  no true h = absurd (h refl)
  no false h = refl

again_at : (name more : Path) (n : ℕ) → n ≡ length name → entry_at (name ++ 47 ∷ more) n ≡ made name kind.Folder
unfolding made
again_at name more n e = ap (entry_at (name ++ 47 ∷ more)) e
    ∙ ap (λ w. made w (if nat_eq (length name) (length (name ++ 47 ∷ more)) then kind.File else kind.Folder)) (front_taken name (47 ∷ more))
    ∙ ap (λ b. made name (if b then kind.File else kind.Folder)) (longer name more)

-- whatever follows both names, the entry is the same
pub folder_again : (f q : Path) (e : Entry) (more : Path) → e.kind ≢ kind.File → entry_of f q ≡ Some e → entry_of f (((f ++ 47 ∷ []) ++ e.name) ++ 47 ∷ more) ≡ Some e
unfolding made
folder_again f q e more k h =
    let r = entry_rest f q e h in
    let n : ℕ = prefix_len not_slash r.0 in
    let name : take n r.0 ≡ e.name = ap (λ (w : Entry). w.name) r.2 in
    let kept : (if nat_eq n (length r.0) then kind.File else kind.Folder) ≡ e.kind = ap (λ (w : Entry). w.kind) r.2 in
    let off = (folder_by r.0 n (nat_eq n (length r.0)) refl (λ s. k (sym kept ∙ s))).1 in
    let folder : kind.Folder ≡ e.kind = ap (λ (b : Bool). if b then kind.File else kind.Folder) (sym off) ∙ kept in
    let len : prefix_len not_slash (e.name ++ 47 ∷ more) ≡ length e.name =
    ap (λ w. prefix_len not_slash (w ++ 47 ∷ more)) (sym name) ∙ again r.0 more ∙ sym (length-prefix_len not_slash r.0) ∙ ap length name in
    ap (entry_of f) (sym (join f e.name more)) ∙ entry_from f (e.name ++ 47 ∷ more) ∙ ap Some (again_at e.name more _ len ∙ ap (made e.name) folder)
