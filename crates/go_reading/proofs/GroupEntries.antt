-- The groups of an ordered map after an entry was put or taken.
use Rattle.std.proofs.Common.{◌≡◌, ℕ, Bool, true, false, cond, Option, Some, List, [], ◌∷◌, ◌++◌, refl, ap, ◌∙◌}
use Rattle.std.specs.Cmp.Lexicographic.{slice_cmp}
use Rattle.std.specs.Ordering.{nat_cmp, is_eq}
use Rattle.std.specs.Prelude.{option_map, bytes_eq}
use Rattle.std.proofs.lemmas.Map.Text.{is_eq-slice_cmp}
use Rattle.std.proofs.lemmas.Slice.Eq.{bytes_eq-Decides}
use Rattle.go_model.specs.declared.files.tree.TreeFile.{TreeFile}
use Rattle.go_reading.proofs.ListFacts.{map_more}
use Rattle.go_reading.specs.inner.Groups.{Groups, lent, group, files_in}
use denote.Ref.{Bor}

put_by : (b : Bool) (v : List (Bor TreeFile)) (o : Option (List (Bor TreeFile))) → option_map lent (cond b (Some v) o) ≡ cond b (Some (lent v)) (option_map lent o)
put_by true v o = refl
put_by false v o = refl

pub put_group : (path q : List ℕ) (v : List (Bor TreeFile)) (o : Option (List (Bor TreeFile))) → option_map lent (cond (is_eq (slice_cmp nat_cmp path q)) (Some v) o) ≡ cond (bytes_eq path q) (Some (lent v)) (option_map lent o)
put_group path q v o = ap (λ (b : Bool). option_map lent (cond b (Some v) o)) (is_eq-slice_cmp path q) ∙ put_by (bytes_eq path q) v o

pub other_key : (path q : List ℕ) → bytes_eq path q ≡ false → is_eq (slice_cmp nat_cmp path q) ≡ false
other_key path q e = is_eq-slice_cmp path q ∙ e

-- a file was added to the group of a path
pub file_added : (path q : List ℕ) (old mid : Groups) (b : Bool) (taken files : List (Bor TreeFile)) (f : Bor TreeFile) → bytes_eq path q ≡ b → files ≡ taken ++ f ∷ [] → lent taken ≡ files_in old path
    → ((w : List ℕ) → bytes_eq path w ≡ false → group mid w ≡ group old w) → cond b (Some (lent files)) (group mid q) ≡ cond b (Some (files_in old q ++ f.now ∷ [])) (group old q)
file_added path q old mid true taken files f e is t others =
    ap (λ (w : List TreeFile). Some w) (ap lent is ∙ map_more (λ (x : Bor TreeFile). x.now) taken (f ∷ []) ∙ ap (λ (w : List TreeFile). w ++ f.now ∷ []) (t ∙ ap (files_in old) ((bytes_eq-Decides path q).0 e)))
file_added path q old mid false taken files f e is t others = others q e
