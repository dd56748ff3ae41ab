-- Lists whose items are made one by one from those of another.
use Rattle.std.proofs.Common.{◌≡◌, ◌<◌, ◌≤◌, ◌+◌, ℕ, length, get_or, drop, List, [], ◌∷◌, ◌++◌, append_assoc, sym, subst, append-nil}
use Rattle.std.proofs.lemmas.List.{drop_all}
use Rattle.std.specs.List.{AllZip}
use Rattle.go_type_terms.proofs.Gone.{next_of}

module _ {A B : Type 0} (P : A → B → Type 0) where
  head_of : (x : A) (xs : List A) (ys : List B) → AllZip P (x ∷ xs) ys → (y : B) × (zs : List B) × P x y × AllZip P xs zs
  head_of x xs [] h = absurd h
  head_of x xs (y ∷ ys) h = (y, ys, h.0, h.1)

  -- the items that the first ones gave: the rest goes on
  pub record Zipped (whole rest : List A) (items : List B) : Type 0 where
    pub to : (more : List B) → AllZip P rest more → AllZip P whole (items ++ more)
    pub from : (all : List B) → AllZip P whole all → (more : List B) × AllZip P rest more

  pub zipped_begins : (whole : List A) (items : List B) → items ≡ [] → Zipped whole whole items
  zipped_begins whole items e = subst (λ (xs : List B). Zipped whole whole xs) (sym e) (record { to = λ more h. h; from = λ all h. (all, h) })

  goes_on : (whole : List A) (x : A) (rest : List A) (items : List B) (y : B) → P x y → Zipped whole (x ∷ rest) items → Zipped whole rest (items ++ y ∷ [])
  goes_on whole x rest items y p z = record {
    to = λ more h. subst (λ (all : List B). AllZip P whole all) (sym (append_assoc items (y ∷ []) more)) (z.to (y ∷ more) (p, h));
    from = λ all h. let left = z.from all h in let f = head_of x rest left.0 left.1 in (f.1, f.3);
  }

  here : (whole : List A) (at : ℕ) (x : A) (items : List B) → at < length whole → x ≡ get_or whole at x → Zipped whole (drop at whole) items → Zipped whole (x ∷ drop (at + 1) whole) items
  here whole at x items h e z = subst (λ (r : List A). Zipped whole r items) (next_of whole at x h e) z

  pub zipped_next : (whole : List A) (at : ℕ) (x : A) (items new : List B) (y : B) → at < length whole → x ≡ get_or whole at x → P x y → new ≡ items ++ y ∷ [] → Zipped whole (drop at whole) items → Zipped whole (drop (at + 1) whole) new
  zipped_next whole at x items new y h e p i z = subst (λ (ys : List B). Zipped whole (drop (at + 1) whole) ys) (sym i) (goes_on whole x (drop (at + 1) whole) items y p (here whole at x items h e z))

  -- where the next item gives none
  pub zipped_first : (whole : List A) (at : ℕ) (x : A) (items : List B) → at < length whole → x ≡ get_or whole at x → Zipped whole (drop at whole) items → (all : List B) → AllZip P whole all → (y : B) × P x y
  zipped_first whole at x items h e z all k = let left = (here whole at x items h e z).from all k in let f = head_of x (drop (at + 1) whole) left.0 left.1 in (f.0, f.2)

  pub zipped_whole : (whole : List A) (at : ℕ) (items : List B) → length whole ≤ at → Zipped whole (drop at whole) items → AllZip P whole items
  zipped_whole whole at items h z =
      let ended = subst (λ (r : List A). Zipped whole r items) (drop_all at whole h) z in
      subst (λ (ys : List B). AllZip P whole ys) (append-nil items) (ended.to [] tt)
