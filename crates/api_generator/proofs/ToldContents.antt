-- Contents that tell pairs are the contents of the pairs.
use Rattle.std.proofs.Common.{◌≡◌, ℕ, inl, inr, Bool, true, false, cond, Option, Some, None, List, [], ◌∷◌, map, refl, sym, ap, ◌∙◌, subst}
use Rattle.std.specs.Ordering.{nat_cmp, eq_by_cmp, is_eq}
use Rattle.std.specs.declared.cmp.Ordering.{Ordering}
use Rattle.std.specs.Cmp.Lexicographic.{slice_cmp}
use Rattle.std.specs.FinMap.{get, find, get-from_entries, same_map, slice_cmp-IsAntisymmetric, nat_cmp-IsAntisymmetric}
use Rattle.std.proofs.lemmas.Cmp.{nat_list_cmp_total, tied_itself}
use Rattle.go_base.specs.Lists.{Has}
use Rattle.go_outside.specs.declared.memory_files.FilePair.{FilePair}
use Rattle.go_outside.specs.Paths.{Path}
use Rattle.go_outside.specs.Stores.{Contents}
use Rattle.go_outside.specs.MemoryFiles.{contents_of, Tells}
use Rattle.go_outside.proofs.PairContents.{get_has}

abbrev order : Path → Path → Ordering
order = slice_cmp nat_cmp

abbrev rows : List FilePair → List (Path × List ℕ)
rows pairs = map (λ p. (p.path, p.bytes)) pairs

some_none : (a : List ℕ) → Some a ≡ None → ⊥
some_none a e = cc

ties : (q p : Path) → p ≡ q → eq_by_cmp order q p ≡ true
ties q p e = subst (λ (w : Path). eq_by_cmp order q w ≡ true) (sym e) (ap is_eq (tied_itself nat_list_cmp_total q))

never_by : (b : Bool) (v : List ℕ) (o : Option (List ℕ)) → cond b (Some v) o ≡ None → (o ≡ None → ⊥) → ⊥
never_by true v o e rest = some_none v e
never_by false v o e rest = rest e

-- at the path of a pair something is found
found : (pairs : List FilePair) (p : FilePair) → Has pairs p → find order p.path (rows pairs) ≡ None → ⊥
found [] p h e = absurd h
found (x ∷ xs) p (inl is) e =
    some_none x.bytes (sym (ap (λ b. cond b (Some x.bytes) (find order p.path (rows xs))) (ties p.path x.path (ap (λ (w : FilePair). w.path) is))) ∙ e)
found (x ∷ xs) p (inr h) e = never_by (eq_by_cmp order p.path x.path) x.bytes (find order p.path (rows xs)) e (found xs p h)

module _ (m : Contents) (pairs : List FilePair) (told : Tells m pairs) where
  alike_by : (q : Path) (o held : Option (List ℕ)) → get m q ≡ o → get (contents_of pairs) q ≡ held → get m q ≡ get (contents_of pairs) q
  alike_by q o (Some bytes) e h = (told q bytes).1 (get_has pairs q bytes h) ∙ sym h
  alike_by q None None e h = e ∙ sym h
  alike_by q (Some bytes) None e h =
      absurd (found pairs (record { path = q; bytes = bytes }) ((told q bytes).0 e) (sym (get-from_entries nat_list_cmp_total (rows pairs) q) ∙ h))

  pub contents_alike : m ≡ contents_of pairs
  contents_alike = same_map nat_list_cmp_total (slice_cmp-IsAntisymmetric nat_cmp-IsAntisymmetric) m (contents_of pairs)
      (λ q. alike_by q (get m q) (get (contents_of pairs) q) refl refl)
