-- Signed lines that are put in the order of their lines, each once.
use Rattle.std.proofs.Common.{◌≡◌, ℕ, List, [], ◌∷◌, ◌++◌, map, refl, sym, ap, ◌∙◌, subst}
use Rattle.std.specs.Ordering.{nat_cmp, on}
use Rattle.std.specs.Prelude.{bytes_eq}
use Rattle.std.specs.Cmp.Lexicographic.{slice_cmp}
use Rattle.std.specs.List.Retain.{IsFiltered, DiffersFromLast}
use Rattle.std.specs.List.Sorted.{IsPermutation, IsSorted, IsStrictlySortedBy}
use Rattle.std.proofs.lemmas.List.{map-append}
use Rattle.go_base.specs.Lists.{Has}
use Rattle.go_base.specs.Growing.{Grows}
use Rattle.api_lines.proofs.Growing.{grows_pushed}
use Rattle.api_lines.proofs.OrderedTexts.{has_map, map_has, arranged}
use Rattle.api_frozen.specs.declared.signed.Signed.{Signed}
use Rattle.api_frozen.specs.declared.signed.ByLine.{ByLine}
use Rattle.api_frozen.specs.inner.SignedLines.{ArrangesLines}

abbrev text_of : ByLine → List ℕ
text_of s = s.signed.line

abbrev signed_of : ByLine → Signed
signed_of s = s.signed

pub grows_signed : (old new : List ByLine) (s : ByLine) → new ≡ old ++ s ∷ [] → Grows (λ x. s.signed ≡ x) (map (λ x. x.signed) old) (map (λ x. x.signed) new)
grows_signed old new s e = grows_pushed (map signed_of old) (map signed_of new) s.signed (ap (map signed_of) e ∙ map-append signed_of old (s ∷ []))

lines_of : (ss : List ByLine) → map text_of ss ≡ map (λ s. s.line) (map signed_of ss)
lines_of [] = refl
lines_of (s ∷ ss) = ap (λ (w : List (List ℕ)). s.signed.line ∷ w) (lines_of ss)

pub in_order : (old sorted new : List ByLine) → IsPermutation old sorted → IsSorted (λ p q. slice_cmp nat_cmp (text_of p) (text_of q)) sorted → IsFiltered (DiffersFromLast (on text_of bytes_eq)) [] sorted new → ArrangesLines (map (λ s. s.signed) old) (map (λ s. s.signed) new)
in_order old sorted new moved up filtered =
    let a = arranged text_of old sorted moved new up filtered in
    record {
      sound = λ s h. let k = map_has signed_of new s h in subst (Has (map signed_of old)) k.2 (has_map signed_of old k.0 (a.sound k.0 k.1));
      complete = λ s h. let k = map_has signed_of old s h in let b = a.complete k.0 k.1 in (signed_of b.0, has_map signed_of new b.0 b.1, sym (ap (λ (w : Signed). w.line) k.2) ∙ b.2);
      ordered = subst (IsStrictlySortedBy (slice_cmp nat_cmp)) (lines_of new) a.ordered;
    }
