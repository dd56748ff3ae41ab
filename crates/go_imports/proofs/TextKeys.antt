-- The keys of an ordered set of texts.
use Rattle.std.proofs.Common.{◌≡◌, ℕ, Bool, true, false, not, List, [], ◌∷◌, refl, sym, ap, ◌∙◌, inl, inr, ◌||◌}
use mathlib.Core.Bool.{true≢false}
use Rattle.std.specs.List.{list_any}
use Rattle.std.specs.BTreeMap.{is_at}
use Rattle.std.specs.BTreeSet.{insert_key}
use Rattle.std.proofs.lemmas.Cmp.{nat_list_cmp_total, tied_itself}
use Rattle.std.specs.Ordering.{is_eq}
use Rattle.std.specs.declared.cmp.Ordering.{Ordering}
use Rattle.std.specs.declared.cmp.Ordering.TheVariants.{Less, Equal, Greater}
use Rattle.go_base.specs.Lists.{Has}
use Rattle.go_base.specs.Growing.{Adds}
use Rattle.go_imports.proofs.GrowingSets.{order, texts_tie, grows_inserted}

key_by : (text k : List ℕ) (ks : List (List ℕ)) (o : Ordering) → order text k ≡ o → (is_eq o || list_any (is_at (order text)) ks) ≡ true → (list_any (is_at (order text)) ks ≡ true → Has ks text) → Has (k ∷ ks) text
key_by text k ks Less e h rest = inr (rest h)
key_by text k ks Equal e h rest = inl (sym (texts_tie text k e))
key_by text k ks Greater e h rest = inr (rest h)

pub key_has : (ks : List (List ℕ)) (text : List ℕ) → list_any (is_at (order text)) ks ≡ true → Has ks text
key_has [] text h = true≢false (sym h)
key_has (k ∷ ks) text h = key_by text k ks (order text k) refl h (key_has ks text)

or_right : (a b : Bool) → b ≡ true → (a || b) ≡ true
or_right true b e = refl
or_right false b e = e

pub has_key : (ks : List (List ℕ)) (text : List ℕ) → Has ks text → list_any (is_at (order text)) ks ≡ true
has_key [] text h = absurd h
has_key (k ∷ ks) text (inl e) = ap (λ o. is_eq o || list_any (is_at (order text)) ks) (ap (order text) e ∙ tied_itself nat_list_cmp_total text)
has_key (k ∷ ks) text (inr h) = or_right (is_at (order text) k) (list_any (is_at (order text)) ks) (has_key ks text h)

negated : (b : Bool) → not b ≡ false → b ≡ true
negated true h = refl
negated false h = absurd (true≢false h)

-- a text was put among others, and the answer says whether it is new
pub adds : (old new : List (List ℕ)) (text : List ℕ) (is_new : Bool) → new ≡ insert_key order old text → is_new ≡ not (list_any (is_at (order text)) old) → Adds old text new is_new
adds old new text is_new e told = record {
  grows = grows_inserted order texts_tie old new text e;
  fresh = λ t h. true≢false (sym t ∙ told ∙ ap not (has_key old text h));
  there = λ f. key_has old text (negated (list_any (is_at (order text)) old) (sym told ∙ f));
}
