-- The new names of defined types, which the pairs give.
use Rattle.std.proofs.Common.{◌≡◌, ◌⊎◌, inl, inr, ℕ, Bool, true, false, List, [], ◌∷◌, refl, sym, ap, ◌∙◌, ◌&&◌}
use Rattle.std.specs.Prelude.{if◌then◌else◌, bytes_eq}
use Rattle.std.specs.Cmp.{first_so, second_so}
use Rattle.std.specs.Cmp.Lexicographic.{bytes_decides}
use Rattle.go_base.specs.Lists.{Has}
use Rattle.go_model.specs.declared.types.names.TypeName.{TypeName}
use Rattle.go_model.specs.declared.types.term.Term.{Term-F, out-Term}
use Rattle.go_model.specs.types.Terms.{Layer}
use Rattle.go_type_images.specs.NewNames.{new_name, new_name_by, same_name}
use Rattle.go_type_images.specs.declared.pair.TypePair.{TypePair}

abbrev of_texts : List ℕ → List ℕ → TypeName
of_texts path name = record { path = path; name = name }

same_true : (a b : TypeName) → same_name a b ≡ true → a ≡ b
same_true a b h =
    ap (λ p. of_texts p a.name) ((bytes_decides a.path b.path).0 (first_so (bytes_eq a.path b.path) (bytes_eq a.name b.name) h))
    ∙ ap (λ n. of_texts b.path n) ((bytes_decides a.name b.name).0 (second_so (bytes_eq a.path b.path) (bytes_eq a.name b.name) h))

same_self : (a : TypeName) → same_name a a ≡ true
same_self a = ap (λ x. x && bytes_eq a.name a.name) ((bytes_decides a.path a.path).1 refl) ∙ (bytes_decides a.name a.name).1 refl

pub named_named : {m n : TypeName} → ◌≡◌ {A = Layer} (Term-F.Named m) (Term-F.Named n) → m ≡ n
named_named e = cc

-- every name that such levels give the name is this one
abbrev Agree : Layer → Layer → TypeName → TypeName → Type 0
Agree k l m n = (b : TypeName) → k ≡ Term-F.Named m → l ≡ Term-F.Named b → b ≡ n

-- the others give it this name, or these levels do
abbrev Holds : Layer → Layer → TypeName → TypeName → TypeName → Type 0
Holds k l m n other = (other ≡ n) ⊎ ((k ≡ Term-F.Named m) × (l ≡ Term-F.Named n))

both_named : (a b m n other : TypeName) (t : Bool) → same_name a m ≡ t → Agree (Term-F.Named a) (Term-F.Named b) m n → Holds (Term-F.Named a) (Term-F.Named b) m n other → (if t then b else other) ≡ n
both_named a b m n other true e g h = g b (ap Term-F.Named (same_true a m e)) refl
both_named a b m n other false e g (inl h) = h
both_named a b m n other false e g (inr h) = let s : a ≡ m = named_named h.0 in let bad : true ≡ false = sym (same_self a) ∙ ap (same_name a) s ∙ e in absurd (cc)

one_level : (k l : Layer) (m n other : TypeName) → Agree k l m n → Holds k l m n other → new_name_by k l m other ≡ n
one_level (Term-F.Named a) (Term-F.Named b) m n other g h = both_named a b m n other (same_name a m) refl g h
one_level k l m n other g (inl h) = h
one_level k l m n other g (inr h) = let a = h.0 in let b = h.1 in absurd (cc)

-- where the pairs give a name one new name, and some pair gives it, that is the new name
pub new_name_in : (ps : List TypePair) (m n : TypeName) → ((p : TypePair) (b : TypeName) → Has ps p → out-Term p.old ≡ Term-F.Named m → out-Term p.new ≡ Term-F.Named b → b ≡ n) → (p : TypePair) → Has ps p → out-Term p.old ≡ Term-F.Named m → out-Term p.new ≡ Term-F.Named n → new_name ps m ≡ n
new_name_in [] m n g p i a b = absurd i
new_name_in (q ∷ ps) m n g p (inl e) a b = one_level (out-Term q.old) (out-Term q.new) m n (new_name ps m) (λ c x y. g q c (inl refl) x y) (inr (ap (λ (z : TypePair). out-Term z.old) e ∙ a, ap (λ (z : TypePair). out-Term z.new) e ∙ b))
new_name_in (q ∷ ps) m n g p (inr i) a b = one_level (out-Term q.old) (out-Term q.new) m n (new_name ps m) (λ c x y. g q c (inl refl) x y) (inl (new_name_in ps m n (λ u c j. g u c (inr j)) p i a b))

-- where every new name that they give is the name itself, it stays
pub new_name_same : (ps : List TypePair) (n : TypeName) → ((p : TypePair) (b : TypeName) → Has ps p → out-Term p.old ≡ Term-F.Named n → out-Term p.new ≡ Term-F.Named b → b ≡ n) → new_name ps n ≡ n
new_name_same [] n g = refl
new_name_same (p ∷ ps) n g = one_level (out-Term p.old) (out-Term p.new) n n (new_name ps n) (λ c x y. g p c (inl refl) x y) (inl (new_name_same ps n (λ u c j. g u c (inr j))))
