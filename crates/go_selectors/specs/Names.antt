-- Equality of names, as a set of them that is hashed tells them apart.
-- Own: words of the contracts inside this crate.
use Rattle.std.specs.Prelude.{◌≡◌, ℕ, Bool, true, List, [], ◌∷◌, bytes_eq}
use Rattle.std.specs.Ordering.{on, eq_of_both}
use Rattle.std.specs.Cmp.{IsEquivalence, on_equiv, and_equiv, first_so, second_so}
use Rattle.std.specs.Cmp.Lexicographic.{nat_list_eq_equiv, bytes_decides}
use Rattle.std.proofs.Common.{ap, ◌∙◌}
use Rattle.go_model.specs.declared.types.names.TypeName.{TypeName}

abbrev pub same_name : TypeName → TypeName → Bool
same_name = eq_of_both (on (λ n. n.path) bytes_eq) (on (λ n. n.name) bytes_eq)

pub same_name_equiv : IsEquivalence same_name
same_name_equiv = and_equiv (on_equiv (λ n. n.path) nat_list_eq_equiv) (on_equiv (λ n. n.name) nat_list_eq_equiv)

abbrev of_parts : List ℕ → List ℕ → TypeName
of_parts path name = record { path = path; name = name }

pub same_name_is : (a b : TypeName) → same_name a b ≡ true → a ≡ b
same_name_is a b h =
    ap (λ p. of_parts p a.name) ((bytes_decides a.path b.path).0 (first_so _ _ h)) ∙ ap (λ n. of_parts b.path n) ((bytes_decides a.name b.name).0 (second_so _ _ h))

-- what a hash is made of
abbrev pub name_writes : TypeName → List (List ℕ)
name_writes n = n.path ∷ n.name ∷ []

pub same_name_writes : (a b : TypeName) → same_name a b ≡ true → name_writes a ≡ name_writes b
same_name_writes a b h = ap name_writes (same_name_is a b h)
