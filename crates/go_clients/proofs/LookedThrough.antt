-- Declarations that are looked through one after another, in scopes that are moved to each of them.
use Rattle.std.proofs.Common.{◌≡◌, ℕ, ◌+◌, ◌<◌, ◌≤◌, List, [], ◌∷◌, ◌++◌, take, length, get_or, Option, None, refl, sym, ap, ◌∙◌, subst}
use Rattle.std.proofs.lemmas.List.{map-append}
use Rattle.go_base.proofs.Lists.{take_past}
use Rattle.go_client_typings.specs.Clients.{Blocks, blocks_in}
use Rattle.go_clients.proofs.FirstPlaces.{finds_none, one_more}
use Rattle.go_clients.specs.inner.Told.{FindsIn, TellsDeclaration, lesser, list_of, lists_of, turned}
use Rattle.go_declarations.specs.Listings.{declaration_of, declarations_of}
use Rattle.go_declarations.specs.declared.listing.Declaration.{Declaration as Borrowed}
use Rattle.go_literal_blocks.specs.declared.blocks.Blocks.{Blocks as Found}
use Rattle.go_local_scopes.specs.States.{around}
use Rattle.go_rules.specs.Scopes.{Scopes as Known}
use Rattle.go_selectors.proofs.Lists.{taken_next}
use Rattle.go_syntax.specs.declared.name.Place.{Place}
use Rattle.go_syntax.specs.declared.statement.LiteralBlock.{LiteralBlock}
use Rattle.go_typings.specs.Declarations.{Declaration}

-- ---- the blocks of all files

pub blocks_next : (lists : List (List LiteralBlock)) (i : ℕ) (l : List LiteralBlock) (b : Found) (old new : List Found) → i < length lists → l ≡ get_or lists i l → b.list.now ≡ l → new ≡ old ++ b ∷ [] → lists_of old ≡ take i lists → lists_of new ≡ take (i + 1) lists
blocks_next lists i l b old new less is has e h =
    ap lists_of e ∙ map-append list_of old (b ∷ []) ∙ ap (λ (zs : List (List LiteralBlock)). zs ++ list_of b ∷ []) h ∙ ap (λ (z : List LiteralBlock). take i lists ++ z ∷ []) has ∙ sym (taken_next lists i l less is)

pub blocks_whole : (lists : List (List LiteralBlock)) (i : ℕ) (all : List Found) → length lists ≤ i → lists_of all ≡ take i lists → lists_of all ≡ lists
blocks_whole lists i all l h = h ∙ take_past i lists l

-- ---- the declarations

-- what is found in the first of them, and that the scopes are those of the package but for where they stand
pub record Looking (c : Known) (blocks : Blocks) (ds : List Declaration) (now : Known) (found : Option Place) : Type 0 where
  pub opened : now.opened ≡ []
  pub same : (d : Declaration) → turned now d ≡ turned c d
  pub finds : FindsIn c blocks ds found

module _ (c : Known) (blocks : Blocks) where
  pub looking_first : c.opened ≡ [] → Looking c blocks [] c None
  looking_first o = record { opened = o; same = λ d. refl; finds = finds_none c blocks }

  found_next : (xs : List Borrowed) (i : ℕ) (x : Borrowed) (old : Known) (found next : Option Place) → i < length xs → x ≡ get_or xs i x → TellsDeclaration (around (turned old (declaration_of x))) (blocks_in blocks x.file) (declaration_of x) next
      → Looking c blocks (declarations_of (take i xs)) old found → FindsIn c blocks (declarations_of (take (i + 1) xs)) (lesser found next)
  found_next xs i x old found next less is t m =
      subst (λ (ds : List Declaration). FindsIn c blocks ds (lesser found next)) (sym (ap declarations_of (taken_next xs i x less is) ∙ map-append declaration_of (take i xs) (x ∷ [])))
      (one_more c blocks (declarations_of (take i xs)) (declaration_of x) found next m.finds (subst (λ (k : Known). TellsDeclaration (around k) (blocks_in blocks x.file) (declaration_of x) next) (m.same (declaration_of x)) t))

  pub looking_next : (xs : List Borrowed) (i : ℕ) (x : Borrowed) (old new : Known) (found next : Option Place) → i < length xs → x ≡ get_or xs i x → new ≡ turned old (declaration_of x)
      → TellsDeclaration (around (turned old (declaration_of x))) (blocks_in blocks x.file) (declaration_of x) next → Looking c blocks (declarations_of (take i xs)) old found → Looking c blocks (declarations_of (take (i + 1) xs)) new (lesser found next)
  looking_next xs i x old new found next less is e t m = record {
    opened = ap (λ (k : Known). k.opened) e ∙ m.opened;
    same = λ d. ap (λ (k : Known). turned k d) e ∙ m.same d;
    finds = found_next xs i x old found next less is t m;
  }

  pub looking_last : (xs : List Borrowed) (i : ℕ) (now : Known) (found : Option Place) → length xs ≤ i → Looking c blocks (declarations_of (take i xs)) now found → FindsIn c blocks (declarations_of xs) found
  looking_last xs i now found l m = subst (λ (zs : List Borrowed). FindsIn c blocks (declarations_of zs) found) (take_past i xs l) m.finds
