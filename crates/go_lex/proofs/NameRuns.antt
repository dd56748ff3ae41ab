-- The longest name at the start of some bytes.
use Rattle.std.proofs.Common.{◌≡◌, ℕ, ◌<◌, ◌≤◌, Bool, true, false, ◌||◌, List, [], ◌++◌, length, take, drop, refl, sym, ap, ◌∙◌, subst, arith, length-append, append_assoc}
use Rattle.std.specs.Prelude.{IsTrue, ◌↔◌}
use Rattle.std.specs.Char.{encode_utf8}
use Rattle.std.proofs.lemmas.Str.{encode_same, length-encode, len_utf8_bounds}
use Rattle.std.proofs.lemmas.List.{take-append-drop}
use Rattle.go_base.specs.Characters.{is_letter, is_name_character, BeginsPassing, IsRun, run_end, run_more}
use Rattle.go_base.proofs.Lists.{length_take}
use Rattle.go_lex.specs.inner.NamePrefixes.{IsName, IsLongestName, HasNoName}

or_left : (a b : Bool) → a ≡ true → (a || b) ≡ true
or_left true b h = refl
or_left false b h = absurd (cc)

letter_in_names : (c : ℕ) → is_letter c ≡ true → is_name_character c ≡ true
letter_in_names c h = or_left (is_letter c) _ h

some_encoded : (c : ℕ) (prefix : List ℕ) → encode_utf8 c ++ prefix ≡ [] → ⊥
some_encoded c prefix e = absurd (omega (arith, ap length e, length-append (encode_utf8 c) prefix, length-encode c, (len_utf8_bounds c).0))

nothing_passes : (test : ℕ → Bool) → BeginsPassing test [] → ⊥
nothing_passes test b = some_encoded b.0 b.1 (sym b.4)

-- a run to the end of its own text
closed : (test : ℕ → Bool) (prefix rest : List ℕ) → IsRun test prefix rest → IsRun test prefix []
closed test prefix rest (run_end none) = run_end (nothing_passes test)
closed test prefix rest (run_more {c = c} {front = f} t s d) = run_more t s (closed test f rest d)

-- a text of characters that pass is part of the run
part_of_run : (test : ℕ → Bool) (a none more prefix rest : List ℕ) → IsRun test a none → IsRun test prefix rest → a ++ more ≡ prefix ++ rest → length a ≤ length prefix
part_of_run test a none more prefix rest (run_end _) d e = omega arith
part_of_run test a none more prefix rest (run_more {c = c} {front = f} t s d) (run_end stop) e = absurd (stop (c, f ++ more, t, s, sym e ∙ append_assoc (encode_utf8 c) f more))
part_of_run test a none more prefix rest (run_more {c = c} {front = f} t s d) (run_more {c = x} {front = g} u v w) e =
    let same = encode_same c x (f ++ more) (g ++ rest) (sym (append_assoc (encode_utf8 c) f more) ∙ e ∙ append_assoc (encode_utf8 x) g rest) in
    let later = part_of_run test f none more g rest d w same.1 in
    omega (arith, length-append (encode_utf8 c) f, length-append (encode_utf8 x) g, ap (λ (y : ℕ). length (encode_utf8 y)) same.0)

name_run : (text : List ℕ) → IsName text → IsRun is_name_character text []
name_run text n = subst (λ (xs : List ℕ). IsRun is_name_character xs []) (sym n.5) (run_more (letter_in_names n.0 n.2) n.3 n.4)

name_some : (text : List ℕ) → IsName text → 0 < length text
name_some text n = omega (arith, ap length n.5, length-append (encode_utf8 n.0) n.1, length-encode n.0, (len_utf8_bounds n.0).0)

run_name : (prefix rest : List ℕ) → IsRun is_name_character prefix rest → BeginsPassing is_letter (prefix ++ rest) → IsName prefix
run_name prefix rest (run_end none) b = absurd (none (b.0, b.1, letter_in_names b.0 b.2, b.3, b.4))
run_name prefix rest (run_more {c = c} {front = f} t s d) b =
    let same = (encode_same c b.0 (f ++ rest) b.1 (sym (append_assoc (encode_utf8 c) f rest) ∙ b.4)).0 in
    (c, f, ap is_letter same ∙ b.2, s, closed is_name_character f rest d, refl)

pub longest_name : (bytes : List ℕ) (n : ℕ) → n ≤ length bytes → IsRun is_name_character (take n bytes) (drop n bytes) → BeginsPassing is_letter bytes → IsLongestName bytes n
longest_name bytes n within d b =
    let joined = take-append-drop n bytes in
    let size = length_take n bytes within in
    let stands = run_name (take n bytes) (drop n bytes) d (subst (BeginsPassing is_letter) (sym joined) b) in
    record {
      some = omega (arith, name_some (take n bytes) stands, size);
      within = within;
      stands = stands;
      longest = λ text more name e. omega (arith, size, part_of_run is_name_character text [] more (take n bytes) (drop n bytes) (name_run text name) d (sym e ∙ sym joined));
    }

pub no_name : (bytes : List ℕ) → (BeginsPassing is_letter bytes → ⊥) → HasNoName bytes
no_name bytes none text more n e = none (n.0, n.1 ++ more, n.2, n.3, e ∙ ap (λ (xs : List ℕ). xs ++ more) n.5 ∙ append_assoc (encode_utf8 n.0) n.1 more)

-- what a test decides
pub from_true : (b : Bool) (P : Type 0) → (IsTrue b ↔ P) → b ≡ true → P
from_true true P h e = h.0 e
from_true false P h e = absurd (cc)

pub to_false : (b : Bool) (P : Type 0) → (IsTrue b ↔ P) → b ≡ false → P → ⊥
to_false true P h e p = absurd (cc)
to_false false P h e p = absurd (let no : false ≡ true = h.1 p in cc)
