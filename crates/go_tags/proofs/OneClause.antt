-- A file begins with at most one package clause.
use Rattle.std.proofs.Common.{◌≡◌, ℕ, ◌≤◌, ◌<◌, true, List, ◌++◌, length, take, drop, sym, ap, ◌∙◌, subst}
use Rattle.std.specs.Prelude.{codes, bytes_eq}
use Rattle.std.proofs.lemmas.Slice.Eq.{bytes_eq-Decides}
use Rattle.std.proofs.lemmas.List.{take-append-drop}
use Rattle.go_base.specs.Characters.{is_name_character, BeginsPassing, IsRun}
use Rattle.go_base.specs.Comments.{IsFront}
use Rattle.go_model.specs.files.Headers.{BeginsClause}
use Rattle.go_tags.specs.inner.PackageKeyword.{IsBehindKeyword}
use Rattle.go_base.proofs.Fronts.{front_once}
use Rattle.go_base.proofs.Runs.{run_once, run_zero, run_some}

behind_same : (bytes one two : List ℕ) → bytes ≡ codes "package" ++ one → bytes ≡ codes "package" ++ two → one ≡ two
behind_same bytes one two e f = sym (ap (drop 7) e) ∙ ap (drop 7) f

pub whole_word : (bytes behind : List ℕ) (n : ℕ) → bytes ≡ codes "package" ++ behind → IsRun is_name_character (take n behind) (drop n behind) → n ≡ 0 → IsBehindKeyword bytes behind
whole_word bytes behind n e run none = (e, run_zero is_name_character behind n run none)

pub longer_word : (bytes behind : List ℕ) (n : ℕ) → bytes ≡ codes "package" ++ behind → IsRun is_name_character (take n behind) (drop n behind) → n ≤ length behind → 0 < n
    → (other : List ℕ) → IsBehindKeyword bytes other → ⊥
longer_word bytes behind n e run within some other o =
    o.1 (subst (BeginsPassing is_name_character) (behind_same bytes behind other e o.0) (run_some is_name_character behind n run within some))

-- the clause's name is the run behind the prefix
pub clause_run : (bytes behind : List ℕ) (pieces : List (List ℕ)) (rest : List ℕ) (n : ℕ) → IsBehindKeyword bytes behind → IsFront behind pieces rest → IsRun is_name_character (take n rest) (drop n rest)
    → (name : List ℕ) → BeginsClause bytes name → take n rest ≡ name
clause_run bytes behind pieces rest n k prefix run name b =
    let rests = (front_once prefix b.pieces (name ++ b.rest) b.behind (behind_same bytes behind b.behind k.0 b.keyword) b.front).1 in
    (run_once is_name_character (take n rest) (drop n rest) name b.rest run b.run (take-append-drop n rest ∙ rests)).0

pub clause_once : (bytes one two : List ℕ) → BeginsClause bytes one → BeginsClause bytes two → one ≡ two
clause_once bytes one two a b =
    let rests = (front_once a.front b.pieces (two ++ b.rest) b.behind (behind_same bytes a.behind b.behind a.keyword b.keyword) b.front).1 in
    (run_once is_name_character one a.rest two b.rest a.run b.run rests).0

-- what stripping the word says
pub stripped : (bytes behind : List ℕ) → bytes_eq (take 7 bytes) (codes "package") ≡ true → behind ≡ drop 7 bytes → bytes ≡ codes "package" ++ behind
stripped bytes behind e f = sym (take-append-drop 7 bytes) ∙ (λ i. (bytes_eq-Decides (take 7 bytes) (codes "package")).0 e i ++ sym f i)
