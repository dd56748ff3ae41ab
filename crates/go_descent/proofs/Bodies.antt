-- What is known of bodies that are balanced, and so of those that are skipped.
use Rattle.std.proofs.Common.{◌≡◌, ℕ, List, true, Some, refl}
use Rattle.go_syntax.specs.declared.body.BodyRange.{BodyRange}
use Rattle.go_syntax.specs.declared.token.TokenKind.TheVariants as kind
use Rattle.go_syntax.specs.grammar.Brackets.{IsSkipped, skipped}
use Rattle.go_syntax.specs.grammar.SourceFiles.{Skips}
use Rattle.go_syntax.specs.grammar.Symbols.{Rule, begins}
use Rattle.go_syntax.specs.grammar.Terminals.{Terminal}
use Rattle.go_cursor.specs.Skipping.{skipped_body}
use Rattle.go_descent.proofs.Ahead.{composite_ahead}
use Rattle.go_descent.proofs.Balanced.{Balances}
use Rattle.go_descent.proofs.CompleteParts.{KnownBodies}
use Rattle.go_cursor.proofs.Runs.{run_shorter, skipped_balances, complete_skipped, sound_skipped}
use Rattle.go_cursor.proofs.Steps.{Sound}

-- each body begins with `{`
abbrev pub Braced : (ℕ → Rule BodyRange) → Type 0
Braced Body = (h : ℕ) (ts : List Terminal) (b : BodyRange) (rest : List Terminal) → Body h ts b rest → begins kind.LeftBrace ts ≡ true

pub known_bodies : {Body : ℕ → Rule BodyRange} → Balances Body → Braced Body → KnownBodies Body
known_bodies balanced braced = record {
  body_begins = braced;
  body_shorter = λ h ts b rest d. run_shorter (balanced h ts b rest d);
  sees_composite = λ h ts t rest d. composite_ahead balanced d;
}

pub skips_balance : Balances Skips
skips_balance h ts b rest d = skipped_balances d

skipped_braced : {ts rest : List Terminal} {b : BodyRange} → IsSkipped ts b rest → begins kind.LeftBrace ts ≡ true
skipped_braced (skipped start start_end end_start end r) = refl

pub skips_known : KnownBodies Skips
skips_known = known_bodies skips_balance (λ h ts b rest d. skipped_braced d)

pub skips_sound : (h : ℕ) → Sound (Skips h) skipped_body
skips_sound h ts b rest e = sound_skipped ts b rest e

pub skips_read : (h : ℕ) (ts : List Terminal) (b : BodyRange) (rest : List Terminal) → Skips h ts b rest → skipped_body ts ≡ Some (b, rest)
skips_read h ts b rest d = complete_skipped d
