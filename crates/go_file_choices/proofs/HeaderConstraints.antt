-- The expression of a file's header, where it has a header with one.
use Rattle.std.proofs.Common.{◌≡◌, ℕ, None, List, ap}
use Rattle.go_file_choices.specs.inner.Questions.{IsConstraintOf}
use Rattle.go_model.specs.declared.files.build.Header.{Header}
use Rattle.go_model.specs.files.Headers.{IsHeader}
use Rattle.go_tags.specs.HeaderCauses.{HasCause, IsOwnCause}
use Rattle.go_tags.specs.declared.error.TagError.{TagError}
use Rattle.go_tags.specs.declared.error.TagError.TheVariants as error

pub of_header : ((bytes : List ℕ) (one two : Header) → IsHeader bytes one → IsHeader bytes two → one ≡ two) → (bytes : List ℕ) (header : Header) → IsHeader bytes header → IsConstraintOf bytes header.constraint
of_header one bytes header h = record { only = λ other k. ap (λ (w : Header). w.constraint) (one bytes other header k h); there = λ c e. (header, h, e) }

module _ (either : (bytes : List ℕ) (header : Header) (e : TagError) → IsOwnCause e → HasCause bytes e → IsHeader bytes header → ⊥) (bytes : List ℕ) where
  no_header : (e : TagError) → IsOwnCause e → HasCause bytes e → IsConstraintOf bytes None
  no_header e own cause = record { only = λ header h. absurd (either bytes header e own cause h); there = λ c f. absurd (cc) }

  pub bad_expression : (e : TagError) → e ≡ error.BadExpression → HasCause bytes e → IsConstraintOf bytes None
  bad_expression e is h = no_header e (λ same. absurd (cc)) h

  pub twice : (e : TagError) → e ≡ error.Twice → HasCause bytes e → IsConstraintOf bytes None
  twice e is h = no_header e (λ same. absurd (cc)) h

  pub plus_build : (e : TagError) → e ≡ error.PlusBuild → HasCause bytes e → IsConstraintOf bytes None
  plus_build e is h = no_header e (λ same. absurd (cc)) h
