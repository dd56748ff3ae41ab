-- What is reached along the rows of dependencies from what is offered is what is seen.
use Rattle.std.proofs.Common.{◌≡◌, ℕ, ◌<◌, Bool, true, List, length, ◌∙◌, arith}
use Rattle.std.proofs.lemmas.Option.{slice_get_within}
use Rattle.go_exposed.specs.ExposedDeclarations.{IsExposed, exposed_by_name, exposed_through}
use Rattle.go_graphs.specs.Flags.{AreFlagsOf, is_flagged}
use Rattle.go_reach.specs.Reached.{IsReached, reached_by, reached_first}
use Rattle.go_seen.specs.Offered.{IsOfferedAt}
use Rattle.go_sifting.specs.Graphs.{AreRows}
use Rattle.go_soundness.specs.LostDeclarations.{Depends}
use Rattle.go_typings.specs.Declarations.{declarations}
use Rattle.go_typings.specs.PackageEnvironments.{Entries}
use Rattle.go_typings.specs.Sources.{PackageSource, Setting}

module _ (s : Setting) (u : PackageSource) (a : Entries) (rows : List (List ℕ)) (are : AreRows s u a (Depends s u a) rows) (offered : List Bool) (flags : AreFlagsOf (length (declarations u)) (IsOfferedAt u) offered) where
  reached_seen : {n : ℕ} → IsReached rows (is_flagged offered) n → IsExposed u n
  reached_seen {n = n} (reached_first e) = exposed_by_name (flags.sound n e)
  reached_seen {n = n} (reached_by m r h) = exposed_through m (reached_seen r) ((are.exact m n).0 h)

  seen_reached : {n : ℕ} → IsExposed u n → IsReached rows (is_flagged offered) n
  seen_reached {n = n} (exposed_by_name k) = reached_first (flags.complete n (slice_get_within (declarations u) n k.0 k.1) k)
  seen_reached {n = n} (exposed_through m x k) = reached_by m (seen_reached x) ((are.exact m n).1 k)

  pub seen_flags : (seen : List Bool) → AreFlagsOf (length rows) (IsReached rows (is_flagged offered)) seen → AreFlagsOf (length (declarations u)) (IsExposed u) seen
  seen_flags seen is = record {
    size = is.size ∙ are.size;
    sound = λ n e. reached_seen (is.sound n e);
    complete = λ n l k. (let q = are.size in is.complete n (omega (arith, l, q)) (seen_reached k));
  }
