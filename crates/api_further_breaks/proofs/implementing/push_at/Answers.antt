use Rattle.std.proofs.Common.{subst}
use Rattle.go_selectors.specs.Answers.{Decides}
use Rattle.go_selectors.specs.Candidates.{AreCandidates}
use Rattle.api_further_breaks.proofs.Implementers.{place_empty, place_lacks, place_kept, place_lost}
use Rattle.api_further_breaks.proofs.implementing.push_at.Goals as goal

pub returns-in-None : goal.returns-in-None
returns-in-None c = place_empty c.args.sealed.now c.args.callable.now c.args.called.now c.args.at c.args.losses.now.items c.in-None.ensures

pub returns-then-not-are_candidates : goal.returns-then-not-are_candidates
returns-then-not-are_candidates c = place_lacks c.args.sealed.now c.args.callable.now c.args.called.now c.args.at c.args.losses.now.items c.in-Some.found.now c.in-Some.ensures.0 c.in-Some.ensures.1 (subst (λ b. Decides b (AreCandidates c.args.callable.now c.in-Some.found.now.old.now)) c.if-not-are_candidates.true c.are_candidates.ensures)

pub returns-then-are_candidates : goal.returns-then-are_candidates
returns-then-are_candidates c = place_kept c.args.sealed.now c.args.callable.now c.args.called.now c.args.at c.args.losses.now.items c.in-Some.found.now c.in-Some.ensures.0 c.in-Some.ensures.1 (subst (λ b. Decides b (AreCandidates c.args.called.now c.in-Some.found.now.new.now)) c.if-are_candidates.true c.are_candidates-in-Some.ensures)

pub returns-in_ok-push-in-Some : goal.returns-in_ok-push-in-Some
returns-in_ok-push-in-Some c = place_lost c.args.sealed.now c.args.callable.now c.args.called.now c.args.at c.args.losses.now.items c.in-Some.found.now c.in-Some.ensures.0 c.in-Some.ensures.1 c.push.new.self.items c.in_ok-interface-in-Some.interface (subst (λ b. Decides b (AreCandidates c.args.callable.now c.in-Some.found.now.old.now)) c.if-not-are_candidates.false c.are_candidates.ensures) (subst (λ b. Decides b (AreCandidates c.args.called.now c.in-Some.found.now.new.now)) c.if-are_candidates.false c.are_candidates-in-Some.ensures) c.in_ok-interface-in-Some.ensures c.in_ok-push-in-Some.ensures.items
