use Rattle.std.proofs.Common.{subst, List, ℕ}
use Rattle.api_correspond.specs.inner.Tables.{At}
use Rattle.api_correspond.proofs.Tabling.{keeps_none, keeps_at, stands_at}
use Rattle.api_forced.proofs.claims.own_name.Goals as goal

pub returns-in-None-clause-keeps : goal.returns-in-None-clause-keeps
returns-in-None-clause-keeps c = keeps_none c.args.texts.now.keys

pub returns-in-None-clause-own : goal.returns-in-None-clause-own
returns-in-None-clause-own c = c.in-None.ensures

pub returns-in_ok-at-in-Some-clause-keeps : goal.returns-in_ok-at-in-Some-clause-keeps
returns-in_ok-at-in-Some-clause-keeps c = keeps_at c.args.texts.now.keys c.add_text.new.texts.keys c.in_ok-text-in-Some.text c.in_ok-at-in-Some.at c.in_ok-at-in-Some._fresh c.in_ok-at-in-Some.ensures

pub returns-in_ok-at-in-Some-clause-own : goal.returns-in_ok-at-in-Some-clause-own
returns-in_ok-at-in-Some-clause-own c = (
  c.in-Some.name.now,
  c.in-Some.ensures.0,
  c.in-Some.ensures.1,
  subst (λ (t : List ℕ). At c.add_text.new.texts.keys c.in_ok-at-in-Some.at t) c.in_ok-text-in-Some.ensures (stands_at c.args.texts.now.keys c.add_text.new.texts.keys c.in_ok-text-in-Some.text c.in_ok-at-in-Some.at c.in_ok-at-in-Some._fresh c.in_ok-at-in-Some.ensures),
)
