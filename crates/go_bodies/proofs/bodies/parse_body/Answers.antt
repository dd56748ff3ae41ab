use Rattle.std.proofs.Common.{◌≡◌, ◌∙◌, true, false, List, sym, subst}
use Rattle.go_bodies.specs.Braces.{rises}
use Rattle.go_bodies.specs.Reading.{body}
use Rattle.go_bodies.specs.Reads.{FindsBody}
use Rattle.go_bodies.proofs.Outcomes.{found, not_rising, refused}
use Rattle.go_bodies.proofs.bodies.parse_body.Goals as goal
use Rattle.go_syntax.specs.declared.token.Token.{Token}
use Rattle.go_syntax.specs.grammar.Terminals.{terminals}

pub returns-then-not-rise : goal.returns-then-not-rise
returns-then-not-rise c =
    let f : rises 0 (terminals c.args.tokens.now) ≡ false = subst (λ (tokens : List Token). rises 0 (terminals tokens) ≡ false) c.new-cursor.ensures (sym c.rise.ensures ∙ c.if-not-rise.true) in
    record { tree = tt; syntax = λ s p d. not_rising c.args.tokens.now p f d }

pub returns : goal.returns
returns c =
    let t : rises 0 (terminals c.args.tokens.now) ≡ true = subst (λ (tokens : List Token). rises 0 (terminals tokens) ≡ true) c.new-cursor.ensures (sym c.rise.ensures ∙ c.if-not-rise.false) in
    let r : FindsBody (body 256 (terminals c.args.tokens.now)) c.body.result = subst (λ (tokens : List Token). FindsBody (body 256 (terminals tokens)) c.body.result) c.new-cursor.ensures c.body.ensures in
    record { tree = found c.args.tokens.now c.body.result t r; syntax = λ s p d. refused c.args.tokens.now c.body.result r s p d }
