use denote.Enum.Bare.{same_true}
use Rattle.std.proofs.Common.{Some, ap, sym, ◌∙◌}
use Rattle.go_model.specs.contracts.files.platform.Platform.{the_type}
use Rattle.api_lines.proofs.PathOrder.{both_on, both_plain, by_names, first_plain, second_plain}
use Rattle.api_lines.proofs.order.order_in_package.Goals as goal

pub returns-in-None-None : goal.returns-in-None-None
returns-in-None-None c =
    c.cmp.ensures ∙ both_plain c.args.line.now.path c.args.other.now.path c.requires c.args.line.now.context c.args.other.now.context c.args.line.now.rest c.args.other.now.rest c.in-None-None.is-0 c.in-None-None.is-1

pub returns-in-None-Some : goal.returns-in-None-Some
returns-in-None-Some c =
    first_plain c.args.line.now.path c.args.other.now.path c.requires c.args.line.now.context c.args.other.now.context c.args.line.now.rest c.args.other.now.rest c.in-None-Some.field-0-1 c.in-None-Some.is-0 c.in-None-Some.is-1

pub returns-in-Some-None : goal.returns-in-Some-None
returns-in-Some-None c =
    second_plain c.args.line.now.path c.args.other.now.path c.requires c.args.line.now.context c.args.other.now.context c.args.line.now.rest c.args.other.now.rest c.in-Some-None.field-0-0 c.in-Some-None.is-0 c.in-Some-None.is-1

pub returns-then-eq : goal.returns-then-eq
returns-then-eq c =
    c.cmp-then-eq.ensures ∙ both_on c.args.line.now.path c.args.other.now.path c.requires c.args.line.now.context c.args.other.now.context c.args.line.now.rest c.args.other.now.rest c.in-Some-Some.platform c.in-Some-Some.is-0
    (c.in-Some-Some.is-1 ∙ ap Some (sym (same_true the_type tt c.in-Some-Some.platform c.in-Some-Some.on (sym c.eq.ensures ∙ c.if-eq.true))))

pub returns-else-eq : goal.returns-else-eq
returns-else-eq c =
    by_names c.args.line.now.path c.args.other.now.path c.requires c.args.line.now.context c.args.other.now.context c.args.line.now.rest c.args.other.now.rest c.in-Some-Some.platform c.in-Some-Some.on c.order_of_platforms.result
    c.in-Some-Some.is-0 c.in-Some-Some.is-1 c.order_of_platforms.ensures
