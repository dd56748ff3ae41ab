use Rattle.go_base.specs.Lists.{Has}
use Rattle.go_leads.specs.Listed.{names_of}
use Rattle.go_leads.specs.inner.Bares.{bare_of, bares_in, inner}
use Rattle.go_leads.specs.inner.FieldKeys.{field_keys}
use Rattle.go_leads.specs.inner.Some.{keys_of}
use Rattle.go_leads.proofs.TreeKeys.{literal_splits}
use Rattle.go_leads.proofs.Walks.{grows_append, owes_all, owes_next, owes_none}
use Rattle.go_model.specs.types.Underlying.{under}
use Rattle.go_type_terms.specs.Answers.{env_in}
use Rattle.go_leads.proofs.keys.push_bares.Goals as goal

pub loop-init : goal.loop-init
loop-init c = owes_all (keys_of (env_in c.args.context.now)) (bares_in c.args.bares) (names_of c.args.keys.now)

pub returns-in-None : goal.returns-in-None
returns-in-None c = owes_none (keys_of (env_in c.args.context.now)) (bares_in c.args.bares) (bares_in c.loop.bares) (names_of c.args.keys.now) (names_of c.loop.keys) c.in-None.ensures c.loop.invariant

pub loop-preserved : goal.loop-preserved
loop-preserved c =
    let E = env_in c.args.context.now in
    let l = bare_of c.in-Some.bare in
    owes_next (keys_of E) (bares_in c.args.bares) (bares_in c.loop.bares) (bares_in c.pop.new.self) (bares_in c.push_inner.new.self) l (inner E (under E.table l.0) l.1) (λ n. Has (field_keys (under E.table l.0) l.1) n)
    (names_of c.args.keys.now) (names_of c.loop.keys) (names_of c.push_fields.new.keys) (literal_splits E l) c.in-Some.ensures c.in_ok-push_inner-in-Some.ensures
    (grows_append (names_of c.loop.keys) (field_keys (under E.table l.0) l.1) (names_of c.push_fields.new.keys) c.in_ok-push_fields-in-Some.ensures) c.loop.invariant
