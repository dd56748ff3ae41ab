use Rattle.go_local_scopes.proofs.Declared.{lengths_declared, named_at, named_length, onwards_begin, onwards_done, onwards_next, onwards_not}
use Rattle.go_local_scopes.proofs.Standing.{kept_none, kept_on, kept_opened, reached, unreached}
use Rattle.go_local_scopes.specs.Slots.{name_in, names_in}
use Rattle.go_statement_rules.specs.Scopes.{Declares}
use Rattle.std.proofs.Common.{◌∙◌, ◌∷◌, [], arith, sym}
use Rattle.go_local_scopes.proofs.declaring.declare_all.Goals as goal

pub returns-then-not-same-clause-kept : goal.returns-then-not-same-clause-kept
returns-then-not-same-clause-kept c = kept_none c.args.env.now c.requires

pub returns-then-not-same-clause-declared : goal.returns-then-not-same-clause-declared
returns-then-not-same-clause-declared c = λ u d. c.if-not-same.true (sym (named_length c.args.names.now) ∙ lengths_declared d)

pub loop-at-init : goal.loop-at-init
loop-at-init c = record { kept = kept_none c.args.env.now c.requires; some = c.requires; on = onwards_begin c.args.env.now.opened (names_in c.args.names.now) c.args.meanings.now }

pub loop-at-preserved : goal.loop-at-preserved
loop-at-preserved c =
    let e = c.args.env.now in
    let x = c.loop-at.env in
    let y = c.declare.new.env in
    let ns = c.args.names.now in
    let ms = c.args.meanings.now in
    let n = c.index-names-at.result in
    let m = c.index-meanings-at.result in
    let h = c.loop-at-test.true in
    let l = named_length ns in
    record {
      kept = kept_on e x y c.loop-at.invariant.kept c.in_ok-declared.ensures.kept;
      some = kept_opened x y c.in_ok-declared.ensures.kept;
      on = onwards_next e.opened (names_in ns) ms x.opened c.loop-at.at (name_in n) m (omega (arith, h, l)) (l ∙ c.if-not-same.false) (named_at ns c.loop-at.at n c.index-names-at.is) c.index-meanings-at.is c.loop-at.invariant.on y.opened
          (reached (Declares x.opened (name_in n ∷ []) (m ∷ [])) y.opened c.in_ok-declared.declared c.if-not-declared.false c.in_ok-declared.ensures.declared);
    }

pub returns-in_err-declared-clause-kept : goal.returns-in_err-declared-clause-kept
returns-in_err-declared-clause-kept c = kept_on c.args.env.now c.loop-at.env c.declare.new.env c.loop-at.invariant.kept c.in_err-declared.ensures.kept

pub returns-then-not-declared-clause-kept : goal.returns-then-not-declared-clause-kept
returns-then-not-declared-clause-kept c = kept_on c.args.env.now c.loop-at.env c.declare.new.env c.loop-at.invariant.kept c.in_ok-declared.ensures.kept

pub returns-then-not-declared-clause-declared : goal.returns-then-not-declared-clause-declared
returns-then-not-declared-clause-declared c =
    let x = c.loop-at.env in
    let y = c.declare.new.env in
    let ns = c.args.names.now in
    let ms = c.args.meanings.now in
    let n = c.index-names-at.result in
    let m = c.index-meanings-at.result in
    let h = c.loop-at-test.true in
    let l = named_length ns in
    onwards_not c.args.env.now.opened (names_in ns) ms x.opened c.loop-at.at (name_in n) m (omega (arith, h, l)) (l ∙ c.if-not-same.false) (named_at ns c.loop-at.at n c.index-names-at.is) c.index-meanings-at.is c.loop-at.invariant.on
    (unreached (Declares x.opened (name_in n ∷ []) (m ∷ [])) y.opened c.in_ok-declared.declared c.if-not-declared.true c.in_ok-declared.ensures.declared)

pub returns-clause-declared : goal.returns-clause-declared
returns-clause-declared c =
    let ns = c.args.names.now in
    let h = c.loop-at-test.false in
    let l = named_length ns in
    onwards_done c.args.env.now.opened (names_in ns) c.args.meanings.now c.loop-at.env.opened c.loop-at.at (l ∙ c.if-not-same.false) (omega (arith, h, l)) c.loop-at.invariant.on
