use Rattle.std.proofs.Common.{◌∙◌, ap}
use Rattle.go_import_uses.proofs.go_beyond_proofs.DecidedFlags.{borrowed_at}
use Rattle.go_declarations.specs.Listings.{declaration_of}
use Rattle.go_rules.specs.Asks.{texts}
use Rattle.go_left_out.proofs.skipped.skipped_at.Goals as goal

pub returns-clause-names : goal.returns-clause-names
returns-clause-names c =
    let x = c.index-declarations-number.result in
    (declaration_of x, borrowed_at c.args.declarations.now c.args.number x c.requires c.index-declarations-number.is, (c.place_of.ensures, c.in_ok-names.ensures ∙ ap texts c.shown_names.ensures))
