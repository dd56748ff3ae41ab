use Rattle.std.proofs.Common.{arith, sym, ◌∙◌, ap}
use Rattle.go_import_uses.proofs.go_beyond_proofs.DecidedFlags.{borrowed_at}
use Rattle.go_declarations.specs.Forms.{form_of}
use Rattle.go_declarations.specs.Listings.{declaration_of}
use Rattle.go_declarations.specs.declared.listing.Declaration.{Declaration as Borrowed}
use Rattle.go_exposed.specs.Causes.{first_name, shown_names}
use Rattle.go_left_out.proofs.causes.by_other.Goals as goal

pub returns : goal.returns
returns c =
    let ds = c.args.declarations.now in
    let x = c.index-declarations-other.result in (
      declaration_of x,
      borrowed_at ds c.args.other x (let h = c.if-other-declarations.false in omega (arith, h)) c.index-declarations-other.is,
      sym (c.in_ok-name.ensures ∙ ap first_name (c.shown_names.ensures ∙ ap (λ (y : Borrowed). shown_names (form_of y.form)) (sym c.index-declarations-other.is))),
    )
