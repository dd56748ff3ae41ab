use Rattle.std.proofs.Common.{sym, ap, ◌∙◌, subst}
use Rattle.go_import_uses.proofs.NamedImports.{put_names}
use Rattle.go_import_uses.specs.inner.NamedImports.{Names}
use Rattle.go_typings.specs.go_rules.Names.{with_value}
use Rattle.go_import_uses.proofs.named_imports.put.Goals as goal

pub returns : goal.returns
returns c =
    let old = c.args.by_name.now.entries in
    subst (Names c.args.«import».now old) (sym (c.in_ok-insert.ensures.entries ∙ ap (λ name. with_value old name c.args.«import») c.in_ok-copy.ensures)) (put_names c.args.«import» old)
