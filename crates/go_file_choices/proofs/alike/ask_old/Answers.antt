use Rattle.std.proofs.Common.{List, OnOk, sym, ap, ◌∙◌, subst}
use Rattle.std.specs.Option.{option_copied}
use Rattle.go_file_choices.specs.AlikePlatforms.{old_files}
use Rattle.go_file_choices.specs.inner.Questions.{AsksAlso}
use Rattle.go_model.specs.declared.files.tree.TreeFile.{TreeFile}
use Rattle.go_file_choices.proofs.alike.ask_old.Goals as goal

pub returns-in-Some : goal.returns-in-Some
returns-in-Some c =
    subst (λ (fs : List TreeFile). OnOk c.ask.result (AsksAlso fs c.args.questions.now c.ask.new.questions)) (c.items.ensures ∙ ap (λ o. old_files (option_copied o)) (sym c.in-Some.is)) c.ask.ensures
