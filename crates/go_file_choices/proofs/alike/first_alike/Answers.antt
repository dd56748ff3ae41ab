use Rattle.std.proofs.Common.{sym, subst}
use Rattle.std.proofs.lemmas.Result.{IfOk-weaker}
use Rattle.std.specs.Option.{option_copied}
use Rattle.go_file_choices.proofs.FirstAlike.{by_questions}
use Rattle.go_file_choices.specs.AlikePlatforms.{AreFirsts, files_of}
use Rattle.go_file_choices.specs.inner.Questions.{AreFirstsBy, AreQuestions}
use Rattle.go_file_choices.proofs.alike.first_alike.Goals as goal

pub returns : goal.returns
returns c =
    let files = files_of (option_copied c.args.old_tree) c.args.tree.now c.args.std_tree.now in
    IfOk-weaker c.firsts_by-2.result (AreFirstsBy c.items.result.now c.args.platforms.now) (AreFirsts files c.args.platforms.now)
    (λ ns k. by_questions files c.args.platforms.now ns c.items.result.now (subst (AreQuestions files) (sym c.items.ensures) c.in_ok-questions.ensures) k) c.firsts_by-2.ensures
