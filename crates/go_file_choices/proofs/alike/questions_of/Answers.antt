use Rattle.std.specs.Option.{option_copied}
use Rattle.go_file_choices.proofs.ListedQuestions.{three_trees}
use Rattle.go_file_choices.specs.AlikePlatforms.{old_files}
use Rattle.go_file_choices.proofs.alike.questions_of.Goals as goal

pub returns : goal.returns
returns c =
    three_trees (old_files (option_copied c.args.old_tree)) c.items.result.now c.items-2.result.now c.args.tree.now.files c.args.std_tree.now.files c.new-questions.result c.ask_old.new.questions c.ask.new.questions c.ask-2.new.questions
    c.new-questions.ensures c.in_ok-ask_old.ensures c.in_ok-ask.ensures c.in_ok-ask-2.ensures c.items.ensures c.items-2.ensures
