use Rattle.api_judge.proofs.OrderedBreaks.{grows_told}
use Rattle.api_judge.proofs.listing.tell.Goals as goal

pub returns : goal.returns
returns c =
    grows_told c.args.old.now c.args.new.now c.args.broken.now c.in_ok-told.told c.args.all.now.items c.push.new.all.items c.in_ok-told.ensures
    (λ x h. c.one_way.ensures c.args.old.now c.args.new.now c.args.broken.now c.in_ok-told.told x c.in_ok-told.ensures h) c.in_ok-push.ensures
