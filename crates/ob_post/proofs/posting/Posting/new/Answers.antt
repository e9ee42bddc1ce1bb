use Rattle.ob_post.proofs.Balancing.{none_yet}
use Rattle.ob_post.proofs.posting.Posting.new.Goals as goal

pub returns : goal.returns
returns c = λ days amounts. none_yet days _ amounts c.new.ensures.items c.new-2.ensures.items
