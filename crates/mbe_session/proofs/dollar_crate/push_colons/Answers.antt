use Rattle.mbe_tt.specs.Views.LeafViews.{leaf_of}
use Rattle.mbe_session.proofs.NamingLemmas.{colons_pushed}
use Rattle.mbe_session.proofs.dollar_crate.push_colons.Goals as goal

pub returns : goal.returns
returns c =
    colons_pushed c.push-2.result c.args.at (leaf_of c.colon.result) (leaf_of c.colon-2.result) c.args.builder.now
    c.push.new.self c.push-2.new.self c.colon.ensures c.colon-2.ensures c.in_ok-push.ensures.ok c.push-2.ensures.ok
