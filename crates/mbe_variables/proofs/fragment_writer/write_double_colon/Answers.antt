use Rattle.mbe_variables.proofs.PutLemmas.{two_leaves}
use Rattle.mbe_variables.proofs.fragment_writer.write_double_colon.Goals as goal

pub returns : goal.returns
returns g c = two_leaves c.push-2.result _ _ _ _ c.args.builder.now c.push.new.self c.push-2.new.self c.punct.ensures
    c.punct-2.ensures c.in_ok-push.ensures.ok c.push-2.ensures.ok
