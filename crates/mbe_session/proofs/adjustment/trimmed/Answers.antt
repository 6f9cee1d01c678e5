use Rattle.mbe_session.specs.Adjustment.{all_of_it}
use Rattle.mbe_session.proofs.adjustment.trimmed.Goals as goal

pub returns-in-Statement : goal.returns-in-Statement
returns-in-Statement g c = all_of_it
