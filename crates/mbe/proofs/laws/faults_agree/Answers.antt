use Rattle.mbe.proofs.FaultsAgree.{first_some}
use Rattle.mbe.proofs.laws.faults_agree.Goals as goal

pub returns : goal.returns
returns c = first_some
