use Rattle.mbe.proofs.expander.recovered.Goals as goal

pub returns-in-Faulty-clause-recovered : goal.returns-in-Faulty-clause-recovered
returns-in-Faulty-clause-recovered g c = (rw c.in-Faulty.is at c.requires.failure).0
