use Rattle.std.proofs.Common.{refl}
use Rattle.mbe_text.proofs.CharacterLemmas.{got_bytes_before}
use Rattle.mbe_text.proofs.Reading.{got_before}
use Rattle.mbe_text.proofs.characters.before.Goals as goal

pub returns-clause-whole : goal.returns-clause-whole
returns-clause-whole c =
    λ p. got_before c.args.text.now c.args.rest.now c.unwrap_or.result _ _ c.get.result refl c.utf8.text c.utf8.rest
    c.get.ensures.cases
    c.unwrap_or.ensures p

pub returns-clause-exact : goal.returns-clause-exact
returns-clause-exact c = got_bytes_before c.args.text.now c.args.rest.now c.unwrap_or.result.now c.utf8.text c.utf8.rest
    (λ p. got_before c.args.text.now c.args.rest.now c.unwrap_or.result _ _ c.get.result refl c.utf8.text c.utf8.rest
    c.get.ensures.cases
    c.unwrap_or.ensures p)
