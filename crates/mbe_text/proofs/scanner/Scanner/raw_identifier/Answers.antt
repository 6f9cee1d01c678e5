use Rattle.std.proofs.Common.{ℕ, List, ◌∷◌, sym, ap, ◌∙◌, lit<}
use Rattle.mbe_text.proofs.Reading.{bumped_ascii}
use Rattle.mbe_text.proofs.scanner.Scanner.raw_identifier.Goals as goal

pub returns-clause-reads : goal.returns-clause-reads
returns-clause-reads c = λ p.
    let first = bumped_ascii c.bump.result _ _ 114 (35 ∷ p.0) c.bump.ensures.whole c.bump.ensures.some (lit< tt) p.1 in
    let second = bumped_ascii c.bump-2.result _ _ 35 p.0 c.bump-2.ensures.whole c.bump-2.ensures.some (lit< tt) first in
    p.1 ∙ ap (λ (l : List ℕ). 114 ∷ (35 ∷ l)) (sym second ∙ c.bare_identifier-name.ensures.whole)
