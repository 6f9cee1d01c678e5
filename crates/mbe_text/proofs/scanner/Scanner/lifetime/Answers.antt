use Rattle.std.proofs.Common.{ℕ, List, ◌++◌, sym, ap, ◌∙◌}
use Rattle.std.specs.Prelude.{encode_utf8}
use Rattle.mbe_text.proofs.Reading.{bumped}
use Rattle.mbe_text.proofs.scanner.Scanner.lifetime.Goals as goal

pub returns-clause-reads : goal.returns-clause-reads
returns-clause-reads c = λ p.
    p.1 ∙ ap (λ (l : List ℕ). encode_utf8 39 ++ l)
    (sym (bumped c.bump.result _ _ 39 p.0 c.bump.ensures.whole c.bump.ensures.some p.1))
