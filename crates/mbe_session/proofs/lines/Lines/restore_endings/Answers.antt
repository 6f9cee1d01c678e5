use Rattle.std.proofs.Common.{arith, refl}
use Rattle.std.proofs.lemmas.Grind.{common_steps}
use Rattle.std.specs.String.{string_bytes}
use Rattle.mbe_session.proofs.ReturnLemmas.{ended_by}
use Rattle.mbe_session.proofs.lines.Lines.restore_endings.Goals as goal

pub returns-else-is_empty : goal.returns-else-is_empty
returns-else-is_empty g c =
    ended_by string_bytes c.replace.result c.args.self.now.returns.items c.args.text.now _
    (λ none. grind (arith, common_steps)) refl
    c.replace.ensures.ok
