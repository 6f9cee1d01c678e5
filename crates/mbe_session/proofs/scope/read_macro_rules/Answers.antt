use Rattle.std.proofs.Common.{rules}
use Rattle.mbe.specs.MacroViews.{macro_of}
use Rattle.mbe.proofs.EditionLemmas.{read_as}
use Rattle.mbe_session.proofs.EditionLemmas.{read_by}
use Rattle.mbe_session.proofs.scope.read_macro_rules.Goals as goal

pub returns : goal.returns
returns g c = read_by _ (λ m. read_as (λ context answer asked. search rules) c.args.body.now.1 (macro_of m))
    c.parse_macro_rules.ensures
