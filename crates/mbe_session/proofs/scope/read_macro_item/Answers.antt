use Rattle.std.proofs.Common.{rules}
use Rattle.mbe.specs.MacroViews.{macro_of}
use Rattle.mbe_session.proofs.EditionLemmas.{macro_read, as_shown}
use Rattle.mbe_session.proofs.scope.read_macro_item.Goals as goal

pub returns : goal.returns
returns g c =
    macro_read macro_of c.parse_macro2.result _ _ c.args.body.now.1 c.args.edition c.parse_macro2.ensures
    (as_shown _ _ c.as_ref.ensures.value)
    (λ context answer asked. search rules)
