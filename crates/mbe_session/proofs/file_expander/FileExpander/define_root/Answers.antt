use Rattle.std.proofs.Common.{subst}
use Rattle.std.specs.Prelude.{OnOk}
use Rattle.mbe_tt.specs.Views.View.{trees}
use Rattle.mbe_session.specs.Collector.{DefinesIn}
use Rattle.mbe_session.specs.SessionViews.{scope_of, setting_of}
use Rattle.mbe_session.proofs.file_expander.FileExpander.define_root.Goals as goal

pub returns-clause-defines : goal.returns-clause-defines
returns-clause-defines g c =
    subst (λ p. OnOk c.define_in.result (DefinesIn (setting_of c.args.self.now).language 1001 p (trees c.args.tokens)
    (scope_of c.args.self.now.scope) (scope_of c.define_in.new.self.scope))) c.root.ensures c.define_in.ensures.defines
