use Rattle.mbe_tt.specs.Views.View.{trees}
use Rattle.mbe_rewriter.specs.MacroItemViews.{macro_definition_shown}
use Rattle.mbe_session.specs.SessionViews.{scope_of, setting_of, state_of}
use Rattle.mbe_session.proofs.WriteLemmas.{on_ok, reads_written}
use Rattle.mbe_session.proofs.file_expander.FileExpander.write_definition.Goals as goal

pub up_to-requires : goal.up_to-requires
up_to-requires g c = c.requires.ends

pub returns-clause-writes : goal.returns-clause-writes
returns-clause-writes g c =
    on_ok c.extend_with_tt.result
    (λ put. reads_written (setting_of c.args.self.now) (trees c.args.tokens) (trees c.up_to.result)
    (macro_definition_shown c.args.defined)
    (state_of c.args.self.now) (record {
      scope = scope_of c.make_visible.new.self;
      fuel = c.read.new.self.fuel;
      contexts = c.read.new.self.contexts.items;
    })
    (scope_of c.read.new.self.scope)
    c.in_ok-number.number _ _ c.requires.ends c.in_ok-number.ensures.read c.in_ok-number.ensures.number
    c.in_ok-make_visible.ensures.shown
    c.in_ok-number.ensures.fuel c.in_ok-number.ensures.contexts c.up_to.ensures put)
    c.extend_with_tt.ensures.ok
