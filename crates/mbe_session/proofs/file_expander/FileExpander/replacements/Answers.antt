use Rattle.std.proofs.Common.{ap, map}
use Rattle.mbe_tt.specs.Views.View.{trees}
use Rattle.mbe_rewriter.specs.ReplacementViews.{part_of}
use Rattle.mbe_session.specs.CallExpansion.{State}
use Rattle.mbe_session.specs.SessionViews.{scope_of, setting_of, state_of}
use Rattle.mbe_session.proofs.EachLemmas.{each_of_file, none_of_file}
use Rattle.mbe_session.proofs.ReplaceLemmas.{of_file}
use Rattle.mbe_session.proofs.file_expander.FileExpander.replacements.Goals as goal

pub returns-clause-parts : goal.returns-clause-parts
returns-clause-parts g c =
    of_file (setting_of c.args.self.now) _ c.enter-mark.result (trees c.args.tokens) (state_of c.args.self.now)
    (state_of c.replace_in.new.self)
    (record {
      scope = scope_of c.leave.new.self;
      fuel = c.replace_in.new.self.fuel;
      contexts = c.replace_in.new.self.contexts.items;
    })
    (map part_of c.new-replacements.result.items)
    (map part_of c.replace_in.new.replacements.items) (ap (map part_of) c.new-replacements.ensures.items)
    c.in_ok-replace_in.ensures.adds
    c.enter-mark.ensures
    (ap (λ x. let v : State = record (state_of c.replace_in.new.self) { scope = x } in v) c.leave.ensures.left)

pub returns-clause-each : goal.returns-clause-each
returns-clause-each g c = each_of_file _ _ _ _ _ _ (returns-clause-parts g c)

pub returns-clause-unknown : goal.returns-clause-unknown
returns-clause-unknown g c = none_of_file _ _ _ _ _ _ (returns-clause-parts g c)
