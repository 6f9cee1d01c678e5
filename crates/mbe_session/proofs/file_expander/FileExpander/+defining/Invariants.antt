use Rattle.std.proofs.Common.{◌≡◌, ◌+◌, ◌*◌}
use Rattle.mbe_tt.specs.Trees.Tree.{flat_len}
use Rattle.mbe_tt.specs.Views.View.{trees}
use Rattle.mbe_session.specs.SessionViews.{place_of, scope_of, setting_of}
use Rattle.mbe_session.proofs.DefineLemmas.{Defining}
use Rattle.mbe_session.proofs.file_expander.FileExpander.+defining.Given as goal

abbrev pub decreases-define_in : goal.decreases-define_in
decreases-define_in g l = 3 * l.levels + 2

abbrev pub decreases-define_module : goal.decreases-define_module
decreases-define_module g l = 3 * l.levels + 1

abbrev pub decreases-define_tree : goal.decreases-define_tree
decreases-define_tree g l = 3 * l.levels + 1

abbrev pub decreases-define_inside : goal.decreases-define_inside
decreases-define_inside g l = 3 * l.levels

abbrev pub decreases-define_in-trees : goal.decreases-define_in-trees
decreases-define_in-trees g l = flat_len (trees l.rest)

abbrev pub invariant-define_in-trees : goal.invariant-define_in-trees
invariant-define_in-trees g l =
    Defining (setting_of l.initial.self).language l.fn.levels (place_of l.fn.place) (trees l.fn.tokens)
    (scope_of l.initial.self.scope) l.attributes (trees l.rest) (scope_of l.self.scope)
    × (l.self.fuel ≡ l.initial.self.fuel)
    × (l.self.contexts.items ≡ l.initial.self.contexts.items)
    × (setting_of l.self ≡ setting_of l.initial.self)
    × (l.self.notes.items ≡ l.initial.self.notes.items)
