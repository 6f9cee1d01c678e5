-- The values of the code in the specification, independent of their allocator.
use Rattle.std.specs.Prelude.{Result, Ok, Err}
use Rattle.mbe_tt.specs.Trees.Tree.{Forest}
use Rattle.mbe_tt.specs.Views.View.{trees}
use Rattle.mbe_tt.specs.declared.view.TokenTreesView.{TokenTreesView}
use Rattle.mbe_cfg.specs.declared.cfg_fault.CfgFault.{CfgFault}
use Rattle.mbe_cfg.specs.declared.tree_front.Group.{Group}
use Rattle.mbe_cfg.specs.declared.predicate.PredicateValue.{PredicateValue}
use Rattle.mbe_cfg.specs.TreeFront as spec
use Rattle.mbe_cfg.specs.Predicates.{ValueResult}

abbrev pub group_shown : {A : Type 0} → Group A → spec.Group
group_shown g = record { close = g.close; inside = trees g.inside; rest = trees g.rest }

abbrev pub predicate_value_shown : {A : Type 0} → Result (PredicateValue A) CfgFault → ValueResult
predicate_value_shown (Ok t) = Ok (record { holds = t.holds; rest = trees t.rest })
predicate_value_shown (Err fault) = Err fault

abbrev pub view_shown : {A : Type 0} → Result (TokenTreesView A) CfgFault → Result Forest CfgFault
view_shown (Ok view) = Ok (trees view)
view_shown (Err fault) = Err fault

abbrev pub group_result : {A : Type 0} → Result (Group A) CfgFault → Result spec.Group CfgFault
group_result (Ok g) = Ok (group_shown g)
group_result (Err fault) = Err fault
