use Rattle.std.proofs.Common.{◌∙◌, sym}
use Rattle.mbe_tt.specs.Views.View.{trees}
use Rattle.mbe_variables.proofs.FragmentLemmas.{bare_written, enclosed_written, if_ok}
use Rattle.mbe_variables.proofs.fragment_writer.write_expression.Goals as goal

pub returns-then-not-needs_parentheses-clause-written : goal.returns-then-not-needs_parentheses-clause-written
returns-then-not-needs_parentheses-clause-written g c =
    if_ok c.extend_with_tt_alone.result
    (bare_written _ c.args.id (trees c.args.tree) (trees c.strip_invisible-tree.result) c.args.builder.now
    c.extend_with_tt_alone.new.self
    c.strip_invisible-tree.ensures (sym c.needs_parentheses.ensures ∙ c.if-not-needs_parentheses.true))
    c.extend_with_tt_alone.ensures.ok

pub returns-clause-written : goal.returns-clause-written
returns-clause-written g c =
    enclosed_written _ c.args.id (trees c.args.tree) (trees c.strip_invisible-tree.result) c.mark-span.result
    c.args.builder.now c.open.new.self c.extend_with_tt_alone-2.new.self c.close.new.self
    c.strip_invisible-tree.ensures (sym c.needs_parentheses.ensures ∙ c.if-not-needs_parentheses.false)
    c.mark-span.ensures c.in_ok-open.ensures.ok c.in_ok-extend_with_tt_alone.ensures.ok c.close.ensures
