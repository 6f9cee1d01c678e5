use Rattle.std.proofs.Common.{◌∙◌}
use Rattle.mbe_ops.specs.Views.{separator_seen}
use Rattle.mbe_matcher.proofs.Widths.{separator_width}
use Rattle.mbe_matcher.proofs.token_widths.separator_width_by_text.Goals as goal

pub returns : goal.returns
returns g c = c.width_to.ensures ∙ separator_width c.eat_separator-passed.result (separator_seen c.args.separator.now)
    c.args.src.now _ (rw c.fork-ahead.ensures at c.eat_separator-passed.ensures)
