use Rattle.std.proofs.Common.{◌∙◌, sym}
use Rattle.mbe_ops.specs.Views.{separator_seen}
use Rattle.mbe_matcher.proofs.Widths.{other_separator, same_separator}
use Rattle.mbe_matcher.proofs.token_widths.exact_separator_width.Goals as goal

pub returns-then-is_other_separator : goal.returns-then-is_other_separator
returns-then-is_other_separator g c =
    other_separator (separator_seen c.args.separator.now) c.args.src.now
    (sym c.is_other_separator.ensures ∙ c.if-is_other_separator.true)

pub returns : goal.returns
returns g c =
    c.separator_width_by_text.ensures
    ∙ same_separator (separator_seen c.args.separator.now) c.args.src.now
    (sym c.is_other_separator.ensures ∙ c.if-is_other_separator.false)
