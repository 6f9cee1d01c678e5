use Rattle.std.proofs.Common.{◌∙◌, ap, sym}
use Rattle.mbe_ops.specs.Views.{op_of}
use Rattle.mbe_matcher.specs.Fronts.{op_width}
use Rattle.mbe_matcher.proofs.Widths.{open_width}
use Rattle.mbe_matcher.proofs.token_widths.token_width.Goals as goal

pub returns-in-RustAnalyzer : goal.returns-in-RustAnalyzer
returns-in-RustAnalyzer g c =
    c.width_by_text.ensures ∙ open_width (op_of c.args.op.now) c.args.src.now
    ∙ ap (λ d. op_width d (op_of c.args.op.now) c.args.src.now) (sym c.in-RustAnalyzer.is)
