use Rattle.std.proofs.Common.{List, ℕ, ap}
use Rattle.mbe_text.specs.Tokens.{lifetime_trees}
use Rattle.mbe_text.proofs.Attributes.{puts_both}
use Rattle.mbe_text.proofs.lexer.add_lifetime.Goals as goal

pub returns : goal.returns
returns g c =
    puts_both c.push-2.result _ _ (lifetime_trees c.args.span c.args.name.now c.args.is_raw) c.args.builder.now
    c.push.new.self
    c.push-2.new.self c.in_ok-push.ensures.ok c.push-2.ensures.ok
    (ap (λ (name : List ℕ). lifetime_trees c.args.span name c.args.is_raw) c.in_ok-sym.ensures)
