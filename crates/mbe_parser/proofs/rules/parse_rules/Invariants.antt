use Rattle.std.proofs.Common.{◌≡◌, length}
use Rattle.mbe_tt.specs.Trees.Tree.{flat_len}
use Rattle.mbe_ops.specs.Errors.ErrorViews.{fault_of}
use Rattle.mbe_parser.specs.RuleViews.{rules_seen}
use Rattle.mbe_parser.proofs.RuleReading.{Continues}
use Rattle.mbe_parser.proofs.RuleLemmas.{SoFar}
use Rattle.mbe_parser.proofs.EmptyRules.{Settled, Goes}
use Rattle.mbe_parser.proofs.rules.parse_rules.Given as goal

abbrev pub invariant-rules : goal.invariant-rules
invariant-rules g l = record {
  continues : Continues (λ ctx e. g.E.Fn.post l.ctx_edition (ctx, tt) e) l.separators (fault_of l.missing)
      (rules_seen l.rules.items) l.fn.src l.src;
  so_far : SoFar (λ ctx e. g.E.Fn.post l.ctx_edition (ctx, tt) e) l.separators (fault_of l.missing)
      (length l.rules.items) l.fn.src l.src;
  settled : Settled (λ ctx e. g.E.Fn.post l.ctx_edition (ctx, tt) e) l.separators l.fn.src (rules_seen l.rules.items)
      l.empty;
  goes : Goes (λ ctx e. g.E.Fn.post l.ctx_edition (ctx, tt) e) l.separators l.fn.src l.src
      (length (rules_seen l.rules.items)) l.empty;
  whole : l.whole ≡ flat_len l.fn.src;
}

abbrev pub decreases-rules : goal.decreases-rules
decreases-rules g l = flat_len l.src
