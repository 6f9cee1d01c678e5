use Rattle.std.proofs.Common.{take, option_map}
use Rattle.std.specs.Prelude.{IfSome}
use Rattle.mbe_tt.specs.Views.View.{group_of}
use Rattle.mbe_parser.specs.RuleViews.{rules_seen}
use Rattle.mbe.specs.RuleChoice.{candidate_seen, IsCandidate}
use Rattle.mbe.proofs.ChoiceLemmas.{NoneDecides}
use Rattle.mbe.proofs.ClosestLemmas.{IsSoFar}
use Rattle.mbe.proofs.expander.choose.Given as goal

abbrev pub invariant-loop-idx : goal.invariant-loop-idx
invariant-loop-idx g l =
    let h = g.G.FragmentGrammar.grammar l.call.grammar.now in
    let input = group_of l.call.input in
    let rs = rules_seen l.rules in
    record {
      none : NoneDecides h l.call.style input.1 (take l.idx rs);
      nearest : IsSoFar h l.call.site input l.call.style rs l.idx (option_map candidate_seen l.nearest);
      kept : IfSome l.nearest
          (IsCandidate h (λ s t. g.M.Fn.post l.call.marker (s, tt) t) l.call.site input l.call.style rs);
    }
