use Rattle.std.proofs.Common.{◌≡◌, ◌+◌, ◌*◌, drop}
use Rattle.std.specs.Prelude.{is_some, option_map}
use Rattle.mbe_ops.specs.Views.{op_of, ops_of, separator_seen}
use Rattle.mbe_ops.proofs.EqualityLemmas.{op_weight, ops_weight}
use Rattle.mbe_bindings.specs.BindingViews.{env_of}
use Rattle.std.specs.Option.{option_or}
use Rattle.mbe_semantics.specs.Transcription.Rounds.{level}
use Rattle.mbe_variables.specs.FaultViews.{error_of_fault}
use Rattle.mbe_transcriber.specs.TemplateFaults.{first_below, first_fault}
use Rattle.mbe_transcriber.proofs.LeftLemmas.{GoesOn, Begun}
use Rattle.mbe_transcriber.proofs.WroteLemmas.{Sofar, Rounded}
use Rattle.mbe_transcriber.proofs.transcriber.+writing.Given as goal

abbrev pub invariant-expand_ops-loop-op : goal.invariant-expand_ops-loop-op
invariant-expand_ops-loop-op g l = record {
  wrote : Sofar (g.G.FragmentGrammar.grammar l.ctx.grammar.now) (λ s t. g.M.Fn.post l.ctx.marker (s, tt) t)
      l.ctx.call_site (env_of l.ctx.bindings.now) l.path
      (is_some l.first) (ops_of l.ops) (ops_of (drop l.op-index l.ops)) l.initial.builder l.builder;
  first : first_fault l.ctx.call_site (env_of l.ctx.bindings.now) l.path (ops_of l.ops)
      ≡ option_or (option_map error_of_fault l.first)
      (first_fault l.ctx.call_site (env_of l.ctx.bindings.now) l.path (ops_of (drop l.op-index l.ops)));
  left : GoesOn (g.G.FragmentGrammar.grammar l.ctx.grammar.now) (λ s t. g.M.Fn.post l.ctx.marker (s, tt) t)
      l.ctx.call_site (env_of l.ctx.bindings.now) l.path
      (ops_of l.ops) (ops_of (drop l.op-index l.ops)) l.initial.builder l.builder;
}

abbrev pub invariant-expand_repeat-loop-index : goal.invariant-expand_repeat-loop-index
invariant-expand_repeat-loop-index g l = record {
  path : l.inside.items ≡ l.path;
  rounded : Rounded (g.G.FragmentGrammar.grammar l.ctx.grammar.now) (λ s t. g.M.Fn.post l.ctx.marker (s, tt) t)
      l.ctx.call_site (env_of l.ctx.bindings.now) l.path
      (option_map (λ s. separator_seen s.now) l.separator) (ops_of l.body) l.rounds l.index (is_some l.first)
      l.separated l.initial.builder l.builder;
  first : option_map error_of_fault l.first
      ≡ first_below (λ i. first_fault l.ctx.call_site (env_of l.ctx.bindings.now) (level i l.rounds l.path)
      (ops_of l.body)) l.index;
  left : Begun (g.G.FragmentGrammar.grammar l.ctx.grammar.now) (λ s t. g.M.Fn.post l.ctx.marker (s, tt) t)
      l.ctx.call_site (env_of l.ctx.bindings.now) l.path
      (option_map (λ s. separator_seen s.now) l.separator) (ops_of l.body) l.rounds l.index l.separated
      l.initial.builder l.builder;
}

abbrev pub decreases-expand_ops : goal.decreases-expand_ops
decreases-expand_ops g l = 3 * ops_weight (ops_of l.ops.now) + 1

abbrev pub decreases-expand_op : goal.decreases-expand_op
decreases-expand_op g l = 3 * op_weight (op_of l.op.now)

abbrev pub decreases-expand_group : goal.decreases-expand_group
decreases-expand_group g l = 3 * ops_weight (ops_of l.body.now) + 2

abbrev pub decreases-expand_repeat : goal.decreases-expand_repeat
decreases-expand_repeat g l = 3 * ops_weight (ops_of l.body.now) + 2
