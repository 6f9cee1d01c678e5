use Rattle.std.proofs.Common.{◌≡◌, ◌++◌, drop}
use Rattle.std.specs.Prelude.{is_some, string_bytes, option_map}
use Rattle.std.specs.Option.{option_or}
use Rattle.mbe_variables.specs.FaultViews.{error_of_fault}
use Rattle.mbe_transcriber.specs.TemplateFaults.{joined, find_first, element_fault}
use Rattle.mbe_ops.specs.Expressions.{elements_seen}
use Rattle.mbe_bindings.specs.BindingViews.{env_of}
use Rattle.mbe_transcriber.proofs.JoinLemmas.{Joining}
use Rattle.mbe_transcriber.proofs.transcriber.expressions.joined_text.Given as goal

abbrev pub invariant-loop-element : goal.invariant-loop-element
invariant-loop-element g l = record {
  all : Joining (env_of l.ctx.bindings.now) l.path (string_bytes l.text) (is_some l.fault) (elements_seen l.elements)
      (elements_seen (drop l.element-index l.elements));
  text : joined (env_of l.ctx.bindings.now) l.path (elements_seen l.elements)
      ≡ string_bytes l.text ++ joined (env_of l.ctx.bindings.now) l.path
      (elements_seen (drop l.element-index l.elements));
  fault : find_first (element_fault (env_of l.ctx.bindings.now) l.path) (elements_seen l.elements)
      ≡ option_or (option_map error_of_fault l.fault)
      (find_first (element_fault (env_of l.ctx.bindings.now) l.path) (elements_seen (drop l.element-index l.elements)));
}
