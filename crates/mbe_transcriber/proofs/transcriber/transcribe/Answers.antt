use Rattle.std.proofs.Common.{◌≡◌, ◌∷◌, [], ap, ◌∙◌, rules}
use Rattle.std.specs.Prelude.{is_some, option_map}
use Rattle.mbe_ops.specs.Errors.ErrorViews.{errors_of}
use Rattle.mbe_variables.specs.FaultViews.{error_of_fault}
use Rattle.mbe_transcriber.specs.TemplateFaults.{first_fault}
use Rattle.mbe_tt.specs.declared.tt.Delimiter.{Delimiter}
use Rattle.mbe_tt.specs.Trees.Tree.{Forest, none}
use Rattle.mbe_semantics.specs.Transcription.Substitution.{faults}
use Rattle.mbe_ops.specs.Views.{template_of}
use Rattle.mbe_bindings.specs.BindingViews.{env_of}
use Rattle.mbe_transcriber.proofs.LeftLemmas.{left_whole}
use Rattle.mbe_transcriber.proofs.WroteLemmas.{wrote_whole}
use Rattle.mbe_transcriber.proofs.transcriber.transcribe.Goals as goal
use Rattle.mbe_transcriber.proofs.transcriber.transcribe.Goals.{in-Some+in_ok-error-in-Some, in-None}

pub returns-clause-fault : goal.returns-clause-fault
returns-clause-fault g c =
    let reported : is_some c.in_ok-fault.field-0
    ≡ faults (env_of c.args.bindings.now) [] (template_of c.args.template.now) =
    rw (← c.deref.ensures.value) c.in_ok-fault.ensures.wrote.reported in
    let same : is_some c.match-branch-3.err ≡ is_some c.in_ok-fault.field-0 =
    elim c.match-branch-3.branch [ in-Some+in_ok-error-in-Some w ↦ search rules | in-None w ↦ search rules ] in
    same ∙ reported

pub returns-clause-substitution : goal.returns-clause-substitution
returns-clause-substitution g c =
    wrote_whole (g.G.FragmentGrammar.grammar c.args.grammar.now) (λ s t. g.M.Fn.post c.args.marker (s, tt) t)
    c.args.call_site (env_of c.args.bindings.now) (template_of c.args.template.now)
    (is_some c.in_ok-fault.field-0) c.in_ok-builder.builder c.expand_ops.new.builder c.build.result
    (c.in_ok-builder.ensures ∙ ap (λ (d : Delimiter). let x : Delimiter × Forest = (d, none) in x ∷ [])
    c.invisible_spanned.ensures)
    (rw (← c.deref.ensures.value) c.in_ok-fault.ensures.wrote) c.build.ensures

pub returns-clause-first : goal.returns-clause-first
returns-clause-first g c =
    let reported : option_map error_of_fault c.in_ok-fault.field-0
    ≡ first_fault c.args.call_site (env_of c.args.bindings.now) [] (template_of c.args.template.now) =
    rw (← c.deref.ensures.value) c.in_ok-fault.ensures.first in
    let same : errors_of c.match-branch-3.err ≡ option_map error_of_fault c.in_ok-fault.field-0 =
    elim c.match-branch-3.branch [ in-Some+in_ok-error-in-Some w ↦ search rules | in-None w ↦ search rules ] in
    same ∙ reported

pub returns-clause-left : goal.returns-clause-left
returns-clause-left g c =
    left_whole (g.G.FragmentGrammar.grammar c.args.grammar.now) (λ s t. g.M.Fn.post c.args.marker (s, tt) t)
    c.args.call_site
    (env_of c.args.bindings.now) (template_of c.args.template.now) c.in_ok-builder.builder c.expand_ops.new.builder
    c.build.result
    (c.in_ok-builder.ensures ∙ ap (λ (d : Delimiter). let x : Delimiter × Forest = (d, none) in x ∷ [])
    c.invisible_spanned.ensures)
    (rw (← c.deref.ensures.value) c.in_ok-fault.ensures.left) c.build.ensures
