use Rattle.std.proofs.Common.{subst, Some, ◌≡◌, ◌∙◌, ap, sym, rules}
use Rattle.std.specs.Prelude.{is_some, string_bytes, chars}
use Rattle.mbe_semantics.specs.Transcription.Concat.{are_identifier_chars}
use Rattle.mbe_bindings.specs.BindingViews.{env_of}
use Rattle.mbe_ops.specs.Expressions.{elements_seen}
use Rattle.mbe_transcriber.specs.TranscriberSteps.{IsConcatWritten}
use Rattle.mbe_variables.specs.FragmentWriter.{Appends}
use Rattle.mbe_transcriber.proofs.LeftLemmas.{name_is, name_replaced}
use Rattle.mbe_transcriber.proofs.JoinLemmas.{joined_wrote, dummy_wrote, or_reported}
use Rattle.mbe_transcriber.proofs.transcriber.expressions.write_concat.Goals as goal

pub returns-then-is_identifier-clause-wrote : goal.returns-then-is_identifier-clause-wrote
returns-then-is_identifier-clause-wrote g c =
    let same : c.as_str-then-is_identifier.result.now ≡ string_bytes c.in_ok-text.text = search rules in
    let first : c.as_str.result.now ≡ string_bytes c.in_ok-text.text = search rules in
    joined_wrote (g.G.FragmentGrammar.grammar c.args.ctx.now.grammar.now)
    (λ s t. g.M.Fn.post c.args.ctx.now.marker (s, tt) t) c.args.span
    (env_of c.args.ctx.now.bindings.now) c.args.path.now (elements_seen c.args.elements.now)
    (string_bytes c.in_ok-text.text) (is_some c.in_ok-text.fault)
    c.args.builder.now c.write_name.new.builder c.in_ok-text.ensures.all
    (ap (λ x. are_identifier_chars (chars x)) (sym first) ∙ (sym c.is_identifier.ensures ∙ c.if-is_identifier.true))
    (rw (← same) c.in_ok-write_name.ensures)

pub returns-clause-wrote : goal.returns-clause-wrote
returns-clause-wrote g c =
    let first : c.as_str.result.now ≡ string_bytes c.in_ok-text.text = search rules in
    dummy_wrote (g.G.FragmentGrammar.grammar c.args.ctx.now.grammar.now)
    (λ s t. g.M.Fn.post c.args.ctx.now.marker (s, tt) t) c.args.span
    (env_of c.args.ctx.now.bindings.now) c.args.path.now (elements_seen c.args.elements.now)
    (string_bytes c.in_ok-text.text) (is_some c.in_ok-text.fault) (is_some c.or.result) _
    c.args.builder.now c.write_name-2.new.builder c.in_ok-text.ensures.all
    (ap (λ x. are_identifier_chars (chars x)) (sym first) ∙ (sym c.is_identifier.ensures ∙ c.if-is_identifier.false))
    (ap is_some c.or.ensures ∙ or_reported c.in_ok-text.fault _) c.in_ok-write_name-2.ensures

pub returns-then-is_identifier-clause-left : goal.returns-then-is_identifier-clause-left
returns-then-is_identifier-clause-left g c =
    let same : c.as_str-then-is_identifier.result.now ≡ string_bytes c.in_ok-text.text = search rules in
    let first : c.as_str.result.now ≡ string_bytes c.in_ok-text.text = search rules in
    let is = ap (λ x. are_identifier_chars (chars x)) (sym first)
    ∙ (sym c.is_identifier.ensures ∙ c.if-is_identifier.true) in
    subst (λ name. Appends (IsConcatWritten (g.G.FragmentGrammar.grammar c.args.ctx.now.grammar.now)
    (λ s t. g.M.Fn.post c.args.ctx.now.marker (s, tt) t) c.args.span (Some name)) c.args.builder.now
    c.write_name.new.builder)
    (same ∙ name_is (string_bytes c.in_ok-text.text) _ c.in_ok-text.ensures.text is) c.in_ok-write_name.ensures

pub returns-clause-left : goal.returns-clause-left
returns-clause-left g c =
    let first : c.as_str.result.now ≡ string_bytes c.in_ok-text.text = search rules in
    let is = ap (λ x. are_identifier_chars (chars x)) (sym first)
    ∙ (sym c.is_identifier.ensures ∙ c.if-is_identifier.false) in
    subst (λ name. Appends (IsConcatWritten (g.G.FragmentGrammar.grammar c.args.ctx.now.grammar.now)
    (λ s t. g.M.Fn.post c.args.ctx.now.marker (s, tt) t) c.args.span (Some name)) c.args.builder.now
    c.write_name-2.new.builder)
    (name_replaced (string_bytes c.in_ok-text.text) _ c.in_ok-text.ensures.text is) c.in_ok-write_name-2.ensures
