use Rattle.std.proofs.Common.{ap, map, subst}
use Rattle.std.specs.Prelude.{option_map}
use Rattle.std.proofs.lemmas.Result.{IfOk-weaker}
use Rattle.mbe_bindings.specs.BindingViews.{env_of}
use Rattle.mbe_ops.specs.Views.{template_of}
use Rattle.mbe.specs.RuleExplanation.{BindsThere}
use Rattle.mbe.specs.MacroViews.{macro_of}
use Rattle.mbe_session.specs.BindingText.{binding_text_seen}
use Rattle.mbe_session.proofs.BindingTextLemmas.{none_taken, some_taken}
use Rattle.mbe_session.proofs.binding_text.rule_binding_texts.Goals as goal

pub returns-in-None : goal.returns-in-None
returns-in-None g c =
    let h = g.G.FragmentGrammar.grammar c.args.grammar.now in
    let rules = (macro_of c.args.rules.now).rules in
    let argument = c.args.argument.now.1 in
    let binds =
    subst (λ b. BindsThere h rules argument c.args.index (option_map env_of b)) c.in-None.is
    c.in_ok-bindings.ensures.binds in
    record { takes = none_taken h rules argument c.args.index _ binds (ap (map binding_text_seen) c.new.ensures.items) }

pub returns-in-Some : goal.returns-in-Some
returns-in-Some g c =
    let h = g.G.FragmentGrammar.grammar c.args.grammar.now in
    let rules = (macro_of c.args.rules.now).rules in
    let argument = c.args.argument.now.1 in
    let binds =
    subst (λ b. BindsThere h rules argument c.args.index (option_map env_of b)) c.in-Some.is
    c.in_ok-bindings.ensures.binds in
    let pattern = template_of c.pattern.result.now in
    record {
      takes = IfOk-weaker c.all_binding_texts.result _ _
          (λ v e. some_taken h rules argument c.args.index (map binding_text_seen v.items)
          (env_of c.in-Some.bindings) pattern
          binds c.pattern.ensures e) c.all_binding_texts.ensures;
    }
