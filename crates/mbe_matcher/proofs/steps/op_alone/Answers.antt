use Rattle.std.proofs.Common.{◌∙◌, sym, ap, subst, inl, inr}
use Rattle.mbe_semantics.specs.Syntax.Op.{op, group}
use Rattle.mbe_ops.specs.Views.{op_of, ops_of}
use Rattle.mbe_ops.proofs.OpViews.{view-var, view-subtree, view-literal, view-punct, view-ident}
use Rattle.mbe_matcher.specs.Threads.{IsPlain}
use Rattle.mbe_matcher.proofs.Keeping.{keeps_not}
use Rattle.mbe_matcher.proofs.StepLemmas.{has_entries, has_number}
use Rattle.mbe_matcher.proofs.Alone.{only_next}
use Rattle.mbe_matcher.proofs.steps.op_alone.Goals as goal

pub variable_steps-requires-clause-entries : goal.variable_steps-requires-clause-entries
variable_steps-requires-clause-entries g c =
    has_entries c.args.log.now c.args.frames.now.items c.args.thread c.requires.placed

pub variable_steps-requires-clause-tail : goal.variable_steps-requires-clause-tail
variable_steps-requires-clause-tail g c = (
  c.in-Var.id,
  c.requires.tail ∙ ap (λ x. op x (ops_of c.args.rest.now))
      (ap op_of c.in-Var.is ∙ view-var _ c.in-Var.name c.in-Var.kind c.in-Var.id),
)

pub variable_steps-requires-clause-number : goal.variable_steps-requires-clause-number
variable_steps-requires-clause-number g c =
    has_number c.args.log.now c.args.frames.now.items c.args.thread c.requires.placed

pub group_steps-requires-clause-tail : goal.group_steps-requires-clause-tail
group_steps-requires-clause-tail g c =
    c.requires.tail ∙ ap (λ x. op x (ops_of c.args.rest.now))
    (ap op_of c.in-Subtree.is ∙ view-subtree _ c.in-Subtree.delimiter
    ∙ ap (λ xs. group c.in-Subtree.delimiter (ops_of xs)) (sym c.deref.ensures.value)
    ∙ ap (λ d. group d (ops_of c.deref.result.now)) (sym c.get-group.ensures))

pub group_steps-requires-clause-number : goal.group_steps-requires-clause-number
group_steps-requires-clause-number g c =
    has_number c.args.log.now c.args.frames.now.items c.args.thread c.requires.placed

pub plain_steps-requires-clause-plain : goal.plain_steps-requires-clause-plain
plain_steps-requires-clause-plain g c =
    elim c.in-Literal.is [
      | inl w ↦ subst IsPlain (sym (ap op_of w.1 ∙ view-literal w.0)) tt
      | inr (inl w) ↦ subst IsPlain (sym (ap op_of w.1 ∙ view-ident w.0)) tt
      | inr (inr w) ↦ subst IsPlain (sym (ap op_of w.1 ∙ view-punct _ w.0)) tt
    ]

pub plain_steps-requires-clause-number : goal.plain_steps-requires-clause-number
plain_steps-requires-clause-number g c =
    has_number c.args.log.now c.args.frames.now.items c.args.thread c.requires.placed

pub returns-in_ok-variable_steps-in-Var : goal.returns-in_ok-variable_steps-in-Var
returns-in_ok-variable_steps-in-Var g c =
    only_next (g.G.FragmentGrammar.grammar c.args.grammar.now) c.args.source.now c.args.log.now c.variable_steps.new.log
    c.args.frames.now.items c.args.frames.now.items c.args.thread c.in_ok-variable_steps-in-Var.field-0
    c.in_ok-variable_steps-in-Var.ensures.over (c.in_ok-variable_steps-in-Var.ensures.steps c.args.frames.now.items)

pub returns-in_ok-group_steps-in-Subtree : goal.returns-in_ok-group_steps-in-Subtree
returns-in_ok-group_steps-in-Subtree g c =
    let h = g.G.FragmentGrammar.grammar c.args.grammar.now in
    only_next h c.args.source.now c.args.log.now c.args.log.now c.args.frames.now.items c.group_steps.new.frames.items
    c.args.thread c.in_ok-group_steps-in-Subtree.field-0 c.in_ok-group_steps-in-Subtree.ensures.over
    (c.in_ok-group_steps-in-Subtree.ensures.steps h c.args.log.now (sym c.dialect-dialect.ensures))

pub returns-in-Literal : goal.returns-in-Literal
returns-in-Literal g c =
    only_next (g.G.FragmentGrammar.grammar c.args.grammar.now) c.args.source.now c.args.log.now c.args.log.now
    c.args.frames.now.items c.args.frames.now.items c.args.thread c.plain_steps.result c.plain_steps.ensures.over
    (λ o s. record {
      now = c.plain_steps.ensures.steps (g.G.FragmentGrammar.grammar c.args.grammar.now) c.args.log.now
          c.args.frames.now.items o (sym c.dialect.ensures) s;
      kept = keeps_not c.args.log.now c.args.frames.now.items;
    })
