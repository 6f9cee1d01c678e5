use Rattle.std.proofs.Common.{◌∙◌, sym, ap, subst, inl, inr, option_map}
use Rattle.mbe_semantics.specs.Syntax.Op.{op, group, repetition}
use Rattle.mbe_ops.specs.Views.{op_of, ops_of, separator_seen}
use Rattle.mbe_ops.proofs.OpViews.{view-var, view-subtree, view-repeat, view-literal, view-punct, view-ident}
use Rattle.mbe_ops.proofs.OpViews.{view-expression}
use Rattle.mbe_matcher.specs.Threads.{IsPlain}
use Rattle.mbe_matcher.proofs.Keeping.{keeps_not}
use Rattle.mbe_matcher.proofs.StepLemmas.{has_entries, has_number, has_more, separator_same}
use Rattle.mbe_matcher.proofs.steps.op_steps.Goals as goal

pub variable_steps-requires-clause-entries : goal.variable_steps-requires-clause-entries
variable_steps-requires-clause-entries g c =
    has_entries c.args.log.now c.args.frames.now.items c.args.thread c.requires.placed

pub variable_steps-requires-clause-tail : goal.variable_steps-requires-clause-tail
variable_steps-requires-clause-tail g c = (
  c.in-Var.id,
  c.requires.tail ∙ ap (λ x. op x (ops_of c.args.rest.now))
      (ap op_of c.in-Var.is ∙ view-var _ c.in-Var.name c.in-Var.kind c.in-Var.id),
)

pub variable_steps-requires-clause-number : goal.variable_steps-requires-clause-number
variable_steps-requires-clause-number g c =
    has_number c.args.log.now c.args.frames.now.items c.args.thread c.requires.placed

pub group_steps-requires-clause-tail : goal.group_steps-requires-clause-tail
group_steps-requires-clause-tail g c =
    c.requires.tail ∙ ap (λ x. op x (ops_of c.args.rest.now))
    (ap op_of c.in-Subtree.is ∙ view-subtree _ c.in-Subtree.delimiter
    ∙ ap (λ xs. group c.in-Subtree.delimiter (ops_of xs)) (sym c.deref.ensures.value)
    ∙ ap (λ d. group d (ops_of c.deref.result.now)) (sym c.get.ensures))

pub group_steps-requires-clause-number : goal.group_steps-requires-clause-number
group_steps-requires-clause-number g c =
    has_number c.args.log.now c.args.frames.now.items c.args.thread c.requires.placed

pub repetition_steps-requires-clause-entries : goal.repetition_steps-requires-clause-entries
repetition_steps-requires-clause-entries g c =
    has_entries c.args.log.now c.args.frames.now.items c.args.thread c.requires.placed

pub repetition_steps-requires-clause-tail : goal.repetition_steps-requires-clause-tail
repetition_steps-requires-clause-tail g c =
    c.requires.tail ∙ ap (λ x. op x (ops_of c.args.rest.now))
    (ap op_of c.in-Repeat.is ∙ view-repeat _ _ _
    ∙ ap (λ x. repetition (ops_of c.in-Repeat.tokens.0.items) x c.in-Repeat.kind)
    (sym (separator_same c.as_ref-separator.result c.in-Repeat.separator c.as_ref-separator.ensures.value))
    ∙ ap (λ xs. repetition (ops_of xs) (option_map (λ t. separator_seen t.now) c.as_ref-separator.result)
    c.in-Repeat.kind) (sym c.deref-in-Repeat.ensures.value))

pub repetition_steps-requires-clause-number : goal.repetition_steps-requires-clause-number
repetition_steps-requires-clause-number g c =
    has_more c.args.log.now c.args.frames.now.items c.args.thread (ops_of c.deref-in-Repeat.result.now)
    (ops_of c.args.rest.now)
    (option_map (λ t. separator_seen t.now) c.as_ref-separator.result) c.in-Repeat.kind c.requires.placed
    (c.requires.tail ∙ ap (λ x. op x (ops_of c.args.rest.now))
    (ap op_of c.in-Repeat.is ∙ view-repeat _ _ _
    ∙ ap (λ x. repetition (ops_of c.in-Repeat.tokens.0.items) x c.in-Repeat.kind)
    (sym (separator_same c.as_ref-separator.result c.in-Repeat.separator c.as_ref-separator.ensures.value))
    ∙ ap (λ xs. repetition (ops_of xs) (option_map (λ t. separator_seen t.now) c.as_ref-separator.result)
    c.in-Repeat.kind) (sym c.deref-in-Repeat.ensures.value)))

pub returns-in-Subtree : goal.returns-in-Subtree
returns-in-Subtree g c = λ o s.
    c.group_steps.ensures.steps (g.G.FragmentGrammar.grammar c.args.grammar.now) c.args.log.now
    (sym c.dialect-dialect.ensures) o s

pub returns-in-Expression : goal.returns-in-Expression
returns-in-Expression g c = λ o s. record {
  now = c.plain_steps.ensures.steps (g.G.FragmentGrammar.grammar c.args.grammar.now) c.args.log.now
      c.args.frames.now.items o (sym c.dialect.ensures) s;
  kept = keeps_not c.args.log.now c.args.frames.now.items;
}

pub returns-in-Literal : goal.returns-in-Literal
returns-in-Literal g c = λ o s. record {
  now = c.plain_steps-in-Literal.ensures.steps (g.G.FragmentGrammar.grammar c.args.grammar.now) c.args.log.now
      c.args.frames.now.items o (sym c.dialect-in-Literal.ensures) s;
  kept = keeps_not c.args.log.now c.args.frames.now.items;
}

pub plain_steps-requires-clause-plain : goal.plain_steps-requires-clause-plain
plain_steps-requires-clause-plain g c =
    subst IsPlain (sym (ap op_of c.in-Expression.is ∙ view-expression _)) tt

pub plain_steps-requires-clause-number : goal.plain_steps-requires-clause-number
plain_steps-requires-clause-number g c =
    has_number c.args.log.now c.args.frames.now.items c.args.thread c.requires.placed

pub plain_steps-requires-in-Literal-clause-plain : goal.plain_steps-requires-in-Literal-clause-plain
plain_steps-requires-in-Literal-clause-plain g c =
    elim c.in-Literal.is [
      | inl w ↦ subst IsPlain (sym (ap op_of w.1 ∙ view-literal w.0)) tt
      | inr (inl w) ↦ subst IsPlain (sym (ap op_of w.1 ∙ view-ident w.0)) tt
      | inr (inr w) ↦ subst IsPlain (sym (ap op_of w.1 ∙ view-punct _ w.0)) tt
    ]

pub plain_steps-requires-in-Literal-clause-number : goal.plain_steps-requires-in-Literal-clause-number
plain_steps-requires-in-Literal-clause-number g c =
    has_number c.args.log.now c.args.frames.now.items c.args.thread c.requires.placed
