use Rattle.std.proofs.Common.{sym, ap, ◌∙◌, arith, rules, chars, ℕ, Err}
use Rattle.std.proofs.lemmas.Result.{err_from_is_err_and}
use Rattle.mbe_text.specs.LexFaults.{fault_at}
use Rattle.mbe_text.specs.declared.fault_kind.LexFaultKind.TheVariants as fault_kind
use Rattle.mbe_text.proofs.BlankLemmas.{blank_there, doc_there, passes_end, passes_blank, passes_other, passes_doc}
use Rattle.mbe_text.proofs.BlankLemmas.{passes_line, passes_block, passes_last, passes_fault}
use Rattle.mbe_text.proofs.TailLemmas.{end_of_rest}
use Rattle.mbe_text.proofs.scanner.Scanner.comments.Goals as goal

pub returns-in_default-clause-exact : goal.returns-in_default-clause-exact
returns-in_default-clause-exact c = passes_end _ _ _ _ c.parts.invariant.exact c.in_default.ensures.chars

pub parts-preserved-then-is_whitespace : goal.parts-preserved-then-is_whitespace
parts-preserved-then-is_whitespace c = record {
  on = search rules;
  exact = passes_blank _ _ _ _ _ _ c.parts.invariant.exact c.in-Some.ensures.chars
      (blank_there _ _ _ _ _ c.parts.invariant.on.4 c.is_whitespace.ensures c.if-is_whitespace.true);
}

pub returns-then-char-ne47-clause-exact : goal.returns-then-char-ne47-clause-exact
returns-then-char-ne47-clause-exact c =
    passes_other _ _ _ _ _ _ c.parts.invariant.exact c.in-Some.ensures.chars
    (blank_there _ _ _ _ _ c.parts.invariant.on.4 c.is_whitespace.ensures c.if-is_whitespace.false) (search rules)

pub returns-then-is_at_doc-clause-exact : goal.returns-then-is_at_doc-clause-exact
returns-then-is_at_doc-clause-exact c =
    passes_doc _ _ _ _ _ _ c.parts.invariant.exact c.in-Some.ensures.chars
    (blank_there _ _ _ _ _ c.parts.invariant.on.4 c.is_whitespace.ensures c.if-is_whitespace.false)
    (doc_there _ _ _ _ _ c.parts.invariant.on.4 c.is_at_doc.ensures c.if-is_at_doc.true)

pub parts-preserved-then-begins_with : goal.parts-preserved-then-begins_with
parts-preserved-then-begins_with c = record {
  on = search rules;
  exact = passes_line _ _ _ _ _ _ c.parts.invariant.exact c.in-Some.ensures.chars _
      (blank_there _ _ _ _ _ c.parts.invariant.on.4 c.is_whitespace.ensures c.if-is_whitespace.false)
      (doc_there _ _ _ _ _ c.parts.invariant.on.4 c.is_at_doc.ensures c.if-is_at_doc.false) (search rules)
      (sym c.begins_with.ensures.exact ∙ c.if-begins_with.true) c.line_comment.ensures.exact;
}

pub parts-preserved : goal.parts-preserved
parts-preserved c = record {
  on = search rules;
  exact = passes_block _ _ _ _ _ _ c.parts.invariant.exact c.in-Some.ensures.chars _
      (blank_there _ _ _ _ _ c.parts.invariant.on.4 c.is_whitespace.ensures c.if-is_whitespace.false)
      (doc_there _ _ _ _ _ c.parts.invariant.on.4 c.is_at_doc.ensures c.if-is_at_doc.false) (search rules)
      (sym c.begins_with.ensures.exact ∙ c.if-begins_with.false)
      (sym c.begins_with-else-begins_with.ensures.exact ∙ c.if-begins_with-2.true)
      c.in_ok-block_comment.ensures.exact;
}

pub returns-in_err-block_comment-clause-exact : goal.returns-in_err-block_comment-clause-exact
returns-in_err-block_comment-clause-exact c =
    let p = err_from_is_err_and c.from_residual.result c.from_residual.ensures.1 in
    let fault = c.in_err-block_comment.ensures.exact in
    rw (p.1, p.2) (passes_fault _ _ _ _ _ _ c.parts.invariant.exact c.in-Some.ensures.chars
    (blank_there _ _ _ _ _ c.parts.invariant.on.4 c.is_whitespace.ensures c.if-is_whitespace.false)
    (doc_there _ _ _ _ _ c.parts.invariant.on.4 c.is_at_doc.ensures c.if-is_at_doc.false) (search rules)
    (sym c.begins_with.ensures.exact ∙ c.if-begins_with.false)
    (sym c.begins_with-else-begins_with.ensures.exact ∙ c.if-begins_with-2.true) fault.0
    ∙ ap Err (ap (λ (n : ℕ). fault_at fault_kind.UnterminatedComment n (chars c.parts.self.rest.now))
    (sym c.parts.invariant.on.1)
    ∙ sym fault.1))

pub returns-else-begins_with-2-clause-exact : goal.returns-else-begins_with-2-clause-exact
returns-else-begins_with-2-clause-exact c =
    passes_last _ _ _ _ _ _ c.parts.invariant.exact c.in-Some.ensures.chars
    (blank_there _ _ _ _ _ c.parts.invariant.on.4 c.is_whitespace.ensures c.if-is_whitespace.false)
    (doc_there _ _ _ _ _ c.parts.invariant.on.4 c.is_at_doc.ensures c.if-is_at_doc.false) (search rules)
    (sym c.begins_with.ensures.exact ∙ c.if-begins_with.false)
    (sym c.begins_with-else-begins_with.ensures.exact ∙ c.if-begins_with-2.false)

pub invariant_of-self : goal.invariant_of-self
invariant_of-self c =
    let old = c.parts.self in
    let step = c.in-Some.ensures in
    let end = end_of_rest _ _ _ old.total old.within old.whole old.left (omega (arith, step.shorter), step.end) in
    record { within = omega (arith, end.0, old.whole); whole = old.whole; small = old.small; left = end.1 }
