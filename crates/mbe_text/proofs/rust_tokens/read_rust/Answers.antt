use Rattle.mbe_text.proofs.rust_tokens.read_rust.Goals as goal

pub returns-then-is_at-clause-end : goal.returns-then-is_at-clause-end
returns-then-is_at-clause-end c = c.read_r.ensures.end

pub returns-then-is_at-2-clause-end : goal.returns-then-is_at-2-clause-end
returns-then-is_at-2-clause-end c = c.read_b.ensures.end

pub returns-then-is_at-3-clause-end : goal.returns-then-is_at-3-clause-end
returns-then-is_at-3-clause-end c = c.read_c.ensures.end

pub returns-then-begins-clause-end : goal.returns-then-begins-clause-end
returns-then-begins-clause-end c = c.identifier.ensures.end

pub returns-then-begins-2-clause-end : goal.returns-then-begins-2-clause-end
returns-then-begins-2-clause-end c = c.number.ensures.end

pub returns-then-is_at-4-clause-end : goal.returns-then-is_at-4-clause-end
returns-then-is_at-4-clause-end c = c.string.ensures.end

pub returns-then-is_at-5-clause-end : goal.returns-then-is_at-5-clause-end
returns-then-is_at-5-clause-end c = c.read_quote.ensures.end

pub returns-then-is_guard-clause-end : goal.returns-then-is_guard-clause-end
returns-then-is_guard-clause-end c = c.guard_fault.ensures.end

pub returns-then-begins_doc-clause-end : goal.returns-then-begins_doc-clause-end
returns-then-begins_doc-clause-end c = c.doc.ensures.end
