use Rattle.std.proofs.lemmas.Str.{IsCharBoundary-from_drop}
use Rattle.mbe_text.proofs.CharacterLemmas.{past_far, past_near, end_of_drop}
use Rattle.mbe_text.proofs.TailLemmas.{end_on}
use Rattle.mbe_text.proofs.characters.past.Goals as goal

pub range_from-rest-requires : goal.range_from-rest-requires
range_from-rest-requires c _ =
    IsCharBoundary-from_drop c.args.text.now c.ascii_count-count.result c.ascii_count-count.ensures.within
    c.ascii_count-count.ensures.utf8

pub returns-then-is_non_ascii_at-clause-exact : goal.returns-then-is_non_ascii_at-clause-exact
returns-then-is_non_ascii_at-clause-exact c =
    past_far c.args.class c.args.text.now c.range_from-rest.result.now c.past_by_char.result.now
    c.ascii_count-count.result
    c.range_from-rest.ensures.value c.ascii_count-count.ensures.exact c.past_by_char.ensures.exact

pub returns-then-is_non_ascii_at-clause-end : goal.returns-then-is_non_ascii_at-clause-end
returns-then-is_non_ascii_at-clause-end c =
    end_on c.args.text.now c.range_from-rest.result.now c.past_by_char.result.now
    (end_of_drop c.args.text.now c.range_from-rest.result.now c.ascii_count-count.result
    c.range_from-rest.ensures.value) c.past_by_char.ensures.end

pub returns-else-is_non_ascii_at-clause-exact : goal.returns-else-is_non_ascii_at-clause-exact
returns-else-is_non_ascii_at-clause-exact c =
    past_near c.args.class c.args.text.now c.range_from-rest.result.now c.ascii_count-count.result
    c.is_non_ascii_at.result
    c.range_from-rest.ensures.value c.is_non_ascii_at.ensures c.if-is_non_ascii_at.false
    c.ascii_count-count.ensures.exact
    c.ascii_count-count.ensures.stops

pub returns-else-is_non_ascii_at-clause-end : goal.returns-else-is_non_ascii_at-clause-end
returns-else-is_non_ascii_at-clause-end c =
    end_of_drop c.args.text.now c.range_from-rest.result.now c.ascii_count-count.result c.range_from-rest.ensures.value
