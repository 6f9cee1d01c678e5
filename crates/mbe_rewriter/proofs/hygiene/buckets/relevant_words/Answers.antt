use Rattle.std.proofs.Common.{map, ap, ◌∙◌}
use Rattle.mbe_rewriter.specs.Hygiene.EventViews.{word_of}
use Rattle.mbe_rewriter.specs.Hygiene.LocalNames.{undecided_uses, has_undecided_use}
use Rattle.mbe_rewriter.specs.declared.hygiene.local_names.BindingState.TheVariants.{Unbound}
use Rattle.mbe_rewriter.proofs.Renaming.ListLemmas.{beside_is, same_doubts, same_doubted}
use Rattle.mbe_rewriter.proofs.hygiene.buckets.relevant_words.Goals as goal

pub returns-in-Some-clause-undecided_uses : goal.returns-in-Some-clause-undecided_uses
returns-in-Some-clause-undecided_uses g c =
    let w = word_of c.args.local in
    let ws = map word_of c.args.words.now in
    ap (undecided_uses w Unbound) (beside_is w ws c.args.buckets.now c.bucket_of.result c.in-Some.list.now _
    c.requires.buckets
    c.in-Some.ensures.lookup.3.0 c.in-Some.ensures.lookup.1 c.bucket_of.ensures c.as_slice.ensures.value)
    ∙ same_doubts w Unbound ws

pub returns-in-Some-clause-doubted : goal.returns-in-Some-clause-doubted
returns-in-Some-clause-doubted g c =
    let w = word_of c.args.local in
    let ws = map word_of c.args.words.now in
    ap (has_undecided_use w Unbound) (beside_is w ws c.args.buckets.now c.bucket_of.result c.in-Some.list.now _
    c.requires.buckets
    c.in-Some.ensures.lookup.3.0 c.in-Some.ensures.lookup.1 c.bucket_of.ensures c.as_slice.ensures.value)
    ∙ same_doubted w Unbound ws
