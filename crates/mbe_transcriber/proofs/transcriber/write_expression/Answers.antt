use Rattle.std.proofs.Common.{◌≡◌, ◌<◌, ◌+◌, ◌-◌, ◌∷◌, vec_len, length-append, ◌++◌, [], ◌∙◌, ap, sym, drop, length}
use Rattle.std.proofs.Common.{refl, rules, arith}
use Rattle.std.specs.Prelude.{is_some, option_map}
use Rattle.mbe_tt.specs.Views.LeafViews.{literal_of, ident_of}
use Rattle.mbe_semantics.specs.Transcription.Rounds.{level, kept, kept_rounds, finite}
use Rattle.mbe_ops.specs.Expressions.{elements_seen}
use Rattle.mbe_ops.specs.Views.{op_of, ops_of, separator_seen}
use Rattle.mbe_bindings.specs.BindingViews.{env_of}
use Rattle.mbe_ops.proofs.EqualityLemmas.{op_no_heavier}
use Rattle.mbe_variables.proofs.FollowLemmas.{ops_split, ops_over}
use Rattle.mbe_variables.proofs.FollowLemmas.{seen_copied}
use Rattle.mbe_variables.specs.FaultViews.{error_of_fault}
use Rattle.mbe_variables.specs.LookupErrors.{extent_fault}
use Rattle.mbe_transcriber.proofs.FaultLemmas as firsts
use Rattle.mbe_transcriber.proofs.LeftLemmas as lefts
use Rattle.mbe_transcriber.proofs.WroteLemmas as lemmas
use Rattle.mbe_transcriber.proofs.JoinLemmas.{or_either, swapped, popped}
use Rattle.mbe_transcriber.proofs.transcriber.write_expression.Goals as goal

pub returns-in-Ignore-clause-wrote : goal.returns-in-Ignore-clause-wrote
returns-in-Ignore-clause-wrote g c =
    rw (c.in-Ignore.is) (lemmas.wrote_ignored _ _ _ _ _ (is_some c.check_ignored.result) c.in-Ignore.name
    c.in-Ignore.id c.args.builder.now c.check_ignored.ensures.reported)

pub returns-in-Index-clause-wrote : goal.returns-in-Index-clause-wrote
returns-in-Index-clause-wrote g c =
    rw (c.in-Index.is) (lemmas.wrote_and_none c.write_at_call_site.result c.and.result
    c.and.ensures
    (lemmas.wrote_index _ _ _ _ _ c.in-Index.depth c.index_at.result c.args.builder.now c.write_at_call_site.new.builder
    c.index_at.ensures) c.write_at_call_site.ensures)

pub returns-in-Len-clause-wrote : goal.returns-in-Len-clause-wrote
returns-in-Len-clause-wrote g c =
    rw (c.in-Len.is) (lemmas.wrote_and_none c.write_at_call_site-in-Len.result c.and-in-Len.result
    c.and-in-Len.ensures
    (lemmas.wrote_len _ _ _ _ _ c.in-Len.depth c.rounds_at.result c.args.builder.now
    c.write_at_call_site-in-Len.new.builder
    c.rounds_at.ensures)
    c.write_at_call_site-in-Len.ensures)

pub returns-in-Count-clause-wrote : goal.returns-in-Count-clause-wrote
returns-in-Count-clause-wrote g c =
    rw (c.in-Count.is) (lemmas.if_ok_with c.write_count.result
    (λ f w. lemmas.wrote_count _ _ _ _ _ (is_some f) c.in-Count.name c.in-Count.depth c.args.builder.now
    c.write_count.new.builder w)
    c.write_count.ensures.wrote)

pub returns-in-Concat-clause-wrote : goal.returns-in-Concat-clause-wrote
returns-in-Concat-clause-wrote g c =
    rw (c.in-Concat.is, ← c.deref.ensures.value) (lemmas.if_ok_with c.write_concat.result
    (λ f w. lemmas.wrote_concat _ _ _ _ _ (is_some f) (elements_seen c.deref.result.now) c.in-Concat.span
    c.args.builder.now c.write_concat.new.builder w) c.write_concat.ensures.wrote)

pub returns-in-Ignore-clause-left : goal.returns-in-Ignore-clause-left
returns-in-Ignore-clause-left g c =
    rw (c.in-Ignore.is) (lefts.left_ignored _ _ _ _ _ c.in-Ignore.name c.in-Ignore.id c.args.builder.now)

pub returns-in-Index-clause-left : goal.returns-in-Index-clause-left
returns-in-Index-clause-left g c =
    rw (c.in-Index.is) (lefts.and_none c.write_at_call_site.result c.and.result c.and.ensures
    (λ w. lefts.left_index _ _ _ _ _ c.in-Index.depth _ c.args.builder.now c.write_at_call_site.new.builder
    (lemmas.wrote_index _ _ _ _ _ c.in-Index.depth c.index_at.result c.args.builder.now c.write_at_call_site.new.builder
    c.index_at.ensures w))
    c.write_at_call_site.ensures)

pub returns-in-Len-clause-left : goal.returns-in-Len-clause-left
returns-in-Len-clause-left g c =
    rw (c.in-Len.is) (lefts.and_none c.write_at_call_site-in-Len.result c.and-in-Len.result c.and-in-Len.ensures
    (λ w. lefts.left_len _ _ _ _ _ c.in-Len.depth _ c.args.builder.now c.write_at_call_site-in-Len.new.builder
    (lemmas.wrote_len _ _ _ _ _ c.in-Len.depth c.rounds_at.result c.args.builder.now
    c.write_at_call_site-in-Len.new.builder
    c.rounds_at.ensures w))
    c.write_at_call_site-in-Len.ensures)

pub returns-in-Count-clause-left : goal.returns-in-Count-clause-left
returns-in-Count-clause-left g c =
    rw (c.in-Count.is) (lefts.if_ok_by c.write_count.result
    (λ f w e k. lefts.left_count _ _ _ _ _ error_of_fault f c.in-Count.name c.in-Count.depth c.args.builder.now
    c.write_count.new.builder
    (lemmas.wrote_count _ _ _ _ _ (is_some f) c.in-Count.name c.in-Count.depth c.args.builder.now
    c.write_count.new.builder w) e k)
    c.write_count.ensures.wrote c.write_count.ensures.first c.write_count.ensures.unchanged)

pub returns-in-Concat-clause-left : goal.returns-in-Concat-clause-left
returns-in-Concat-clause-left g c =
    rw (c.in-Concat.is, ← c.deref.ensures.value) (lemmas.if_ok_with c.write_concat.result
    (λ f w. lefts.left_concat _ _ _ _ _ (elements_seen c.deref.result.now) c.in-Concat.span c.args.builder.now
    c.write_concat.new.builder w) c.write_concat.ensures.left)
