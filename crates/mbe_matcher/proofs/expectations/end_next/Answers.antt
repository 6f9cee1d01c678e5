use Rattle.std.proofs.Common.{◌≡◌, ◌∙◌, Some, option_map, refl, sym, ap, subst}
use Rattle.std.specs.Prelude.{slice_get}
use Rattle.std.proofs.lemmas.Option.{slice_get-get_or}
use Rattle.mbe_semantics.specs.Syntax.Op.{no_ops}
use Rattle.mbe_semantics.specs.Matching.ThreadModel.{thread_model}
use Rattle.mbe_ops.specs.Views.{separator_seen}
use Rattle.mbe_matcher.specs.Expected.{before_round, expected_seen, thread_expects}
use Rattle.mbe_matcher.proofs.StepLemmas.{as_model, has_within, in_rounds}
use Rattle.mbe_matcher.proofs.expectations.end_next.Goals as goal

pub returns-in-Some-rounds : goal.returns-in-Some-rounds
returns-in-Some-rounds g c = λ log o s.
    let frames = c.args.frames.now in
    let p = c.args.thread.now in
    let r = c.in-Some-rounds.rounds in
    let within = has_within c.requires.placed.0 frames p c.in-Some.open c.requires.placed.1 c.in-Some.is in
    let at : slice_get frames c.in-Some.open ≡ Some c.index-frames-open.result =
    slice_get-get_or frames c.in-Some.open c.index-frames-open.result within ∙ ap Some (sym c.index-frames-open.is) in
    as_model log frames (λ x. option_map expected_seen c.round_next.result ≡ thread_expects x) p no_ops o s
    c.requires.tail
    (λ a up t.
    let w = in_rounds log frames p.up up c.in-Some.open c.index-frames-open.result r t.around c.in-Some.is at
    c.in-Some-rounds.is in
    c.round_next.ensures ∙ subst (λ es. before_round r.kind (option_map (λ x. separator_seen x.now) r.separator)
    ≡ thread_expects (thread_model no_ops a es)) (sym w.is) refl)
