use Rattle.std.proofs.Common.{ap, sym, ◌∙◌, map, arith}
use Rattle.std.proofs.lemmas.Result.{IfOk-weaker}
use Rattle.mbe_rewriter.specs.Hygiene.LocalNames.{is_taken}
use Rattle.mbe_rewriter.specs.Hygiene.EventViews.{word_of, naming_of}
use Rattle.mbe_rewriter.proofs.Renaming.FreshLemmas.{tried, found, all_tried}
use Rattle.mbe_rewriter.proofs.Renaming.TakenLemmas.{begins_after}
use Rattle.mbe_rewriter.proofs.hygiene.new_names.fresh.Goals as goal

pub numbers-init : goal.numbers-init
numbers-init g c =
    begins_after (map word_of c.args.words.now) c.args.names.now (map naming_of c.args.given.now) c.args.text.now
    c.count_named-number.result c.requires.taken c.count_named-number.ensures.count
    (omega (arith, c.count_named-number.ensures.few))

-- a name that is taken is let go on two paths, as its text is in it or shared
pub numbers-preserved : goal.numbers-preserved
numbers-preserved g c =
    let taken = is_taken (map word_of c.args.words.now) c.args.names.now (map naming_of c.args.given.now) in
    tried taken c.args.text.now c.in_ok-name.name _ c.numbers.number c.numbers-test.true c.in_ok-name.ensures
    (ap taken (sym c.as_str.ensures) ∙ (sym c.is_taken.ensures ∙ c.if-is_taken.true)) c.numbers.invariant

pub numbers-preserved-then-is_taken : goal.numbers-preserved-then-is_taken
numbers-preserved-then-is_taken g c =
    let taken = is_taken (map word_of c.args.words.now) c.args.names.now (map naming_of c.args.given.now) in
    tried taken c.args.text.now c.in_ok-name.name _ c.numbers.number c.numbers-test.true c.in_ok-name.ensures
    (ap taken (sym c.as_str.ensures) ∙ (sym c.is_taken.ensures ∙ c.if-is_taken.true)) c.numbers.invariant

pub returns-else-is_taken : goal.returns-else-is_taken
returns-else-is_taken g c =
    let taken = is_taken (map word_of c.args.words.now) c.args.names.now (map naming_of c.args.given.now) in
    found taken c.args.text.now c.in_ok-name.name _ c.numbers.number c.numbers-test.true c.in_ok-name.ensures
    (ap taken (sym c.as_str.ensures) ∙ (sym c.is_taken.ensures ∙ c.if-is_taken.false)) c.numbers.invariant

pub returns : goal.returns
returns g c =
    let taken = is_taken (map word_of c.args.words.now) c.args.names.now (map naming_of c.args.given.now) in
    let last = all_tried taken c.args.text.now _ c.numbers.number c.numbers-test.false c.numbers.invariant in
    IfOk-weaker c.numbered-2.result _ _ (λ s e. e ∙ last) c.numbered-2.ensures
