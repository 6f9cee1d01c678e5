use Rattle.std.proofs.Common.{◌++◌, ◌∷◌, [], ◌∙◌, ap, map, subst, sym}
use Rattle.std.proofs.lemmas.List.{map-append}
use Rattle.mbe_rewriter.specs.Hygiene.LocalNames.{naming, fresh, AreTaken}
use Rattle.mbe_rewriter.specs.Hygiene.EventViews.{word_of, naming_of}
use Rattle.mbe_rewriter.proofs.Renaming.NumberedLemmas.{same_fresh, same_numbers}
use Rattle.mbe_rewriter.proofs.Renaming.TakenLemmas.{with_name_is, taken_with_name}
use Rattle.mbe_rewriter.proofs.hygiene.new_names.push_name.Goals as goal

pub fresh-requires : goal.fresh-requires
fresh-requires g c =
    let words = map word_of c.args.words.now in
    let names = c.args.names.now in
    let so_far = map naming_of c.as_slice.result.now in
    let taken = subst (λ n. AreTaken words names (map naming_of n)) (sym c.as_slice.ensures.value) c.requires.taken in
    record {
      taken = subst (λ ws. AreTaken ws names so_far) (sym c.requires.numbered)
          (same_numbers words names so_far taken);
    }

pub returns-in_ok-push-clause-given : goal.returns-in_ok-push-clause-given
returns-in_ok-push-clause-given g c =
    let words = map word_of c.args.words.now in
    let names = c.args.names.now in
    let given = map naming_of c.args.given.now.items in
    let local = word_of c.args.local in
    let count_named = c.in_ok-name.ensures
    ∙ ap (λ n. fresh (map word_of c.args.numbered.now) names (map naming_of n) local.text) c.as_slice.ensures.value
    ∙ ap (λ ws. fresh ws names given local.text) c.requires.numbered ∙ same_fresh words names given local.text in
    let is_one = with_name_is words names given local (sym c.is_renamed.ensures ∙ c.if-is_renamed.true) in
    ap (map naming_of) c.in_ok-push.ensures.items ∙ map-append naming_of c.args.given.now.items (_ ∷ [])
    ∙ ap (λ n. given ++ (naming local n ∷ [])) count_named ∙ sym is_one

pub returns-in_ok-push-clause-taken : goal.returns-in_ok-push-clause-taken
returns-in_ok-push-clause-taken g c =
    subst (AreTaken (map word_of c.args.words.now) c.args.names.now) (sym (returns-in_ok-push-clause-given g c))
    (taken_with_name (map word_of c.args.words.now) c.args.names.now (map naming_of c.args.given.now.items)
    (word_of c.args.local) c.requires.taken)
