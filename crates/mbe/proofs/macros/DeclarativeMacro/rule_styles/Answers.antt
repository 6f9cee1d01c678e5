use Rattle.std.proofs.Common.{◌≡◌, ◌+◌, ◌<◌, ◌++◌, ◌∷◌, [], ℕ, List, refl, length, get_or, ap, sym, subst, ◌∙◌, take}
use Rattle.std.proofs.Common.{rules}
use Rattle.std.specs.Int.RustNames.{bit_or}
use Rattle.std.proofs.lemmas.List.{take_more, take_all}
use Rattle.mbe_parser.specs.declared.rules.Rule as code
use Rattle.mbe.specs.Styles.{bits_of, bit_of}
use Rattle.mbe_parser.specs.RuleViews.{rule_of, rules_seen}
use Rattle.mbe_parser.proofs.RuleReading.{rules-push}
use Rattle.mbe.proofs.StyleLemmas.{styles_of, styles_push, styles_whole}
use Rattle.mbe.proofs.macros.DeclarativeMacro.rule_styles.Goals as goal

-- one rule more
styles_more : {A : Type 0} (xs : List (code.Rule A)) (i : ℕ) (x : code.Rule A) (s : ℕ) → i < length xs
    → x ≡ get_or xs i x
    → s ≡ styles_of (rules_seen (take i xs)) → bit_or s (bit_of x.style) ≡ styles_of (rules_seen (take (i + 1) xs))
styles_more xs i x s h e inv =
    let more = take_more xs i x h ∙ ap (λ y. take i xs ++ y ∷ []) (sym e) in
    ap (λ n. bit_or n (bit_of x.style)) inv ∙ (styles_push (rules_seen (take i xs)) (rule_of x)
    ∙ (ap styles_of (sym (rules-push (take i xs) x)) ∙ ap (λ ys. styles_of (rules_seen ys)) (sym more)))

-- no rules are seen where there are none
some_seen : {A : Type 0} (xs : List (code.Rule A)) → (xs ≡ [] → ⊥) → rules_seen xs ≡ [] → ⊥
some_seen [] n e = n refl
some_seen (x ∷ xs) n e = cc

pub loop-rule-preserved : goal.loop-rule-preserved
loop-rule-preserved g c =
    let i = c.loop-rule.rule-index in
    let xs = c.deref-rule-items.result.now in
    let same = c.deref-rule-items.ensures.value in
    let before = subst (λ ys. bits_of c.loop-rule.styles ≡ styles_of (rules_seen (take i ys))) (sym same)
    c.loop-rule.invariant in
    let next = styles_more xs i c.rule-item.result (bits_of c.loop-rule.styles) c.loop-rule-test.true c.rule-item.is
    before in
    subst (λ ys. bits_of c.insert.new.self ≡ styles_of (rules_seen (take (i + 1) ys))) same
    (c.insert.ensures tt ∙ (ap (bit_or c.loop-rule.styles.0) c.from.ensures ∙ next))

pub returns : goal.returns
returns g c =
    let i = c.loop-rule.rule-index in
    let all = c.args.self.now.rules.items in
    let some : all ≡ [] → ⊥ = search rules in
    let whole_view : take i all ≡ all = subst (λ ys. take i ys ≡ ys) c.deref-rule-items.ensures.value
    (take_all i c.deref-rule-items.result.now c.loop-rule-test.false) in
    c.loop-rule.invariant ∙ (ap (λ ys. styles_of (rules_seen ys)) whole_view
    ∙ styles_whole (rules_seen all) (some_seen all some))
