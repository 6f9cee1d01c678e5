use Rattle.std.proofs.Common.{◌≡◌, ◌∙◌, ◌∷◌, ◌++◌, List, [], Bool, true, false, None, ap, sym}
use Rattle.mbe_tt.specs.Trees.Glue.{is_operator, third_punct}
use Rattle.mbe_tt.specs.Trees.Tree.{Forest}
use Rattle.mbe_tt.specs.declared.tt.Punct.{Punct}
use Rattle.mbe_tt.proofs.Glue.GlueLemmas.{Front, Glues, pushed_three, three_glued, two_glued, one_glued}
use Rattle.mbe_tt.proofs.iter.TtIter.expect_glued_punct.Goals as goal
use Rattle.mbe_tt.proofs.iter.TtIter.expect_glued_punct.Goals.{After-iter-beyond, then-is_double_operator}
use Rattle.mbe_tt.proofs.iter.TtIter.expect_glued_punct.Goals.{else-is_double_operator}

front : (g : _) (c : After-iter-beyond g)
    → Front c.args.self.now c.iter-ahead.result c.iter-beyond.result c.in_ok-first.field-0.now c.in-Some.second
front g c =
    record {
      first = c.in_ok-first.ensures.value;
      second = c.in-Some.ensures.value;
      past_first = c.iter-ahead.ensures ∙ (c.remaining.ensures ∙ c.in_ok-first.ensures.rest);
      after_second = c.iter-beyond.ensures ∙ (c.remaining-2.ensures ∙ c.in-Some.ensures.rest);
    }

first_only : (g : _) (c : After-iter-beyond g) → c.push.new.self.items ≡ c.in_ok-first.field-0.now ∷ []
first_only g c = c.push.ensures.items ∙ ap (λ xs. xs ++ c.in_ok-first.field-0.now ∷ []) c.new-glued.ensures

pub returns-in-Some-next_third-clause-value : goal.returns-in-Some-next_third-clause-value
returns-in-Some-next_third-clause-value g c =
    let here = (goal.at.returns-in-Some-next_third-clause-value g c).After-iter-beyond in
    (three_glued _ _ _ c.next_third.new.self _ _ _ _ (front g here) c.in-Some-next_third.ensures.value
    c.in-Some-next_third.ensures.rest
    (pushed_three _ _ _ _ _ _ (first_only g here) c.push-in-Some-next_third.ensures.items
    c.push-in-Some-next_third-2.ensures.items)).value

pub returns-in-Some-next_third-clause-rest : goal.returns-in-Some-next_third-clause-rest
returns-in-Some-next_third-clause-rest g c =
    let here = (goal.at.returns-in-Some-next_third-clause-rest g c).After-iter-beyond in
    (three_glued _ _ _ c.next_third.new.self _ _ _ _ (front g here) c.in-Some-next_third.ensures.value
    c.in-Some-next_third.ensures.rest
    (pushed_three _ _ _ _ _ _ (first_only g here) c.push-in-Some-next_third.ensures.items
    c.push-in-Some-next_third-2.ensures.items)).rest

two : (g : _) (c : After-iter-beyond g) (left : Forest) (qs : List Punct) (t : Bool)
    → None ≡ third_punct c.in_ok-first.field-0.now c.in-Some.second c.iter-beyond.result
    → t ≡ is_operator (c.in_ok-first.field-0.now.char ∷ c.in-Some.second.char ∷ []) → t ≡ true
    → left ≡ c.iter-beyond.result → qs ≡ c.push.new.self.items ++ c.in-Some.second ∷ []
    → Glues c.args.self.now left qs
two g c left qs t n e y r k =
    two_glued _ _ _ left _ _ qs t (front g c) n e y r
    (k ∙ ap (λ xs. xs ++ c.in-Some.second ∷ []) (first_only g c))

one : (g : _) (c : After-iter-beyond g) (left : Forest) (qs : List Punct) (t : Bool)
    → None ≡ third_punct c.in_ok-first.field-0.now c.in-Some.second c.iter-beyond.result
    → t ≡ is_operator (c.in_ok-first.field-0.now.char ∷ c.in-Some.second.char ∷ []) → t ≡ false
    → left ≡ c.iter-ahead.result → qs ≡ c.push.new.self.items → Glues c.args.self.now left qs
one g c left qs t n e y r k = one_glued _ _ _ left _ _ qs t (front g c) n e y r (k ∙ first_only g c)

pub returns-clause-value : goal.returns-clause-value
returns-clause-value g c =
    let here = (goal.at.returns-clause-value g c).After-iter-beyond in
    let fails = c.in_default-next_third.ensures.value in
    let all : Glues c.args.self.now c.if-is_double_operator.self c.if-is_double_operator.glued.items =
    (elim c.if-is_double_operator.branch [
      | then-is_double_operator w ↦ two g here _ _ _ fails c.is_double_operator.ensures w.if-is_double_operator.true
          (w.self-is ∙ sym (c.iter-beyond.ensures ∙ c.remaining-2.ensures))
          (ap (λ x. x.items) w.glued-is ∙ w.push-then-is_double_operator.ensures.items)
      | else-is_double_operator w ↦ one g here _ _ _ fails c.is_double_operator.ensures w.if-is_double_operator.false
          (w.self-is ∙ sym (c.iter-ahead.ensures ∙ c.remaining.ensures)) (ap (λ x. x.items) w.glued-is)
    ]) in
    all.value

pub returns-clause-rest : goal.returns-clause-rest
returns-clause-rest g c =
    let here = (goal.at.returns-clause-rest g c).After-iter-beyond in
    elim c.if-is_double_operator.branch [
      | then-is_double_operator w ↦ (two g here _ c.if-is_double_operator.glued.items _
          c.in_default-next_third.ensures.value
          c.is_double_operator.ensures w.if-is_double_operator.true
          (w.self-is ∙ sym (c.iter-beyond.ensures ∙ c.remaining-2.ensures))
          (ap (λ x. x.items) w.glued-is ∙ w.push-then-is_double_operator.ensures.items)).rest
      | else-is_double_operator w ↦ (one g here _ c.if-is_double_operator.glued.items _
          c.in_default-next_third.ensures.value
          c.is_double_operator.ensures w.if-is_double_operator.false
          (w.self-is ∙ sym (c.iter-ahead.ensures ∙ c.remaining.ensures)) (ap (λ x. x.items) w.glued-is)).rest
    ]
