-- A walk over trees with a stack of the groups around: what is still to be done of the trees ahead, and then of those
-- that follow each of these groups.
use Rattle.std.proofs.Common.{◌≡◌, List, [], ◌∷◌, ◌++◌, reverse, Some, None, ap, sym, ◌∙◌}
use Rattle.std.proofs.lemmas.List.{reverse-append}
use Rattle.mbe_tt.specs.Trees.Tree.{Forest, Group_tree, first, rest_of}
use Rattle.mbe_tt.specs.declared.tt.Delimiter.{Delimiter}

-- what trees do to a state, by what an opening and a closing do; and what is around does, from the innermost group
pub record IsWalk {State : Type 0} (done : Forest → State → State) (around : List (Delimiter × Forest) → State → State)
    (opened : State → Delimiter → Forest → State) (closed : State → Delimiter → State) : Type 0 where
  pub group_step : (f inside : Forest) (d : Delimiter) (s : State) → Some (Group_tree d inside) ≡ first f
      → done f s ≡ done (rest_of f) (closed (done inside (opened s d inside)) d)
  pub end_step : (f : Forest) (s : State) → None ≡ first f → done f s ≡ s
  pub none_around : (s : State) → around [] s ≡ s
  pub one_around : (up : List (Delimiter × Forest)) (d : Delimiter) (f : Forest) (s : State)
      → around ((d, f) ∷ up) s ≡ around up (done f (closed s d))

module _ {State : Type 0} {done : Forest → State → State} {around : List (Delimiter × Forest) → State → State}
    {opened : State → Delimiter → Forest → State} {closed : State → Delimiter → State}
    (walk : IsWalk done around opened closed) where
  pub begins : (items : List (Delimiter × Forest)) (f g : Forest) (s : State) → items ≡ [] → f ≡ g
      → around (reverse items) (done f s) ≡ done g s
  begins items f g s i e =
      ap (λ k. around (reverse k) (done f s)) i ∙ (walk.none_around (done f s) ∙ ap (λ h. done h s) e)

  pub group_on : (items more : List (Delimiter × Forest)) (f after inside : Forest) (d : Delimiter)
      (s next whole : State) → after ≡ rest_of f → Some (Group_tree d inside) ≡ first f → next ≡ opened s d inside
      → more ≡ items ++ ((d, after) ∷ [])
      → around (reverse items) (done f s) ≡ whole → around (reverse more) (done inside next) ≡ whole
  group_on items more f after inside d s next whole e h n m w =
      ap (λ i. around (reverse i) (done inside next)) m
      ∙ (ap (λ i. around i (done inside next)) (reverse-append items ((d, after) ∷ []))
      ∙ (ap (λ r. around ((d, r) ∷ reverse items) (done inside next)) e
      ∙ (ap (λ t. around ((d, rest_of f) ∷ reverse items) (done inside t)) n
      ∙ (walk.one_around (reverse items) d (rest_of f) (done inside (opened s d inside))
      ∙ (ap (around (reverse items)) (sym (walk.group_step f inside d s h)) ∙ w)))))

  pub pop_on : (items fewer : List (Delimiter × Forest)) (f rest : Forest) (d : Delimiter) (s next whole : State)
      → None ≡ first f → next ≡ closed s d → items ≡ fewer ++ ((d, rest) ∷ [])
      → around (reverse items) (done f s) ≡ whole → around (reverse fewer) (done rest next) ≡ whole
  pop_on items fewer f rest d s next whole h n m w =
      ap (λ t. around (reverse fewer) (done rest t)) n
      ∙ (sym (walk.one_around (reverse fewer) d rest s)
      ∙ (ap (around ((d, rest) ∷ reverse fewer)) (sym (walk.end_step f s h))
      ∙ (sym (ap (λ i. around i (done f s)) (ap reverse m ∙ reverse-append fewer ((d, rest) ∷ []))) ∙ w)))

  pub all_done : (items : List (Delimiter × Forest)) (f : Forest) (s whole : State) → None ≡ first f → items ≡ []
      → around (reverse items) (done f s) ≡ whole → s ≡ whole
  all_done items f s whole h i w =
      sym (ap (λ k. around (reverse k) (done f s)) i ∙ (walk.none_around (done f s) ∙ walk.end_step f s h)) ∙ w
