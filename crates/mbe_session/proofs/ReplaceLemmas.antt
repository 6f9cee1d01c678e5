-- What replaces calls, by what replaces those in their parts.
use Rattle.std.proofs.Common.{◌≡◌, ◌-◌, ℕ, suc, true, false, List, [], ◌∷◌, ◌++◌, length, map, refl, ap, sym, subst, ◌∙◌}
use Rattle.std.specs.Prelude.{Option, Some, None}
use Rattle.std.proofs.lemmas.List.{append_assoc, append-nil, map-append}
use Rattle.mbe_tt.specs.Trees.Top.{Top}
use Rattle.mbe_tt.specs.declared.tt.Delimiter.{Delimiter}
use Rattle.mbe_tt.specs.declared.tt.DelimiterKind.{DelimiterKind}
use Rattle.mbe_tt.specs.Trees.Tree.{Forest, Tree, Group_tree, none}
use Rattle.mbe_rewriter.specs.Surroundings.{is_standard_macro}
use Rattle.mbe_rewriter.specs.MacroItems.{MacroCall, MacroDefinition, Definition, CallItem, Other, front}
use Rattle.mbe_rewriter.specs.Splice.{SplicedPart}
use Rattle.mbe_rewriter.specs.AttributedCalls.{front_item_with_attributes}
use Rattle.mbe_session.specs.NestedExpansion.{after_group}
use Rattle.mbe_session.specs.CallExpansion.{Setting, State, Tries}
use Rattle.mbe_session.specs.Adjustment.{IsRest, what_follows}
use Rattle.mbe_session.specs.Budgets.{is_spent}
use Rattle.mbe_session.specs.Scopes.{with_left}
use Rattle.mbe_session.specs.CallReplacements.{Parts, ShowsItems, no_more, at_definition, at_call, at_tree, item_shown}
use Rattle.mbe_session.specs.CallReplacements.{rules_shown, LeavesGroup, is_left, PartsOfTree, PartsOfArgument}
use Rattle.mbe_session.specs.CallReplacements.{IsPartOf, PartsOfCall, of_kept, of_replaced, of_spent, FrontParts}
use Rattle.mbe_session.specs.CallReplacements.{of_definition, of_tree, of_call, AllParts, ends, goes_on, PartsWithin, PartsOfFile}
use Rattle.mbe_session.specs.CallReplacements.{Adds, attribute_parts}

-- ---- items

-- what is left to show, with what was shown, is all
pub record Showing (f : Forest) (s : State) (rest : Forest) (t : State) : Type 0 where
  pub on : (u : State) → ShowsItems rest t u → ShowsItems f s u

pub definition_shown : (f g : Forest) (d : MacroDefinition) (s t u : State) → Showing f s g t → front g ≡ Definition d
    → u ≡ item_shown d t → Showing f s d.rest u
definition_shown f g d s t u k is h =
    record { on = λ v more. k.on v (at_definition g d t v is (subst (λ x. ShowsItems d.rest x v) h more)) }

pub call_shown_on : (f g : Forest) (c : MacroCall) (s t : State) → Showing f s g t → front g ≡ CallItem c
    → Showing f s c.rest t
call_shown_on f g c s t k is = record { on = λ v more. k.on v (at_call g c t v is more) }

pub tree_shown_on : (f g rest : Forest) (tree : Tree) (s t : State) → Showing f s g t → front g ≡ Other tree rest
    → Showing f s rest t
tree_shown_on f g rest tree s t k is = record { on = λ v more. k.on v (at_tree g rest tree t v is more) }

pub all_shown : (f rest : Forest) (s t : State) → Showing f s rest t → rest ≡ none → ShowsItems f s t
all_shown f rest s t k h = k.on t (subst (λ x. ShowsItems x t t) (sym h) (no_more t))

-- ---- parts one after another

-- these parts were added, and with whatever parts the rest has they are those of all
pub record Adding (e : Setting) (levels : ℕ) (f : Forest) (s : State) (before : List SplicedPart) (rest : Forest)
    (t : State)
    (now : List SplicedPart)
    : Type 0 where
  pub out : List SplicedPart
  pub added : now ≡ before ++ out
  pub whole : (more : List SplicedPart) (u : State) → AllParts e levels (PartsWithin e levels) rest t more u
      → AllParts e levels (PartsWithin e levels) f s (out ++ more) u

pub none_added : (e : Setting) (levels : ℕ) (f rest : Forest) (s t : State) (b now : List SplicedPart) → rest ≡ f → t
    ≡ s
    → now ≡ b
    → Adding e levels f s b rest t now
none_added e levels f rest s t b now r k n = record {
  out = [];
  added = n ∙ sym (append-nil b);
  whole = λ more u h.
      subst (λ x. AllParts e levels (PartsWithin e levels) x s more u) r
      (subst (λ x. AllParts e levels (PartsWithin e levels) rest x more u) k h);
}

front_added : (e : Setting) (levels : ℕ) (f g rest : Forest) (s t u : State) (b mid now parts : List SplicedPart)
    → Adding e levels f s b g t mid
    → FrontParts e levels (PartsWithin e levels) g t parts rest u → now ≡ mid ++ parts
    → Adding e levels f s b rest u now
front_added e levels f g rest s t u b mid now parts d step n = record {
  out = d.out ++ parts;
  added = n ∙ (ap (λ x. x ++ parts) d.added ∙ append_assoc b d.out parts);
  whole = λ more v h.
      subst (λ x. AllParts e levels (PartsWithin e levels) f s x v) (sym (append_assoc d.out parts more))
      (d.whole (parts ++ more) v (goes_on g rest parts more t u v step h));
}

pub definition_added : (e : Setting) (levels : ℕ) (f g : Forest) (d : MacroDefinition) (s t u : State)
    (b mid now : List SplicedPart)
    → Adding e levels f s b g t mid → front_item_with_attributes g ≡ Definition d → u ≡ rules_shown d t → now ≡ mid
    → Adding e levels f s b d.rest u now
definition_added e levels f g d s t u b mid now k is h n =
    front_added e levels f g d.rest s t u b mid now [] k
    (subst (λ x. FrontParts e levels (PartsWithin e levels) g t [] d.rest x) (sym h) (of_definition d is))
    (n ∙ sym (append-nil mid))

pub tree_added : (e k : Setting) (levels : ℕ) (f g rest : Forest) (tree : Tree) (s t u : State)
    (b mid now : List SplicedPart)
    → k ≡ e
    → Adding e levels f s b g t mid → front_item_with_attributes g ≡ Other tree rest
    → Adds (PartsOfTree (PartsWithin k levels) tree t) mid now u
    → Adding e levels f s b rest u now
tree_added e k levels f g rest tree s t u b mid now h d is a =
    front_added e levels f g rest s t u b mid now a.0 d
    (of_tree tree rest a.0 u is (subst (λ x. PartsOfTree (PartsWithin x levels) tree t a.0 u) h a.1)) a.2

pub call_added : (e k : Setting) (levels : ℕ) (f g rest : Forest) (c : MacroCall) (s t u : State)
    (b mid now : List SplicedPart)
    → k ≡ e
    → Adding e levels f s b g t mid → front_item_with_attributes g ≡ CallItem c
    → Adds (λ parts. PartsOfCall k levels (PartsWithin k levels) c t parts rest) mid now u
    → Adding e levels f s b rest u now
call_added e k levels f g rest c s t u b mid now h d is a =
    front_added e levels f g rest s t u b mid now a.0 d
    (of_call c a.0 rest u is (subst (λ x. PartsOfCall x levels (PartsWithin x levels) c t a.0 rest u) h a.1)) a.2

-- ---- trees in a group

within_by : (e : Setting) (levels : ℕ) (f : Forest) (s t u : State) (parts : List SplicedPart) → ShowsItems f s t
    → AllParts e levels (PartsWithin e levels) f t parts u → PartsWithin e (suc levels) f s parts u
unfolding PartsWithin
within_by e levels f s t u parts h a = (t, h, a)

-- the items are shown, and then each tree has its parts
pub all_added : (e k : Setting) (levels : ℕ) (f rest : Forest) (o s t : State) (b now : List SplicedPart) → k ≡ e
    → ShowsItems f o s
    → Adding k levels f s b rest t now → rest ≡ none → Adds (PartsWithin e (suc levels) f o) b now t
all_added e k levels f rest o s t b now is h d r =
    let all = subst (λ x. AllParts k levels (PartsWithin k levels) f s x t) (append-nil d.out)
    (d.whole [] t (subst (λ x. AllParts k levels (PartsWithin k levels) x t [] t) (sym r) (ends t))) in (
      d.out,
      subst (λ x. PartsWithin x (suc levels) f o d.out t) is (within_by k levels f o s t d.out h all),
      d.added,
    )

none_within : (e : Setting) (levels : ℕ) (f : Forest) (s : State) → levels ≡ 0 → PartsWithin e levels f s [] s
unfolding PartsWithin
none_within e levels f s h = subst (λ n. PartsWithin e n f s [] s) (sym h) (refl, refl)

pub inside_none : (e : Setting) (levels : ℕ) (f : Forest) (s u : State) (b now : List SplicedPart) → levels ≡ 0 → now
    ≡ b
    → u ≡ s
    → Adds (PartsWithin e levels f s) b now u
inside_none e levels f s u b now l n k =
    ([], subst (λ x. PartsWithin e levels f s [] x) (sym k) (none_within e levels f s l), n ∙ sym (append-nil b))

pub group_added : (within : Parts) (tree : Tree) (d : Delimiter) (inside view : Forest) (s t u : State)
    (b now : List SplicedPart) → tree ≡ Group_tree d inside
    → view ≡ inside → Adds (within view s) b now t → LeavesGroup d.kind s t u → Adds (PartsOfTree within tree s) b now u
group_added within tree d inside view s t u b now h v a l =
    subst (λ x. Adds (PartsOfTree within x s) b now u) (sym h) (a.0, (t, subst (λ x. within x s a.0 t) v a.1, l), a.2)

pub left_group : (k : DelimiterKind) (mark : ℕ) (s t u : State) → mark ≡ length s.scope.visible
    → u ≡ after_group k mark t → LeavesGroup k s t u
left_group k mark s t u h e = subst (LeavesGroup k s t) (sym (e ∙ ap (λ n. after_group k n t) h)) is_left

-- ---- calls

pub kept_added : (e k : Setting) (levels : ℕ) (c : MacroCall) (o : Option Top) (s t u : State)
    (b now : List SplicedPart) → k ≡ e
    → Tries e c levels e.depth s t o → o ≡ None
    → Adds (PartsOfArgument (PartsWithin k levels) (is_standard_macro c.name.sym) c.argument t) b now u
    → Adds (λ parts. PartsOfCall e levels (PartsWithin e levels) c s parts c.rest) b now u
kept_added e k levels c o s t u b now h tried n a = (
  a.0,
  of_kept a.0 t u (subst (Tries e c levels e.depth s t) n tried)
      (subst (λ x. PartsOfArgument (PartsWithin x levels) (is_standard_macro c.name.sym) c.argument t a.0 u) h a.1),
  a.2,
)

pub replaced_added : {X : Type 0} (shown : X
    → SplicedPart) (e k : Setting) (levels mark : ℕ) (left : Forest) (c : MacroCall)
    (tree : Top) (o : Option Top) (s t u : State)
    (xs mid ys : List X) (x : X) → k ≡ e → mark ≡ length s.contexts → Tries e c levels e.depth s t o → o ≡ Some tree
    → IsPartOf k levels (e.depth - 1) mark c tree.1 t (shown x) left u
    → is_spent u.fuel ≡ false
    → map shown mid ≡ map shown xs ++ attribute_parts c → ys ≡ mid ++ x ∷ []
    → Adds (λ parts. PartsOfCall e levels (PartsWithin e levels) c s parts left) (map shown xs) (map shown ys) u
replaced_added shown e k levels mark left c tree o s t u xs mid ys x h m tried n p few before is =
    let made = subst (Tries e c levels e.depth s t) n tried in
    let here = subst (λ v. IsPartOf k levels (e.depth - 1) v c tree.1 t (shown x) left u) m p in (
      attribute_parts c ++ shown x ∷ [],
      of_replaced tree (shown x) left u made.0
          (subst (λ v. IsPartOf e levels (e.depth - 1) (length s.contexts) c tree.1 v (shown x) left u) made.1
          (subst (λ v. IsPartOf v levels (e.depth - 1) (length s.contexts) c tree.1 t (shown x) left u) h here))
          few,
      ap (map shown) is
          ∙ (map-append shown mid (x ∷ []) ∙ (ap (λ ps. ps ++ shown x ∷ []) before
          ∙ append_assoc (map shown xs) (attribute_parts c) (shown x ∷ []))),
    )

pub spent_added : (e k : Setting) (levels mark : ℕ) (left : Forest) (c : MacroCall) (tree : Top) (o : Option Top)
    (part : SplicedPart) (s t u v : State) (b now : List SplicedPart) → k ≡ e → mark ≡ length s.contexts
    → Tries e c levels e.depth s t o → o ≡ Some tree
    → IsPartOf k levels (e.depth - 1) mark c tree.1 t part left u → is_spent u.fuel ≡ true
    → v ≡ record u { fuel = s.fuel } → now ≡ b
    → Adds (λ parts. PartsOfCall e levels (PartsWithin e levels) c s parts c.rest) b now v
spent_added e k levels mark left c tree o part s t u v b now h m tried n p over is same =
    let made = subst (Tries e c levels e.depth s t) n tried in
    let here = subst (λ w. IsPartOf k levels (e.depth - 1) w c tree.1 t part left u) m p in (
      [],
      subst (PartsOfCall e levels (PartsWithin e levels) c s [] c.rest) (sym is)
          (of_spent tree part left u made.0
          (subst (λ w. IsPartOf e levels (e.depth - 1) (length s.contexts) c tree.1 w part left u) made.1
          (subst (λ w. IsPartOf w levels (e.depth - 1) (length s.contexts) c tree.1 t part left u) h here)) over),
      same ∙ sym (append-nil b),
    )

pub parts_left : (e : Setting) (levels : ℕ) (within : Parts) (c : MacroCall) (s u : State) (parts : List SplicedPart)
    (rest : Forest)
    → PartsOfCall e levels within c s parts rest u → IsRest c.rest rest
parts_left e levels within c s v all left (of_kept parts t u h a) = what_follows
parts_left e levels within c s v all left (of_replaced tree part rest u r p few) = p.leaves
parts_left e levels within c s v all left (of_spent tree part rest u r p over) = what_follows

-- ---- files

pub of_file : (e : Setting) (levels mark : ℕ) (f : Forest) (s t u : State) (b now : List SplicedPart) → b ≡ []
    → Adds (PartsWithin e (suc levels) f s) b now t → mark ≡ length s.scope.visible
    → u ≡ record t { scope = with_left mark t.scope } → PartsOfFile e levels f s now u
of_file e levels mark f s t u b now h a m k =
    let same : now ≡ a.0 = a.2 ∙ ap (λ x. x ++ a.0) h in (
      t,
      subst (λ x. PartsWithin e (suc levels) f s x t) (sym same) a.1,
      k ∙ ap (λ n. let v : State = record t { scope = with_left n t.scope } in v) m,
    )
