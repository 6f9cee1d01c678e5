-- What follows from what replaces the calls of trees: each part is one of their calls', and there
-- is none where no call is known.
use Rattle.std.proofs.Common.{◌≡◌, ℕ, zero, suc, Bool, true, false, List, [], ◌∷◌, ◌++◌, length, Option, Some, None}
use Rattle.std.proofs.Common.{refl, ap, sym, subst, inl, inr, ◌∙◌}
use Rattle.std.specs.Prelude.{◌||◌, ◌&&◌, not, codes, if◌then◌else◌, option_map, option_and_then}
use Rattle.std.specs.Option.{option_or}
use Rattle.std.specs.List.{All, slice_get}
use Rattle.std.specs.Str.{bytes_eq}
use Rattle.std.proofs.lemmas.List.Elements.{All-nil, All-cons, All-append}
use Rattle.mbe_tt.specs.Trees.Top.{Top}
use Rattle.mbe_tt.specs.Trees.Tree.{Forest, Tree, Leaf_tree, Group_tree, none, leaf, group, tree, rest_of}
use Rattle.mbe_tt.specs.declared.tt.DelimiterKind.{DelimiterKind}
use Rattle.mbe_tt.specs.declared.tt.DelimiterKind.TheVariants.{Parenthesis, Brace, Bracket, Invisible}
use Rattle.mbe_rewriter.specs.Surroundings.{is_standard_macro}
use Rattle.mbe_rewriter.specs.MacroItems.{MacroCall, MacroDefinition, Definition, CallItem, is_item}
use Rattle.mbe_rewriter.specs.AttributedCalls.{front_item_with_attributes}
use Rattle.mbe_rewriter.specs.Splice.{SplicedPart}
use Rattle.mbe_session.specs.NestedExpansion.{after_group}
use Rattle.mbe_session.specs.CallExpansion.{Setting, State, IsReplaced, StaysUnexpanded, too_many, not_found, limited}
use Rattle.mbe_session.specs.CallExpansion.{refused, called_macro, with_fuel_spent}
use Rattle.mbe_session.specs.Adjustment.{IsRest, what_follows, after_semicolon}
use Rattle.mbe_session.specs.Scopes.{Scope, Definition as AMacro, CrateFilter, Own, Others, Crate, ExceptCrateOf}
use Rattle.mbe_session.specs.Scopes.{definition_at, is_admitted, is_found, last_below, last_found, permits}
use Rattle.mbe_session.specs.Scopes.{last_visible, unique_extern, unless_rival, placed}
use Rattle.mbe_session.specs.Scopes.{OwnExcept, Module, ModuleExcept, OtherFile}
use Rattle.mbe_session.specs.Resolution.{has_module, has_own, is_claimed, is_doubtful, is_foreign, is_global}
use Rattle.mbe_session.specs.Resolution.{is_offered_name, is_own_name, is_pair, is_prelude_macro, is_root_name, may_define}
use Rattle.mbe_session.specs.Resolution.{may_reach, name_to, path_to, resolve_elsewhere, resolve_extern}
use Rattle.mbe_session.specs.Resolution.{resolve_import, resolve_in, resolve_name, resolve_own, resolve_path}
use Rattle.mbe_session.specs.Resolution.{resolve_sole, sole_in, sole_own, unless_other}
use Rattle.mbe_session.specs.declared.scope.Visibility.{Visibility}
use Rattle.mbe_session.specs.declared.scope.Visibility.TheVariants.{Text, Files, Paths, Crates}
use Rattle.mbe_session.specs.CallReplacements.{Parts, ShowsItems, no_more, at_definition, at_call, at_tree, shown_at}
use Rattle.mbe_session.specs.CallReplacements.{shown, is_block_item, item_shown, LeavesGroup, is_left, is_used}
use Rattle.mbe_session.specs.CallReplacements.{PartsOfTree}
use Rattle.mbe_session.specs.CallReplacements.{PartsOfArgument, PartsOfCall, of_kept, of_replaced, of_spent}
use Rattle.mbe_session.specs.CallReplacements.{FrontParts}
use Rattle.mbe_session.specs.CallReplacements.{of_definition, of_tree, of_call, AllParts, ends, goes_on, PartsIn}
use Rattle.mbe_session.specs.CallReplacements.{PartsWithin, PartsOfFile, IsIn, all_of_it, after_some, in_group}
use Rattle.mbe_session.specs.CallReplacements.{IsOfCall, of_attributes, of_expansion, attribute_part, attribute_parts}
use Rattle.mbe_session.specs.CallReplacements.{has_attributes, NoneHas, NoneCalled}
use Rattle.mbe_session.proofs.FrontLemmas.{Ahead}
use Rattle.mbe_session.proofs.CfgFrontLemmas.{ends_ahead, subject_call, subject_definition, subject_tree}

-- ---- trees in trees

ahead_in : (whole f rest : Forest) → Ahead f rest → IsIn whole f → IsIn whole rest
ahead_in whole f rest a h = after_some a.kept rest (subst (IsIn whole) a.is h)

definition_in : (whole f : Forest) (d : MacroDefinition) → front_item_with_attributes f ≡ Definition d → IsIn whole f
    → IsIn whole d.rest
definition_in whole f d e h = ahead_in whole f d.rest (subject_definition f d e) h

call_in : (whole f : Forest) (c : MacroCall) → front_item_with_attributes f ≡ CallItem c → IsIn whole f
    → IsIn whole c.rest
call_in whole f c e h = ahead_in whole f c.rest (ends_ahead f c (subject_call f c e)) h

rest_in : (whole f : Forest) → IsIn whole f → IsIn whole (rest_of f)
rest_in whole none h = h
rest_in whole (leaf l rest) h = after_some (leaf l none) rest h
rest_in whole (group d inside rest) h = after_some (group d inside none) rest h

left_in : (whole rest f : Forest) → IsRest rest f → IsIn whole rest → IsIn whole f
left_in whole rest f what_follows h = h
left_in whole rest f (after_semicolon s) h = rest_in whole rest h

argument_in : (whole f : Forest) (c : MacroCall) → front_item_with_attributes f ≡ CallItem c → IsIn whole f
    → IsIn whole c.argument
argument_in whole f c e h =
    let a = subject_call f c e in
    in_group c.delimiter c.argument c.rest
    (after_some a.0 (group c.delimiter c.argument c.rest) (subst (IsIn whole) a.1 h))

after_tree : (whole rest : Forest) (t : Tree) → IsIn whole (tree t rest) → IsIn whole rest
after_tree whole rest (Leaf_tree l) h = after_some (leaf l none) rest h
after_tree whole rest (Group_tree d inside) h = after_some (group d inside none) rest h

-- ---- each part is a call's

module _ (e : Setting) (whole : Forest) where
  abbrev AreOfCalls : List SplicedPart → Type 0
  AreOfCalls parts = All (IsOfCall e whole) parts

  no_parts : (parts : List SplicedPart) → parts ≡ [] → AreOfCalls parts
  no_parts parts h = subst AreOfCalls (sym h) (All-nil (IsOfCall e whole))

  module _ (levels : ℕ) (within : Parts)
      (each : (f : Forest) (s t : State) (parts : List SplicedPart) → IsIn whole f → within f s parts t
      → AreOfCalls parts) where
    each_in_tree : (t : Tree) (rest : Forest) (s u : State) (parts : List SplicedPart) → IsIn whole (tree t rest)
        → PartsOfTree within t s parts u → AreOfCalls parts
    each_in_tree (Leaf_tree l) rest s u parts i h = no_parts parts h.0
    each_in_tree (Group_tree d inside) rest s u parts i h = each inside s h.0 parts (in_group d inside rest i) h.1

    each_in_argument : (standard : Bool) (f : Forest) (s u : State) (parts : List SplicedPart) → IsIn whole f
        → PartsOfArgument within standard f s parts u
        → AreOfCalls parts
    each_in_argument false f s u parts i h = no_parts parts h.0
    each_in_argument true f s u parts i h = each f s u parts i h

    of_attribute : (f : Forest) (c : MacroCall) (s u : State) (made : Top) (part : SplicedPart) (rest : Forest)
        → IsIn whole f
        → front_item_with_attributes f ≡ CallItem c → IsReplaced e c levels e.depth s made
        → (b : Bool) → has_attributes c ≡ b → AreOfCalls (if b then attribute_part c ∷ [] else [])
    of_attribute f c s u made part rest i is r false h = All-nil (IsOfCall e whole)
    of_attribute f c s u made part rest i is r true h =
        All-cons (IsOfCall e whole) (attribute_part c) [] (record {
          from = f;
          call = c;
          is_in = i;
          is_called = is;
          levels = levels;
          before = s;
          after = u;
          tree = made;
          left = rest;
          is_replaced = r;
          is_part = of_attributes h refl;
        }) (All-nil (IsOfCall e whole))

    each_of_call : (f : Forest) (c : MacroCall) (s u : State) (parts : List SplicedPart) (rest : Forest) → IsIn whole f
        → front_item_with_attributes f ≡ CallItem c
        → PartsOfCall e levels within c s parts rest u → AreOfCalls parts × IsIn whole rest
    each_of_call f c s v all left i is (of_kept parts t u k a) = (
      each_in_argument (is_standard_macro c.name.sym) c.argument t u parts (argument_in whole f c is i) a,
      call_in whole f c is i,
    )
    each_of_call f c s v all left i is (of_spent made part rest u r p over) =
        (All-nil (IsOfCall e whole), call_in whole f c is i)
    each_of_call f c s v all left i is (of_replaced made part rest u r p few) = (
      All-append (IsOfCall e whole) (attribute_parts c) (part ∷ [])
          (of_attribute f c s u made part rest i is r (has_attributes c) refl)
          (All-cons (IsOfCall e whole) part [] (record {
            from = f;
            call = c;
            is_in = i;
            is_called = is;
            levels = levels;
            before = s;
            after = u;
            tree = made;
            left = rest;
            is_replaced = r;
            is_part = of_expansion p;
          }) (All-nil (IsOfCall e whole))),
      left_in whole c.rest rest p.leaves (call_in whole f c is i),
    )

    each_of_front : (f rest : Forest) (s u : State) (parts : List SplicedPart) → IsIn whole f
        → FrontParts e levels within f s parts rest u
        → AreOfCalls parts × IsIn whole rest
    each_of_front f left s v all i (of_definition d is) = (All-nil (IsOfCall e whole), definition_in whole f d is i)
    each_of_front f left s v all i (of_tree t rest parts u is h) =
        let j = subst (IsIn whole) (subject_tree f rest t is) i in
        (each_in_tree t rest s u parts j h, after_tree whole rest t j)
    each_of_front f left s v all i (of_call c parts rest u is h) = each_of_call f c s u parts rest i is h

    each_of_all : (f : Forest) (s u : State) (parts : List SplicedPart) → IsIn whole f
        → AllParts e levels within f s parts u
        → AreOfCalls parts
    each_of_all f o v all i (ends s) = All-nil (IsOfCall e whole)
    each_of_all g o v all i (goes_on f rest before more s t u h k) =
        let a = each_of_front f rest s t before i h in
        All-append (IsOfCall e whole) before more a.0 (each_of_all rest t u more a.1 k)

  pub each_within : (levels : ℕ) (f : Forest) (s t : State) (parts : List SplicedPart) → IsIn whole f
      → PartsWithin e levels f s parts t → AreOfCalls parts
  unfolding PartsWithin
  each_within zero f s t parts i h = no_parts parts h.0
  each_within (suc levels) f s t parts i h =
      each_of_all levels (PartsWithin e levels) (each_within levels) f h.0 t parts i h.2

pub each_of_file : (e : Setting) (levels : ℕ) (f : Forest) (s t : State) (parts : List SplicedPart)
    → PartsOfFile e levels f s parts t
    → All (IsOfCall e f) parts
each_of_file e levels f s t parts h = each_within e f (suc levels) f s h.0 parts all_of_it h.1

-- ---- names that no definition has

or_left : (a b : Bool) → (a || b) ≡ false → a ≡ false
or_left false b h = refl
or_left true b h = absurd (cc)

or_right : (a b : Bool) → (a || b) ≡ false → b ≡ false
or_right false b h = h
or_right true b h = absurd (cc)

and_false : (a b : Bool) → b ≡ false → (a && b) ≡ false
and_false false b h = refl
and_false true b h = h

missing_at : (name : List ℕ) (w : Visibility) (ds : List AMacro) (n : ℕ) → NoneHas name ds
    → is_found name w (slice_get ds n) ≡ false
missing_at name w [] n h = refl
missing_at name w (d ∷ ds) zero h = and_false (permits w d.visibility) (bytes_eq d.name name)
    (or_left (bytes_eq d.name name) _ h)
missing_at name w (d ∷ ds) (suc n) h = missing_at name w ds n (or_right (bytes_eq d.name name) _ h)

not_last : (p : ℕ → Bool) (n : ℕ) → ((k : ℕ) → p k ≡ false) → last_below p n ≡ None
unfolding last_below
not_last p zero h = refl
not_last p (suc n) h = ap (λ b. if b then Some n else last_below p n) (h n) ∙ not_last p n h

last_missing : (crate_filter : CrateFilter) (s : Scope) (w : Visibility) (name : List ℕ) → NoneHas name s.definitions
    → last_found crate_filter s w name ≡ None
last_missing crate_filter s w name h =
    not_last _ _ (λ n. and_false (is_admitted s crate_filter n) _ (missing_at name w s.definitions n h))

sole_missing : (s : Scope) (name : List ℕ) → NoneHas name s.definitions → unique_extern s name ≡ None
sole_missing s name h =
    ap (option_and_then (λ n. unless_rival n (last_found (ExceptCrateOf n) s Crates name)))
    (last_missing Others s Crates name h)

extern_missing : (s : Scope) (name : List ℕ) → NoneHas name s.definitions → resolve_extern s name ≡ None
extern_missing s name h = ap (option_and_then (unless_other s name)) (sole_missing s name h)

seen_missing : (s : Scope) (name : List ℕ) (o : Option ℕ) → NoneHas name s.definitions
    → is_found name Text (option_and_then (definition_at s) o) ≡ false
seen_missing s name None h = refl
seen_missing s name (Some n) h = missing_at name Text s.definitions n h

near_missing : (s : Scope) (name : List ℕ) → NoneHas name s.definitions → last_visible s name ≡ None
near_missing s name h =
    ap (option_and_then (slice_get s.visible)) (not_last _ _ (λ n. seen_missing s name (slice_get s.visible n) h))

either_missing : (b : Bool) (x y : Option ℕ) → x ≡ None → y ≡ None → (if b then x else y) ≡ None
either_missing true x y h k = h
either_missing false x y h k = k

own_missing : (s : Scope) (name : List ℕ) → NoneHas name s.definitions → sole_own s name ≡ None
own_missing s name h =
    ap (option_and_then (λ n. unless_rival n (last_found (OwnExcept n) s Paths name)))
    (last_missing Own s Paths name h)

in_missing : (s : Scope) (parent name : List ℕ) → NoneHas name s.definitions → sole_in s parent name ≡ None
in_missing s parent name h =
    ap (option_and_then (λ n. unless_rival n (last_found (ModuleExcept parent n) s Paths name)))
    (last_missing (Module parent) s Paths name h)

import_missing : (s : Scope) (name : List ℕ) → NoneHas name s.definitions → resolve_import s name ≡ None
import_missing s name h =
    either_missing (has_own s name) _ _ (either_missing (is_doubtful s name) _ _ refl (own_missing s name h))
    (extern_missing s name h)

name_missing : (s : Scope) (name : List ℕ) → NoneHas name s.definitions → resolve_name s name ≡ None
name_missing s name h = ap (name_to s name) (near_missing s name h) ∙ import_missing s name h

elsewhere_missing : (s : Scope) (file : ℕ) (name : List ℕ) → NoneHas name s.definitions
    → resolve_elsewhere s file name ≡ None
elsewhere_missing s file name h =
    either_missing (is_prelude_macro name || is_claimed s name) _ _ refl (last_missing (OtherFile file) s Files name h)

near_in_missing : (s : Scope) (first name : List ℕ) → NoneHas name s.definitions → resolve_in s first name ≡ None
near_in_missing s first name h =
    either_missing (is_root_name first) _ _ (in_missing s (codes "") name h)
    (either_missing (has_module s.declared first && not (is_foreign s.declared first)) _ _
    (in_missing s first name h) refl)

only_missing : (s : Scope) (first name : List ℕ) → NoneHas name s.definitions → resolve_sole s first name ≡ None
only_missing s first name h =
    either_missing (not (is_own_name first s.declared) || is_foreign s.declared name || is_offered_name s name
    || may_define s.declared) _ _ refl (own_missing s name h)

here_missing : (s : Scope) (pair : Bool) (first name : List ℕ) → NoneHas name s.definitions
    → resolve_own s pair first name ≡ None
here_missing s pair first name h =
    ap (λ o. option_or o (if may_reach s pair first name then resolve_sole s first name else None))
    (either_missing pair (resolve_in s first name) None (near_in_missing s first name h) refl)
    ∙ either_missing (may_reach s pair first name) (resolve_sole s first name) None (only_missing s first name h) refl

path_missing : (s : Scope) (c : MacroCall) → NoneHas c.name.sym s.definitions → resolve_path s c ≡ None
path_missing s c h =
    ap (path_to s c) (last_missing (Crate c.first.sym) s Crates c.name.sym h)
    ∙ either_missing (is_global c) None _ refl (here_missing s (is_pair c) c.first.sym c.name.sym h)

plain_missing : (s : Scope) (c : MacroCall) → NoneHas c.name.sym s.definitions
    → option_or (resolve_name s c.name.sym) (resolve_elsewhere s c.name.span.file c.name.sym) ≡ None
plain_missing s c h =
    ap (λ o. option_or o (resolve_elsewhere s c.name.span.file c.name.sym)) (name_missing s c.name.sym h)
    ∙ elsewhere_missing s c.name.span.file c.name.sym h

unnamed : (s : State) (c : MacroCall) → NoneHas c.name.sym s.scope.definitions → called_macro s c ≡ None
unnamed s c h = ap (λ o. option_map (λ (d : AMacro). d.rules) (option_and_then (definition_at s.scope) o))
    (either_missing c.is_path _ _ (path_missing s.scope c h) (plain_missing s.scope c h))

-- ---- no call is known

module _ (e : Setting) (ds : List AMacro) (whole : Forest) (none_called : NoneCalled ds whole) where
  -- no part, and the same definitions
  abbrev AreNone : List SplicedPart → State → Type 0
  AreNone parts t = (parts ≡ []) × (t.scope.definitions ≡ ds)

  module _ (levels : ℕ) (within : Parts)
      (each : (f : Forest) (s t : State) (parts : List SplicedPart) → IsIn whole f → s.scope.definitions ≡ ds
      → within f s parts t → AreNone parts t) where
    same_definitions : (s t : State) → t ≡ s → s.scope.definitions ≡ ds → t.scope.definitions ≡ ds
    same_definitions s t h k = ap (λ (x : State). x.scope.definitions) h ∙ k

    after_groups : (k : DelimiterKind) (n : ℕ) (t : State) → (after_group k n t).scope.definitions ≡ t.scope.definitions
    after_groups Parenthesis n t = refl
    after_groups Brace n t = refl
    after_groups Bracket n t = refl
    after_groups Invisible n t = refl

    none_left : (k : DelimiterKind) (s t u : State) → LeavesGroup k s t u → t.scope.definitions ≡ ds
        → u.scope.definitions ≡ ds
    none_left k s t u is_left h = after_groups k (length s.scope.visible) t ∙ h
    none_left k s t u is_used h = h

    none_in_tree : (t : Tree) (rest : Forest) (s u : State) (parts : List SplicedPart) → IsIn whole (tree t rest)
        → s.scope.definitions ≡ ds
        → PartsOfTree within t s parts u → AreNone parts u
    none_in_tree (Leaf_tree l) rest s u parts i k h = (h.0, same_definitions s u h.1 k)
    none_in_tree (Group_tree d inside) rest s u parts i k h =
        let a = each inside s h.0 parts (in_group d inside rest i) k h.1 in (a.0, none_left d.kind s h.0 u h.2 a.1)

    none_in_argument : (standard : Bool) (f : Forest) (s u : State) (parts : List SplicedPart) → IsIn whole f
        → s.scope.definitions ≡ ds
        → PartsOfArgument within standard f s parts u → AreNone parts u
    none_in_argument false f s u parts i k h = (h.0, same_definitions s u h.1 k)
    none_in_argument true f s u parts i k h = each f s u parts i k h

    unknown : (f : Forest) (c : MacroCall) (s : State) → IsIn whole f → front_item_with_attributes f ≡ CallItem c
        → s.scope.definitions ≡ ds
        → called_macro s c ≡ None
    unknown f c s i is k = unnamed s c (subst (NoneHas c.name.sym) (sym k) (none_called f c i is))

    kept_definitions : (c : MacroCall) (depth n : ℕ) (s t : State) → StaysUnexpanded e c depth s n t → called_macro s c
        ≡ None
        → s.scope.definitions ≡ ds
        → t.scope.definitions ≡ ds
    kept_definitions c depth n s t too_many h k = k
    kept_definitions c depth n s t (not_found m is) h k = k
    kept_definitions c depth n s t (limited m u a) h k =
        elim a [
          | inl deep ↦ same_definitions s u deep.1 k
          | inr spent ↦ same_definitions (with_fuel_spent s) u spent.1 k
        ]
    kept_definitions c depth n s t (refused m a b r) h k = k

    none_of_call : (f : Forest) (c : MacroCall) (s u : State) (parts : List SplicedPart) (rest : Forest) → IsIn whole f
        → front_item_with_attributes f ≡ CallItem c
        → s.scope.definitions ≡ ds → PartsOfCall e levels within c s parts rest u → AreNone parts u × IsIn whole rest
    none_of_call f c s v all left i is k (of_kept parts t u st a) = (
      none_in_argument (is_standard_macro c.name.sym) c.argument t u parts (argument_in whole f c is i)
          (kept_definitions c e.depth levels s t st (unknown f c s i is k) k) a,
      call_in whole f c is i,
    )
    none_of_call f c s v all left i is k (of_spent made part rest u r p over) =
        let ambiguity : Some r.rules ≡ None = sym r.found ∙ unknown f c s i is k in absurd (cc)
    none_of_call f c s v all left i is k (of_replaced made part rest u r p few) =
        let ambiguity : Some r.rules ≡ None = sym r.found ∙ unknown f c s i is k in absurd (cc)

    shown_definitions : (o : Option ℕ) (s : Scope) → (shown_at o s).definitions ≡ s.definitions
    shown_definitions None s = refl
    shown_definitions (Some n) s = refl

    rules_definitions : (b : Bool) (d : MacroDefinition) (s : State)
        → (if b then s else shown d s).scope.definitions ≡ s.scope.definitions
    rules_definitions true d s = refl
    rules_definitions false d s = shown_definitions (placed s.scope d.name.span) s.scope

    none_of_front : (f rest : Forest) (s u : State) (parts : List SplicedPart) → IsIn whole f → s.scope.definitions ≡ ds
        → FrontParts e levels within f s parts rest u → AreNone parts u × IsIn whole rest
    none_of_front f left s v all i k (of_definition d is) =
        ((refl, rules_definitions (is_item d.form) d s ∙ k), definition_in whole f d is i)
    none_of_front f left s v all i k (of_tree t rest parts u is h) =
        let j = subst (IsIn whole) (subject_tree f rest t is) i in
        (none_in_tree t rest s u parts j k h, after_tree whole rest t j)
    none_of_front f left s v all i k (of_call c parts rest u is h) = none_of_call f c s u parts rest i is k h

    none_of_all : (f : Forest) (s u : State) (parts : List SplicedPart) → IsIn whole f → s.scope.definitions ≡ ds
        → AllParts e levels within f s parts u
        → AreNone parts u
    none_of_all f o v all i k (ends s) = (refl, k)
    none_of_all g o v all i k (goes_on f rest before more s t u h m) =
        let a = none_of_front f rest s t before i k h in
        let b = none_of_all rest t u more a.1 a.0.1 m in
        (ap (λ x. x ++ more) a.0.0 ∙ b.0, b.1)

    items_definitions : (b : Bool) (d : MacroDefinition) (s : State)
        → (if b then shown d s else s).scope.definitions ≡ s.scope.definitions
    items_definitions true d s = shown_definitions (placed s.scope d.name.span) s.scope
    items_definitions false d s = refl

    all_items : (f : Forest) (s t : State) → ShowsItems f s t → t.scope.definitions ≡ s.scope.definitions
    all_items f o v (no_more s) = refl
    all_items g o v (at_definition f d s t is h) =
        all_items d.rest (item_shown d s) t h ∙ items_definitions (is_block_item d s) d s
    all_items g o v (at_call f c s t is h) = all_items c.rest s t h
    all_items g o v (at_tree f rest tree s t is h) = all_items rest s t h

    none_in : (f : Forest) (s u : State) (parts : List SplicedPart) → IsIn whole f → s.scope.definitions ≡ ds
        → PartsIn e levels within f s parts u
        → AreNone parts u
    none_in f s u parts i k h = none_of_all f h.0 u parts i (all_items f s h.0 h.1 ∙ k) h.2

  pub none_within_any : (levels : ℕ) (f : Forest) (s t : State) (parts : List SplicedPart) → IsIn whole f
      → s.scope.definitions ≡ ds
      → PartsWithin e levels f s parts t → AreNone parts t
  unfolding PartsWithin
  none_within_any zero f s t parts i k h = (h.0, ap (λ (x : State). x.scope.definitions) h.1 ∙ k)
  none_within_any (suc levels) f s t parts i k h =
      none_in levels (PartsWithin e levels) (none_within_any levels) f s t parts i k h

-- where no call is known no part is replaced
pub none_of_file : (e : Setting) (levels : ℕ) (f : Forest) (s t : State) (parts : List SplicedPart)
    → PartsOfFile e levels f s parts t
    → NoneCalled s.scope.definitions f → parts ≡ []
none_of_file e levels f s t parts h none_called =
    (none_within_any e s.scope.definitions f none_called (suc levels) f s h.0 parts all_of_it refl h.1).0
