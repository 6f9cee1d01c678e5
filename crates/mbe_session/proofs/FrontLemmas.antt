-- What precedes the rest of a definition, of a call, and of any other tree.
use Rattle.std.proofs.Common.{◌≡◌, ◌<◌, ◌+◌, ℕ, zero, suc, Bool, true, false, List, [], ◌∷◌, ◌++◌, Option, Some, None}
use Rattle.std.proofs.Common.{refl, ap, sym, ◌∙◌, arith}
use Rattle.std.specs.Prelude.{if◌then◌else◌, ◌==◌, option_map, option_and_then, unwrap_or, codes}
use Rattle.std.specs.Str.{bytes_eq}
use Rattle.mbe_tt.specs.Trees.Leaf.{Leaf, Ident, punct, literal, ident, is_text}
use Rattle.mbe_tt.specs.Trees.Tree.{Forest, Tree, Leaf_tree, Group_tree, none, leaf, group, tree, append, leaves, first}
use Rattle.mbe_tt.specs.Trees.Tree.{rest_of, first_span, flat_len, front_ident, front_group}
use Rattle.mbe_tt.specs.declared.span.Span.{Span}
use Rattle.mbe_tt.specs.declared.tt.Delimiter.{Delimiter}
use Rattle.mbe_tt.specs.declared.tt.DelimiterKind.{DelimiterKind}
use Rattle.mbe_tt.specs.declared.tt.DelimiterKind.TheVariants.{Parenthesis, Brace, Bracket, Invisible}
use Rattle.mbe_tt.specs.declared.tt.IdentIsRaw.{IdentIsRaw}
use Rattle.mbe_tt.specs.declared.tt.IdentIsRaw.TheVariants.{No, Yes}
use Rattle.mbe_rewriter.specs.MacroItems.{Path, MacroCall, MacroDefinition, FrontItem, Definition, CallItem, Other, End}
use Rattle.mbe_rewriter.specs.MacroItems.{after_char, after_path_separator, path_with_next, path_of_name}
use Rattle.mbe_rewriter.specs.MacroItems.{path_goes_further, longer, full_path, path_from, path_of, can_name_macro}
use Rattle.mbe_rewriter.specs.MacroItems.{is_visible, call_with_group, call_of_path, call_of, after_rules}
use Rattle.mbe_rewriter.specs.MacroItems.{macro_rules_with_name, macro_rules_definition, macro_item_with_template}
use Rattle.mbe_rewriter.specs.MacroItems.{macro_item_with_group, macro_item_definition, defined_after, definition_of}
use Rattle.mbe_rewriter.specs.MacroItems.{tree_front, call_front, front_with, front}
use Rattle.mbe_cfg.specs.CrateExports.Exports.{after_word}
use Rattle.mbe_session.specs.Imports.{ModuleItem, module_at, module_in, module_with_name}

-- some trees precede those
pub record Ahead (f rest : Forest) : Type 0 where
  pub kept : Forest
  pub is : f ≡ append kept rest
  pub some : 0 < flat_len kept

-- some leaves precede those trees
pub record AheadLeaves (f rest : Forest) : Type 0 where
  pub kept : List Leaf
  pub is : f ≡ append (leaves kept) rest

-- ---- trees side by side

pub append_append : (f g h : Forest) → append (append f g) h ≡ append f (append g h)
append_append none g h = refl
append_append (leaf l rest) g h = ap (leaf l) (append_append rest g h)
append_append (group d inside rest) g h = ap (group d inside) (append_append rest g h)

leaves_leaves : (ks ls : List Leaf) (h : Forest)
    → append (leaves (ks ++ ls)) h ≡ append (leaves ks) (append (leaves ls) h)
leaves_leaves [] ls h = refl
leaves_leaves (k ∷ ks) ls h = ap (leaf k) (leaves_leaves ks ls h)

pub flat_append : (f g : Forest) → flat_len (append f g) ≡ flat_len f + flat_len g
flat_append none g = omega arith
flat_append (leaf l rest) g = let e = flat_append rest g in omega (arith, e)
flat_append (group d inside rest) g = let e = flat_append rest g in omega (arith, e)

-- fewer flat tokens are left
pub ahead_less : (f rest : Forest) → Ahead f rest → flat_len rest < flat_len f
ahead_less f rest a = let e = ap flat_len a.is ∙ flat_append a.kept rest in let h = a.some in omega (arith, e, h)

one : (f rest : Forest) (l : Leaf) → f ≡ leaf l rest → AheadLeaves f rest
one f rest l e = record { kept = l ∷ []; is = e }

nothing : (f : Forest) → AheadLeaves f f
nothing f = record { kept = []; is = refl }

both : (f g h : Forest) → AheadLeaves f g → AheadLeaves g h → AheadLeaves f h
both f g h a b = record {
  kept = a.kept ++ b.kept;
  is = a.is
      ∙ (ap (append (leaves a.kept)) b.is ∙ sym (leaves_leaves a.kept b.kept h));
}

-- a tree after some leaves
with_group : (f rest inside : Forest) (d : Delimiter) → AheadLeaves f (group d inside rest) → Ahead f rest
with_group f rest inside d a = record {
  kept = append (leaves a.kept) (group d inside none);
  is = a.is ∙ sym (append_append (leaves a.kept) (group d inside none) rest);
  some = let e = flat_append (leaves a.kept) (group d inside none) in omega (arith, e);
}

-- one leaf more after those
with_leaf : (f g rest : Forest) (l : Leaf) → Ahead f g → g ≡ leaf l rest → Ahead f rest
with_leaf f g rest l a e = record {
  kept = append a.kept (leaf l none);
  is = a.is ∙ (ap (append a.kept) e ∙ sym (append_append a.kept (leaf l none) rest));
  some = let n = flat_append a.kept (leaf l none) in let h = a.some in omega (arith, n, h);
}

-- ---- options

pub then_some : {X Y : Type 0} (k : X → Option Y) (o : Option X) (y : Y) → option_and_then k o ≡ Some y
    → (x : X) × (o ≡ Some x) × (k x ≡ Some y)
then_some k None y e = absurd (cc)
then_some k (Some x) y e = (x, refl, e)

map_some : {X Y : Type 0} (k : X → Y) (o : Option X) (y : Y) → option_map k o ≡ Some y
    → (x : X) × (o ≡ Some x) × (k x ≡ y)
map_some k None y e = absurd (cc)
map_some k (Some x) y e = (x, refl, cc)

pub if_some : {X : Type 0} (b : Bool) (x y : X) → (if b then Some x else None) ≡ Some y → x ≡ y
if_some true x y e = cc
if_some false x y e = absurd (cc)

pub if_some_of : {X : Type 0} (b : Bool) (o : Option X) (y : X) → (if b then o else None) ≡ Some y → o ≡ Some y
if_some_of true o y e = e
if_some_of false o y e = absurd (cc)

-- ---- single trees

pub char_ahead : (char : ℕ) (f rest : Forest) → after_char char f ≡ Some rest → (l : Leaf) × (f ≡ leaf l rest)
char_ahead char none rest e = absurd (cc)
char_ahead char (leaf (punct p) more) rest e = (punct p, ap (leaf (punct p)) (if_some (p.char == char) more rest e))
char_ahead char (leaf (literal l) more) rest e = absurd (cc)
char_ahead char (leaf (ident i) more) rest e = absurd (cc)
char_ahead char (group d inside more) rest e = absurd (cc)

ident_ahead : (f : Forest) (i : Ident) → front_ident f ≡ Some i → (l : Leaf) × (f ≡ leaf l (rest_of f))
ident_ahead none i e = absurd (cc)
ident_ahead (leaf l rest) i e = (l, refl)
ident_ahead (group d inside rest) i e = absurd (cc)

pub group_ahead : (f inside : Forest) (d : Delimiter) → front_group f ≡ Some (d, inside) → f
    ≡ group d inside (rest_of f)
group_ahead none inside d e = absurd (cc)
group_ahead (leaf l rest) inside d e = absurd (cc)
group_ahead (group k content rest) inside d e =
    let same : (k, content) ≡ (d, inside) = cc in ap (λ (g : Delimiter × Forest). group g.0 g.1 rest) same

-- ---- paths

char_leaves : (char : ℕ) (f rest : Forest) → after_char char f ≡ Some rest → AheadLeaves f rest
char_leaves char f rest e = let a = char_ahead char f rest e in one f rest a.0 a.1

ident_leaves : (f : Forest) (i : Ident) → front_ident f ≡ Some i → AheadLeaves f (rest_of f)
ident_leaves f i e = let a = ident_ahead f i e in one f (rest_of f) a.0 a.1

colons_leaves : (f rest : Forest) → after_path_separator f ≡ Some rest → AheadLeaves f rest
colons_leaves f rest e =
    let a = then_some (after_char 58) (after_char 58 f) rest e in
    both f a.0 rest (char_leaves 58 f a.0 a.1) (char_leaves 58 a.0 rest a.2)

path_to_leaves : (is_path : Bool) (f : Forest) (p : Path) → path_of_name is_path f ≡ Some p → AheadLeaves f p.rest
path_to_leaves is_path f p e =
    let a = map_some (λ i. record { first = i; name = i; is_path = is_path; rest = rest_of f }) (front_ident f) p e in
    let same : rest_of f ≡ p.rest = ap (λ (q : Path). q.rest) a.2 in
    both f (rest_of f) p.rest (ident_leaves f a.0 a.1) (record { kept = []; is = same })

path_on_leaves : (first : Ident) (f : Forest) (p : Path) → path_with_next first f ≡ Some p → AheadLeaves f p.rest
path_on_leaves first f p e =
    let a = map_some (λ i. record { first = first; name = i; is_path = true; rest = rest_of f }) (front_ident f) p e in
    let same : rest_of f ≡ p.rest = ap (λ (q : Path). q.rest) a.2 in
    both f (rest_of f) p.rest (ident_leaves f a.0 a.1) (record { kept = []; is = same })

goes_on_leaves : (n : ℕ) (p q : Path) → ((r : Path) → longer n r ≡ Some q → AheadLeaves r.rest q.rest)
    → (o : Option Forest) → after_path_separator p.rest ≡ o → path_goes_further (longer n) p o ≡ Some q
    → AheadLeaves p.rest q.rest
goes_on_leaves n p q more None c e = let same : p ≡ q = cc in record { kept = []; is = ap (λ (r : Path). r.rest) same }
goes_on_leaves n p q more (Some after) c e =
    let a = then_some (longer n) (path_with_next p.first after) q e in
    both p.rest after q.rest (colons_leaves p.rest after c)
    (both after a.0.rest q.rest (path_on_leaves p.first after a.0 a.1) (more a.0 a.2))

longer_leaves : (n : ℕ) (q p : Path) → longer n p ≡ Some q → AheadLeaves p.rest q.rest
unfolding longer
longer_leaves zero q p e = let same : p ≡ q = cc in record { kept = []; is = ap (λ (r : Path). r.rest) same }
longer_leaves (suc n) q p e = goes_on_leaves n p q (longer_leaves n q) (after_path_separator p.rest) refl e

path_from_leaves : (f : Forest) (p : Path) (o : Option Forest) → after_path_separator f ≡ o → path_from f o ≡ Some p
    → AheadLeaves f p.rest
path_from_leaves f p None c e =
    let a = then_some full_path (path_of_name false f) p e in
    both f a.0.rest p.rest (path_to_leaves false f a.0 a.1) (longer_leaves (flat_len a.0.rest) p a.0 a.2)
path_from_leaves f p (Some after) c e =
    let a = then_some full_path (path_of_name true after) p e in
    both f after p.rest (colons_leaves f after c)
    (both after a.0.rest p.rest (path_to_leaves true after a.0 a.1) (longer_leaves (flat_len a.0.rest) p a.0 a.2))

-- ---- calls

-- leaves and the call's group
abbrev pub AheadCall : Forest → MacroCall → Type 0
AheadCall f c = AheadLeaves f (group c.delimiter c.argument c.rest)

call_with_ahead : (start : Span) (p : Path) (f : Forest) (c : MacroCall) → call_with_group start p f ≡ Some c
    → f ≡ group c.delimiter c.argument c.rest
call_with_ahead start p f c e =
    let made : Delimiter × Forest → MacroCall =
    λ g. record {
      first = p.first;
      name = p.name;
      is_path = p.is_path;
      delimiter = g.0;
      argument = g.1;
      rest = rest_of f;
      start = start;
      begin = start;
    } in
    let a = then_some (λ g. if is_visible g.0.kind then Some (made g) else None) (front_group f) c e in
    let same : made a.0 ≡ c = if_some (is_visible a.0.0.kind) (made a.0) c a.2 in
    group_ahead f a.0.1 a.0.0 a.1 ∙ ap (λ (k : MacroCall). group k.delimiter k.argument k.rest) same

call_by_ahead : (start : Span) (p : Path) (c : MacroCall) → call_of_path start p ≡ Some c → AheadCall p.rest c
call_by_ahead start p c e =
    let k = if_some_of (can_name_macro p.name.is_raw p.name.sym)
    (option_and_then (call_with_group start p) (after_char 33 p.rest)) c e in
    let a = then_some (call_with_group start p) (after_char 33 p.rest) c k in
    both p.rest a.0 (group c.delimiter c.argument c.rest) (char_leaves 33 p.rest a.0 a.1)
    (record { kept = []; is = call_with_ahead start p a.0 c a.2 })

call_of_ahead : (f : Forest) (c : MacroCall) → call_of f ≡ Some c → AheadCall f c
call_of_ahead f c e =
    let a = then_some (λ t. option_and_then (call_of_path (first_span t)) (path_of f)) (first f) c e in
    let b = then_some (call_of_path (first_span a.0)) (path_of f) c a.2 in
    both f b.0.rest (group c.delimiter c.argument c.rest) (path_from_leaves f b.0 (after_path_separator f) refl b.1)
    (call_by_ahead (first_span a.0) b.0 c b.2)

-- ---- definitions

semicolon_ahead : (f g : Forest) (o : Option Forest) → after_char 59 g ≡ o → Ahead f g → Ahead f (unwrap_or o g)
semicolon_ahead f g None e a = a
semicolon_ahead f g (Some rest) e a = let b = char_ahead 59 g rest e in with_leaf f g rest b.0 a b.1

after_rules_ahead : (kind : DelimiterKind) (f g : Forest) → Ahead f g → Ahead f (after_rules kind g)
after_rules_ahead Brace f g a = a
after_rules_ahead Parenthesis f g a = semicolon_ahead f g (after_char 59 g) refl a
after_rules_ahead Bracket f g a = semicolon_ahead f g (after_char 59 g) refl a
after_rules_ahead Invisible f g a = semicolon_ahead f g (after_char 59 g) refl a

-- the group at the front of g, after some leaves
group_after : (f g inside : Forest) (d : Delimiter) → AheadLeaves f g → front_group g ≡ Some (d, inside)
    → Ahead f (rest_of g)
group_after f g inside d a e =
    with_group f (rest_of g) inside d (both f g (group d inside (rest_of g)) a
    (record { kept = []; is = group_ahead g inside d e }))

ends_with : (f rest : Forest) (d e : MacroDefinition) → d ≡ e → Ahead f d.rest → Ahead f e.rest
ends_with f rest d e same a = record {
  kept = a.kept;
  is = a.is
      ∙ ap (λ (k : MacroDefinition). append a.kept k.rest) same;
  some = a.some;
}

rules_with_ahead : (f g : Forest) (name : Ident) (d : MacroDefinition) → AheadLeaves f g → macro_rules_with_name name g
    ≡ Some d
    → Ahead f d.rest
rules_with_ahead f g name d a e =
    let k = map_some _ (front_group g) d e in
    ends_with f g _ d k.2 (after_rules_ahead k.0.0.kind f (rest_of g) (group_after f g k.0.1 k.0.0 a k.1))

rules_of_ahead : (f g : Forest) (d : MacroDefinition) → AheadLeaves f g → macro_rules_definition g ≡ Some d
    → Ahead f d.rest
rules_of_ahead f g d a e =
    let k = then_some _ (after_char 33 g) d e in
    let i = then_some _ (front_ident k.0) d k.2 in
    rules_with_ahead f (rest_of k.0) i.0 d
    (both f g (rest_of k.0) a (both g k.0 (rest_of k.0) (char_leaves 33 g k.0 k.1) (ident_leaves k.0 i.0 i.1))) i.2

-- after a group, another one
template_ahead : (f g pattern : Forest) (name : Ident) (p : Delimiter) (d : MacroDefinition) → Ahead f g
    → macro_item_with_template name p pattern g ≡ Some d
    → Ahead f d.rest
template_ahead f g pattern name p d a e =
    let k = map_some _ (front_group g) d e in
    let more : Ahead g (rest_of g) = group_after g g k.0.1 k.0.0 (nothing g) k.1 in
    ends_with f g _ d k.2 (record {
      kept = append a.kept more.kept;
      is = a.is ∙ (ap (append a.kept) more.is ∙ sym (append_append a.kept more.kept (rest_of g)));
      some = let n = flat_append a.kept more.kept in let h = a.some in omega (arith, n, h);
    })

body_ahead : (kind : DelimiterKind) (f g inside : Forest) (name : Ident) (k : Delimiter) (d : MacroDefinition)
    → Ahead f g
    → macro_item_with_group name kind k inside g ≡ Some d → Ahead f d.rest
body_ahead Brace f g inside name k d a e =
    let same : record {
      name = name;
      form = Rattle.mbe_rewriter.specs.MacroItems.Body;
      delimiter = k;
      rules = inside;
      rest = g;
    } ≡ d = cc in ends_with f g _ d same a
body_ahead Parenthesis f g inside name k d a e = template_ahead f g inside name k d a e
body_ahead Bracket f g inside name k d a e = template_ahead f g inside name k d a e
body_ahead Invisible f g inside name k d a e = template_ahead f g inside name k d a e

item_of_ahead : (f g : Forest) (d : MacroDefinition) → AheadLeaves f g → macro_item_definition g ≡ Some d
    → Ahead f d.rest
item_of_ahead f g d a e =
    let i = then_some _ (front_ident g) d e in
    let k = then_some _ (front_group (rest_of g)) d i.2 in
    body_ahead k.0.0.kind f (rest_of (rest_of g)) k.0.1 i.0 k.0.0 d
    (group_after f (rest_of g) k.0.1 k.0.0 (both f g (rest_of g) a (ident_leaves g i.0 i.1)) k.1) k.2

-- after a module
word_leaves : (word : List ℕ) (f rest : Forest) → after_word word f ≡ Some rest → AheadLeaves f rest
word_leaves word f rest e =
    let i = then_some _ (front_ident f) rest e in
    let same = if_some (bytes_eq i.0.sym word) (rest_of f) rest i.2 in
    let a = ident_ahead f i.0 i.1 in
    one f rest a.0 (a.1 ∙ ap (leaf a.0) same)

in_braces : (kind : DelimiterKind) (m x : ModuleItem) → module_in kind m ≡ Some x → m ≡ x
in_braces Brace m x e = cc
in_braces Parenthesis m x e = absurd (cc)
in_braces Bracket m x e = absurd (cc)
in_braces Invisible m x e = absurd (cc)

module_ends : (f : Forest) (m x : ModuleItem) → m ≡ x → Ahead f m.rest → Ahead f x.rest
module_ends f m x same a = record {
  kept = a.kept;
  is = a.is
      ∙ ap (λ (k : ModuleItem). append a.kept k.rest) same;
  some = a.some;
}

named_module_ahead : (f g : Forest) (name : Ident) (x : ModuleItem) → AheadLeaves f g
    → module_with_name name g ≡ Some x
    → Ahead f x.rest
named_module_ahead f g name x a e =
    let k = then_some _ (front_group g) x e in
    module_ends f _ x (in_braces k.0.0.kind _ x k.2) (group_after f g k.0.1 k.0.0 a k.1)

pub module_ahead : (f : Forest) (x : ModuleItem) → module_at f ≡ Some x → Ahead f x.rest
module_ahead f x e =
    let g = then_some _ (after_word (codes "mod") f) x e in
    let i = then_some _ (front_ident g.0) x g.2 in
    named_module_ahead f (rest_of g.0) i.0 x
    (both f g.0 (rest_of g.0) (word_leaves (codes "mod") f g.0 g.1) (ident_leaves g.0 i.0 i.1)) i.2

defined_ahead : (r m : Bool) (f g : Forest) (d : MacroDefinition) → AheadLeaves f g
    → (if r then macro_rules_definition g else if m then macro_item_definition g else None) ≡ Some d → Ahead f d.rest
defined_ahead true m f g d a e = rules_of_ahead f g d a e
defined_ahead false true f g d a e = item_of_ahead f g d a e
defined_ahead false false f g d a e = absurd (cc)

raw_ahead : (raw : IdentIsRaw) (word : List ℕ) (f g : Forest) (d : MacroDefinition) → AheadLeaves f g
    → defined_after raw word g ≡ Some d → Ahead f d.rest
raw_ahead Yes word f g d a e = absurd (cc)
raw_ahead No word f g d a e = defined_ahead (is_text word (codes "macro_rules")) (is_text word (codes "macro")) f g d a
    e

definition_ahead : (f : Forest) (d : MacroDefinition) → definition_of f ≡ Some d → Ahead f d.rest
definition_ahead f d e =
    let i = then_some _ (front_ident f) d e in raw_ahead i.0.is_raw i.0.sym f (rest_of f) d (ident_leaves f i.0 i.1) i.2

-- ---- fronts

tree_ahead : (f rest : Forest) (t : Tree) → tree_front f (first f) ≡ Other t rest → f ≡ tree t rest
tree_ahead none rest t e = absurd (cc)
tree_ahead (leaf l more) rest t e =
    let same : Other (Leaf_tree l) more ≡ Other t rest = e in let a : Leaf_tree l ≡ t = cc in let b : more ≡ rest =
    cc in
    ap (leaf l) b ∙ ap (λ k. tree k rest) a
tree_ahead (group d inside more) rest t e =
    let same : Other (Group_tree d inside) more ≡ Other t rest = e in let a : Group_tree d inside ≡ t =
    cc in let b : more ≡ rest = cc in
    ap (group d inside) b ∙ ap (λ k. tree k rest) a

no_definition : (f : Forest) (d : MacroDefinition) (o : Option MacroCall) → call_front f o ≡ Definition d → ⊥
no_definition none d None e = absurd (cc)
no_definition (leaf l rest) d None e = absurd (cc)
no_definition (group k inside rest) d None e = absurd (cc)
no_definition f d (Some c) e = absurd (cc)

no_call : (f : Forest) (c : MacroCall) → tree_front f (first f) ≡ CallItem c → ⊥
no_call none c e = absurd (cc)
no_call (leaf l rest) c e = absurd (cc)
no_call (group k inside rest) c e = absurd (cc)

definition_by : (f : Forest) (d : MacroDefinition) (o : Option MacroDefinition) → definition_of f ≡ o → front_with f o
    ≡ Definition d
    → Ahead f d.rest
definition_by f d None c e = absurd (no_definition f d (call_of f) e)
definition_by f d (Some k) c e = let same : k ≡ d = cc in definition_ahead f d (c ∙ ap Some same)

pub front_definition : (f : Forest) (d : MacroDefinition) → front f ≡ Definition d → Ahead f d.rest
front_definition f d e = definition_by f d (definition_of f) refl e

call_by_front : (f : Forest) (c : MacroCall) (o : Option MacroDefinition) (p : Option MacroCall) → call_of f ≡ p
    → front_with f o ≡ CallItem c
    → call_front f p ≡ call_front f (call_of f) → AheadCall f c
call_by_front f c (Some d) p q e s = absurd (cc)
call_by_front f c None None q e s = absurd (no_call f c (s ∙ e))
call_by_front f c None (Some k) q e s = let same : k ≡ c =
    (let h : CallItem k ≡ CallItem c = s ∙ e in cc) in call_of_ahead f c (q ∙ ap Some same)

pub front_call : (f : Forest) (c : MacroCall) → front f ≡ CallItem c → AheadCall f c
front_call f c e = call_by_front f c (definition_of f) (call_of f) refl e refl

pub call_ahead : (f : Forest) (c : MacroCall) → front f ≡ CallItem c → Ahead f c.rest
call_ahead f c e = with_group f c.rest c.argument c.delimiter (front_call f c e)

tree_by_front : (f rest : Forest) (t : Tree) (o : Option MacroDefinition) (p : Option MacroCall) → call_of f ≡ p
    → front_with f o ≡ Other t rest → f ≡ tree t rest
tree_by_front f rest t (Some d) p q e = absurd (cc)
tree_by_front f rest t None (Some c) q e = let h : CallItem c ≡ Other t rest =
    sym (ap (call_front f) q) ∙ e in absurd (cc)
tree_by_front f rest t None None q e = tree_ahead f rest t (sym (ap (call_front f) q) ∙ e)

pub front_tree : (f rest : Forest) (t : Tree) → front f ≡ Other t rest → f ≡ tree t rest
front_tree f rest t e = tree_by_front f rest t (definition_of f) (call_of f) refl e

end_ahead : (f : Forest) → tree_front f (first f) ≡ End → f ≡ none
end_ahead none e = refl
end_ahead (leaf l rest) e = absurd (cc)
end_ahead (group d inside rest) e = absurd (cc)

end_by_front : (f : Forest) (o : Option MacroDefinition) (p : Option MacroCall) → call_of f ≡ p → front_with f o ≡ End
    → f ≡ none
end_by_front f (Some d) p q e = absurd (cc)
end_by_front f None (Some c) q e = let h : CallItem c ≡ End = sym (ap (call_front f) q) ∙ e in absurd (cc)
end_by_front f None None q e = end_ahead f (sym (ap (call_front f) q) ∙ e)

pub front_end : (f : Forest) → front f ≡ End → f ≡ none
front_end f e = end_by_front f (definition_of f) (call_of f) refl e

-- the front that a call shows
pub front_is : {X : Type 0} (shown : X → FrontItem) (r x : X) (f : Forest) → shown r ≡ front f → r ≡ x → front f
    ≡ shown x
front_is shown r x f e h = sym e ∙ ap shown h
