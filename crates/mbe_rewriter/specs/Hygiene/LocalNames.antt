-- Which locals and labels are renamed, and their new names.
use Rattle.std.specs.Prelude.{◌≡◌, ◌<◌, ℕ, zero, suc, ◌+◌, ◌-◌, ◌^◌, Bool, true, false, not, ◌==◌}
use Rattle.std.specs.Prelude.{◌&&◌, ◌||◌, if◌then◌else◌, codes, decimal, List, [], ◌∷◌, ◌++◌}
use Rattle.std.specs.Prelude.{Option, Some, None, nat_lt, length, unwrap_or}
use Rattle.std.specs.List.{slice_get}
use Rattle.std.specs.Str.{bytes_eq}
use Rattle.mbe_tt.specs.Trees.Leaf.{Leaf, literal, punct, ident}
use Rattle.mbe_tt.specs.declared.span.Span.{Span}
use Rattle.mbe_rewriter.specs.declared.hygiene.local_names.UndecidedUse.{UndecidedUse}
use Rattle.mbe_rewriter.specs.declared.hygiene.local_names.BindingState.{BindingState}
use Rattle.mbe_rewriter.specs.declared.hygiene.local_names.BindingState.TheVariants as progress
use Rattle.mbe_rewriter.specs.declared.hygiene.scan_state.TokenRole.{TokenRole}
use Rattle.mbe_rewriter.specs.declared.hygiene.scan_state.TokenRole.TheVariants.{Other, Used, Bound}
use Rattle.mbe_rewriter.specs.declared.hygiene.scan_state.TokenRole.TheVariants.{Late, Shorthand}
use Rattle.mbe_rewriter.specs.declared.hygiene.scan_state.TokenRole.TheVariants.{Unsure, Label}
use Rattle.mbe_rewriter.specs.declared.hygiene.scan_state.TokenRole.TheVariants.{Jump, Text, Inner}
use Rattle.mbe_rewriter.specs.declared.hygiene.scan_state.TokenRole.TheVariants.{InnerLabel, Begin}
use Rattle.mbe_rewriter.specs.declared.hygiene.scan_state.TokenRole.TheVariants.{End, Enter, Body}
use Rattle.mbe_rewriter.specs.declared.hygiene.scan_state.TokenRole.TheVariants.{Leave, Next}
use Rattle.mbe_rewriter.specs.Hygiene.FormatNames.{format_names}
use Rattle.mbe_rewriter.specs.Hygiene.Roles.{inner_role}
use Rattle.mbe_rewriter.specs.Hygiene.TreeEvents.{TreeEvent, token, opening, closing}

-- A word of the trees, or another token that matters to locals. Such a token is a name that a
-- string mentions, the end of a value or of an arm, or the beginning or the end of a group.
pub record Word : Type 0 where
  pub text : List ℕ
  pub span : Span
  pub role : TokenRole

abbrev pub word : List ℕ → Span → TokenRole → Word
word text span role = record { text = text; span = span; role = role }

-- ---- roles

abbrev pub is_string_role : TokenRole → Bool
is_string_role Text = true
is_string_role _ = false

abbrev pub is_local : TokenRole → Bool
is_local Used = true
is_local Bound = true
is_local Late = true
is_local Shorthand = true
is_local Unsure = true
is_local _ = false

abbrev pub is_label : TokenRole → Bool
is_label Label = true
is_label Jump = true
is_label _ = false

-- The word is not the context's own.
abbrev pub is_nested_role : TokenRole → Bool
is_nested_role Inner = true
is_nested_role InnerLabel = true
is_nested_role _ = false

-- Both are locals, or both are labels.
abbrev pub is_same_namespace : TokenRole → TokenRole → Bool
is_same_namespace r q = is_local r && is_local q || is_label r && is_label q

abbrev pub binds_role : TokenRole → Bool
binds_role Bound = true
binds_role Late = true
binds_role Shorthand = true
binds_role Label = true
binds_role _ = false

-- ---- rules of macros, and their steps

abbrev pub is_inner_role : TokenRole → Bool
is_inner_role Inner = true
is_inner_role InnerLabel = true
is_inner_role _ = false

-- Which steps wrote the macros of which steps.
pub record ContextParents : Type 0 where
  -- For each context of a step, from 1 on, the context that the macro's token had. It is 0 in a
  -- file.
  pub contexts : List ℕ
  -- Contexts up to this one belong to earlier calls.
  pub mark : ℕ

abbrev pub context_before : List ℕ → ℕ → ℕ
context_before contexts n = unwrap_or (slice_get contexts (n - 1)) 0

-- A word as the step of that context sees it.
abbrev pub inner_word : Word → ℕ → Word
inner_word w outer = word w.text (record w.span { ctx = record { 0 = outer } }) (inner_role w.role)

-- A word for each step that made the context `n`, from the inner to the outer steps, down to the
-- mark.
unfoldable pub outer_words : ContextParents → Word → ℕ → ℕ → List Word
outer_words ns w zero n = []
outer_words ns w (suc left) n =
    if nat_lt ns.mark (context_before ns.contexts n)
    then inner_word w (context_before ns.contexts n)
    ∷ outer_words ns w left (context_before ns.contexts n)
    else []

-- The word once more for each step whose locals it may know.
abbrev pub inner_words : ContextParents → Word → List Word
inner_words ns w =
    if is_nested_role (inner_role w.role) && nat_lt ns.mark (w.span.ctx).0
    then outer_words ns w (length ns.contexts) (w.span.ctx).0
    else []

-- A word of a macro's rules, as a word that is no local.
abbrev pub words_of_rules : Word → List Word
words_of_rules w = if is_inner_role w.role then word w.text w.span Other ∷ [] else []

abbrev pub with_inner : ContextParents → Word → List Word
with_inner ns w = w ∷ (words_of_rules w ++ inner_words ns w)

-- ---- words

-- A value or an arm ends, or a group begins or ends.
abbrev pub is_boundary : TokenRole → Bool
is_boundary End = true
is_boundary Enter = true
is_boundary Body = true
is_boundary Leave = true
is_boundary Next = true
is_boundary _ = false

-- A token that is no word, if it matters to locals.
abbrev pub boundary_words : Span → TokenRole → List Word
boundary_words span r = if is_boundary r then word [] span r ∷ [] else []

-- A string's names, each with the string's span.
abbrev pub text_words : ContextParents → Span → List (List ℕ) → List Word
text_words ns span [] = []
text_words ns span (n ∷ names) = with_inner ns (word n span Text) ++ text_words ns span names

abbrev pub leaf_words : ContextParents → Leaf → TokenRole → List Word
leaf_words ns (ident i) r = with_inner ns (word i.sym i.span r)
leaf_words ns (literal l) r =
    if is_string_role r then text_words ns l.span (format_names l.text_and_suffix) else []
leaf_words ns (punct p) r = boundary_words p.span r

abbrev pub event_words : ContextParents → TreeEvent → List Word
event_words ns (token l r) = leaf_words ns l r
event_words ns (opening k span r) = boundary_words span r
event_words ns (closing span r) = boundary_words span r

-- The words of steps, and the names that their strings mention.
abbrev pub words : ContextParents → List TreeEvent → List Word
words ns [] = []
words ns (x ∷ xs) = event_words ns x ++ words ns xs

-- A word's context says which step it belongs to.
abbrev pub context : Word → ℕ
context w = (w.span.ctx).0

-- The two are the same local, or the same label: they have one name and one context.
abbrev pub is_same : Word → Word → Bool
is_same v w = is_same_namespace v.role w.role && (context v == context w && bytes_eq v.text w.text)

-- A step binds the word. Context 0 is the context of the text itself.
abbrev pub is_binding : Word → Bool
is_binding w = binds_role w.role && not (context w == 0)

abbrev pub contains_word : List Word → Word → Bool
contains_word [] w = false
contains_word (v ∷ vs) w = is_same v w || contains_word vs w

abbrev pub with_local : List Word → Word → List Word
with_local found w = if is_binding w && not (contains_word found w) then found
    ++ (w ∷ []) else found

-- What steps bind, each local or label by its first binding.
abbrev pub locals_from : List Word → List Word → List Word
locals_from found [] = found
locals_from found (w ∷ ws) = locals_from (with_local found w) ws

abbrev pub locals : List Word → List Word
locals ws = locals_from [] ws

-- ---- which names are shared

-- The word has that text.
abbrev pub is_written : Word → List ℕ → Bool
is_written v text = not (is_nested_role v.role) && bytes_eq v.text text

-- The first word has the other's name and another context.
abbrev pub is_other : Word → Word → Bool
is_other v w = is_written v w.text && not (context v == context w)

abbrev pub has_other : List Word → Word → Bool
has_other [] w = false
has_other (v ∷ vs) w = is_other v w || has_other vs w

abbrev pub contains_name : List (List ℕ) → List ℕ → Bool
contains_name [] text = false
contains_name (t ∷ ts) text = bytes_eq t text || contains_name ts text

-- A word of another context has the local's name, or one of the names around the trees is the
-- local's.
abbrev pub is_shared : List Word → List (List ℕ) → Word → Bool
is_shared ws names w = has_other ws w || contains_name names w.text

-- ---- what can't be decided

abbrev pub is_bound : BindingState → Bool
is_bound (progress.Bound d) = true
is_bound _ = false

-- The local's pattern has begun, and its scope hasn't ended.
abbrev pub is_in_scope : BindingState → Bool
is_in_scope progress.Unbound = false
is_in_scope _ = true

-- The word may be a field too, or is one. Or it is a use before the name is bound, which means
-- something else.
abbrev pub is_undecided_role : BindingState → TokenRole → Bool
is_undecided_role p Unsure = true
is_undecided_role p Shorthand = true
is_undecided_role p Used = not (is_bound p)
is_undecided_role p Jump = not (is_bound p)
is_undecided_role p _ = false

abbrev pub is_inner : TokenRole → TokenRole → Bool
is_inner Text r = is_local r
is_inner Inner r = is_local r
is_inner InnerLabel r = is_label r
is_inner _ r = false

-- The word may be the local: it is a name in a string, or a word of a macro's rules or of an inner
-- step.
abbrev pub may_be_local : Word → Word → Bool
may_be_local w v = is_inner v.role w.role && (context w == context v && bytes_eq w.text v.text)

abbrev pub is_undecided_use : Word → BindingState → Word → Bool
is_undecided_use w p v = is_same w v && is_undecided_role p v.role || may_be_local w v

-- One more. The greatest number stands for all greater ones.
abbrev pub one_more : ℕ → ℕ
one_more n = if n == 4294967295 then n else n + 1

-- The state after the end of a value. The second number counts the groups around the next token.
abbrev pub ended : ℕ → ℕ → BindingState
ended n d = if n == 0 then progress.Bound 0 else progress.Later (n - 1) d

abbrev pub later_after_closing : ℕ → ℕ → BindingState
later_after_closing n d = if d == 0 then progress.Unbound else progress.Later n (d - 1)

-- A local that an inner pattern binds counts as bound up to the end of the value's group.
abbrev pub later_after_binding : ℕ → ℕ → Bool → BindingState
later_after_binding n d same = if same then progress.Bound d else progress.Later n d

-- The state after a word of that role, in the value that belongs to the local's pattern.
abbrev pub later : ℕ → ℕ → Bool → TokenRole → BindingState
later n d same Begin = progress.Later (one_more n) d
later n d same End = ended n d
later n d same Enter = progress.Later n (one_more d)
later n d same Body = ended n (one_more d)
later n d same Leave = later_after_closing n d
later n d same Bound = later_after_binding n d same
later n d same Shorthand = later_after_binding n d same
later n d same Label = later_after_binding n d same
later n d same _ = progress.Later n d

abbrev pub bound_after_closing : ℕ → BindingState
bound_after_closing d = if d == 0 then progress.Unbound else progress.Bound (d - 1)

-- A local may be that arm's, if it is bound in no group of the arm and not before the `match`.
abbrev pub bound_after_arm : ℕ → BindingState
bound_after_arm d = if d == 0 then progress.Unbound else progress.Bound d

-- The state of a bound local after a word of that role.
abbrev pub bound : ℕ → TokenRole → BindingState
bound d Enter = progress.Bound (one_more d)
bound d Body = progress.Bound (one_more d)
bound d Leave = bound_after_closing d
bound d Next = bound_after_arm d
bound d _ = progress.Bound d

abbrev pub bound_by : TokenRole → BindingState
bound_by Bound = progress.Bound 0
bound_by Shorthand = progress.Bound 0
bound_by Label = progress.Bound 0
bound_by Late = progress.Later 0 0
bound_by _ = progress.Unbound

abbrev pub unbound : Bool → TokenRole → BindingState
unbound same r = if not same then progress.Unbound else bound_by r

-- Whether the local is bound after that word.
abbrev pub after_word : Word → BindingState → Word → BindingState
after_word w progress.Unbound v = unbound (is_same w v) v.role
after_word w (progress.Later n d) v = later n d (is_same w v) v.role
after_word w (progress.Bound d) v = bound d v.role

-- A value, an arm or a group begins or ends.
abbrev pub is_edge : TokenRole → Bool
is_edge Begin = true
is_edge r = is_boundary r

-- The word has the local's context, or a value, an arm or a group begins or ends there. No other
-- word changes anything.
abbrev pub is_relevant : Word → Word → Bool
is_relevant w v = context w == context v || is_edge v.role

abbrev pub undecided_use_at : Word → BindingState → Word → List UndecidedUse
undecided_use_at w p v = if is_undecided_use w p v then record { bound = w.span; place = v.span }
    ∷ [] else []

-- The uses for which it isn't decided whether they are that local.
abbrev pub undecided_uses : Word → BindingState → List Word → List UndecidedUse
undecided_uses w p [] = []
undecided_uses w p (v ∷ vs) = undecided_use_at w p v ++ undecided_uses w (after_word w p v) vs

-- There is such a use.
abbrev pub has_undecided_use : Word → BindingState → List Word → Bool
has_undecided_use w p [] = false
has_undecided_use w p (v ∷ vs) = is_undecided_use w p v || has_undecided_use w (after_word w p v) vs

-- A token of another context has the local's name in the local's scope, or a name around the trees
-- is in that scope. Only such a token meets a local that keeps its name.
abbrev pub is_met : List (List ℕ) → Word → BindingState → List Word → Bool
is_met names w p [] = is_in_scope p && contains_name names w.text
is_met names w p (v ∷ vs) = is_in_scope p && is_other v w || is_met names w (after_word w p v) vs

-- The local keeps its name where it meets another of that name.
abbrev pub is_in_doubt : List Word → List (List ℕ) → Word → Bool
is_in_doubt ws names w =
    is_shared ws names w
    && (has_undecided_use w progress.Unbound ws && is_met names w progress.Unbound ws)

abbrev pub undecided_uses_of : List Word → List (List ℕ) → Word → List UndecidedUse
undecided_uses_of ws names w =
    if is_in_doubt ws names w then undecided_uses w progress.Unbound ws else []

abbrev pub undecided_of : List Word → List (List ℕ) → List Word → List UndecidedUse
undecided_of ws names [] = []
undecided_of ws names (w ∷ more) = undecided_uses_of ws names w ++ undecided_of ws names more

-- The uses that keep locals from being renamed, where such a local meets another of its name.
abbrev pub undecided : List Word → List (List ℕ) → List UndecidedUse
undecided ws names = undecided_of ws names (locals ws)

-- ---- new names

-- A local and its new name.
pub record Naming : Type 0 where
  pub local : Word
  pub name : List ℕ

abbrev pub naming : Word → List ℕ → Naming
naming w name = record { local = w; name = name }

abbrev pub is_word : List Word → List ℕ → Bool
is_word [] text = false
is_word (v ∷ vs) text = is_written v text || is_word vs text

abbrev pub is_given : List Naming → List ℕ → Bool
is_given [] text = false
is_given (n ∷ ns) text = bytes_eq n.name text || is_given ns text

-- The trees, what is around them, or a local that was renamed before has that name.
abbrev pub is_taken : List Word → List (List ℕ) → List Naming → List ℕ → Bool
is_taken ws names given text = is_word ws text || (contains_name names text || is_given given text)

-- How many of these locals had that name.
abbrev pub count_named : List Naming → List ℕ → ℕ
count_named [] text = 0
count_named (n ∷ ns) text =
    if bytes_eq n.local.text text then suc (count_named ns text) else count_named ns text

-- `a_1`
abbrev pub numbered : List ℕ → ℕ → List ℕ
numbered text n = text ++ (codes "_" ++ decimal n)

-- The first of `k` names that isn't taken, from the number `n` on.
unfoldable pub first_free : (List ℕ → Bool) → List ℕ → ℕ → ℕ → List ℕ
first_free taken text zero n = numbered text n
first_free taken text (suc k) n =
    if taken (numbered text n) then first_free taken text k (suc n) else numbered text n

-- The first of `a_1`, `a_2` and so on that isn't taken.
unfoldable pub fresh : List Word → List (List ℕ) → List Naming → List ℕ → List ℕ
fresh ws names given text = first_free (is_taken ws names given) text (2 ^ 64 - 2) 1

-- For each name, its first numbers are taken, as many as locals have had that name.
abbrev pub AreTaken : List Word → List (List ℕ) → List Naming → Type 0
AreTaken ws names given =
    (text : List ℕ) (n : ℕ) → n < count_named given text → n < 2 ^ 64 - 2
    → is_taken ws names given (numbered text (1 + n)) ≡ true

-- A local is renamed if its name is shared, and if each of its possible uses is decided.
abbrev pub is_renamed : List Word → List (List ℕ) → Word → Bool
is_renamed ws names w = is_shared ws names w && not (has_undecided_use w progress.Unbound ws)

abbrev pub with_name : List Word → List (List ℕ) → List Naming → Word → List Naming
with_name ws names given w =
    if is_renamed ws names w then given ++ (naming w (fresh ws names given w.text) ∷ []) else given

abbrev pub names_from : List Word → List (List ℕ) → List Naming → List Word → List Naming
names_from ws names given [] = given
names_from ws names given (w ∷ more) = names_from ws names (with_name ws names given w) more

-- The locals that are renamed, with their new names.
abbrev pub namings : List Word → List (List ℕ) → List Naming
namings ws names = names_from ws names [] (locals ws)

-- ---- names of words

-- The new name of a word, if it gets one.
abbrev pub name_in : List Naming → Word → Option (List ℕ)
name_in [] w = None
name_in (n ∷ ns) w = if is_same n.local w then Some n.name else name_in ns w

abbrev pub or_own : List ℕ → Option (List ℕ) → List ℕ
or_own text None = text
or_own text (Some name) = name

-- The name that a word has after renaming.
abbrev pub new_name : List Naming → Word → List ℕ
new_name given w = or_own w.text (name_in given w)
