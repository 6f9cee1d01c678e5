-- The trees of crates, and their parts.
use Rattle.std.proofs.Common.{◌≡◌, ◌<◌, ◌≤◌, ◌+◌, ◌-◌, ℕ, Bool, true, false, List, [], ◌∷◌, ◌++◌, length, map, take}
use Rattle.std.proofs.Common.{drop, get_or, Option, Some, None, Result, Ok, Err, refl, ap, sym, ◌∙◌, subst, append-nil}
use Rattle.std.proofs.Common.{append_assoc, arith}
use Rattle.std.specs.Prelude.{IfNone, IfOk, IfSome, OnOk, is_ok, is_some, not, option_and_then, option_map}
use Rattle.std.specs.Prelude.{if◌then◌else◌}
use Rattle.std.specs.List.{All, slice_get}
use Rattle.std.proofs.lemmas.Option.{IfSome_then, slice_get-map, slice_get_past, slice_get_read}
use Rattle.std.proofs.lemmas.List.{length-map, length-take, map-append, take_rest}
use Rattle.std.proofs.lemmas.List.Elements.{filter-append}
use Rattle.mbe_rewriter.specs.Splice.{SplicedPart}
use Rattle.mbe_tt.specs.Trees.Top.{Top}
use Rattle.mbe_session.specs.CallExpansion.{Setting, State}
use Rattle.mbe_cfg.specs.CrateExports.Exports.{Export, exports_of}
use Rattle.mbe_session.specs.Linker.{linked}
use Rattle.mbe_session.specs.CallReplacements.{Adds, IsOfCall, NoneCalled, PartsOfFile}
use Rattle.mbe_session.specs.Collector.{Defines, DefinesExternCrate}
use Rattle.mbe_session.specs.Scopes.{Definition, Scope, Language}
use Rattle.mbe_cfg.specs.Crates.ModuleInliner.{crate_tree}
use Rattle.mbe_cfg.specs.Files.ModuleDirs.{in_file}
use Rattle.mbe_session.specs.declared.locations.CallPosition.{CallPosition}
use Rattle.mbe_session.specs.CrateTrees.{crate_at, crate_of, file_of, is_followed}
use Rattle.mbe_session.specs.FileExpansion as spec
use Rattle.mbe_session.specs.FileExpansion.{CrateParts, CratesParts, DefinesCrate, DefinesCrates, DefinesExtern}
use Rattle.mbe_session.specs.FileExpansion.{DefinesExterns, FileAtExpands, FileExpands, FilesExpand, LoadsExterns, RootExpands}
use Rattle.mbe_session.specs.FileExpansion.{TextExpands, TreeExpands, exports_at, exports_from, is_in, replacements_in}
use Rattle.mbe_session.specs.DollarCrate.{replace_dollar_crate}
use Rattle.mbe_session.specs.Sources.{Source}
use Rattle.mbe_session.proofs.SessionLemmas.{map_taken}

pub always : {X : Type 0} (o : Option X) (P : X → Type 0) → ((x : X) → P x) → IfSome o P
always None P h = tt
always (Some x) P h = h x

pub nothing_anyway : {X : Type 0} (o : Option X) (P : Type 0) → P → IfNone o P
nothing_anyway None P p = p
nothing_anyway (Some x) P p = tt

pub none_is : {X : Type 0} (o : Option X) → ((x : X) → o ≡ Some x → ⊥) → o ≡ None
none_is None h = refl
none_is (Some x) h = absurd (h x refl)

seen_there : {X : Type 0} (see : X → Source) (files : List X) (n : ℕ) (file : X) → n < length files
    → file ≡ get_or files n file → slice_get (map see files) n ≡ Some (see file)
seen_there see files n file h is =
    slice_get-map see files n ∙ ap (option_map see) (slice_get_read files (length files) n file refl h is)

none_there : {X : Type 0} (see : X → Source) (files : List X) (n : ℕ) → length files ≤ n
    → slice_get (map see files) n ≡ None
none_there see files n h = slice_get-map see files n ∙ ap (option_map see) (slice_get_past files n h)

-- ---- the tree of a crate

pub no_tree : (with_modules : Bool) (files : List Source) (n : ℕ) (root : Source)
    → ((tree : Top) → root.tree ≡ Some tree → ⊥) → crate_of with_modules files n root ≡ None
no_tree with_modules files n root h = ap (option_map (λ tree. if is_followed with_modules root.path
    then crate_tree (map file_of files) n (in_file root.path None) tree else tree)) (none_is root.tree h)

pub own_tree : (with_modules : Bool) (files : List Source) (n : ℕ) (root : Source) (tree : Top) → root.tree ≡ Some tree
    → is_followed with_modules root.path ≡ false → crate_of with_modules files n root ≡ Some tree
own_tree with_modules files n root tree e f =
    ap (option_map (λ t. if is_followed with_modules root.path
    then crate_tree (map file_of files) n (in_file root.path None) t else t)) e
    ∙ ap (λ b. Some (if b then crate_tree (map file_of files) n (in_file root.path None) tree else tree)) f

pub whole_tree : (with_modules : Bool) (files : List Source) (n : ℕ) (root : Source) (tree whole : Top)
    → root.tree ≡ Some tree → is_followed with_modules root.path ≡ true
    → whole ≡ crate_tree (map file_of files) n (in_file root.path None) tree
    → crate_of with_modules files n root ≡ Some whole
whole_tree with_modules files n root tree whole e t w =
    ap (option_map (λ t. if is_followed with_modules root.path
    then crate_tree (map file_of files) n (in_file root.path None) t else t)) e
    ∙ ap (λ b. Some (if b then crate_tree (map file_of files) n (in_file root.path None) tree else tree)) t
    ∙ ap Some (sym w)

pub tree_there : {X : Type 0} (see : X → Source) (with_modules : Bool) (files : List X) (n : ℕ) (file : X)
    → n < length files → file ≡ get_or files n file
    → crate_at with_modules (map see files) n ≡ crate_of with_modules (map see files) n (see file)
tree_there see with_modules files n file h is =
    ap (option_and_then (crate_of with_modules (map see files) n)) (seen_there see files n file h is)

pub no_tree_there : {X : Type 0} (see : X → Source) (with_modules : Bool) (files : List X) (n : ℕ)
    → length files ≤ n → crate_at with_modules (map see files) n ≡ None
no_tree_there see with_modules files n h =
    ap (option_and_then (crate_of with_modules (map see files) n)) (none_there see files n h)

-- ---- its definitions

pub no_definitions : (c : Option Top) (e : Language) (levels : ℕ) (s : Scope) → c ≡ None → DefinesCrate e levels c s s
no_definitions c e levels s is = subst (λ x. DefinesCrate e levels x s s) (sym is) refl

pub some_definitions : {X E : Type 0} (r : Result X E) (c : Option Top) (tree : Top) (e : Language) (levels : ℕ)
    (s t : Scope) → c ≡ Some tree → OnOk r (Defines e levels true tree.1 s t) → OnOk r (DefinesCrate e levels c s t)
some_definitions r c tree e levels s t is h = subst (λ x. OnOk r (DefinesCrate e levels x s t)) (sym is) h

pub one_more_defined : (e d : Language) (levels : ℕ) (with_modules : Bool) (files : List Source) (n : ℕ) (s t u : Scope)
    → DefinesCrates e levels with_modules files s n t → e ≡ d
    → DefinesCrate d levels (crate_at with_modules files n) t u
    → DefinesCrates e levels with_modules files s (n + 1) u
one_more_defined e d levels with_modules files n s t u before same one =
    spec.one_crate_more n t u before
    (subst (λ x. DefinesCrate x levels (crate_at with_modules files n) t u) (sym same) one)

-- ---- the definitions of other crates

pub no_others : (c : Option Top) (e : Language) (levels : ℕ) (name : List ℕ) (s : Scope) → None ≡ c
    → DefinesExtern e levels name c s s
no_others c e levels name s is = subst (λ x. DefinesExtern e levels name x s s) is refl

pub some_others : {X E : Type 0} (r : Result X E) (c : Option Top) (tree : Top) (e : Language) (levels : ℕ)
    (name : List ℕ) (s t : Scope) → Some tree ≡ c
    → OnOk r (DefinesExternCrate e levels name (replace_dollar_crate name tree).1 s t)
    → OnOk r (DefinesExtern e levels name c s t)
some_others r c tree e levels name s t is h = subst (λ x. OnOk r (DefinesExtern e levels name x s t)) is h

pub none_other : {X : Type 0} (e : Language) (levels : ℕ) (with_modules : Bool) (files : List Source) (n : ℕ)
    (s : Scope)
    (name : X → List ℕ) (all : List X) → length all < 1
    → DefinesExterns e levels with_modules files n s (map name all) s
none_other e levels with_modules files n s name [] few = spec.no_other n s
none_other e levels with_modules files n s name (x ∷ xs) few = absurd (omega (arith, few))

other_added : {X R S : Type 0} (e d : Language) (levels : ℕ) (with_modules : Bool) (files : List Source) (n : ℕ)
    (s t u : Scope) (name : X → List ℕ) (r : Result R S) (all : List X) (none : X) → d ≡ e → 1 ≤ length all
    → DefinesExtern e levels (name (get_or all 0 none)) (crate_at with_modules files n) s t
    → OnOk r (DefinesExterns d levels with_modules files (n + 1) t (map name (drop 1 all)) u)
    → OnOk r (DefinesExterns e levels with_modules files n s (map name all) u)
other_added e d levels with_modules files n s t u name r [] none same some one more = absurd (omega (arith, some))
other_added e d levels with_modules files n s t u name (Ok v) (x ∷ xs) none same some one more =
    spec.one_other n s t u (name x) (map name xs) one
    (subst (λ k. DefinesExterns k levels with_modules files (n + 1) t (map name xs) u) same more)
other_added e d levels with_modules files n s t u name (Err v) (x ∷ xs) none same some one more = more

-- of a slice's first element and the others
pub first_other : {X R S : Type 0} (e d : Language) (levels : ℕ) (with_modules : Bool) (files : List Source) (n : ℕ)
    (s t u : Scope) (name : X → List ℕ) (r : Result R S) (all : List X) (none : X) → d ≡ e → 1 ≤ length all
    → DefinesExtern e levels (name (get_or all 0 none)) (crate_at with_modules files n) s t
    → OnOk r (DefinesExterns d levels with_modules files (n + 1) t (map name (take (length all - 1) (drop 1 all))) u)
    → OnOk r (DefinesExterns e levels with_modules files n s (map name all) u)
first_other e d levels with_modules files n s t u name r all none same some one more =
    other_added e d levels with_modules files n s t u name r all none same some one
    (subst (λ ys. OnOk r (DefinesExterns d levels with_modules files (n + 1) t (map name ys) u)) (take_rest all 1) more)

-- ---- what other crates export of each other

pub none_exported : (c : Option Top) (name : List ℕ) (old : List Export) → None ≡ c → old ≡ old ++ exports_at name c
none_exported c name old is = subst (λ o. old ≡ old ++ exports_at name o) is (sym (append-nil old))

pub some_exported : {X E : Type 0} (r : Result X E) (c : Option Top) (tree : Top) (name : List ℕ)
    (old new : List Export) → Some tree ≡ c → new ≡ old ++ exports_of name tree.1
    → OnOk r (new ≡ old ++ exports_at name c)
some_exported (Ok x) c tree name old new is e = subst (λ o. new ≡ old ++ exports_at name o) is e
some_exported (Err x) c tree name old new is e = tt

pub none_from : {X : Type 0} (with_modules : Bool) (files : List Source) (n : ℕ) (name : X → List ℕ) (all : List X)
    (old : List Export) → length all < 1 → old ≡ old ++ exports_from with_modules files n (map name all)
none_from with_modules files n name [] old few = sym (append-nil old)
none_from with_modules files n name (x ∷ xs) old few = absurd (omega (arith, few))

from_added : {X R S : Type 0} (with_modules : Bool) (files : List Source) (n : ℕ) (name : X → List ℕ) (r : Result R S)
    (all : List X) (none : X) (old mid new : List Export) → 1 ≤ length all
    → mid ≡ old ++ exports_at (name (get_or all 0 none)) (crate_at with_modules files n)
    → OnOk r (new ≡ mid ++ exports_from with_modules files (n + 1) (map name (drop 1 all)))
    → OnOk r (new ≡ old ++ exports_from with_modules files n (map name all))
from_added with_modules files n name r [] none old mid new some one more = absurd (omega (arith, some))
from_added with_modules files n name (Ok v) (x ∷ xs) none old mid new some one more =
    let rest = exports_from with_modules files (n + 1) (map name xs) in
    more ∙ (ap (λ es. es ++ rest) one ∙ append_assoc old (exports_at (name x) (crate_at with_modules files n)) rest)
from_added with_modules files n name (Err v) (x ∷ xs) none old mid new some one more = more

-- of a slice's first element and the others
pub first_from : {X R S : Type 0} (with_modules : Bool) (files : List Source) (n : ℕ) (name : X
    → List ℕ) (r : Result R S)
    (all : List X) (none : X) (old mid new : List Export) → 1 ≤ length all
    → mid ≡ old ++ exports_at (name (get_or all 0 none)) (crate_at with_modules files n)
    → OnOk r (new ≡ mid ++ exports_from with_modules files (n + 1) (map name (take (length all - 1) (drop 1 all))))
    → OnOk r (new ≡ old ++ exports_from with_modules files n (map name all))
first_from with_modules files n name r all none old mid new some one more =
    from_added with_modules files n name r all none old mid new some one
    (subst (λ ys. OnOk r (new ≡ mid ++ exports_from with_modules files (n + 1) (map name ys))) (take_rest all 1) more)

pub others_known : {R S : Type 0} (e : Language) (levels : ℕ) (with_modules : Bool) (files : List Source) (n : ℕ)
    (s read u : Scope) (names : List (List ℕ)) (r : Result R S) (rounds : ℕ) (es : List Export)
    → DefinesExterns e levels with_modules files n s names read → rounds ≡ length names
    → es ≡ exports_from with_modules files n names → OnOk r (u ≡ linked rounds es read)
    → OnOk r (LoadsExterns e levels with_modules files n s names u)
others_known e levels with_modules files n s read u names (Ok x) rounds es defines so_many are h =
    (read, defines, h ∙ (ap (λ k. linked k es read) so_many ∙ ap (λ xs. linked (length names) xs read) are))
others_known e levels with_modules files n s read u names (Err x) rounds es defines so_many are h = tt

-- ---- its parts

pub no_parts : (c : Option Top) (e : Setting) (levels : ℕ) (s : State) (parts : List SplicedPart) → c ≡ None → parts
    ≡ []
    → CrateParts e levels c s parts s
no_parts c e levels s parts is none = subst (λ x. CrateParts e levels x s parts s) (sym is) (none, refl)

pub some_parts : {X E : Type 0} (see : X
    → List SplicedPart) (r : Result X E) (c : Option Top) (tree : Top) (e : Setting)
    (levels : ℕ) (s t : State) → c ≡ Some tree → IfOk r (λ v. PartsOfFile e levels tree.1 s (see v) t)
    → IfOk r (λ v. All (IsOfCall e tree.1) (see v)) → IfOk r (λ v. CrateParts e levels c s (see v) t)
some_parts see (Ok v) c tree e levels s t is of_file each =
    subst (λ x. CrateParts e levels x s (see v) t) (sym is) (of_file, each)
some_parts see (Err x) c tree e levels s t is of_file each = tt

pub some_unknown : {X E : Type 0} (see : X → List SplicedPart) (r : Result X E) (c : Option Top) (tree : Top)
    (ds : List Definition) → c ≡ Some tree → IfOk r (λ v. NoneCalled ds tree.1 → see v ≡ [])
    → IfSome c (λ tree. NoneCalled ds tree.1 → IfOk r (λ v. see v ≡ []))
some_unknown see r c tree ds is h =
    subst (λ x. IfSome x (λ (tree : Top). NoneCalled ds tree.1 → IfOk r (λ v. see v ≡ []))) (sym is) (swapped see r h)
  where
    swapped : {X E P : Type 0} (see : X → List SplicedPart) (r : Result X E) → IfOk r (λ v. P → see v ≡ []) → P
        → IfOk r (λ v. see v ≡ [])
    swapped see (Ok v) h p = h p
    swapped see (Err x) h p = tt

pub adds_none : (change : List SplicedPart → State → Type 0) (before : List SplicedPart) (t : State) → change [] t
    → Adds change before before t
adds_none change before t none = ([], none, sym (append-nil before))

pub adds_these : {X T E : Type 0} (see : X → SplicedPart) (r : Result T E) (change : List SplicedPart → State → Type 0)
    (before more after : List X) (t : State) → change (map see more) t
    → after ≡ (if is_ok r then before ++ more else before)
    → OnOk r (Adds change (map see before) (map see after) t)
adds_these see (Ok x) change before more after t these is =
    (map see more, these, ap (map see) is ∙ map-append see before more)
adds_these see (Err x) change before more after t these is = tt

-- ---- crates, one after another

pub one_more_crate : {X : Type 0} (see : X
    → SplicedPart) (e d : Setting) (levels : ℕ) (with_modules : Bool) (files : List Source)
    (n : ℕ) (s t u : State) (found more : List X) (new : List SplicedPart)
    → CratesParts e levels with_modules files s n (map see found) t → e ≡ d
    → CrateParts d levels (crate_at with_modules files n) t new u → map see more ≡ map see found ++ new
    → CratesParts e levels with_modules files s (n + 1) (map see more) u
one_more_crate see e d levels with_modules files n s t u found more new before same one is =
    subst (λ xs. CratesParts e levels with_modules files s (n + 1) xs u) (sym is)
    (spec.one_crate n (map see found) new t u before
    (subst (λ x. CrateParts x levels (crate_at with_modules files n) t new u) (sym same) one))

pub no_more_crate : {X : Type 0} (see : X
    → SplicedPart) (e : Setting) (levels : ℕ) (with_modules : Bool) (files : List Source)
    (s : State) (found : List X) → found ≡ [] → CratesParts e levels with_modules files s 0 (map see found) s
no_more_crate see e levels with_modules files s found is =
    subst (λ xs. CratesParts e levels with_modules files s 0 (map see xs) s) (sym is) spec.no_crate

-- ---- the parts in a file

-- of one part more
parts_more : {X : Type 0} (see : X → SplicedPart) (n : ℕ) (items : List X) (item : X) (i : ℕ) → i < length items
    → item ≡ get_or items i item
    → replacements_in n (map see (take (i + 1) items))
    ≡ replacements_in n (map see (take i items)) ++ replacements_in n (see item ∷ [])
parts_more see n items item i h is =
    ap (replacements_in n) (map_taken see items item i h is)
    ∙ filter-append (is_in n) (map see (take i items)) (see item ∷ [])

pub one_in : {X : Type 0} (see : X → SplicedPart) (n : ℕ) (items : List X) (item : X) (i : ℕ) (found more : List X)
    (new : X)
    → i < length items → item ≡ get_or items i item → map see found ≡ replacements_in n (map see (take i items))
    → is_in n (see item) ≡ true → more ≡ found ++ new ∷ [] → see new ≡ see item
    → map see more ≡ replacements_in n (map see (take (i + 1) items))
one_in see n items item i found more new h is before there e same =
    ap (map see) e ∙ map-append see found (new ∷ []) ∙ ap (λ x. map see found ++ x ∷ []) same
    ∙ ap (λ xs. xs ++ see item ∷ []) before
    ∙ ap (λ b. replacements_in n (map see (take i items)) ++ (if b then see item ∷ [] else [])) (sym there)
    ∙ sym (parts_more see n items item i h is)

pub none_in : {X : Type 0} (see : X → SplicedPart) (n : ℕ) (items : List X) (item : X) (i : ℕ) (found : List X)
    → i < length items → item ≡ get_or items i item → map see found ≡ replacements_in n (map see (take i items))
    → is_in n (see item) ≡ false → map see found ≡ replacements_in n (map see (take (i + 1) items))
none_in see n items item i found h is before there =
    before ∙ sym (append-nil (replacements_in n (map see (take i items))))
    ∙ ap (λ b. replacements_in n (map see (take i items)) ++ (if b then see item ∷ [] else [])) (sym there)
    ∙ sym (parts_more see n items item i h is)

-- ---- a file

pub not_rust : {X E : Type 0} (see : X → List ℕ) (r : Result X E) (call : Option CallPosition)
    (parts : List SplicedPart) (n : ℕ)
    (file : Source) (none : Bool) → is_some file.tree ≡ not none → none ≡ true → IfOk r (λ x. see x ≡ file.text)
    → IfOk r (λ x. FileExpands call parts n file (see x))
not_rust see r call parts n file none is holds h =
    as_text see r call file.tree file.text (replacements_in n parts) (is ∙ ap not holds) h
  where
    as_text : {X E : Type 0} (see : X → List ℕ) (r : Result X E) (call : Option CallPosition) (t : Option Top)
        (text : List ℕ) (parts : List SplicedPart) → is_some t ≡ false → IfOk r (λ x. see x ≡ text)
        → IfOk r (λ x. TreeExpands call t text parts (see x))
    as_text see r call None text parts is h = h
    as_text see r call (Some t) text parts is h = cc

tree_becomes : {X E : Type 0} (see : X → List ℕ) (r : Result X E) (call : Option CallPosition) (t : Option Top)
    (text : List ℕ) (parts : List SplicedPart) → is_some t ≡ true → IfOk r (λ x. TextExpands call text parts (see x))
    → IfOk r (λ x. TreeExpands call t text parts (see x))
tree_becomes see r call None text parts is h = cc
tree_becomes see r call (Some t) text parts is h = h

pub text_becomes : {X E : Type 0} (see : X → List ℕ) (r : Result X E) (call request : Option CallPosition)
    (found parts : List SplicedPart) (n : ℕ) (file : Source) (none : Bool) → is_some file.tree ≡ not none → none ≡ false
    → request ≡ call → found ≡ replacements_in n parts → IfOk r (λ x. TextExpands call file.text found (see x))
    → IfOk r (λ x. FileExpands request parts n file (see x))
text_becomes see r call request found parts n file none is some same are h =
    tree_becomes see r request file.tree file.text (replacements_in n parts) (is ∙ ap not some)
    (subst (λ c. IfOk r (λ x. TextExpands c file.text (replacements_in n parts) (see x))) (sym same)
    (subst (λ ps. IfOk r (λ x. TextExpands call file.text ps (see x))) are h))

as_it_was : (t : Option Top) (text out : List ℕ) → TreeExpands None t text [] out → out ≡ text
as_it_was None text out h = h
as_it_was (Some t) text out h = h

-- ---- files, one after another

pub one_more_becomes : {X Y : Type 0} (see : X → Source) (text : Y → List ℕ) (call : Option CallPosition)
    (parts : List SplicedPart) (files : List X) (file : X) (i : ℕ) (found more : List Y) (new : Y) → i < length files
    → file ≡ get_or files i file → more ≡ found ++ new ∷ []
    → FilesExpand call parts (map see (take i files)) (map text found)
    → FileExpands call parts i (see file) (text new)
    → FilesExpand call parts (map see (take (i + 1) files)) (map text more)
one_more_becomes see text call parts files file i found more new h is m before one =
    let counted : length (map see (take i files)) ≡ i =
    omega (arith, h, length-map (take i files) see, length-take i files) in
    subst (λ fs. FilesExpand call parts fs (map text more)) (sym (map_taken see files file i h is))
    (subst (λ outs. FilesExpand call parts (map see (take i files) ++ see file ∷ []) outs)
    (sym (ap (map text) m ∙ map-append text found (new ∷ [])))
    (spec.one_more (map see (take i files)) (map text found) (see file) (text new) before
    (subst (λ n. FileExpands call parts n (see file) (text new)) (sym counted) one)))

pub nothing_becomes : {Y : Type 0} (text : Y
    → List ℕ) (call : Option CallPosition) (parts : List SplicedPart) (found : List Y)
    → found ≡ [] → FilesExpand call parts [] (map text found)
nothing_becomes text call parts found is =
    subst (λ xs. FilesExpand call parts [] (map text xs)) (sym is) spec.no_file

-- ---- the file of a number

pub file_there : {X Y : Type 0} (see : X → Source) (text : Y → List ℕ) (call : Option CallPosition)
    (parts : List SplicedPart) (files found : List X) (n : ℕ) (file : X) (out : Y) → found ≡ files → n < length found
    → file ≡ get_or found n file → FileExpands call parts n (see file) (text out)
    → FileAtExpands call parts n (slice_get (map see files) n) (Some (text out))
file_there see text call parts files found n file out same h is x =
    subst (λ fs. FileAtExpands call parts n (slice_get (map see fs) n) (Some (text out))) same
    (subst (λ o. FileAtExpands call parts n o (Some (text out))) (sym (seen_there see found n file h is)) x)

pub no_file_there : {X : Type 0} (see : X → Source) (call : Option CallPosition) (parts : List SplicedPart)
    (files found : List X) (n : ℕ) → found ≡ files → length found ≤ n
    → FileAtExpands call parts n (slice_get (map see files) n) None
no_file_there see call parts files found n same h =
    subst (λ fs. FileAtExpands call parts n (slice_get (map see fs) n) None) same
    (subst (λ o. FileAtExpands call parts n o None) (sym (none_there see found n h)) refl)

-- ---- roots

pub root_becomes : {X E : Type 0} (see : X → List ℕ) (r : Result X E) (e : Setting) (levels : ℕ)
    (call : Option CallPosition) (with_modules : Bool) (files : List Source) (n : ℕ) (root : Source) (s t : State)
    (parts : List SplicedPart) → CrateParts e levels (crate_of with_modules files n root) s parts t
    → IfOk r (λ x. FileExpands call parts n root (see x))
    → IfOk r (λ x. RootExpands e levels call with_modules files n root s (see x) t)
root_becomes see (Ok x) e levels call with_modules files n root s t parts of_crate h =
    record { parts = parts; of_crate = of_crate; expands = h }
root_becomes see (Err x) e levels call with_modules files n root s t parts of_crate h = tt

-- without parts it is its text
pub root_unknown : {X E : Type 0} (see : X → List ℕ) (r : Result X E) (c : Option Top) (ds : List Definition)
    (call : Option CallPosition) (parts : List SplicedPart) (n : ℕ) (root : Source)
    → IfSome c (λ tree. NoneCalled ds tree.1 → parts ≡ []) → IfOk r (λ x. FileExpands call parts n root (see x))
    → IfSome c (λ tree. call ≡ None → NoneCalled ds tree.1 → IfOk r (λ x. see x ≡ root.text))
root_unknown see r c ds call parts n root none expands =
    IfSome_then c none (λ (tree : Top) empty whole unknown.
    same see r call parts n root expands whole (empty unknown))
  where
    same : {X E : Type 0} (see : X → List ℕ) (r : Result X E) (call : Option CallPosition) (parts : List SplicedPart)
        (n : ℕ)
        (root : Source) → IfOk r (λ x. FileExpands call parts n root (see x)) → call ≡ None → parts ≡ []
        → IfOk r (λ x. see x ≡ root.text)
    same see (Ok x) call parts n root h whole none =
        as_it_was root.tree root.text (see x) (subst (λ ps. FileExpands None ps n root (see x)) none
        (subst (λ k. FileExpands k parts n root (see x)) whole h))
    same see (Err x) call parts n root h whole none = tt

pub root_there : {X : Type 0} (see : X → Source) (files : List X) (n m : ℕ) (file : X) (P : ℕ → Source → Type 0)
    → n < length files → file ≡ get_or files n file → n ≡ m → P n (see file)
    → IfSome (slice_get (map see files) m) (P m)
root_there see files n m file P within is same h =
    subst (λ k. IfSome (slice_get (map see files) k) (P k)) same
    (subst (λ o. IfSome o (P n)) (sym (seen_there see files n file within is)) h)

pub no_root_there : {X : Type 0} (see : X → Source) (files : List X) (n m : ℕ) (P : Source → Type 0)
    → length files ≤ n → n ≡ m → IfSome (slice_get (map see files) m) P
no_root_there see files n m P h same =
    subst (λ k. IfSome (slice_get (map see files) k) P) same
    (subst (λ o. IfSome o P) (sym (none_there see files n h)) tt)

pub not_none_there : {X : Type 0} (see : X → Source) (files : List X) (n m : ℕ) (file : X) (P : Type 0)
    → n < length files → file ≡ get_or files n file → n ≡ m → IfNone (slice_get (map see files) m) P
not_none_there see files n m file P within is same =
    subst (λ k. IfNone (slice_get (map see files) k) P) same
    (subst (λ o. IfNone o P) (sym (seen_there see files n file within is)) tt)
