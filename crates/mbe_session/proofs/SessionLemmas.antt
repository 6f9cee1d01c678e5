-- Files one after another: what they are, and what they become.
use Rattle.std.proofs.Common.{◌≡◌, ◌<◌, ◌≤◌, ◌+◌, ◌-◌, ℕ, Bool, List, [], ◌∷◌, ◌++◌, length, map, take, get_or, Option}
use Rattle.std.proofs.Common.{Some, None, Result, true, false, inl, inr, refl, ap, sym, ◌∙◌, subst, arith}
use Rattle.std.specs.Prelude.{IfSome}
use Rattle.std.specs.List.{slice_get}
use Rattle.std.proofs.lemmas.Grind.{common_steps}
use Rattle.std.proofs.lemmas.Option.{slice_get-get_or}
use Rattle.std.proofs.lemmas.List.{length-map, map-append, take_more}
use Rattle.mbe_rewriter.specs.Splice.{SplicedPart}
use Rattle.mbe_session.specs.CallExpansion.{Setting, State}
use Rattle.mbe_session.specs.Scopes.{Language, Scope}
use Rattle.mbe_session.specs.declared.session_options.CrateSettings.{CrateSettings}
use Rattle.mbe_session.specs.declared.locations.CallPosition.{CallPosition}
use Rattle.mbe_session.specs.declared.settings.Budget.{Budget}
use Rattle.mbe_session.specs.declared.source_settings.SourceSettings.{SourceSettings}
use Rattle.mbe_session.specs.Conditions.{Conditions}
use Rattle.mbe_session.specs.FileExpansion as spec
use Rattle.mbe_session.specs.FileExpansion.{DefinesCrates, IsAtPosition, LoadsExterns, RootExpands, ExpansionsAt}
use Rattle.mbe_session.specs.FileExpansion.{WritesOne}
use Rattle.mbe_session.specs.Sessions.{IsOpen, IsPrinted}
use Rattle.mbe_session.specs.Sources as sources
use Rattle.mbe_session.specs.Sources.{AreSources, IsSource, Source, Text, source_text}

-- the items up to one more
pub map_taken : {X Y : Type 0} (f : X → Y) (items : List X) (item : X) (i : ℕ) → i < length items
    → item ≡ get_or items i item
    → map f (take (i + 1) items) ≡ map f (take i items) ++ f item ∷ []
map_taken f items item i h is =
    ap (map f) (take_more items i item h) ∙ map-append f (take i items) (get_or items i item ∷ [])
    ∙ ap (λ x. map f (take i items) ++ f x ∷ []) (sym is)

pub one_more_text : {X Y Z : Type 0} (f : X → Z) (g : Y → Z) (found more : List X) (new : X) (items : List Y) (item : Y)
    (i : ℕ)
    → i < length items → item ≡ get_or items i item → more ≡ found ++ new ∷ [] → map f found ≡ map g (take i items)
    → f new ≡ g item
    → map f more ≡ map g (take (i + 1) items)
one_more_text f g found more new items item i h is e before one =
    ap (map f) e ∙ map-append f found (new ∷ []) ∙ ap (λ xs. xs ++ f new ∷ []) before
    ∙ ap (λ x. map g (take i items) ++ x ∷ []) one ∙ sym (map_taken g items item i h is)

pub same_text : (x y : Text) → x.path ≡ y.path → x.text ≡ y.text → x.calls ≡ y.calls → x ≡ y
same_text x y p t c =
    ap (λ q. let z : Text = record { path = q; text = x.text; calls = x.calls } in z) p
    ∙ ap (λ u. let z : Text = record { path = y.path; text = u; calls = x.calls } in z) t
    ∙ ap (λ v. let z : Text = record { path = y.path; text = y.text; calls = v } in z) c

pub one_more_source : {X : Type 0} (see : X → Source) (Reads : ℕ → SourceSettings → Type 0) (r : SourceSettings)
    (found more : List X) (new : X) (number : ℕ)
    → AreSources Reads (map see found) → number ≡ length found → more ≡ found ++ new ∷ []
    → Reads number r → IsSource r number (see new)
    → AreSources Reads (map see more)
one_more_source see Reads r found more new number h n e reads one =
    subst (AreSources Reads) (sym (ap (map see) e ∙ map-append see found (new ∷ [])))
    (sources.one_more (map see found) (see new) r h
    (subst (λ m. Reads m r) (n ∙ sym (length-map found see)) reads)
    (subst (λ m. IsSource r m (see new)) (n ∙ sym (length-map found see)) one))

-- ---- texts of calls

pub more_there : {X : Type 0} (see : X → SplicedPart) (position : CallPosition) (text : List ℕ) (items : List X)
    (item : X) (i : ℕ)
    (out more : List ℕ)
    → i < length items → item ≡ get_or items i item → ExpansionsAt position text (map see (take i items)) out
    → IsAtPosition position text (see item).start true → more ≡ out ++ ((see item).text ++ 10 ∷ [])
    → ExpansionsAt position text (map see (take (i + 1) items)) more
more_there see position text items item i out more h is before there e =
    subst (λ parts. ExpansionsAt position text parts more) (sym (map_taken see items item i h is))
    (subst (ExpansionsAt position text (map see (take i items) ++ see item ∷ [])) (sym e)
    (spec.one_there (map see (take i items)) (see item) out before there))

pub none_there : {X : Type 0} (see : X → SplicedPart) (position : CallPosition) (text : List ℕ) (items : List X)
    (item : X) (i : ℕ)
    (out : List ℕ)
    → i < length items → item ≡ get_or items i item → ExpansionsAt position text (map see (take i items)) out
    → IsAtPosition position text (see item).start false → ExpansionsAt position text (map see (take (i + 1) items)) out
none_there see position text items item i out h is before there =
    subst (λ parts. ExpansionsAt position text parts out) (sym (map_taken see items item i h is))
    (spec.one_elsewhere (map see (take i items)) (see item) out before there)

pub nothing_there : (position : CallPosition) (text out : List ℕ) → out ≡ [] → ExpansionsAt position text [] out
nothing_there position text out e = subst (ExpansionsAt position text []) (sym e) spec.no_part

-- ---- runs begin with nothing

pub no_source : {X : Type 0} (see : X → Source) (Reads : ℕ → SourceSettings → Type 0) (found : List X) → found ≡ []
    → AreSources Reads (map see found)
no_source see Reads found is = subst (λ xs. AreSources Reads (map see xs)) (sym is) sources.no_file

-- ---- the last file that is given

pub is_there : {X : Type 0} (xs : List X) (n : ℕ) → n < length xs → slice_get xs n ≡ None → ⊥
is_there [] n h e = absurd (omega (arith, h))
is_there (x ∷ xs) n h e = some_is_none (sym (slice_get-get_or (x ∷ xs) n x h) ∙ e)
  where
    some_is_none : {X : Type 0} {x : X} → Some x ≡ None → ⊥
    some_is_none e = grind (arith, common_steps)

printed_by : {T E : Type 0} (language : Language) (c : Conditions) (own : ℕ → Option CrateSettings) (depth : Option ℕ)
    (fuel : Budget)
    (call : Option CallPosition) (with_modules : Bool) (root_count : ℕ) (extern_names : List (List ℕ))
    (texts : List Text)
    (files : List Source)
    (e : Setting) (s t : State) (before after : Option (List ℕ)) (r : Result T E) (found : Option Source)
    → IsOpen language c own depth fuel with_modules root_count extern_names texts files e s
    → root_count - 1 < length files
    → slice_get files (root_count - 1) ≡ found
    → IfSome found (λ root. WritesOne before after r
    (λ out. RootExpands e 1000 call with_modules files (root_count - 1) root s out t))
    → WritesOne before after r (IsPrinted language c own depth fuel call with_modules root_count extern_names texts)
printed_by language c own depth fuel call with_modules root_count extern_names texts files e s t before after r None
    begun
    within is last =
    absurd (is_there files (root_count - 1) within is)
printed_by language c own depth fuel call with_modules root_count extern_names texts files e s t before after r
    (Some root)
    begun within is
    last =
    elim last [
      | inl none ↦ inl none
      | inr one ↦ inr (
        one.0,
        record {
          files = files;
          setting = e;
          start = s;
          end = t;
          begins = begun;
          root = root;
          is_last = is;
          expands = one.1;
        },
        one.2,
      )
    ]

-- Of values that are the same, as a call of `write_last` has them.
pub printed : {T E : Type 0} (language : Language) (c : Conditions) (own : ℕ → Option CrateSettings) (depth : Option ℕ)
    (fuel : Budget)
    (call request : Option CallPosition) (with_modules followed : Bool) (root_count n : ℕ)
    (extern_names : List (List ℕ))
    (texts : List Text)
    (files seen : List Source)
    (e : Setting) (s t : State) (before after : Option (List ℕ)) (r : Result T E)
    → IsOpen language c own depth fuel with_modules root_count extern_names texts files e s → 0 < root_count
    → root_count ≤ length texts
    → request ≡ call → followed ≡ with_modules → n ≡ root_count → seen ≡ files
    → IfSome (slice_get seen (n - 1)) (λ root. WritesOne before after r
    (λ out. RootExpands e 1000 request followed seen (n - 1) root s out t))
    → WritesOne before after r (IsPrinted language c own depth fuel call with_modules root_count extern_names texts)
printed language c own depth fuel call request with_modules followed root_count n extern_names texts files seen e s t
    before
    after r begun
    some few same_call same_follows same_number same_files last =
    let within : root_count - 1 < length files =
    omega (arith, some, few, ap length begun.texts_are, length-map files source_text) in
    let Last : Option CallPosition → Bool → List Source → ℕ → Type 0 = λ k f fs m.
    IfSome (slice_get fs (m - 1)) (λ root. WritesOne before after r
    (λ out. RootExpands e 1000 k f fs (m - 1) root s out t)) in
    printed_by language c own depth fuel call with_modules root_count extern_names texts files e s t before after r
    (slice_get files (root_count - 1)) begun within refl
    (subst (λ m. Last call with_modules files m) same_number
    (subst (λ fs. Last call with_modules fs n) same_files
    (subst (λ f. Last call f seen n) same_follows
    (subst (λ k. Last k followed seen n) same_call last))))

-- ---- definitions, of values that are the same

pub others_are : (e d : Language) (with_modules : Bool) (fs gs : List Source) (n m : ℕ) (s t u : Scope)
    (xs ys : List (List ℕ)) → e ≡ d → fs ≡ gs → n ≡ m → s ≡ t → xs ≡ ys → LoadsExterns e 1001 with_modules fs n s xs u
    → LoadsExterns d 1001 with_modules gs m t ys u
others_are e d with_modules fs gs n m s t u xs ys language files number scope names h =
    subst (λ x. LoadsExterns x 1001 with_modules gs m t ys u) language
    (subst (λ x. LoadsExterns e 1001 with_modules x m t ys u) files
    (subst (λ x. LoadsExterns e 1001 with_modules fs x t ys u) number
    (subst (λ x. LoadsExterns e 1001 with_modules fs n x ys u) scope
    (subst (λ x. LoadsExterns e 1001 with_modules fs n s x u) names h))))

pub crates_are : (e d : Language) (with_modules : Bool) (fs gs : List Source) (n m : ℕ) (s t : Scope) → e ≡ d → fs ≡ gs
    → n ≡ m → DefinesCrates e 1001 with_modules fs s n t → DefinesCrates d 1001 with_modules gs s m t
crates_are e d with_modules fs gs n m s t language files number h =
    subst (λ x. DefinesCrates x 1001 with_modules gs s m t) language
    (subst (λ x. DefinesCrates e 1001 with_modules x s m t) files
    (subst (λ x. DefinesCrates e 1001 with_modules fs s x t) number h))
