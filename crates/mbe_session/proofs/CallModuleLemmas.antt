-- The modules of calls, one call after another.
use Rattle.std.proofs.Common.{◌≡◌, ◌<◌, ◌+◌, ℕ, List, [], ◌∷◌, ◌++◌, length, map, take, get_or, ap, sym, ◌∙◌, subst}
use Rattle.std.proofs.lemmas.List.{map-append}
use Rattle.mbe_tt.specs.Trees.Tree.{Forest}
use Rattle.mbe_cfg.specs.Crates.ExpansionModules.{Insertion}
use Rattle.mbe_session.specs.CallModules as spec
use Rattle.mbe_session.specs.CallModules.{AreInsertions, CallText, IsModules}
use Rattle.mbe_session.specs.declared.source_settings.SourceSettings.{SourceSettings}
use Rattle.mbe_session.proofs.SessionLemmas.{map_taken}

pub no_insertion : {Y : Type 0} (shown : Y → Insertion) (r : SourceSettings) (number : ℕ) (found : List Y)
    → found ≡ [] → AreInsertions r number [] (map shown found)
no_insertion shown r number found e =
    subst (λ xs. AreInsertions r number [] (map shown xs)) (sym e) spec.no_call

-- the modules of one call more
pub more_insertions : {X Y : Type 0} (see : X → CallText) (shown : Y → Insertion) (r : SourceSettings) (number : ℕ)
    (items : List X) (item : X) (i : ℕ) (found more : List Y) (new : Y) (f : Forest) → i < length items
    → item ≡ get_or items i item → AreInsertions r number (map see (take i items)) (map shown found)
    → more ≡ found ++ new ∷ [] → shown new ≡ (record { end = (see item).at.end; trees = f })
    → IsModules r number (see item) f
    → AreInsertions r number (map see (take (i + 1) items)) (map shown more)
more_insertions see shown r number items item i found more new f h is before e one modules =
    subst (λ cs. AreInsertions r number cs (map shown more)) (sym (map_taken see items item i h is))
    (subst (AreInsertions r number (map see (take i items) ++ see item ∷ []))
    (sym (ap (map shown) e ∙ map-append shown found (new ∷ []) ∙ ap (λ x. map shown found ++ x ∷ []) one))
    (spec.one_more (map see (take i items)) (map shown found) (see item) f before modules))
