-- What punct after punct is put into a builder.
use Rattle.std.specs.Prelude.{◌≡◌, ◌<◌, ◌≤◌, ◌+◌, ℕ, List, [], length, refl}
use Rattle.std.proofs.Common.{ap, sym, ◌∙◌, get_or, drop}
use Rattle.std.proofs.lemmas.List.{drop_more, drop_all}
use Rattle.mbe_tt.specs.declared.span.Span.{Span}
use Rattle.mbe_tt.specs.declared.tt.Punct.{Punct}
use Rattle.mbe_tt.specs.Trees.Leaf.{punct}
use Rattle.mbe_tt.specs.Trees.Tree.{none, leaf, one_leaf}
use Rattle.mbe_tt.specs.Buffers.GroupStack.{GroupStack, put}
use Rattle.mbe_variables.proofs.PutLemmas.{put-none, put-put, put_both}
use Rattle.mbe_semantics.specs.Transcription.Substitution.{punct_trees}
use Rattle.mbe_transcriber.specs.TranscriberSteps.{AreMarked}
use Rattle.mbe_variables.specs.FragmentWriter.{Appends}

-- ---- puncts of a separator

pub push_next : (ps : List Punct) (i : ℕ) (d : Punct) (old now new : GroupStack) → i < length ps
    → put (punct_trees (drop i ps)) now ≡ old
    → new ≡ put (one_leaf (punct (get_or ps i d))) now → put (punct_trees (drop (i + 1) ps)) new ≡ old
push_next ps i d old now new h e n =
    ap (put (punct_trees (drop (i + 1) ps))) n
    ∙ (put-put (one_leaf (punct (get_or ps i d))) (punct_trees (drop (i + 1) ps)) now
    ∙ (ap (λ qs. put (punct_trees qs) now) (sym (drop_more ps i d h)) ∙ e))

pub push_end : (ps : List Punct) (i : ℕ) (old now : GroupStack) → length ps ≤ i → put (punct_trees (drop i ps)) now
    ≡ old
    → now ≡ old
push_end ps i old now h e = put-none now ∙ (ap (λ qs. put (punct_trees qs) now) (sym (drop_all i ps h)) ∙ e)

module _ (Marks : Span → Span → Type 0) where
  -- ---- puncts

  pub writes_no_punct : (old : GroupStack) → Appends (AreMarked Marks []) old old
  unfolding Appends AreMarked
  writes_no_punct old = (none, (λ g site env. refl), put-none old)

  pub writes_punct : (ps : List Punct) (i : ℕ) (d : Punct) (marked : Span) (old mid new : GroupStack) → i < length ps
      → Marks (get_or ps i d).span marked
      → mid ≡ put (one_leaf (punct (record (get_or ps i d) { span = marked }))) old
      → Appends (AreMarked Marks (drop (i + 1) ps)) mid new → Appends (AreMarked Marks (drop i ps)) old new
  unfolding Appends AreMarked
  writes_punct ps i d marked old mid new h m e w =
      rw (drop_more ps i d h) (
        leaf (punct (record (get_or ps i d) { span = marked })) w.0,
        (λ g site env. (marked, w.0, m, w.1 g site env, refl)),
        put_both _ w.0 old mid new e w.2,
      )

  pub writes_last_punct : (ps : List Punct) (i : ℕ) (old : GroupStack) → length ps ≤ i
      → Appends (AreMarked Marks (drop i ps)) old old
  writes_last_punct ps i old h = rw (drop_all i ps h) (writes_no_punct old)
