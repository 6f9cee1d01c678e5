-- What the fragment of a variable writes, and what a missing one does.
use Rattle.std.proofs.Common.{◌≡◌, ◌∷◌, Bool, true, false, refl, ap, sym, ◌∙◌, subst, ◌⊎◌, inl, inr}
use Rattle.std.specs.Prelude.{Result, Ok, Err, OnOk}
use Rattle.mbe_tt.specs.declared.span.Span.{Span}
use Rattle.mbe_tt.specs.declared.tt.DelimiterKind.TheVariants.{Parenthesis}
use Rattle.mbe_tt.specs.Trees.Tree.{Forest, none, alone, strip_invisible}
use Rattle.mbe_tt.specs.Buffers.GroupStack.{GroupStack, put, closed}
use Rattle.mbe_semantics.specs.declared.fragment_kinds.MetaVarKind.{MetaVarKind}
use Rattle.mbe_semantics.specs.declared.fragment_kinds.MetaVarKind.TheVariants as kinds
use Rattle.mbe_log.specs.declared.fragment.TokensOrigin.{TokensOrigin}
use Rattle.mbe_log.specs.declared.fragment.TokensOrigin.TheVariants.{Raw, Ast}
use Rattle.mbe_semantics.specs.Fragments.Kinds.{plain, as_path}
use Rattle.mbe_semantics.specs.Bindings.Missing.{default_trees}
use Rattle.mbe_semantics.specs.Transcription.FragmentTrees.{IsFragmentOutput, IsExpressionOutput, IsParenthesized}
use Rattle.mbe_semantics.specs.Transcription.FragmentTrees.{needs_parentheses, in_parentheses}
use Rattle.mbe_log.specs.FragmentViews.{origin_style}
use Rattle.mbe_variables.specs.FragmentWriter.{Appends, plain_fragment}
use Rattle.mbe_variables.proofs.PutLemmas.{put-none, appended}

-- ---- fragments

pub if_ok : {T E P Q : Type 0} (r : Result T E) → (P → Q) → OnOk r P → OnOk r Q
if_ok (Err e) f h = tt
if_ok (Ok x) f h = f h

module _ (Marks : Span → Span → Type 0) (site : Span) (span : Span) where
  pub nothing_written : (old : GroupStack) → Appends (IsFragmentOutput Marks site plain span none) old old
  nothing_written old = appended _ none old old refl (put-none old)

  pub whole_written : (f whole : Forest) (old new : GroupStack) → whole ≡ f → new ≡ put (alone whole) old
      → Appends (IsFragmentOutput Marks site plain span f) old new
  whole_written f whole old new s e = appended _ (alone whole) old new (ap alone s) e

  pub tokens_written : (origin : TokensOrigin) (f tokens : Forest) (old new : GroupStack)
      → tokens ≡ plain_fragment (origin_style origin) f → new ≡ put tokens old
      → Appends (IsFragmentOutput Marks site (origin_style origin) span f) old new
  tokens_written Raw f tokens old new s e = appended _ tokens old new s e
  tokens_written Ast f tokens old new s e = appended _ tokens old new s e

  pub path_written : (f : Forest) (out : Forest) (old new : GroupStack) → IsFragmentOutput Marks site as_path span f out
      → new ≡ put out old
      → Appends (IsFragmentOutput Marks site as_path span f) old new
  path_written f out old new s e = appended _ out old new s e

module _ (Marks : Span → Span → Type 0) (span : Span) where
  bare : (b : Bool) (f : Forest) (old new : GroupStack) → b ≡ false → new ≡ put f old
      → Appends (IsParenthesized Marks b span f) old new
  bare true f old new h e = absurd cc
  bare false f old new h e = appended _ f old new refl e

  enclosed : (b : Bool) (marked : Span) (f : Forest) (old opened mid new : GroupStack) → b ≡ true → Marks span marked
      → opened ≡ (record { opening = marked; close = marked; kind = Parenthesis }, none) ∷ old → mid ≡ put f opened
      → new ≡ closed marked mid
      → Appends (IsParenthesized Marks b span f) old new
  enclosed true marked f old opened mid new h m o w e =
      appended _ (in_parentheses marked f) old new (marked, m, refl) (e ∙ ap (closed marked) (w ∙ ap (put f) o))
  enclosed false marked f old opened mid new h m o w e = absurd cc

  pub bare_written : (f inside : Forest) (old new : GroupStack) → inside ≡ strip_invisible f
      → needs_parentheses inside ≡ false → new ≡ put (alone inside) old
      → Appends (IsExpressionOutput Marks span f) old new
  bare_written f inside old new s h e =
      subst (λ x. Appends (IsParenthesized Marks (needs_parentheses x) span (alone x)) old new) s
      (bare (needs_parentheses inside) (alone inside) old new h e)

  pub enclosed_written : (f inside : Forest) (marked : Span) (old opened mid new : GroupStack) → inside
      ≡ strip_invisible f
      → needs_parentheses inside ≡ true → Marks span marked
      → opened ≡ (record { opening = marked; close = marked; kind = Parenthesis }, none) ∷ old
      → mid ≡ put (alone inside) opened → new ≡ closed marked mid
      → Appends (IsExpressionOutput Marks span f) old new
  enclosed_written f inside marked old opened mid new s h m o w e =
      subst (λ x. Appends (IsParenthesized Marks (needs_parentheses x) span (alone x)) old new) s
      (enclosed (needs_parentheses inside) marked (alone inside) old opened mid new h m o w e)
