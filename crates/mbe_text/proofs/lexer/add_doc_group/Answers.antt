use Rattle.std.proofs.Common.{◌≡◌, List, ℕ, codes, refl, ap, ◌∙◌}
use Rattle.mbe_tt.specs.Buffers.GroupStack.{put}
use Rattle.mbe_tt.specs.Trees.Leaf.{Leaf}
use Rattle.mbe_tt.specs.Trees.Tree.{Forest, none, leaf, group}
use Rattle.mbe_tt.specs.declared.span.Span.{Span}
use Rattle.mbe_tt.specs.declared.tt.DelimiterKind.TheVariants.{Bracket}
use Rattle.mbe_tt.specs.declared.tt.IdentIsRaw.TheVariants as raw
use Rattle.mbe_tt.specs.declared.tt.Spacing.TheVariants.{Alone}
use Rattle.mbe_text.specs.Characters.{equals_sign}
use Rattle.mbe_text.specs.Tokens.{punct_leaf, ident_leaf, raw_string_leaf, most_guards, doc_assignment}
use Rattle.mbe_text.proofs.Attributes.{three_open, three_closed}
use Rattle.mbe_text.proofs.lexer.add_doc_group.Goals as goal

is_doc_assignment : (span : Span) (name text text' : List ℕ) (hashes : ℕ) (equals : Leaf) → name ≡ codes "doc"
    → equals ≡ punct_leaf span equals_sign Alone → text' ≡ text → hashes ≡ most_guards 0 text
    → leaf (ident_leaf span name raw.No) (leaf equals (leaf (raw_string_leaf span text' hashes) none))
    ≡ doc_assignment span text
is_doc_assignment span name text text' hashes equals n e t h = rw (n, e, t, h) refl

pub close-requires : goal.close-requires
close-requires g c =
    three_open _ _ _ _ c.args.builder.now c.open.new.self c.push.new.self c.push-2.new.self c.push-3.new.self
    c.in_ok-open.ensures.ok c.in_ok-push.ensures.ok c.in_ok-push-2.ensures.ok c.in_ok-push-3.ensures.ok c.requires

pub returns : goal.returns
returns g c =
    let span = c.args.span in
    let around : Forest → Forest = λ inside. group (record { opening = span; close = span; kind = Bracket }) inside
    none in
    three_closed _ _ _ _ span c.args.builder.now c.open.new.self c.push.new.self c.push-2.new.self c.push-3.new.self
    c.close.new.self
    c.in_ok-open.ensures.ok c.in_ok-push.ensures.ok c.in_ok-push-2.ensures.ok c.in_ok-push-3.ensures.ok c.close.ensures
    ∙ ap (λ (inside : Forest). put (around inside) c.args.builder.now)
    (is_doc_assignment span _ c.args.text.now _ _ _ c.in_ok-name.ensures c.punct.ensures c.in_ok-text_and_suffix.ensures
    c.raw_hash_count.ensures)
