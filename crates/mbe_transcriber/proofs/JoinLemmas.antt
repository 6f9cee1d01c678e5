-- Texts that are joined, element by element.
use Rattle.std.proofs.Common.{◌≡◌, ℕ, Bool, true, false, List, [], ◌∷◌, ◌++◌, Option, Some, None, refl, ap, sym, ◌∙◌}
use Rattle.std.proofs.Common.{not, take, length}
use Rattle.std.specs.Prelude.{◌||◌, ◌&&◌, ◌==◌, is_some, is_none, option_map, option_and_then}
use Rattle.std.specs.Prelude.{chars, if◌then◌else◌}
use Rattle.std.proofs.Math.Seq.{take-append_seam}
use Rattle.std.specs.Option.{option_or}
use Rattle.std.specs.List.{list_all}
use Rattle.unicode_ident.specs.Ident.{is_xid_start, is_xid_continue}
use Rattle.mbe_tt.specs.declared.span.Span.{Span}
use Rattle.mbe_tt.specs.Buffers.GroupStack.{GroupStack}
use Rattle.mbe_tt.specs.Grammars.Grammar.{Grammar}
use Rattle.mbe_semantics.specs.Syntax.Op.{Element}
use Rattle.mbe_semantics.specs.Bindings.Environment.{Environment}
use Rattle.mbe_semantics.specs.Transcription.Rounds.{Path}
use Rattle.mbe_semantics.specs.Transcription.Concat.{joined_text, concat_text, if_identifier, are_identifier_chars}
use Rattle.mbe_transcriber.specs.TranscriberSteps.{Wrote, IsConcatWritten, IsJoined}
use Rattle.mbe_variables.specs.FragmentWriter.{Appends}
use Rattle.mbe_transcriber.proofs.WroteLemmas.{appends_groups}

module _ (env : Environment) (path : Path) where
  -- What a loop over elements has joined, and whether one had no text.
  pub record Joining (text : List ℕ) (fault : Bool) (all rest : List Element) : Type 0 where
    pub clean : fault ≡ false → joined_text env path all ≡ option_map (λ more. text ++ more) (joined_text env path rest)
    pub faulty : fault ≡ true → joined_text env path all ≡ None

pub swapped : (a b : Bool) → a ≡ not b → b ≡ not a
swapped a true e = sym (ap not e)
swapped a false e = sym (ap not e)

-- what is pushed is popped
pub popped : {X : Type 0} (before pushed after : List X) (x : X) (n : ℕ) → pushed ≡ before ++ (x ∷ [])
    → after ≡ take n pushed → n ≡ length before → after ≡ before
popped before pushed after x n p e h = e
    ∙ (ap (λ k. take k pushed) h ∙ (ap (take (length before)) p ∙ take-append_seam before (x ∷ [])))

-- ---- the chars of an identifier

pub identifier_reported : (text rest : List ℕ) (first : ℕ) (b : Bool) → chars text ≡ first ∷ chars rest
    → (is_xid_start first || (first == 95)) ≡ true
    → b ≡ list_all is_xid_continue (chars rest) → b ≡ are_identifier_chars (chars text)
identifier_reported text rest first b w s e =
    e ∙ sym (ap are_identifier_chars w ∙ ap (λ x. x && list_all is_xid_continue (chars rest)) s)

-- ---- the identifier that is written

pub or_reported : {X : Type 0} (a : Option X) (x : X) → is_some (option_or a (Some x)) ≡ true
or_reported None x = refl
or_reported (Some y) x = refl

pub or_either : {X : Type 0} (a b : Option X) → is_some (option_or a b) ≡ (is_some a || is_some b)
or_either None b = refl
or_either (Some y) b = refl

module _ (g : Grammar) (Marks : Span → Span → Type 0) (span : Span) where
  joined_case : (text : List ℕ) (f : Bool) (old new : GroupStack) (o : Option (List ℕ)) → IsJoined text f o
      → are_identifier_chars (chars text) ≡ true
      → Appends (IsConcatWritten g Marks span (Some text)) old new
      → Wrote f (is_none (option_and_then if_identifier o))
      (IsConcatWritten g Marks span (option_and_then if_identifier o)) old new
  joined_case text f old new None h i w =
      record {
        reported = h;
        groups = appends_groups _ old new w;
        written = λ e. absurd (let x : true ≡ false = e in cc);
      }
  joined_case text f old new (Some joined) (h, e) i w =
      let is : if_identifier joined ≡ Some text =
      ap if_identifier (sym e) ∙ ap (λ b. if b then Some text else None) i in
      rw is (record { reported = h; groups = appends_groups _ old new w; written = λ _. w })

  pub joined_wrote : (env : Environment) (path : Path) (elements : List Element) (text : List ℕ) (f : Bool)
      (old new : GroupStack) → IsJoined text f (joined_text env path elements)
      → are_identifier_chars (chars text) ≡ true → Appends (IsConcatWritten g Marks span (Some text)) old new
      → Wrote f (is_none (concat_text env path elements)) (IsConcatWritten g Marks span (concat_text env path elements))
      old new
  joined_wrote env path elements text f old new h i w = joined_case text f old new (joined_text env path elements) h i w

  no_identifier : (text : List ℕ) (f : Bool) (o : Option (List ℕ)) → IsJoined text f o
      → are_identifier_chars (chars text) ≡ false → is_none (option_and_then if_identifier o) ≡ true
  no_identifier text f None h i = refl
  no_identifier text f (Some joined) (h, e) i =
      let is : if_identifier joined ≡ None = ap if_identifier (sym e) ∙ ap (λ b. if b then Some text else None) i in
      ap is_none is

  pub dummy_wrote : (env : Environment) (path : Path) (elements : List Element) (text : List ℕ) (f reported : Bool)
      (dummy : Option (List ℕ)) (old new : GroupStack)
      → IsJoined text f (joined_text env path elements) → are_identifier_chars (chars text) ≡ false → reported ≡ true
      → Appends (IsConcatWritten g Marks span dummy) old new
      → Wrote reported (is_none (concat_text env path elements))
      (IsConcatWritten g Marks span (concat_text env path elements)) old new
  dummy_wrote env path elements text f reported dummy old new h i t w =
      let none : is_none (concat_text env path elements) ≡ true =
      no_identifier text f (joined_text env path elements) h i in
      record {
        reported = t ∙ sym none;
        groups = appends_groups _ old new w;
        written = λ e. absurd (let x : true ≡ false = sym none ∙ e in cc);
      }
