-- A macro that is kept, and its answers to calls.
use Rattle.std.proofs.Common.{◌≡◌, inr, ℕ, List, Result, Ok, Err, None, ap, subst, sym, ◌∙◌, not-le_of_lt}
use Rattle.std.specs.Prelude.{⊤}
use Rattle.mbe_grammar.specs.Peg.Grammar.{read_text}
use Rattle.mbe_grammar.specs.Peg.Views.{grammar_model}
use Rattle.mbe_program.specs.declared.replies.answer.RequestPart.{RequestPart}
use Rattle.mbe_program.specs.declared.replies.answer.RequestPart.TheVariants as parts
use Rattle.mbe_program.specs.declared.replies.answer.Status.TheVariants.{Number, OutOfMemory}
use Rattle.mbe_program.specs.declared.replies.request_codes.GrammarKind.{GrammarKind}
use Rattle.mbe_program.specs.declared.replies.request_codes.GrammarKind.TheVariants as grammars
use Rattle.mbe_program.specs.declared.replies.requests.Request.{Request}
use Rattle.mbe_program.specs.declared.replies.requests.RequestSettings.{RequestSettings}
use Rattle.mbe_program.specs.declared.replies.kept_macro.KeptCall.{KeptCall}
use Rattle.mbe_program.specs.declared.replies.kept_macro.KeptMacro.{KeptMacro}
use Rattle.mbe_program.specs.declared.replies.read_macro.Fragments.{Fragments}
use Rattle.mbe_program.specs.declared.replies.read_macro.Fragments.TheVariants as fragments
use Rattle.mbe_program.specs.declared.replies.read_macro.ReadMacro.{ReadMacro}
use Rattle.mbe_program.specs.Replies.Answers.{Answer, empty, IsOutOfMemory, IsNoText, too_long, not_utf8, IsNoGrammar}
use Rattle.mbe_program.specs.Replies.Answers.{no_text_of_grammar, fault_in_grammar, no_memory_for_grammar}
use Rattle.mbe_program.specs.Replies.Requests.{AreRequestSettings, IsText, IsGrammarText, Source, no_memory_for_trees}
use Rattle.mbe_program.specs.Replies.Requests.{no_definition, unknown}
use Rattle.mbe_program.specs.Replies.ReadMacros.{AnswersBy, AreFragments, IsMacro, IsUnread, no_trees_to_read}
use Rattle.mbe_program.specs.Replies.KeptMacros.{IsKept, AreAtCall, IsUnknownCall, AnswersCall, asked_as}

-- ---- the text of a grammar

abbrev IsOfText : GrammarKind → Type 0
IsOfText grammars.Sample = ⊥
IsOfText grammars.Rust = ⊥
IsOfText grammars.Text = ⊤

-- the rules of a text were read, where that is asked for
text_read : {A : Type 0} (s : RequestSettings) (text : List ℕ) (f : Fragments A) → AreFragments s text f
    → s.grammar ≡ grammars.Text → IsGrammarText text
text_read s text fragments.Sample e asked = absurd (subst IsOfText (sym asked ∙ e) tt)
text_read s text (fragments.Rust table) (e, its) asked = absurd (subst IsOfText (sym asked ∙ e) tt)
text_read s text (fragments.Text rules) (e, is_text, read) asked =
    record { is_text = is_text; table = grammar_model rules; read = read }

-- of another text that is the same, they are the same
same_text : {A : Type 0} (s : RequestSettings) (text kept : List ℕ) (f : Fragments A)
    → (s.grammar ≡ grammars.Text → kept ≡ text) → AreFragments s kept f → AreFragments s text f
same_text s text kept fragments.Sample same e = e
same_text s text kept (fragments.Rust table) same h = h
same_text s text kept (fragments.Text rules) same (e, is_text, read) = (
  e,
  subst IsText (same e) is_text,
  subst (λ (t : List ℕ). read_text t ≡ Ok (grammar_model rules)) (same e) read,
)

no_text-only_memory : (text : List ℕ) (a : Answer) → IsText text → IsNoText parts.Grammar text a → ⊥
no_text-only_memory text a is (too_long long e) = not-le_of_lt is.short long
no_text-only_memory text a is (not_utf8 invalid e) = invalid is.utf8

abbrev WasRead : {T E : Type 0} → Result T E → Type 0
WasRead (Ok x) = ⊤
WasRead (Err e) = ⊥

-- a text that is a grammar's fails to be one only where memory runs out
only_memory : (text : List ℕ) (a : Answer) → IsGrammarText text → IsNoGrammar text a → IsOutOfMemory a
only_memory text a is (no_text_of_grammar h) = absurd (no_text-only_memory text a is.is_text h)
only_memory text a is (fault_in_grammar place reason read e) = absurd (subst WasRead (sym is.read ∙ read) tt)
only_memory text a is (no_memory_for_grammar e) = e

-- ---- reading

pub kept_of : {A : Type 0} (r : Request) (text : List ℕ) (definition : Source) (m : ReadMacro A) (kept : KeptMacro A)
    → IsMacro r text definition m → kept.asked ≡ m.asked → kept.read ≡ m.read
    → (m.asked.grammar ≡ grammars.Text → kept.grammar.items ≡ text) → IsKept r text definition kept
kept_of r text definition m kept (asked, (trees, defined, (are, read))) same_asked same_read same = record {
  asked = rw same_asked asked;
  trees = trees;
  defined = rw same_asked defined;
  read = rw (same_asked, same_read) read;
  kept = λ e. same (ap (λ (s : RequestSettings). s.grammar) (sym same_asked) ∙ e);
  is_one = λ e. text_read m.asked text m.fragments are (ap (λ (s : RequestSettings). s.grammar) (sym same_asked) ∙ e);
}

-- a macro isn't kept where memory runs out
pub unread_of : {A : Type 0} (r : Request) (text : List ℕ) (definition : Source) (m : ReadMacro A) (a : Answer)
    (part : RequestPart)
    → IsMacro r text definition m → a ≡ empty OutOfMemory part → IsUnread r text definition a
unread_of r text definition m a part (asked, is) none =
    let none_there : IsOutOfMemory a = none ∙ ap (empty OutOfMemory) (sym (ap (λ (x : Answer). x.part) none)) in
    no_trees_to_read m.asked asked (no_memory_for_trees none_there)

-- ---- calls

pub unknown_call : {A : Type 0} (m : KeptMacro A) (c : KeptCall) (argument : Source) (a : Answer) → IsUnknownCall c
    → a ≡ empty Number parts.None → AnswersCall m c argument a
unknown_call m c argument a none e r text definition is =
    inr (unknown (λ s asked. none s.style s.form asked.style asked.form) e)

-- what a call asks, of the request that the macro was read for
asked_at_call : (r : Request) (asked : RequestSettings) (c : KeptCall) (s : RequestSettings)
    → AreRequestSettings r asked → AreAtCall asked c s
    → AreRequestSettings (asked_as r c) s
asked_at_call r asked c s is at = record {
  edition = rw at.others is.edition;
  dialect = rw at.others is.dialect;
  grammar = rw at.others is.grammar;
  style = at.style;
  form = at.form;
  site = ap (λ (x : RequestSettings). x.call_site) at.others;
}

-- by the rules and a grammar that was read anew
pub answers_read : {A : Type 0} (m : KeptMacro A) (c : KeptCall) (s : RequestSettings) (f : Fragments A)
    (argument : Source)
    (a : Answer)
    → AreAtCall m.asked c s → AreFragments s m.grammar.items f
    → AnswersBy (record { asked = s; fragments = f; read = m.read }) argument c.call_site a
    → AnswersCall m c argument a
answers_read m c s f argument a at are answers r text definition is =
    let same = ap (λ (x : RequestSettings). x.grammar) at.others in
    let there = same_text s text m.grammar.items f (λ e. is.kept (sym same ∙ e)) are in
    answers (asked_as r c) text definition (
      asked_at_call r m.asked c s is.asked at,
      (
        is.trees,
        rw at.others is.defined,
        (there, rw at.others is.read),
      ),
    )

-- where none is read, though there was one
pub answers_unread : {A : Type 0} (m : KeptMacro A) (c : KeptCall) (s : RequestSettings) (argument : Source)
    (a : Answer)
    → AreAtCall m.asked c s → s.grammar ≡ grammars.Text → IsNoGrammar m.grammar.items a
    → AnswersCall m c argument a
answers_unread m c s argument a at asked none r text definition is =
    let asked_then = sym (ap (λ (x : RequestSettings). x.grammar) at.others) ∙ asked in
    let there = subst (λ (t : List ℕ). IsNoGrammar t a) (is.kept asked_then) none in
    inr (no_definition s (asked_at_call r m.asked c s is.asked at)
    (no_memory_for_trees (only_memory text a (is.is_one asked_then) there)))
