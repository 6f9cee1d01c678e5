-- An answer that says why there is nothing shows no tokens and no text.
use Rattle.std.proofs.Common.{◌≡◌, ℕ, List, [], ap, refl, ◌∙◌}
use Rattle.mbe_tt.specs.declared.span.Edition.{Edition}
use Rattle.mbe_tt.specs.Trees.Top.{Top}
use Rattle.mbe_tt.specs.Trees.Tree.{Forest}
use Rattle.mbe_text.specs.declared.dialect.Dialect.{Dialect}
use Rattle.mbe_program.specs.declared.replies.answer.RequestPart.{RequestPart}
use Rattle.mbe_program.specs.declared.replies.requests.Request.{Request}
use Rattle.mbe_program.specs.declared.replies.requests.RequestSettings.{RequestSettings}
use Rattle.mbe_program.specs.Replies.ReadMacros.{IsUnread, unknown_number, no_trees_to_read, no_macro_to_read}
use Rattle.mbe_program.specs.Replies.Answers.{Answer, IsOutOfMemory, IsNoText, too_long, not_utf8, IsNoGrammar}
use Rattle.mbe_program.specs.Replies.Answers.{no_text_of_grammar, fault_in_grammar, no_memory_for_grammar}
use Rattle.mbe_program.specs.Replies.Requests.{Source, HasNoTrees, no_text_of_input, unlexed, invalid_tokens, neither}
use Rattle.mbe_program.specs.Replies.Requests.{no_memory_for_trees, IsNoMacro, refused, no_memory_for_macro, IsNoResult}
use Rattle.mbe_program.specs.Replies.Requests.{no_grammar, no_macro, IsNoAnswer, unknown, no_definition, no_argument}
use Rattle.mbe_program.specs.Replies.Requests.{no_result}

abbrev pub IsBare : Answer → Type 0
IsBare a = (a.tokens ≡ []) × (a.text ≡ [])

bare_as : (a b : Answer) → a ≡ b → IsBare b → IsBare a
bare_as a b e (tokens, text) = (ap (λ (x : Answer). x.tokens) e ∙ tokens, ap (λ (x : Answer). x.text) e ∙ text)

no_text-bare : (part : RequestPart) (text : List ℕ) (a : Answer) → IsNoText part text a → IsBare a
no_text-bare part text a (too_long long e) = bare_as a _ e (refl, refl)
no_text-bare part text a (not_utf8 invalid e) = bare_as a _ e (refl, refl)

pub no_grammar-bare : (text : List ℕ) (a : Answer) → IsNoGrammar text a → IsBare a
no_grammar-bare text a (no_text_of_grammar h) = no_text-bare _ text a h
no_grammar-bare text a (fault_in_grammar place reason read e) = bare_as a _ e (refl, refl)
no_grammar-bare text a (no_memory_for_grammar e) = bare_as a _ e (refl, refl)

no_trees-bare : (dialect : Dialect) (s : Source) (a : Answer) → HasNoTrees dialect s a → IsBare a
no_trees-bare dialect s a (no_text_of_input flat h) = no_text-bare _ _ a h
no_trees-bare dialect s a (unlexed flat fault lexes e) = bare_as a _ e (refl, refl)
no_trees-bare dialect s a (invalid_tokens flat index fault_kind why e) = bare_as a _ e (refl, refl)
no_trees-bare dialect s a (neither flat e) = bare_as a _ e (refl, refl)
no_trees-bare dialect s a (no_memory_for_trees e) = bare_as a _ e (refl, refl)

no_macro-bare : (edition : Edition) (definition : Forest) (a : Answer) → IsNoMacro edition definition a → IsBare a
no_macro-bare edition definition a (refused rules fault read e) = bare_as a _ e (refl, refl)
no_macro-bare edition definition a (no_memory_for_macro e) = bare_as a _ e (refl, refl)

no_result-bare : (s : RequestSettings) (text : List ℕ) (definition : Top) (a : Answer) → IsNoResult s text definition a
    → IsBare a
no_result-bare s text definition a (no_grammar asked h) = no_grammar-bare text a h
no_result-bare s text definition a (no_macro g named h) = no_macro-bare _ _ a h

pub no_answer-bare : (r : Request) (text : List ℕ) (definition argument : Source) (a : Answer)
    → IsNoAnswer r text definition argument a → IsBare a
no_answer-bare r text definition argument a (unknown none e) = bare_as a _ e (refl, refl)
no_answer-bare r text definition argument a (no_definition s asked h) = no_trees-bare _ _ a h
no_answer-bare r text definition argument a (no_argument s asked rules defined h) = no_trees-bare _ _ a h
no_answer-bare r text definition argument a (no_result x h) = no_result-bare _ _ _ a h

pub unread-bare : (r : Request) (text : List ℕ) (s : Source) (a : Answer) → IsUnread r text s a → IsBare a
unread-bare r text s a (unknown_number none e) = bare_as a _ e (refl, refl)
unread-bare r text s a (no_trees_to_read x asked h) = no_trees-bare _ _ a h
unread-bare r text s a (no_macro_to_read x asked rules defined h) = no_result-bare _ _ _ a h

pub out_of_memory-bare : (a : Answer) → IsOutOfMemory a → IsBare a
out_of_memory-bare a e = bare_as a _ e (refl, refl)
