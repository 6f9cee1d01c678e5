-- What a call leaves in memory of its caller: the reply, and as much of the answer as the buffers
-- have room for.
use Rattle.std.specs.Prelude.{◌≡◌, ◌⊎◌, ◌-◌, ◌^◌, ℕ, Bool, ◌&&◌, if◌then◌else◌, min, nat_le, List}
use Rattle.std.specs.Prelude.{[], ◌++◌, length, drop, Option, Some, None, unwrap_or}
use Rattle.mbe_program.specs.declared.replies.flat.flat_token.FlatToken.{FlatToken}
use Rattle.mbe_program.specs.Replies.Flat.TokenCodes.{flat_span}
use Rattle.mbe_program.specs.declared.replies.answer.RequestPart.TheVariants as parts
use Rattle.mbe_program.specs.declared.replies.answer.Status.{Status}
use Rattle.mbe_program.specs.declared.replies.answer.Status.TheVariants.{Done}
use Rattle.mbe_program.specs.declared.replies.requests.FlatVerdict.{FlatVerdict}
use Rattle.mbe_program.specs.declared.replies.requests.Request.{Request}
use Rattle.mbe_program.specs.Replies.Answers.{Answer, empty, part_number, status_number}
use Rattle.mbe_program.specs.Replies.Answers.{IsNoGrammar}
use Rattle.mbe_program.specs.Replies.Requests.{Source, Converts, Defines, Expands, IsGrammarText}
use Rattle.mbe_program.specs.Replies.Requests.{IsNoAnswer, IsUndefined, ShowsVerdicts}
use Rattle.mbe_c.specs.declared.Reply.{Reply}

-- ---- copies

-- A buffer with a list at its front, if there is room for the whole list; else the buffer is
-- unchanged.
abbrev pub copied : {T : Type 0} → List T → List T → List T
copied from to = if nat_le (length from) (length to) then from ++ drop (length from) to else to

-- The status, or that there is no room.
abbrev pub status_given : Status → Bool → ℕ
status_given status has_room = if has_room then status_number status else 10

-- ---- answers in numbers

abbrev pub has_rule : Option ℕ → ℕ
has_rule None = 0
has_rule (Some rule) = 1

-- The reply to an answer, if the buffers have room.
abbrev pub reply_to : Answer → Reply
reply_to a = record {
  status = status_number a.status;
  part = part_number a.part;
  has_rule = has_rule a.rule;
  rule = unwrap_or a.rule 0;
  span = flat_span a.span;
  column = min a.column (2 ^ 32 - 1);
  place = a.place;
  tokens = length a.tokens;
  text = length a.text;
  message = length a.message;
}

-- The reply that a call succeeded, with nothing else.
abbrev pub done : Reply
done = reply_to (empty Done parts.None)

-- The buffers of the caller.
pub record Buffers : Type 0 where
  pub tokens : List FlatToken
  pub text : List ℕ
  pub message : List ℕ

abbrev pub has_room : Answer → Buffers → Bool
has_room a b = nat_le (length a.tokens) (length b.tokens) && nat_le (length a.text) (length b.text)

-- An answer is given. Each buffer has its part if there is room for it, and the reply has the
-- answer's numbers. A message needs no room.
pub record Gives (a : Answer) (before after : Buffers) (reply : Reply) : Type 0 where
  pub tokens : after.tokens ≡ copied a.tokens before.tokens
  pub text : after.text ≡ copied a.text before.text
  pub message : after.message ≡ copied a.message before.message
  pub says : reply ≡ record (reply_to a) { status = status_given a.status (has_room a before) }

-- A message is given, of an answer without tokens and without a text.
pub record GivesMessage (a : Answer) (before after : List ℕ) (reply : Reply) : Type 0 where
  pub message : after ≡ copied a.message before
  pub says : reply ≡ reply_to a

-- Verdicts are given.
pub record GivesVerdicts (found before after : List FlatVerdict) (reply : Reply) : Type 0 where
  pub verdicts : after ≡ copied found before
  pub says : reply ≡ record done {
    status = status_given Done (nat_le (length found) (length before));
    tokens = length found;
  }

-- ---- the calls

-- The answer of `expand` is given.
abbrev pub GivesExpansion : Request → List ℕ → Source → Source → Buffers → Buffers → Reply → Type 0
GivesExpansion r grammar definition argument before after reply =
    (a : Answer) × Expands r grammar definition argument a × Gives a before after reply

-- The answer of `convert` is given.
abbrev pub GivesTrees : Request → Source → Buffers → Buffers → Reply → Type 0
GivesTrees r s before after reply = (a : Answer) × Converts r s a × Gives a before after reply

-- The failure is given: why there are no verdicts, no rules or no grammar.
abbrev pub GivesFailure : (Answer → Type 0) → List ℕ → List ℕ → Reply → Type 0
GivesFailure Fails before after reply = (a : Answer) × Fails a × GivesMessage a before after reply

-- The verdicts of `explain` are given, or why there are none.
pub data GivesExplanation (r : Request) (grammar : List ℕ) (definition argument : Source)
    (before after : List FlatVerdict)
    (old_message new_message : List ℕ) (reply : Reply) : Type 0 where
  with_verdicts : (found : List FlatVerdict) → ShowsVerdicts r grammar definition argument found
      → GivesVerdicts found before after reply
      → new_message ≡ old_message
      → GivesExplanation r grammar definition argument before after old_message new_message
      reply
  without_verdicts : GivesFailure (IsNoAnswer r grammar definition argument) old_message new_message
      reply
      → after ≡ before
      → GivesExplanation r grammar definition argument before after old_message new_message reply

-- The number of rules of `define` is given, or why there are none.
pub data GivesCount (r : Request) (s : Source) (before after : List ℕ) (reply : Reply) : Type 0
  where
    with_rules : (count : ℕ) → Defines r s count → reply ≡ record done { place = count } → after
        ≡ before
        → GivesCount r s before after reply
    without_rules : GivesFailure (IsUndefined r s) before after reply
        → GivesCount r s before after reply

-- The reply says that a text is a grammar, or why it isn't.
pub data GivesGrammar (text before after : List ℕ) (reply : Reply) : Type 0 where
  with_grammar : IsGrammarText text → reply ≡ done → after ≡ before
      → GivesGrammar text before after reply
  without_grammar : GivesFailure (IsNoGrammar text) before after reply
      → GivesGrammar text before after reply
