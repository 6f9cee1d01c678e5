-- Many arguments of one definition: their answers, one after another, and what a call leaves of
-- them in memory of its caller.
use Rattle.std.specs.Prelude.{◌≡◌, ◌⊎◌, ◌+◌, ⊤, ℕ, Bool, ◌&&◌, if◌then◌else◌, nat_le, List, [], ◌∷◌}
use Rattle.std.specs.Prelude.{◌++◌, map, length, take, drop, Option, Some, None}
use Rattle.std.specs.List.{flat_map}
use Rattle.mbe_program.specs.declared.replies.flat.flat_token.FlatSpan.{FlatSpan}
use Rattle.mbe_program.specs.declared.replies.flat.flat_token.FlatToken.{FlatToken}
use Rattle.mbe_program.specs.declared.replies.answer.RequestPart.TheVariants as parts
use Rattle.mbe_program.specs.declared.replies.answer.Status.TheVariants.{Done, Number}
use Rattle.mbe_program.specs.declared.replies.requests.Request.{Request}
use Rattle.mbe_program.specs.Replies.Answers.{Answer, empty, IsOutOfMemory}
use Rattle.mbe_program.specs.Replies.Requests.{Source, Expands}
use Rattle.mbe_program.specs.Replies.ReadMacros.{IsUnread, asked_at}
use Rattle.mbe_c.specs.declared.Reply.{Reply}
use Rattle.mbe_c.specs.declared.batch.Answers.{Answers as CodeAnswers}
use Rattle.mbe_c.specs.declared.batch.ArgumentPiece.{ArgumentPiece}
use Rattle.mbe_c.specs.Copies.{Buffers, copied, done, reply_to, status_given, GivesFailure}

-- ---- pieces

-- `count` elements of a list from `offset` on. None if they aren't within the list.
abbrev pub part_at : {T : Type 0} → List T → ℕ → ℕ → Option (List T)
part_at all offset count =
    if nat_le (offset + count) (length all) then Some (take count (drop offset all)) else None

-- An argument whose text and tokens are both there.
abbrev pub argument_of_parts : Source → Option (List ℕ) → Option (List FlatToken) → Option Source
argument_of_parts all (Some text) (Some tokens) = Some (record all { text = text; tokens = tokens })
argument_of_parts all (Some text) None = None
argument_of_parts all None tokens = None

-- The argument of a piece. None if the piece isn't within all the arguments.
abbrev pub argument_at : Source → ArgumentPiece → Option Source
argument_at all p = argument_of_parts all (part_at all.text p.offset p.len)
    (part_at all.tokens p.token_offset p.token_len)

-- ---- answers

-- The answer to an argument, in a call at that span. For a piece that isn't within the arguments,
-- it is that a number has no meaning.
abbrev pub IsAnswerTo : (Source → FlatSpan → Answer → Type 0) → FlatSpan → Option Source → Answer
    → Type 0
IsAnswerTo Answers site (Some argument) a = Answers argument site a
IsAnswerTo Answers site None a = a ≡ empty Number parts.Argument

abbrev pub IsAnswerAt : (Source → FlatSpan → Answer → Type 0) → Source → ArgumentPiece → Answer
    → Type 0
IsAnswerAt Answers all p a = IsAnswerTo Answers p.call_site (argument_at all p) a

-- One answer for each piece, in order.
abbrev pub AreAnswersAt : (Source → FlatSpan → Answer → Type 0) → Source → List ArgumentPiece
    → List Answer → Type 0
AreAnswersAt Answers all [] [] = ⊤
AreAnswersAt Answers all (p ∷ ps) (a ∷ xs) =
    IsAnswerAt Answers all p a × AreAnswersAt Answers all ps xs
AreAnswersAt Answers all [] (a ∷ xs) = ⊥
AreAnswersAt Answers all (p ∷ ps) [] = ⊥

-- The replies to answers, and all that the answers show, one after another.
pub record Joined : Type 0 where
  pub replies : List Reply
  pub tokens : List FlatToken
  pub text : List ℕ
  pub message : List ℕ

abbrev pub joined : List Answer → Joined
joined xs = record {
  replies = map reply_to xs;
  tokens = flat_map (λ (a : Answer). a.tokens) xs;
  text = flat_map (λ (a : Answer). a.text) xs;
  message = flat_map (λ (a : Answer). a.message) xs;
}

-- The same with one answer more.
abbrev pub with_answer : Joined → Answer → Joined
with_answer j a = record {
  replies = j.replies ++ reply_to a ∷ [];
  tokens = j.tokens ++ a.tokens;
  text = j.text ++ a.text;
  message = j.message ++ a.message;
}

abbrev pub answers_seen : {A : Type 0} → CodeAnswers A → Joined
answers_seen found = record {
  replies = found.replies.items;
  tokens = found.tokens.items;
  text = found.text.items;
  message = found.message.items;
}

-- The answers to all pieces.
abbrev pub AreJoined : (Source → FlatSpan → Answer → Type 0) → Source → List ArgumentPiece → Joined
    → Type 0
AreJoined Answers all ps j = (xs : List Answer) × AreAnswersAt Answers all ps xs × (j ≡ joined xs)

-- The answers of `expand` to all pieces, each in a call at its own span.
abbrev pub AreExpansions : Request → List ℕ → Source → Source → List ArgumentPiece → Joined → Type 0
AreExpansions r grammar definition all ps j =
    AreJoined (λ argument site a. Expands (asked_at r site) grammar definition argument a) all ps j

-- No macro was read, or memory ran out.
abbrev pub IsNoExpansion : Request → List ℕ → Source → Answer → Type 0
IsNoExpansion r grammar definition a = IsUnread r grammar definition a ⊎ IsOutOfMemory a

-- ---- what is given

abbrev pub has_room_for_all : Joined → List Reply → Buffers → Bool
has_room_for_all j replies b =
    nat_le (length j.replies) (length replies) && nat_le (length j.tokens) (length b.tokens)
    && nat_le (length j.text) (length b.text)

-- Answers are given. Each buffer has its part of all answers, if there is room for it, and the
-- reply has the lengths. Messages need no room.
pub record GivesAll (j : Joined) (old new : List Reply) (before after : Buffers)
    (reply : Reply) : Type 0 where
  pub replies : new ≡ copied j.replies old
  pub tokens : after.tokens ≡ copied j.tokens before.tokens
  pub text : after.text ≡ copied j.text before.text
  pub message : after.message ≡ copied j.message before.message
  pub says : reply ≡ record done {
    status = status_given Done (has_room_for_all j old before);
    place = length j.replies;
    tokens = length j.tokens;
    text = length j.text;
    message = length j.message;
  }

-- The answers of `expand` to each argument are given, each in a call at its own span; or why no
-- macro was read.
pub data GivesExpansions (r : Request) (grammar : List ℕ) (definition all : Source)
    (ps : List ArgumentPiece)
    (old new : List Reply)
    (before after : Buffers) (reply : Reply) : Type 0 where
  with_expansions : (j : Joined) → AreExpansions r grammar definition all ps j
      → GivesAll j old new before after reply
      → GivesExpansions r grammar definition all ps old new before after reply
  without_expansions : GivesFailure (IsNoExpansion r grammar definition) before.message
      after.message reply → new ≡ old
      → after.tokens ≡ before.tokens → after.text ≡ before.text
      → GivesExpansions r grammar definition all ps old new before after reply
