-- What calls with a handle answer, and leave in it.
use Rattle.std.specs.Prelude.{◌≡◌, ℕ, List, Option, Some, None}
use Rattle.mbe_program.specs.declared.replies.flat.flat_token.FlatToken.{FlatToken}
use Rattle.mbe_program.specs.declared.replies.answer.RequestPart.TheVariants as parts
use Rattle.mbe_program.specs.declared.replies.answer.Status.TheVariants.{Done, HasMacro, NoMacro}
use Rattle.mbe_program.specs.declared.replies.requests.Request.{Request}
use Rattle.mbe_program.specs.declared.replies.kept_macro.KeptCall.{KeptCall}
use Rattle.mbe_program.specs.Replies.Answers.{Answer, empty, status_number}
use Rattle.mbe_program.specs.Replies.Requests.{Source}
use Rattle.mbe_program.specs.Replies.KeptMacros.{AnswersCall, IsKept, rule_count}
use Rattle.mbe_c.specs.declared.Reply.{Reply}
use Rattle.mbe_c.specs.Copies.{Buffers, done, Gives, GivesFailure}
use Rattle.mbe_c.specs.Batch.{IsNoExpansion}
use Rattle.mbe_c.specs.HandleOwnership.{HeldMacro}

-- A handle without a macro gets the macro that is read, and the reply has the number of its rules.
-- If no macro can be read, the handle gets none, and the reply says why. A handle with a macro is
-- unchanged, and the reply says that it has one.
pub data GivesMacro (r : Request) (grammar : List ℕ) (definition : Source)
    (old new : Option HeldMacro)
    (before after : List ℕ) (reply : Reply) : Type 0 where
  with_macro : old ≡ None → (m : HeldMacro) → new ≡ Some m → IsKept r grammar definition m
      → reply ≡ record done { place = rule_count m } → after ≡ before
      → GivesMacro r grammar definition old new before after reply
  without_macro : old ≡ None → new ≡ None
      → GivesFailure (IsNoExpansion r grammar definition) before after reply
      → GivesMacro r grammar definition old new before after reply
  with_another : (m : HeldMacro) → old ≡ Some m → new ≡ old
      → GivesFailure (λ a. a ≡ empty HasMacro parts.None) before after reply
      → GivesMacro r grammar definition old new before after reply

-- The argument of a call.
abbrev pub argument_of_call : KeptCall → List ℕ → List FlatToken → Source
argument_of_call c text tokens =
    record {
      text = text;
      tokens = tokens;
      is_flat = c.argument_is_flat;
      part = parts.Argument;
      file = 1;
    }

-- The answer of the handle's macro is given, or that the handle has none.
abbrev pub GivesAnswer : Option HeldMacro → KeptCall → Source → Buffers → Buffers → Reply → Type 0
GivesAnswer (Some m) c argument before after reply =
    (a : Answer) × AnswersCall m c argument a × Gives a before after reply
GivesAnswer None c argument before after reply = Gives (empty NoMacro parts.None) before after reply

-- The status of freeing a macro: whether there was one.
abbrev pub freed : Option HeldMacro → ℕ
freed (Some m) = status_number Done
freed None = status_number NoMacro
