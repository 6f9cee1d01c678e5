-- What is given of an answer that shows no tokens and no text: its message.
use Rattle.std.proofs.Common.{◌≡◌, ◌∙◌, ℕ, Bool, true, List, [], ap, refl}
use Rattle.mbe_program.specs.declared.replies.flat.flat_token.FlatToken.{FlatToken}
use Rattle.mbe_program.specs.Replies.Answers.{Answer}
use Rattle.mbe_program.proofs.ReplyLemmas.BareLemmas.{IsBare}
use Rattle.mbe_c.specs.declared.Reply.{Reply}
use Rattle.mbe_c.specs.Copies.{Gives, GivesMessage, has_room, reply_to, status_given}

-- it needs no room
bare_fits : (a : Answer) (message : List ℕ) → IsBare a
    → has_room a (record { tokens = []; text = []; message = message }) ≡ true
bare_fits a message (tokens, text) = rw (tokens, text) refl

pub gives_message : (a : Answer) (before after : List ℕ) (tokens : List FlatToken) (text : List ℕ) (reply : Reply)
    → IsBare a
    → Gives a (record { tokens = []; text = []; message = before })
    (record { tokens = tokens; text = text; message = after }) reply
    → GivesMessage a before after reply
gives_message a before after tokens text reply bare given = record {
  message = given.message;
  says = given.says ∙ ap (λ (room : Bool). record (reply_to a) { status = status_given a.status room })
      (bare_fits a before bare);
}
