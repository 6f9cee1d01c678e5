-- Answers to many arguments, one after another.
use Rattle.std.proofs.Common.{◌≡◌, ◌∙◌, ◌+◌, ◌<◌, inl, inr, ℕ, zero, suc, List, [], ◌∷◌, ◌++◌, take, length}
use Rattle.std.proofs.Common.{slice_index_or, Option, Some, None, add-one, arith, refl, subst, sym}
use Rattle.std.proofs.lemmas.List.{flat_map_more, map-append}
use Rattle.mbe_program.specs.declared.replies.flat.flat_token.FlatSpan.{FlatSpan}
use Rattle.mbe_program.specs.declared.replies.requests.Request.{Request}
use Rattle.mbe_program.specs.declared.replies.read_macro.ReadMacro.{ReadMacro}
use Rattle.mbe_program.specs.Replies.Answers.{Answer}
use Rattle.mbe_program.specs.Replies.Requests.{Source, Expands}
use Rattle.mbe_program.specs.Replies.ReadMacros.{AnswersBy, IsMacro, asked_at}
use Rattle.mbe_program.proofs.ReplyLemmas.BareLemmas.{IsBare, out_of_memory-bare, unread-bare}
use Rattle.mbe_c.specs.declared.batch.ArgumentPiece.{ArgumentPiece}
use Rattle.mbe_c.specs.Copies.{reply_to}
use Rattle.mbe_c.specs.Batch.{AreAnswersAt, AreJoined, IsAnswerAt, IsAnswerTo, IsNoExpansion, Joined, argument_at}
use Rattle.mbe_c.specs.Batch.{joined, with_answer}

module _ (Answers : Source → FlatSpan → Answer → Type 0) (all : Source) where
  answers_at : (ps : List ArgumentPiece) (n : ℕ) (xs : List Answer) (other : ArgumentPiece) (a : Answer) → n < length ps
      → AreAnswersAt Answers all (take n ps) xs → IsAnswerAt Answers all (slice_index_or ps n other) a
      → AreAnswersAt Answers all (take (suc n) ps) (xs ++ a ∷ [])
  answers_at [] n xs other a l h k = absurd (omega (arith, l))
  answers_at (p ∷ ps) zero [] other a l h k = (k, tt)
  answers_at (p ∷ ps) zero (b ∷ xs) other a l h k = absurd h
  answers_at (p ∷ ps) (suc n) [] other a l h k = absurd h
  answers_at (p ∷ ps) (suc n) (b ∷ xs) other a l h k = (h.0, answers_at ps n xs other a (omega (arith, l)) h.1 k)

-- with one answer more
joined_more : (xs : List Answer) (a : Answer) → with_answer (joined xs) a ≡ joined (xs ++ a ∷ [])
joined_more xs a =
    rw (
      sym (map-append reply_to xs (a ∷ [])),
      sym (flat_map_more (λ (x : Answer). x.tokens) [] xs a),
      sym (flat_map_more (λ (x : Answer). x.text) [] xs a),
      sym (flat_map_more (λ (x : Answer). x.message) [] xs a),
    ) refl

pub one_answer_more : (Answers : Source → FlatSpan → Answer → Type 0) (all : Source) (ps : List ArgumentPiece) (n : ℕ)
    (other : ArgumentPiece) (a : Answer)
    (before after : Joined) → n < length ps → AreJoined Answers all (take n ps) before
    → IsAnswerAt Answers all (slice_index_or ps n other) a
    → after ≡ with_answer before a → AreJoined Answers all (take (n + 1) ps) after
one_answer_more Answers all ps n other a before after l (xs, answers, e) is more = (
  xs ++ a ∷ [],
  subst (λ (k : ℕ). AreAnswersAt Answers all (take k ps) (xs ++ a ∷ [])) (sym (add-one n))
      (answers_at Answers all ps n xs other a l answers is),
  more ∙ (subst (λ (j : Joined). with_answer before a ≡ with_answer j a) e refl ∙ joined_more xs a),
)

-- What a macro that was read answers is what `expand` answers to the request.
module _ {A : Type 0} (m : ReadMacro A) (r : Request) (text : List ℕ) (definition : Source)
    (is : IsMacro r text definition m) where
  abbrev Allowed : Source → FlatSpan → Answer → Type 0
  Allowed argument site a = Expands (asked_at r site) text definition argument a

  allowed : (site : FlatSpan) (found : Option Source) (a : Answer) → IsAnswerTo (AnswersBy m) site found a
      → IsAnswerTo Allowed site found a
  allowed site (Some argument) a h = h r text definition is
  allowed site None a h = h

  all_allowed : (all : Source) (ps : List ArgumentPiece) (xs : List Answer) → AreAnswersAt (AnswersBy m) all ps xs
      → AreAnswersAt Allowed all ps xs
  all_allowed all [] [] h = h
  all_allowed all [] (a ∷ xs) h = absurd h
  all_allowed all (p ∷ ps) [] h = absurd h
  all_allowed all (p ∷ ps) (a ∷ xs) (first, rest) =
      (allowed p.call_site (argument_at all p) a first, all_allowed all ps xs rest)

  pub joined_allowed : (all : Source) (ps : List ArgumentPiece) (j : Joined) → AreJoined (AnswersBy m) all ps j
      → AreJoined Allowed all ps j
  joined_allowed all ps j (xs, answers, e) = (xs, all_allowed all ps xs answers, e)

-- an answer that there are none shows nothing
pub no_expansion-bare : (r : Request) (text : List ℕ) (definition : Source) (a : Answer)
    → IsNoExpansion r text definition a → IsBare a
no_expansion-bare r text definition a (inl h) = unread-bare r text definition a h
no_expansion-bare r text definition a (inr h) = out_of_memory-bare a h
