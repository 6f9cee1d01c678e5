-- The first fault, part by part.
use Rattle.std.proofs.Common.{◌≡◌, ℕ, ◌+◌, Option, Some, None, refl, ap, sym, ◌∙◌, add-one}
use Rattle.std.specs.Option.{option_or}
use Rattle.std.specs.Prelude.{option_map}
use Rattle.mbe_tt.specs.declared.span.Span.{Span}
use Rattle.mbe_semantics.specs.declared.fragment_kinds.RepeatKind.{RepeatKind}
use Rattle.mbe_semantics.specs.Syntax.Op.{Separator, Op, Ops, no_ops, op, repetition}
use Rattle.mbe_semantics.specs.Bindings.Environment.{Environment}
use Rattle.mbe_semantics.specs.Expansion.Error.{ExpandErrorKind, ExpandError}
use Rattle.mbe_semantics.specs.Transcription.Rounds.{Path, kept_rounds, finite, level}
use Rattle.mbe_transcriber.specs.TemplateFaults.{first_below, first_round, op_fault, first_fault}
use Rattle.mbe_variables.specs.LookupErrors.{at, extent_fault}

or_over : {X : Type 0} (a b c : Option X) → option_or (option_or a b) c ≡ option_or a (option_or b c)
or_over None b c = refl
or_over (Some x) b c = refl

or_end : {X : Type 0} (a : Option X) → option_or a None ≡ a
or_end None = refl
or_end (Some x) = refl

seen_or : {X Y : Type 0} (f : X → Y) (a b : Option X)
    → option_map f (option_or a b) ≡ option_or (option_map f a) (option_map f b)
seen_or f None b = refl
seen_or f (Some x) b = refl

module _ {X : Type 0} (seen : X → ExpandError) (site : Span) (env : Environment) (path : Path) where
  -- ---- ops one after the other

  pub ops_step : (all left rest : Ops) (o : Op) (first fault now : Option X) → left ≡ op o rest
      → now ≡ option_or first fault
      → option_map seen fault ≡ op_fault site env path o
      → first_fault site env path all ≡ option_or (option_map seen first) (first_fault site env path left)
      → first_fault site env path all ≡ option_or (option_map seen now) (first_fault site env path rest)
  ops_step all left rest o first fault now l n f h =
      let following = first_fault site env path rest in
      h ∙ (ap (λ os. option_or (option_map seen first) (first_fault site env path os)) l
      ∙ (ap (λ x. option_or (option_map seen first) (option_or x following)) (sym f)
      ∙ (sym (or_over (option_map seen first) (option_map seen fault) following)
      ∙ ap (λ x. option_or x following) (sym (ap (option_map seen) n ∙ seen_or seen first fault)))))

  -- where no op is left
  pub ops_end : (all left : Ops) (first : Option X) → left ≡ no_ops
      → first_fault site env path all ≡ option_or (option_map seen first) (first_fault site env path left)
      → option_map seen first ≡ first_fault site env path all
  ops_end all left first l h =
      sym (h ∙ (ap (λ os. option_or (option_map seen first) (first_fault site env path os)) l
      ∙ or_end (option_map seen first)))

  -- ---- rounds

  -- the first fault of a round
  abbrev pub round_fault : Ops → ℕ → ℕ → Option ExpandError
  round_fault body i rounds = first_fault site env (level i rounds path) body

  pub rounds_step : (body : Ops) (rounds i : ℕ) (first fault now : Option X) (inner : Path)
      → inner ≡ level i rounds path
      → now ≡ option_or first fault → option_map seen fault ≡ first_fault site env inner body
      → option_map seen first ≡ first_below (λ k. round_fault body k rounds) i
      → option_map seen now ≡ first_below (λ k. round_fault body k rounds) (i + 1)
  rounds_step body rounds i first fault now inner p n f h =
      rw add-one (ap (option_map seen) n ∙ (seen_or seen first fault ∙ (ap (λ x. option_or x (option_map seen fault)) h
      ∙ ap (option_or (first_below (λ k. round_fault body k rounds) i)) (f ∙ ap (λ q. first_fault site env q body) p))))

  pub rounds_end : (body : Ops) (separator : Option Separator) (repeat : RepeatKind) (n : ℕ) (first : Option X)
      → kept_rounds repeat env path body ≡ finite n → None ≡ extent_fault repeat (kept_rounds repeat env path body)
      → option_map seen first ≡ first_below (λ k. round_fault body k n) n
      → option_map seen first ≡ op_fault site env path (repetition body separator repeat)
  rounds_end body separator repeat n first k e h =
      let all = kept_rounds repeat env path body in
      h ∙ (ap (first_round (round_fault body)) (sym k)
      ∙ ap (λ x. option_or (option_map (at site) x) (first_round (round_fault body) all)) e)

  pub rounds_refused : (body : Ops) (separator : Option Separator) (repeat : RepeatKind) (kind : ExpandErrorKind)
      → Some kind ≡ extent_fault repeat (kept_rounds repeat env path body)
      → Some (at site kind) ≡ op_fault site env path (repetition body separator repeat)
  rounds_refused body separator repeat kind e =
      ap (λ x. option_or (option_map (at site) x) (first_round (round_fault body) (kept_rounds repeat env path body))) e
