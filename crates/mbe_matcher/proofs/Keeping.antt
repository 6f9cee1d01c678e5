-- What positions stand for in a log, with outer items, they stand for in a later one.
use Rattle.std.proofs.Common.{◌≡◌, ◌∙◌, ◌++◌, ◌+◌, ◌<◌, ℕ, zero, suc, List, [], ◌∷◌, length, take, get_or, Option, Some}
use Rattle.std.proofs.Common.{None, option_to_list, sym, ap, subst, append_assoc, append-nil}
use Rattle.std.proofs.lemmas.List.{take_more}
use Rattle.std.specs.Prelude.{slice_get}
use Rattle.std.proofs.lemmas.Option.{none-some}
use Rattle.mbe_tt.specs.Trees.Tree.{Forest}
use Rattle.mbe_semantics.specs.Bindings.Account.{Commands, Log, Handle}
use Rattle.mbe_semantics.specs.Matching.ThreadModel.{ModelFrame, ThreadModel, thread_model, Advance, advance}
use Rattle.mbe_log.specs.HandleChanges.{KeepsHandles}
use Rattle.mbe_log.proofs.ClientLemmas.{kept-on}
use Rattle.mbe_threads.specs.declared.thread.Thread.{Thread}
use Rattle.mbe_threads.specs.declared.thread.ThreadFrame.{ThreadFrame}
use Rattle.mbe_threads.specs.declared.thread.TokenStep.{TokenStep}
use Rattle.mbe_matcher.specs.Threads.{Each, Both, Grows, AreFrames, none_open, group_open, repetition_open, Shows}
use Rattle.mbe_matcher.specs.Threads.{LeadsTo, Holds, Keeps}

-- ---- lists

pub grows_not : {X : Type 0} (xs : List X) → Grows xs xs
grows_not xs = ([], sym (append-nil xs))

pub grows_on : {X : Type 0} (xs ys zs : List X) → Grows xs ys → Grows ys zs → Grows xs zs
grows_on xs ys zs (a, e) (b, f) = (a ++ b, f ∙ ap (λ x. x ++ b) e ∙ append_assoc xs a b)

got_more : {X : Type 0} (xs ys : List X) (n : ℕ) (x : X) → slice_get xs n ≡ Some x → slice_get (xs ++ ys) n ≡ Some x
got_more [] ys n x e = absurd (none-some x e)
got_more (y ∷ xs) ys zero x e = e
got_more (y ∷ xs) ys (suc n) x e = got_more xs ys n x e

pub still_got : {X : Type 0} (old new : List X) (n : ℕ) (x : X) → Grows old new → slice_get old n ≡ Some x
    → slice_get new n ≡ Some x
still_got old new n x (more, e) h = ap (λ xs. slice_get xs n) e ∙ got_more old more n x h

-- what is so of each is so in another way
pub each_weaker : {X Y : Type 0} (P Q : X → Y → Type 0) → ((x : X) (y : Y) → P x y → Q x y)
    → (xs : List X) (ys : List Y) → Each P xs ys → Each Q xs ys
each_weaker P Q h [] [] e = tt
each_weaker P Q h [] (y ∷ ys) e = absurd e
each_weaker P Q h (x ∷ xs) [] e = absurd e
each_weaker P Q h (x ∷ xs) (y ∷ ys) e = (h x y e.0, each_weaker P Q h xs ys e.1)

pub each_append : {X Y : Type 0} (P : X → Y → Type 0) (xs us : List X) (ys vs : List Y) → Each P xs ys → Each P us vs
    → Each P (xs ++ us) (ys ++ vs)
each_append P [] us [] vs e f = f
each_append P [] us (y ∷ ys) vs e f = absurd e
each_append P (x ∷ xs) us [] vs e f = absurd e
each_append P (x ∷ xs) us (y ∷ ys) vs e f = (e.0, each_append P xs us ys vs e.1 f)

-- one member more of the first list was looked at
pub each_next : {X Y : Type 0} (P : X → Y → Type 0) (xs : List X) (i : ℕ) (x : X) (ys : List Y) (y : Y) (zs : List Y)
    → i < length xs → x ≡ get_or xs i x → Each P (take i xs) ys → P x y → zs ≡ ys ++ y ∷ []
    → Each P (take (i + 1) xs) zs
each_next P xs i x ys y zs l at e p is =
    subst (λ us. Each P us zs) (ap (λ u. take i xs ++ u ∷ []) at ∙ sym (take_more xs i x l))
    (subst (Each P (take i xs ++ x ∷ [])) (sym is) (each_append P (take i xs) (x ∷ []) ys (y ∷ []) e (p, tt)))

pub both_weaker : {X Y : Type 0} (P Q : X → Y → Type 0) → ((x : X) (y : Y) → P x y → Q x y)
    → (x : Option X) (y : Option Y) → Both P x y → Both Q x y
both_weaker P Q h None None b = tt
both_weaker P Q h (Some x) (Some y) b = h x y b
both_weaker P Q h None (Some y) b = absurd b
both_weaker P Q h (Some x) None b = absurd b

pub both_each : {X Y : Type 0} (P : X → Y → Type 0) (x : Option X) (y : Option Y) → Both P x y
    → Each P (option_to_list x) (option_to_list y)
both_each P None None b = tt
both_each P (Some x) (Some y) b = (b, tt)
both_each P None (Some y) b = absurd b
both_each P (Some x) None b = absurd b

-- ---- positions

pub kept_not : (log : Log) → KeepsHandles log log
kept_not log = record { stays = λ k h. h; entries = λ k h. h; others = λ k a h. h }

pub keeps_not : {A : Type 0} (log : Log) (frames : List (ThreadFrame A)) → Keeps log log frames frames
keeps_not log frames = record { log = kept_not log; frames = grows_not frames }

pub keeps_on : {A : Type 0} (old middle new : Log) (before between after : List (ThreadFrame A))
    → Keeps old middle before between → Keeps middle new between after → Keeps old new before after
keeps_on old middle new before between after k l =
    record { log = kept-on old middle new k.log l.log; frames = grows_on before between after k.frames l.frames }

module _ {A : Type 0} (old new : Log) (before after : List (ThreadFrame A)) (k : Keeps old new before after) where
  pub edges_keep : {u : Option ℕ} {es : List ModelFrame} → AreFrames old before u es → AreFrames new after u es
  edges_keep none_open = none_open
  edges_keep (group_open n o es at r below up) =
      group_open n o es (still_got before after n o k.frames at) r below (edges_keep up)
  edges_keep (repetition_open n o r began a es at e rounds below up) =
      repetition_open n o r began a es (still_got before after n o k.frames at) e
      (record { account = k.log.others r.outside a rounds.account; front = rounds.front }) below (edges_keep up)

  pub shows_keep : (p : Thread A) (o : ThreadModel) → Shows old before p o → Shows new after p o
  shows_keep p (thread_model rest a up) s =
      record {
        tail = s.tail;
        number = s.number;
        account = k.log.others p.handle a s.account;
        around = edges_keep s.around;
      }

  pub leads_keep : (here : Forest) (w : TokenStep A) (a : Advance) → LeadsTo old before here w a
      → LeadsTo new after here w a
  leads_keep here w (advance n f o) l =
      record { width_is = l.width_is; fragment_is = l.fragment_is; left = l.left; after = shows_keep w.after o l.after }

  pub holds_keep : (h : Handle) (cs : Commands) → Holds old h cs → Holds new h cs
  holds_keep h cs (a, i, e) = (a, k.log.others h a i, e)

-- one outer item more
pub keeps_more : {A : Type 0} (log : Log) (frames all : List (ThreadFrame A)) (o : ThreadFrame A) → all ≡ frames ++ o
    ∷ []
    → Keeps log log frames all
keeps_more log frames all o e = record { log = kept_not log; frames = (o ∷ [], e) }

-- no outer item more
pub kept_only : {A : Type 0} (old new : Log) (frames : List (ThreadFrame A)) → KeepsHandles old new
    → Keeps old new frames frames
kept_only old new frames k = record { log = k; frames = grows_not frames }
