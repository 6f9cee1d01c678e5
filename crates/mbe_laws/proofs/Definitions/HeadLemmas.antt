-- All trees are ops or have a fault, where each context has an edition: what comes after a head is shorter.
use Rattle.std.specs.Prelude.{◌≡◌, ◌⊎◌, ◌<◌, ◌≤◌, ◌+◌, ◌==◌, ℕ, zero, suc, Bool, true, false, not, ◌&&◌, if◌then◌else◌}
use Rattle.std.specs.Prelude.{[], length, codes, option_map, Option, Some, None, Result, Ok, Err, refl}
use Rattle.std.proofs.Common.{arith, ap, inl, inr}
use Rattle.std.proofs.lemmas.Option.{none-some, same_Some}
use Rattle.mbe_tt.specs.declared.span.Span.{Span}
use Rattle.mbe_tt.specs.declared.span.SyntaxContext.{SyntaxContext}
use Rattle.mbe_tt.specs.declared.span.Edition.{Edition}
use Rattle.mbe_tt.specs.declared.tt.Punct.{Punct}
use Rattle.mbe_tt.specs.declared.tt.DelimiterKind.{DelimiterKind}
use Rattle.mbe_tt.specs.declared.tt.DelimiterKind.TheVariants as delimiters
use Rattle.mbe_tt.specs.Trees.Leaf.{Ident, literal, punct, ident, is_text, is_underscore}
use Rattle.mbe_tt.specs.Trees.Tree.{Forest, none, leaf, group, append, flat_len, cut_trees, is_bool_text}
use Rattle.mbe_tt.specs.Trees.Glue.{glue, if_joint, joined}
use Rattle.mbe_tt.proofs.Offsets.CutLemmas.{cut_trees-append, flat_len-append}
use Rattle.mbe_semantics.specs.declared.fragment_kinds.MetaVarKind.{MetaVarKind}
use Rattle.mbe_semantics.specs.declared.fragment_kinds.RepeatKind.{RepeatKind}
use Rattle.mbe_semantics.specs.Syntax.Op as ops
use Rattle.mbe_semantics.specs.Syntax.Op.{Name, Separator, Expression, Op, Ops, no_ops, op}
use Rattle.mbe_semantics.specs.Syntax.Template.{Mode, pattern, template, Fault, expected, Suffix, repeat_of}
use Rattle.mbe_semantics.specs.Syntax.Template.{leaf_in_suffix, punct_in_suffix, suffix_of, separator_of, expression_of}
use Rattle.mbe_semantics.specs.Syntax.Template.{Head, ended, one, typed, opens_group, opens_repetition, specifier_at}
use Rattle.mbe_semantics.specs.Syntax.Template.{missing_specifier, variable_at, second_dollar, repetition_with}
use Rattle.mbe_semantics.specs.Syntax.Template.{repetition_at, expression_at, group_after_dollar, after_dollar}
use Rattle.mbe_semantics.specs.Syntax.Template.{puncts_at, head, dollar_crate, Specifies, dated_pat, dated_expr}
use Rattle.mbe_semantics.specs.Syntax.Template.{undated, Template, nothing, token, variable, grouped, repeated}
use Rattle.mbe_semantics.specs.Syntax.Template.{TemplateFault, here, in_group, in_repetition, after_token}
use Rattle.mbe_semantics.specs.Syntax.Template.{after_variable, following_group, after_repetition}
use Rattle.mbe_semantics.specs.Laws.Laws.{HasSomeEdition, HasOpsOrFault}
use Rattle.mbe_semantics.proofs.MoveLemmas.{some_operator, leaf_moves}

-- what is left after the head, and inside it, has fewer than n flat tokens
abbrev Shorter : ℕ → Result Head Fault → Type 0
Shorter n (Err e) = Unit {0}
Shorter n (Ok ended) = Unit {0}
Shorter n (Ok (one o rest)) = flat_len rest < n
Shorter n (Ok (typed name span specifier rest)) = flat_len rest < n
Shorter n (Ok (opens_group d inside rest)) = (flat_len inside < n) × (flat_len rest < n)
Shorter n (Ok (opens_repetition s repeat inside rest)) = (flat_len inside < n) × (flat_len rest < n)

suffix_back : (f : Forest) (s : Suffix) → suffix_of f ≡ Some s → flat_len s.back ≤ flat_len f
suffix_back none s e = absurd (none-some s e)
suffix_back (group d inside rest) s e = absurd (none-some s e)
suffix_back (leaf (literal l) rest) s e = go (suffix_of rest) (suffix_back rest) e
  where
    go : (o : Option Suffix) → ((t : Suffix) → o ≡ Some t → flat_len t.back ≤ flat_len rest)
        → option_map (leaf_in_suffix (literal l)) o ≡ Some s → flat_len s.back ≤ 1 + flat_len rest
    go None h q = absurd (none-some s q)
    go (Some t) h q = let k = h t refl in let w : flat_len t.back ≡ flat_len s.back =
        ap (λ x. flat_len x.back) (same_Some (leaf_in_suffix (literal l) t) s q) in omega (arith, k, w)
suffix_back (leaf (ident l) rest) s e = go (suffix_of rest) (suffix_back rest) e
  where
    go : (o : Option Suffix) → ((t : Suffix) → o ≡ Some t → flat_len t.back ≤ flat_len rest)
        → option_map (leaf_in_suffix (ident l)) o ≡ Some s → flat_len s.back ≤ 1 + flat_len rest
    go None h q = absurd (none-some s q)
    go (Some t) h q = let k = h t refl in let w : flat_len t.back ≡ flat_len s.back =
        ap (λ x. flat_len x.back) (same_Some (leaf_in_suffix (ident l) t) s q) in omega (arith, k, w)
suffix_back (leaf (punct p) rest) s e = go (repeat_of p.char) (suffix_of rest) (suffix_back rest) e
  where
    go : (r : Option RepeatKind) (o : Option Suffix) → ((t : Suffix) → o ≡ Some t → flat_len t.back ≤ flat_len rest)
        → punct_in_suffix p r rest o ≡ Some s → flat_len s.back ≤ 1 + flat_len rest
    go (Some r) o h q = let w : flat_len rest ≡ flat_len s.back =
        ap (λ x. flat_len x.back) (same_Some (record { leaves = []; repeat = r; back = rest }) s q) in omega (arith, w)
    go None None h q = absurd (none-some s q)
    go None (Some t) h q = let k = h t refl in let w : flat_len t.back ≡ flat_len s.back =
        ap (λ x. flat_len x.back) (same_Some (leaf_in_suffix (punct p) t) s q) in omega (arith, k, w)

repetition_shorter : (n : ℕ) (inside rest : Forest) (o : Option Suffix) → flat_len inside < n
    → ((s : Suffix) → o ≡ Some s → flat_len s.back < n) → Shorter n (repetition_at inside o)
repetition_shorter n inside rest None a b = tt
repetition_shorter n inside rest (Some s) a b = go (separator_of s.leaves)
  where
    go : (x : Option (Option Separator)) → Shorter n (repetition_with s.repeat inside s.back x)
    go None = tt
    go (Some y) = (a, b s refl)

expression_shorter : (mode : Mode) (n : ℕ) (rest : Forest) (e : Option Expression) → flat_len rest < n
    → Shorter n (expression_at mode rest e)
expression_shorter pattern n rest e h = tt
expression_shorter template n rest (Some e) h = h
expression_shorter template n rest None h = tt

group_shorter : (mode : Mode) (kind : DelimiterKind) (n : ℕ) (inside rest : Forest) → flat_len inside < n
    → flat_len rest < n → Shorter n (group_after_dollar mode kind inside rest)
group_shorter mode delimiters.Parenthesis n inside rest a b =
    repetition_shorter n inside rest (suffix_of rest) a (λ s e. let k = suffix_back rest s e in omega (arith, k, b))
group_shorter mode delimiters.Brace n inside rest a b = expression_shorter mode n rest (expression_of inside) b
group_shorter mode delimiters.Bracket n inside rest a b = tt
group_shorter mode delimiters.Invisible n inside rest a b = tt

specifier_shorter : (name : Name) (span : Span) (n : ℕ) (rest : Forest) → flat_len rest < n
    → Shorter n (specifier_at name span rest)
specifier_shorter name span n (leaf (punct p) (leaf (ident i) rest)) h = go (p.char == 58 && not (is_underscore i.sym))
  where
    go : (b : Bool) → Shorter n (if b then Ok (typed name span i rest) else missing_specifier)
    go true = omega (arith, h)
    go false = tt
specifier_shorter name span n none h = tt
specifier_shorter name span n (group d inside rest) h = tt
specifier_shorter name span n (leaf (literal l) rest) h = tt
specifier_shorter name span n (leaf (ident i) rest) h = tt
specifier_shorter name span n (leaf (punct p) none) h = tt
specifier_shorter name span n (leaf (punct p) (group d inside rest)) h = tt
specifier_shorter name span n (leaf (punct p) (leaf (literal l) rest)) h = tt
specifier_shorter name span n (leaf (punct p) (leaf (punct q) rest)) h = tt

variable_shorter : (mode : Mode) (name : Name) (span : Span) (n : ℕ) (rest : Forest) → flat_len rest < n
    → Shorter n (variable_at mode name span rest)
variable_shorter pattern name span n rest h = specifier_shorter name span n rest h
variable_shorter template name span n rest h = h

dollar_shorter : (mode : Mode) (p : Punct) (n : ℕ) (f : Forest) → flat_len f < n → Shorter n (after_dollar mode p f)
dollar_shorter mode p n none h = h
dollar_shorter mode p n (group d inside rest) h =
    group_shorter mode d.kind n inside rest (omega (arith, h)) (omega (arith, h))
dollar_shorter mode p n (leaf (ident i) rest) h = go (is_text i.sym (codes "crate"))
  where
    go : (b : Bool) → Shorter n (if b then Ok (one (dollar_crate i) rest) else variable_at mode i.sym i.span rest)
    go true = omega (arith, h)
    go false = variable_shorter mode i.sym i.span n rest (omega (arith, h))
dollar_shorter mode p n (leaf (literal l) rest) h = go (is_bool_text l.text_and_suffix)
  where
    go : (b : Bool) → Shorter n (if b then variable_at mode l.text_and_suffix l.span rest else Err
        (expected (codes "expected ident")))
    go true = variable_shorter mode l.text_and_suffix l.span n rest (omega (arith, h))
    go false = tt
dollar_shorter pattern p n (leaf (punct q) rest) h = go (q.char == 36)
  where
    go : (b : Bool) → Shorter n (if b then second_dollar pattern q rest else Err (expected (codes "expected ident")))
    go true = tt
    go false = tt
dollar_shorter template p n (leaf (punct q) rest) h = go (q.char == 36)
  where
    go : (b : Bool) → Shorter n (if b then second_dollar template q rest else Err (expected (codes "expected ident")))
    go true = omega (arith, h)
    go false = tt

puncts_shorter : (p : Punct) (rest : Forest) → Shorter (1 + flat_len rest) (Ok (puncts_at (leaf (punct p) rest)))
puncts_shorter p rest =
    let f : Forest = leaf (punct p) rest in
    let c = cut_trees (length (glue f)) f in
    let a : 1 ≤ flat_len c.front = leaf_moves (length (glue f)) (punct p) rest
    (some_operator p (if_joint p.spacing (joined 2 rest))) in
    let b = flat_len-append c.front c.back in
    let d : flat_len (append c.front c.back) ≡ 1 + flat_len rest = ap flat_len (cut_trees-append (length (glue f)) f) in
    omega (arith, a, b, d)

head_shorter : (mode : Mode) (f : Forest) → Shorter (flat_len f) (head mode f)
head_shorter mode none = tt
head_shorter mode (group d inside rest) = (omega arith, omega arith)
head_shorter mode (leaf (literal l) rest) = omega arith
head_shorter mode (leaf (ident i) rest) = omega arith
head_shorter mode (leaf (punct p) rest) = go (p.char == 36)
  where
    go : (b : Bool) → Shorter (1 + flat_len rest)
        (if b then after_dollar mode p rest else Ok (puncts_at (leaf (punct p) rest)))
    go true = dollar_shorter mode p (1 + flat_len rest) rest (omega arith)
    go false = puncts_shorter p rest

module _ (HasEdition : SyntaxContext → Edition → Type 0) (some : HasSomeEdition HasEdition) where
  specifies : (specifier : Ident) → (kind : Option MetaVarKind) × Specifies HasEdition specifier kind
  specifies s = go (is_text s.sym (codes "pat")) refl (is_text s.sym (codes "expr")) refl (some s.span.ctx)
    where
      go : (a : Bool) → is_text s.sym (codes "pat") ≡ a → (b : Bool) → is_text s.sym (codes "expr") ≡ b
          → (e : Edition) × HasEdition s.span.ctx e →
          (kind : Option MetaVarKind) × Specifies HasEdition s kind
      go true p b q e = (_, dated_pat e.0 p e.1)
      go false p true q e = (_, dated_expr e.0 q e.1)
      go false p false q e = (_, undated p q)

  abbrev Read : Mode → Forest → Type 0
  Read mode f = ((os : Ops) × Template HasEdition mode f os) ⊎ ((fault : Fault) × TemplateFault HasEdition mode fault f)

  read : (mode : Mode) (n : ℕ) (f : Forest) → flat_len f < n → Read mode f
  read mode zero f h = absurd (omega (arith, h))
  read mode (suc n) f h = go (head mode f) refl (head_shorter mode f) (λ g k. read mode n g (omega (arith, h, k)))
    where
      both : {A B C : Type 0} → (A → C) → (B → C) → A ⊎ B → C
      both f g (inl a) = f a
      both f g (inr b) = g b

      go : (r : Result Head Fault) → head mode f ≡ r → Shorter (flat_len f) r
          → ((g : Forest) → flat_len g < flat_len f → Read mode g) → Read mode f
      go (Err e) q s ih = inr (e, here f q)
      go (Ok ended) q s ih = inl (no_ops, nothing f q)
      go (Ok (one o rest)) q s ih =
          both (λ p. inl (op o p.0, token f rest o p.0 q p.1)) (λ p. inr (p.0, after_token f rest o q p.1)) (ih rest s)
      go (Ok (typed name span specifier rest)) q s ih =
          let k = specifies specifier in
          both (λ p. inl (op (ops.variable name k.0 span) p.0, variable f rest name span specifier k.0 p.0 q k.1 p.1))
          (λ p. inr (p.0, after_variable f rest name span specifier q p.1)) (ih rest s)
      go (Ok (opens_group d inside rest)) q s ih =
          both (λ b. both (λ p. inl (op (ops.group d b.0) p.0, grouped f inside rest d b.0 p.0 q b.1 p.1))
          (λ p. inr (p.0, following_group f inside rest d b.0 q b.1 p.1)) (ih rest s.1))
          (λ w. inr (w.0, in_group f inside rest d q w.1)) (ih inside s.0)
      go (Ok (opens_repetition t repeat inside rest)) q s ih =
          both (λ b. both (λ p. inl (
            op (ops.repetition b.0 t repeat) p.0,
            repeated f inside rest t repeat b.0 p.0 q b.1 p.1,
          ))
          (λ p. inr (p.0, after_repetition f inside rest t repeat b.0 q b.1 p.1)) (ih rest s.1))
          (λ w. inr (w.0, in_repetition f inside rest t repeat q w.1)) (ih inside s.0)

pub has_ops_or_fault : (HasEdition : SyntaxContext → Edition → Type 0) → HasOpsOrFault HasEdition
has_ops_or_fault HasEdition some mode f = read HasEdition some mode (suc (flat_len f)) f (omega arith)
