-- Codes of ops, rules and macros. Their equality is decided by these codes.
use Rattle.std.specs.Prelude.{◌≡◌, ◌⊎◌, ℕ, Bool, List, [], ◌∷◌, Option, option_map, refl}
use Rattle.std.specs.Coded.{Coded, code_by, coded_list, coded_option, coded_ℕ, coded×, coded⊎}
use Rattle.std.specs.Cmp.{IsEquivalence}
use Rattle.std.proofs.Common.{inl, inr}
use Rattle.std.proofs.lemmas.Cmp.{on_equiv}
use base.Stored.{Gv, gnil, gnum, gcons, coded_unit}
use Rattle.mbe_tt.specs.Laws.CodeEquality.{same, same_equiv}
use Rattle.mbe_tt.specs.Trees.Leaf.{Literal, Ident, literal_code, ident_code}
use Rattle.mbe_tt.specs.declared.span.Span.{Span}
use Rattle.mbe_tt.specs.declared.tt.Punct.{Punct}
use Rattle.mbe_tt.specs.contracts.span.Span as span
use Rattle.mbe_tt.specs.contracts.tt.Punct as punct
use Rattle.mbe_tt.specs.contracts.tt.Delimiter as delimiter
use Rattle.mbe_semantics.specs.contracts.fragment_kinds.MetaVarKind as kind
use Rattle.mbe_semantics.specs.contracts.fragment_kinds.RepeatKind as repeat
use Rattle.mbe_semantics.specs.contracts.macro_call_style.MacroCallStyle as style
use Rattle.mbe_semantics.specs.declared.fragment_kinds.MetaVarKind.{MetaVarKind}
use Rattle.mbe_semantics.specs.Syntax.Op as ops
use Rattle.mbe_semantics.specs.Syntax.Op.{Name, Token, Op, Ops, no_ops, op}
use Rattle.mbe_semantics.specs.Syntax.Template.{Fault, unexpected_token, expected, invalid_repeat}
use Rattle.mbe_semantics.specs.Syntax.Template.{empty_repetition}
use Rattle.mbe_semantics.specs.Syntax.Definition.{Rule}
use Rattle.mbe_semantics.specs.Expansion.Macro.{Macro}
use Rattle.mbe_ops.specs.Expressions.{expression_code}
use Rattle.mbe_ops.specs.Equality.{text_of, text_code}

-- ---- tokens

abbrev pub TokenRow : Type 0
TokenRow = Literal ⊎ (Ident ⊎ List Punct)

abbrev pub token_row : Token → TokenRow
token_row (ops.literal l) = inl l
token_row (ops.ident i) = inr (inl i)
token_row (ops.puncts ps) = inr (inr ps)

abbrev pub row_token : TokenRow → Token
row_token (inl l) = ops.literal l
row_token (inr (inl i)) = ops.ident i
row_token (inr (inr ps)) = ops.puncts ps

pub row_token-token_row : (t : Token) → row_token (token_row t) ≡ t
row_token-token_row (ops.literal l) = refl
row_token-token_row (ops.ident i) = refl
row_token-token_row (ops.puncts ps) = refl

abbrev pub token_code : Coded Token
token_code =
    code_by TokenRow (coded⊎ literal_code (coded⊎ ident_code (coded_list punct.the_row.coded)))
    token_row row_token
    row_token-token_row

-- ---- ops, as far as equality looks at them

-- a variable
abbrev pub variable_code : Coded (Name × (Option MetaVarKind × Span))
variable_code =
    coded× (coded_list coded_ℕ) (coded× (coded_option kind.the_row.coded) span.the_row.coded)

abbrev mutual
  pub op_key : Op → Gv
  op_key (ops.token t) = gcons (gnum 0) (token_code.code t)
  op_key (ops.group d body) = gcons (gnum 1) (gcons (delimiter.the_row.coded.code d) (ops_key body))
  op_key (ops.variable name k s) = gcons (gnum 2) (variable_code.code (name, (k, s)))
  op_key (ops.repetition body s k) =
      gcons (gnum 3) (gcons ((coded_option text_code).code (option_map text_of s))
      (gcons (repeat.the_row.coded.code k) (ops_key body)))
  op_key (ops.expression e) = gcons (gnum 4) (expression_code.code e)

  pub ops_key : Ops → Gv
  ops_key no_ops = gnil
  ops_key (op o os) = gcons (op_key o) (ops_key os)

-- ---- rules and macros

abbrev pub FaultRow : Type 0
FaultRow = List ℕ ⊎ (List ℕ ⊎ (Unit {0} ⊎ Unit {0}))

abbrev pub fault_row : Fault → FaultRow
fault_row (unexpected_token text) = inl text
fault_row (expected text) = inr (inl text)
fault_row invalid_repeat = inr (inr (inl tt))
fault_row empty_repetition = inr (inr (inr tt))

abbrev pub row_fault : FaultRow → Fault
row_fault (inl text) = unexpected_token text
row_fault (inr (inl text)) = expected text
row_fault (inr (inr (inl u))) = invalid_repeat
row_fault (inr (inr (inr u))) = empty_repetition

pub row_fault-fault_row : (f : Fault) → row_fault (fault_row f) ≡ f
row_fault-fault_row (unexpected_token text) = refl
row_fault-fault_row (expected text) = refl
row_fault-fault_row invalid_repeat = refl
row_fault-fault_row empty_repetition = refl

abbrev pub fault_code : Coded Fault
fault_code =
    let texts = coded_list coded_ℕ in
    code_by FaultRow (coded⊎ texts (coded⊎ texts (coded⊎ coded_unit coded_unit))) fault_row
    row_fault
    row_fault-fault_row

abbrev pub rules_key : List Rule → Gv
rules_key [] = gnil
rules_key (r ∷ rs) = gcons (style.the_row.coded.code r.style)
    (gcons (ops_key r.reads) (gcons (ops_key r.writes) (rules_key rs)))

abbrev pub macro_key : Macro → Gv
macro_key m = gcons (rules_key m.rules) ((coded_option fault_code).code m.err)

abbrev pub key_code : Coded Gv
key_code = record { code = λ k. k; inj = λ x y e. e }

-- equality of macros
abbrev pub macro_eq : Macro → Macro → Bool
macro_eq m n = same key_code (macro_key m) (macro_key n)

pub macro_eq_laws : IsEquivalence macro_eq
macro_eq_laws = on_equiv macro_key (same_equiv key_code)
