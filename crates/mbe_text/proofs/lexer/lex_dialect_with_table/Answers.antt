use Rattle.std.proofs.Common.{◌≡◌, ap, ◌∙◌, ◌<◌, length, List, ℕ, subst, chars, is_some, sym, Ok, Option, Some, IfNone}
use Rattle.std.proofs.Common.{arith}
use Rattle.std.proofs.lemmas.Result.{err_from_is_err_and}
use Rattle.mbe_text.specs.LexedTrees.{IsNext, next_token, lexed_trees}
use Rattle.mbe_text.specs.Tokens.{token_item}
use Rattle.mbe_text.specs.declared.scanner.SourceToken.{SourceToken}
use Rattle.mbe_text.proofs.CommonLemmas.{at_some}
use Rattle.mbe_text.proofs.DivisionLemmas.{Reaches, reached_first, reached_more, reached_astray, reached_fault}
use Rattle.mbe_text.proofs.DivisionLemmas.{reached_last, trees_lexed, trees_unclosed, trees_fault, lexes_refused}
use Rattle.mbe_tt.specs.Buffers.GroupStack.{GroupStack}
use Rattle.mbe_text.proofs.Attributes.{adds_some}
use Rattle.mbe_text.proofs.Made.{Lexed, lexed_first, lexed_more, lexed_last}
use Rattle.mbe_text.proofs.lexer.lex_dialect_with_table.Goals as goal

pub tokens-init : goal.tokens-init
tokens-init g c =
    let empty = c.reserve.ensures ∙ c.in_ok-builder.ensures in
    record {
      dialect = c.new-scanner.ensures.dialect;
      total = c.new-scanner.ensures.total;
      file = c.new-scanner.ensures.file;
      text = c.new-scanner.ensures.text;
      some = omega (arith, ap (λ (b : GroupStack). length b) empty);
      lexed = λ sample. lexed_first _ _ _ _ _ _ empty c.invisible_spanned-whole.ensures c.file_span.ensures.whole
          (ap (λ (l : List ℕ). length l) (c.new-scanner.ensures.sample sample));
      reached = reached_first _ _ _ _ _ _ _ empty c.invisible_spanned-whole.ensures c.file_span.ensures.whole
          (let total = c.new-scanner.ensures.total in let within = c.new-scanner.result.within in
          omega (arith, total, within))
          c.new-scanner.ensures.rest;
    }

pub tokens-preserved-in-Some : goal.tokens-preserved-in-Some
tokens-preserved-in-Some g c =
    let token = c.fast_token.ensures in
    let is = c.in-Some.is in
    record {
      dialect = token.on.4 ∙ c.tokens.invariant.dialect;
      total = token.on.1 ∙ c.tokens.invariant.total;
      file = token.on.0 ∙ c.tokens.invariant.file;
      text = token.on.2 ∙ c.tokens.invariant.text;
      some = adds_some (token_item c.in-Some.token) c.tokens.builder _ c.tokens.invariant.some c.in_ok-add.ensures.ok;
      lexed = λ sample. lexed_more _ _ c.tokens.scanner.file c.tokens.scanner.text.now c.tokens.scanner.total _ _ _ _ _
          c.in-Some.token (c.tokens.invariant.lexed sample)
          c.tokens.invariant.file c.tokens.invariant.text c.tokens.invariant.total is
          token.span token.following token.some token.up_to token.spelled
          c.in_ok-add.ensures.ok;
      reached = reached_more _ _ _ _ _ _ _ c.tokens.scanner.dialect c.tokens.scanner.file c.tokens.scanner.total
          c.in-Some.token
          c.tokens.invariant.reached c.tokens.invariant.dialect
          c.tokens.invariant.file c.tokens.invariant.total
          (at_some (λ (t : SourceToken). IsNext c.tokens.scanner.file c.tokens.scanner.total
          (next_token c.tokens.scanner.dialect c.tokens.scanner.total (chars c.tokens.scanner.rest.now)) (Ok (Some t))
          (chars c.fast_token.new.self.rest.now)) c.fast_token.result c.in-Some.token is token.exact)
          (at_some (λ (t : SourceToken). length c.fast_token.new.self.rest.now < length c.tokens.scanner.rest.now)
          c.fast_token.result c.in-Some.token is token.past)
          c.in_ok-add.ensures.ok;
    }

pub tokens-preserved : goal.tokens-preserved
tokens-preserved g c =
    let token = c.in_ok-token.ensures in
    let on = c.fast_token.ensures.on in
    let mid = c.fast_token.new.self in
    let none : Option SourceToken → Type 0 =
    λ o. IfNone o (c.fast_token.new.self.rest.now ≡ c.tokens.scanner.rest.now) in
    let rest = subst none c.in_default.is c.fast_token.ensures.none in
    let reached = subst (λ (l : List ℕ). Reaches c.args.dialect c.args.file c.args.text.now l c.tokens.builder)
    (sym rest) c.tokens.invariant.reached in
    let dialect = on.4 ∙ c.tokens.invariant.dialect in
    let total = on.1 ∙ c.tokens.invariant.total in
    let file = on.0 ∙ c.tokens.invariant.file in
    let text = on.2 ∙ c.tokens.invariant.text in
    record {
      dialect = token.on.4 ∙ dialect;
      total = token.on.1 ∙ total;
      file = token.on.0 ∙ file;
      text = token.on.2 ∙ text;
      some = adds_some (token_item c.in-Some-2.token) c.tokens.builder _ c.tokens.invariant.some
          c.in_ok-add_out_of_line.ensures.ok;
      lexed = λ sample. lexed_more _ _ mid.file mid.text.now mid.total _ _ _ _ _ c.in-Some-2.token
          (subst (λ (l : List ℕ). Lexed c.args.file c.args.text.now (length l) c.tokens.builder) (sym rest)
          (c.tokens.invariant.lexed sample))
          file text total c.in-Some-2.is
          token.span token.following token.some token.up_to (token.spelled (dialect ∙ sample))
          c.in_ok-add_out_of_line.ensures.ok;
      reached = reached_more _ _ _ _ _ _ _ mid.dialect mid.file mid.total c.in-Some-2.token
          reached dialect file total
          (subst (λ (o : Option SourceToken). IsNext mid.file mid.total
          (next_token mid.dialect mid.total (chars mid.rest.now)) (Ok o)
          (chars c.token.new.self.rest.now)) c.in-Some-2.is token.exact)
          (token.past (ap is_some c.in-Some-2.is)) c.in_ok-add_out_of_line.ensures.ok;
    }

pub returns-clause-made : goal.returns-clause-made
returns-clause-made g c = λ sample.
    lexed_last _ _ _ _ _ _ (c.tokens.invariant.lexed sample) c.file_span-2.ensures.whole c.finish.ensures

pub returns-in_err-token-clause-exact : goal.returns-in_err-token-clause-exact
returns-in_err-token-clause-exact g c =
    let p = err_from_is_err_and c.from_residual-in_err-token.result c.from_residual-in_err-token.ensures.1 in
    let on = c.fast_token.ensures.on in
    let none : Option SourceToken → Type 0 =
    λ o. IfNone o (c.fast_token.new.self.rest.now ≡ c.tokens.scanner.rest.now) in
    let rest = subst none c.in_default.is c.fast_token.ensures.none in
    let reached = subst (λ (l : List ℕ). Reaches c.args.dialect c.args.file c.args.text.now l c.tokens.builder)
    (sym rest) c.tokens.invariant.reached in
    rw (p.1, p.2) (trees_fault c.args.dialect c.args.file c.args.text.now _
    (reached_fault _ _ _ _ _ _ _ _ reached (on.4 ∙ c.tokens.invariant.dialect) (on.1 ∙ c.tokens.invariant.total)
    c.in_err-token.ensures.exact))

pub returns-in_err-add-clause-exact : goal.returns-in_err-add-clause-exact
returns-in_err-add-clause-exact g c =
    let p = err_from_is_err_and c.from_residual-in_err-add.result c.from_residual-in_err-add.ensures.1 in
    let token = c.fast_token.ensures in
    let is = c.in-Some.is in
    rw (p.1, p.2) (lexes_refused (lexed_trees c.args.dialect c.args.file c.args.text.now) (token_item c.in-Some.token)
    c.tokens.builder _
    c.in_err-add.ensures.err
    (λ astray. trees_fault c.args.dialect c.args.file c.args.text.now _
    (reached_astray _ _ _ _ _ _ c.tokens.scanner.dialect c.tokens.scanner.file c.tokens.scanner.total c.in-Some.token
    c.tokens.invariant.reached c.tokens.invariant.dialect c.tokens.invariant.file c.tokens.invariant.total
    (at_some (λ (t : SourceToken). IsNext c.tokens.scanner.file c.tokens.scanner.total
    (next_token c.tokens.scanner.dialect c.tokens.scanner.total (chars c.tokens.scanner.rest.now)) (Ok (Some t))
    (chars c.fast_token.new.self.rest.now)) c.fast_token.result c.in-Some.token is token.exact)
    (at_some (λ (t : SourceToken). length c.fast_token.new.self.rest.now < length c.tokens.scanner.rest.now)
    c.fast_token.result c.in-Some.token is token.past)
    astray)))

pub returns-in_err-add_out_of_line-clause-exact : goal.returns-in_err-add_out_of_line-clause-exact
returns-in_err-add_out_of_line-clause-exact g c =
    let p = err_from_is_err_and c.from_residual-in_err-add_out_of_line.result
    c.from_residual-in_err-add_out_of_line.ensures.1 in
    let token = c.in_ok-token.ensures in
    let on = c.fast_token.ensures.on in
    let mid = c.fast_token.new.self in
    let none : Option SourceToken → Type 0 =
    λ o. IfNone o (c.fast_token.new.self.rest.now ≡ c.tokens.scanner.rest.now) in
    let rest = subst none c.in_default.is c.fast_token.ensures.none in
    let reached = subst (λ (l : List ℕ). Reaches c.args.dialect c.args.file c.args.text.now l c.tokens.builder)
    (sym rest) c.tokens.invariant.reached in
    rw (p.1, p.2) (lexes_refused (lexed_trees c.args.dialect c.args.file c.args.text.now) (token_item c.in-Some-2.token)
    c.tokens.builder _
    c.in_err-add_out_of_line.ensures.err
    (λ astray. trees_fault c.args.dialect c.args.file c.args.text.now _
    (reached_astray _ _ _ _ _ _ mid.dialect mid.file mid.total c.in-Some-2.token
    reached (on.4 ∙ c.tokens.invariant.dialect) (on.0 ∙ c.tokens.invariant.file) (on.1 ∙ c.tokens.invariant.total)
    (subst (λ (o : Option SourceToken). IsNext mid.file mid.total
    (next_token mid.dialect mid.total (chars mid.rest.now)) (Ok o)
    (chars c.token.new.self.rest.now))
    c.in-Some-2.is token.exact)
    (token.past (ap is_some c.in-Some-2.is)) astray)))

pub returns-clause-exact : goal.returns-clause-exact
returns-clause-exact g c =
    let on = c.fast_token.ensures.on in
    let mid = c.fast_token.new.self in
    let none : Option SourceToken → Type 0 =
    λ o. IfNone o (c.fast_token.new.self.rest.now ≡ c.tokens.scanner.rest.now) in
    let rest = subst none c.in_default.is c.fast_token.ensures.none in
    let reached = subst (λ (l : List ℕ). Reaches c.args.dialect c.args.file c.args.text.now l c.tokens.builder)
    (sym rest) c.tokens.invariant.reached in
    let next = subst (λ (o : Option SourceToken). IsNext mid.file mid.total
    (next_token mid.dialect mid.total (chars mid.rest.now)) (Ok o)
    (chars c.token.new.self.rest.now))
    c.in_default-2.is
    c.in_ok-token.ensures.exact in
    trees_lexed c.args.dialect c.args.file c.args.text.now _ _ _
    (reached_last _ _ _ _ _ _ _ reached (on.4 ∙ c.tokens.invariant.dialect) (on.1 ∙ c.tokens.invariant.total) next.0)
    (sym c.is_unclosed.ensures ∙ c.if-is_unclosed.false)
    c.file_span-2.ensures.whole c.finish.ensures

pub returns-then-is_unclosed-clause-exact : goal.returns-then-is_unclosed-clause-exact
returns-then-is_unclosed-clause-exact g c =
    let on = c.fast_token.ensures.on in
    let mid = c.fast_token.new.self in
    let none : Option SourceToken → Type 0 =
    λ o. IfNone o (c.fast_token.new.self.rest.now ≡ c.tokens.scanner.rest.now) in
    let rest = subst none c.in_default.is c.fast_token.ensures.none in
    let reached = subst (λ (l : List ℕ). Reaches c.args.dialect c.args.file c.args.text.now l c.tokens.builder)
    (sym rest) c.tokens.invariant.reached in
    let next = subst (λ (o : Option SourceToken). IsNext mid.file mid.total
    (next_token mid.dialect mid.total (chars mid.rest.now)) (Ok o)
    (chars c.token.new.self.rest.now))
    c.in_default-2.is
    c.in_ok-token.ensures.exact in
    trees_unclosed c.args.dialect c.args.file c.args.text.now _
    (reached_last _ _ _ _ _ _ _ reached (on.4 ∙ c.tokens.invariant.dialect) (on.1 ∙ c.tokens.invariant.total) next.0)
    (sym c.is_unclosed.ensures ∙ c.if-is_unclosed.true)
