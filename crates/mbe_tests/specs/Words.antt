-- A grammar whose fragments are single words: an identifier or a literal.
use Rattle.std.specs.Prelude.{◌≡◌, ◌≤◌, ◌<◌, true, false, List, [], ◌∷◌, length, codes}
use Rattle.std.specs.Str.{bytes_eq}
use Rattle.std.proofs.Common.{arith, true≢false}
use Rattle.mbe_tt.specs.Trees.Leaf.{literal, punct, ident}
use Rattle.mbe_tt.specs.Trees.Tree.{FlatToken, token, opening, closing}
use Rattle.mbe_tt.specs.declared.grammar.Dialect.TheVariants.{RustAnalyzer}
use Rattle.mbe_tt.specs.Grammars.Grammar.{Grammar, IsLawful}
use Rattle.mbe_tt.specs.declared.grammar.Front.{Front}

abbrev pub one_token : Front
one_token = record { count = 1; fault = false }

abbrev pub no_fragment : Front
no_fragment = record { count = 0; fault = true }

-- the first token, where it is an identifier or a literal
abbrev pub word_front : List FlatToken → Front
word_front [] = no_fragment
word_front (token (ident i) ∷ more) = one_token
word_front (token (literal l) ∷ more) = one_token
word_front (token (punct p) ∷ more) = no_fragment
word_front (opening d ∷ more) = no_fragment
word_front (closing d ∷ more) = no_fragment

-- the same at each entry point; the one keyword is `let`
abbrev pub words : Grammar
words = record {
  parse = λ entry tokens. word_front tokens;
  is_keyword = λ text. bytes_eq text
      (codes "let");
  dialect = RustAnalyzer;
}

-- ---- it is lawful

-- it counts no more than there is
within : (tokens : List FlatToken) → (word_front tokens).count ≤ length tokens
within [] = omega arith
within (token (ident i) ∷ more) = omega arith
within (token (literal l) ∷ more) = omega arith
within (token (punct p) ∷ more) = omega arith
within (opening d ∷ more) = omega arith
within (closing d ∷ more) = omega arith

-- without a fault it takes something
some : (tokens : List FlatToken) → (word_front tokens).fault ≡ false → 0 < (word_front tokens).count
some [] f = absurd (true≢false f)
some (token (ident i) ∷ more) f = omega arith
some (token (literal l) ∷ more) f = omega arith
some (token (punct p) ∷ more) f = absurd (true≢false f)
some (opening d ∷ more) f = absurd (true≢false f)
some (closing d ∷ more) f = absurd (true≢false f)

pub words_lawful : IsLawful words
words_lawful = record {
  within = λ entry tokens. within tokens;
  nothing_for_vis = λ entry tokens f e. absurd (omega (arith, some tokens f, e));
}
