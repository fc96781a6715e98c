-- The code's tokens as the language's.
use Rattle.std.specs.Prelude.{List, map}
use Rattle.tpl_lang.specs.Tokens.{Token, Word, Number, Sign}
use Rattle.tpl_token.specs.declared.token.Token.{Token as Lying}
use Rattle.tpl_token.specs.declared.token.Token.TheVariants as tokens

-- a token without where its word lies in memory
abbrev pub view : Lying → Token
view (tokens.Word w) = Word w.now
view (tokens.Number n) = Number n
view (tokens.Mark m) = Sign m

abbrev pub views : List Lying → List Token
views = map view
