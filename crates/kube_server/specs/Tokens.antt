-- Tokens of the code, as plain data.
use Rattle.kube_server.specs.Numbers.{Token}
use Rattle.kube_server.specs.declared.token.Token.{Token as TokenMade}

abbrev pub token_of : TokenMade → Token
token_of t = record { revision = t.revision; offset = t.offset }
