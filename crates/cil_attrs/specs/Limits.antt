-- Limits of name spaces, as the code says them. No other crate needs this word.
use Rattle.std.specs.Prelude.{ℕ, List, Option}
use Rattle.std.specs.Option.{option_map}
use Rattle.cil_attrs.specs.declared.space.Limit.{Limit}

abbrev pub said_limit : Option Limit → Option (ℕ × List ℕ)
said_limit o = option_map (λ (l : Limit). (l.most, l.word.now)) o
