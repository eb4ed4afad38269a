use Rattle.std.specs.Prelude.{◌≡◌, ◌++◌, take}
use Rattle.cil_rule_bytes.specs.Layout.{tokens_bytes}
use Rattle.cil_rule_bytes.proofs.writing.put_tokens.Given as goal

abbrev pub invariant-loop-token : goal.invariant-loop-token
invariant-loop-token l = l.out.items ≡ l.fn.out.items ++ tokens_bytes (take l.token-index l.tokens)
