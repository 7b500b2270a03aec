use Rattle.std.proofs.Common.{◌≡◌, ◌+◌, ◌≤◌, length, drop}
use Rattle.text.specs.Tokens.{tokens_from, tokens}
use Rattle.text.proofs.names.count_names.Given as goal

abbrev pub invariant-loop-byte : goal.invariant-loop-byte
invariant-loop-byte l = (l.count + length (tokens_from l.inside (drop l.byte-index l.line)) ≡ length (tokens l.line)) × (l.count ≤ l.byte-index)
