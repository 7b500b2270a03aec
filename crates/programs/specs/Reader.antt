-- How far the reader has come.
use Rattle.std.specs.Prelude.{◌≡◌, ℕ, ◌+◌}
use Rattle.programs.specs.declared.reader.Reader.{Reader}

-- n words more are read, of the same words
abbrev pub HasRead : Reader → Reader → ℕ → Type 0
HasRead old new n = (new.words ≡ old.words) × (new.at ≡ old.at + n)
