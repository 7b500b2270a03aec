-- The place behind a text, as an editor shows it.
use Rattle.std.specs.Prelude.{ℕ, ◌+◌, not, List, ◌++◌, count_by, codes, decimal}
use Rattle.std.specs.List.{suffix_len}
use Rattle.text.specs.Bytes.{feed}
use Rattle.text.specs.declared.types.Place.{Place}

-- 1 and the line feeds, and 1 and the bytes behind the last of them
abbrev pub place_of : List ℕ → Place
place_of bs = record { line = 1 + count_by feed bs; column = 1 + suffix_len (λ b. not (feed b)) bs }

abbrev pub place_text : Place → List ℕ
place_text p = codes "line " ++ decimal p.line ++ codes ", column " ++ decimal p.column
