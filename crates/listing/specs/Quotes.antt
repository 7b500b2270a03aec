-- How a part of a text is quoted: its first 40 bytes, those that can be shown.
use Rattle.std.specs.Prelude.{ℕ, cond, ◌&&◌, List, ◌++◌, take, map, codes, nat_le, nat_lt}

-- a byte that can be shown, or a question mark for it
abbrev pub visible_of : ℕ → ℕ
visible_of b = cond (nat_lt 32 b && nat_le b 126) b 63

abbrev pub quoted : List ℕ → List ℕ
quoted part = codes "'" ++ map visible_of (take 40 part) ++ codes "'"
