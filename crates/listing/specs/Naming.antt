-- The lines of names, as the code has them.
use Rattle.std.specs.Prelude.{ℕ, List, Option}
use Rattle.listing.specs.Names.{line_of}
use Rattle.listing.specs.declared.names.Naming.{Naming}

abbrev pub word_line : Naming → Option (List ℕ)
word_line n = line_of n.words.line

abbrev pub point_line : Naming → Option (List ℕ)
point_line n = line_of n.points.line
