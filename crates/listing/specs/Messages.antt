-- What a person is told of a refusal.
use Rattle.std.specs.Prelude.{ℕ, min, List, ◌++◌, length, take, drop, Some, None, codes, decimal, Option, slice_index}
use Rattle.programs.specs.declared.step.Fault.{Fault}
use Rattle.programs.specs.declared.step.Fault.TheVariants.{Ends, Words, Points, Steps, Point, Kind, Word, Longer}
use Rattle.text.specs.declared.types.Flaw.{Flaw}
use Rattle.text.specs.declared.types.Place.{Place}
use Rattle.text.specs.declared.types.What.{What}
use Rattle.text.specs.declared.types.What.TheVariants.{NoNumber, TooLarge, TooMany}
use Rattle.text.specs.Numbers.{meaning_of}
use Rattle.text.specs.Places.{place_of, place_text}
use Rattle.text.specs.Tokens.{word}
use Rattle.listing.specs.Quotes.{quoted}
use Rattle.listing.specs.declared.refusal.Refusal.{Refusal}
use Rattle.listing.specs.declared.refusal.Refusal.TheVariants.{Memory, Number, Program, WordNames, PointNames}

-- what is wrong with the token of a number
abbrev pub token_text : What → List ℕ → List ℕ
token_text NoNumber token = quoted token ++ codes " is no number"
token_text TooLarge token = codes "a number must be below 4294967296"
token_text TooMany token = codes "more numbers than any program has"

-- why numbers are no program, with the number that is wrong
abbrev pub fault_text : Fault → ℕ → List ℕ
fault_text Ends n = codes "the numbers end before the program does"
fault_text Words n = codes "a program has 1 to 16 words, not " ++ decimal n
fault_text Points n = codes "a program has 1 to 256 points, not " ++ decimal n
fault_text Steps n = codes "a program has at most 1024 steps, not " ++ decimal n
fault_text Point n = codes "there is no point " ++ decimal n
fault_text Kind n = codes "there is no kind of step " ++ decimal n
fault_text Word n = codes "there is no word " ++ decimal n
fault_text Longer n = codes "the program ends before the number " ++ decimal n

-- how many names a line of names has, and how many it should have
abbrev pub names_text : List ℕ → ℕ → ℕ → List ℕ
names_text key names count = codes "the line '# " ++ (key ++ (codes "' has " ++ (decimal names ++ (codes " names, not " ++ decimal count))))

-- what is wrong with a number at a place, and with the program there
abbrev pub flaw_text : Place → List ℕ → List ℕ
flaw_text place what = place_text place ++ (codes ": " ++ what)

abbrev pub program_text : Place → List ℕ → List ℕ
program_text place why = place_text place ++ (codes ": no program: " ++ why)

-- where number i of a text begins: there the reader stops, if there is room for those before it only
abbrev pub flaw_place : Option Flaw → ℕ → ℕ
flaw_place None end = end
flaw_place (Some f) end = f.at

abbrev pub number_at : List ℕ → ℕ → ℕ
number_at text i = flaw_place (meaning_of i text).flaw (length text)

-- what a person is told of a refusal of a text with these numbers
abbrev pub refusal_text : List ℕ → List ℕ → Refusal → List ℕ
refusal_text text words Memory = codes "out of memory"
refusal_text text words (Number f) = flaw_text (place_of (take f.at text)) (token_text f.what (word (drop f.at text)))
refusal_text text words (Program e) = program_text (place_of (take (number_at text (min e.at (length words))) text)) (fault_text e.fault (slice_index words e.at))
refusal_text text words (WordNames n) = names_text (codes "words") n (slice_index words 0)
refusal_text text words (PointNames n) = names_text (codes "points") n (slice_index words 1)

-- the same on a line of its own
abbrev pub refusal_line : List ℕ → List ℕ → Refusal → List ℕ
refusal_line text words r = refusal_text text words r ++ codes "\n"
