-- The lines of a text that hold names.
use Rattle.std.specs.Prelude.{ℕ, Bool, true, cond, List, [], ◌∷◌, Some, None, Option, ◌==◌}
use Rattle.text.specs.Bytes.{white, feed, before}

-- what stands behind a front, in a text that begins with it
abbrev pub behind_front : List ℕ → List ℕ → Option (List ℕ)
behind_front [] bs = Some bs
behind_front (f ∷ fs) [] = None
behind_front (f ∷ fs) (b ∷ bs) = cond (b == f) (behind_front fs bs) None

-- the key ends where white space or nothing follows it
abbrev pub closed : List ℕ → Bool
closed [] = true
closed (b ∷ bs) = white b

abbrev pub if_closed : Option (List ℕ) → Option (List ℕ)
if_closed None = None
if_closed (Some rest) = cond (closed rest) (Some rest) None

-- the line is `# KEY` and what is told
abbrev pub told : List ℕ → List ℕ → Option (List ℕ)
told key line = if_closed (behind_front (35 ∷ 32 ∷ key) line)

abbrev pub line_of : List ℕ → List ℕ
line_of bs = before feed bs

abbrev pub or_else : Option (List ℕ) → Option (List ℕ) → Option (List ℕ)
or_else None other = other
or_else (Some rest) other = Some rest

-- what the first line tells that begins in what is left of a text; `starts` says that a line begins there
abbrev pub names_from : List ℕ → Bool → List ℕ → Option (List ℕ)
names_from key starts [] = None
names_from key starts (b ∷ bs) = or_else (cond starts (told key (line_of (b ∷ bs))) None) (names_from key (feed b) bs)

abbrev pub names_of : List ℕ → List ℕ → Option (List ℕ)
names_of key text = names_from key true text
