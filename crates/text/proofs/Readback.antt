-- Numbers that are written in decimal, with white space behind each, are read back.
use Rattle.std.proofs.Common.{◌≡◌, ℕ, zero, suc, ◌+◌, ◌-◌, ◌*◌, ◌/◌, ◌%◌, ◌<◌, ◌≤◌, true, false, cond, eqb, List, [], ◌∷◌, ◌++◌, length, drop, None, Ok, decimal, Result, refl, ap, ◌∙◌, arith}
use Rattle.std.proofs.lemmas.List.{append_assoc, length_push, length-map}
use Rattle.std.proofs.lemmas.Fmt.{decimal_by_steps}
use Rattle.std.proofs.lemmas.Bool.{cond-true, cond-false, ne_eqb}
use Rattle.std.proofs.lemmas.Bool.Decides.{nat_tests}
use Rattle.text.specs.Bytes.{white}
use Rattle.text.specs.Entries.{Entry, written, Proper, numbers_of}
use Rattle.text.specs.Turns.{turn_of, mode_after_white, digits_so_far, grown}
use Rattle.text.specs.Numbers.{Meaning, after, continued, meaning, meaning_of, answer_of, store_of, ReadBack}
use Rattle.text.specs.declared.modes.Mode.{Mode}
use Rattle.text.specs.declared.modes.Mode.TheVariants.{LineStart, Gap, Comment, Number}
use Rattle.text.specs.declared.modes.Turn.{Turn}
use Rattle.text.specs.declared.modes.Turn.TheVariants.{Goes, Ends}
use Rattle.text.specs.declared.types.Flaw.{Flaw}

-- a number may begin
abbrev Ready : Mode → Type 0
Ready LineStart = Unit {0}
Ready Gap = Unit {0}
Ready Comment = ⊥
Ready (Number d) = ⊥

ready_after : (s : ℕ) → Ready (mode_after_white s)
ready_after s = elim (eqb s 10) as (λ t. Ready (cond t LineStart Gap)) [ true ↦ tt | false ↦ tt ]

-- a digit was read, and the digits so far have this value
abbrev reading : ℕ → ℕ → Result Turn Flaw
reading from value = Ok (Goes (Number (digits_so_far from value)))

grown_digit : (from value d : ℕ) → d < 10 → value * 10 + d < 4294967296 → grown (digits_so_far from value) (48 + d) ≡ reading from (value * 10 + d)
grown_digit from value d h small = let e : 48 + d - 48 ≡ d = omega arith in grind (arith, nat_tests)

not_white : (d : ℕ) → d < 10 → white (48 + d) ≡ false
not_white d h = grind (arith, nat_tests)

grown_first : (at d : ℕ) → d < 10 → cond (white (48 + d)) (Ok (Goes (mode_after_white (48 + d)))) (grown (digits_so_far at 0) (48 + d)) ≡ reading at d
grown_first at d h =
    let e : 0 * 10 + d ≡ d = omega arith in
    cond-false _ _ _ (not_white d h) ∙ grown_digit at 0 d h (omega arith) ∙ ap (reading at) e

first_digit : (mode : Mode) (at d : ℕ) → Ready mode → d < 10 → turn_of mode at (48 + d) ≡ reading at d
first_digit LineStart at d r h = cond-false _ _ _ (ne_eqb (48 + d) 35 (λ e. omega arith)) ∙ grown_first at d h
first_digit Gap at d r h = grown_first at d h
first_digit Comment at d r h = absurd r
first_digit (Number digits) at d r h = absurd r

next_digit : (from value at d : ℕ) → d < 10 → value * 10 + d < 4294967296 → turn_of (Number (digits_so_far from value)) at (48 + d) ≡ reading from (value * 10 + d)
next_digit from value at d h small = cond-false _ _ _ (not_white d h) ∙ grown_digit from value d h small

-- the digits ds of n, read from a place where a number may begin
abbrev DigitsRead : ℕ → List ℕ → Type 0
DigitsRead n ds =
    n < 4294967296 → (room : ℕ) (mode : Mode) (at : ℕ) (rest : List ℕ) → Ready mode → meaning room mode at (ds ++ rest) ≡ meaning room (Number (digits_so_far at n)) (at + length ds) rest

one_digit : (n : ℕ) → n < 10 → DigitsRead n ((48 + n) ∷ [])
one_digit n h small room mode at rest r =
    ap (λ t. continued t room (λ left next. meaning left next (at + 1) rest)) (first_digit mode at n r h)

more_digits : (n : ℕ) (ds : List ℕ) → 10 ≤ n → DigitsRead (n / 10) ds → DigitsRead n (ds ++ ((48 + n % 10) ∷ []))
more_digits n ds big front small room mode at rest r =
    let whole : n / 10 * 10 + n % 10 ≡ n = omega arith in
    let end : at + length ds + 1 ≡ at + length (ds ++ ((48 + n % 10) ∷ [])) = omega (arith, length_push ds (48 + n % 10)) in
    let last = next_digit at (n / 10) (at + length ds) (n % 10) (omega arith) (omega arith) in
    let split = ap (meaning room mode at) (append_assoc ds ((48 + n % 10) ∷ []) rest) in
    let before = front (omega arith) room mode at ((48 + n % 10) ∷ rest) r in
    let turn = ap (λ t. continued t room (λ left next. meaning left next (at + length ds + 1) rest)) last in
    split ∙ before ∙ turn ∙ (λ k. meaning room (Number (digits_so_far at (whole k))) (end k) rest)

digits_read : (n : ℕ) → n < 4294967296 → DigitsRead n (decimal n)
digits_read n small = decimal_by_steps DigitsRead one_digit more_digits n (omega arith)

-- white space ends the number
ended : (room from value at s : ℕ) (rest : List ℕ) → white s ≡ true → meaning (suc room) (Number (digits_so_far from value)) at (s ∷ rest) ≡ after (value ∷ []) (meaning room (mode_after_white s) (at + 1) rest)
ended room from value at s rest w =
    ap (λ t. continued t (suc room) (λ left next. meaning left next (at + 1) rest)) (cond-true (white s) (Ok (Ends (digits_so_far from value) (mode_after_white s))) (grown (digits_so_far from value) s) w)

entries_read : (es : List Entry) → Proper es → (room : ℕ) (mode : Mode) (at : ℕ) → Ready mode → length es ≤ room → meaning room mode at (written es) ≡ record { numbers = numbers_of es; flaw = None }
entries_read [] p room LineStart at r fits = refl
entries_read [] p room Gap at r fits = refl
entries_read [] p room Comment at r fits = absurd r
entries_read [] p room (Number d) at r fits = absurd r
entries_read (e ∷ es) p zero mode at r fits = absurd (omega arith)
entries_read (e ∷ es) p (suc room) mode at r fits =
    let digits = digits_read e.number p.0 p.0 (suc room) mode at (e.space ∷ written es) r in
    let number = ended room at e.number (at + length (decimal e.number)) e.space (written es) p.1 in
    let others = entries_read es p.2 room (mode_after_white e.space) _ (ready_after e.space) (omega arith) in
    digits ∙ number ∙ ap (after (e.number ∷ [])) others

module _ (text out exit : List ℕ) (r : Result ℕ Flaw) where
  abbrev told : Meaning
  told = meaning_of (length out) text

  pub read_back : r ≡ answer_of told → exit ≡ store_of told out → ReadBack text out exit r
  read_back answer store es proper fits is =
      let all : told ≡ record { numbers = numbers_of es; flaw = None } = ap (meaning_of (length out)) is ∙ entries_read es proper (length out) LineStart 0 tt fits in
      let size : length (numbers_of es) ≡ length es = length-map es (λ e. e.number) in (
        answer ∙ ap answer_of all ∙ ap Ok size,
        store ∙ ap (λ m. store_of m out) all ∙ ap (λ n. numbers_of es ++ drop n out) size,
      )
