-- The loop of the reader of numbers: its invariant, its calls, and what it has read at the end.
use Rattle.std.proofs.Common.{◌≡◌, ℕ, ◌+◌, ◌-◌, ◌<◌, List, [], ◌++◌, length, get_or, take, drop, Ok, Err, sym, refl, ap, ◌∙◌, subst, arith}
use Rattle.std.proofs.lemmas.List.{append-nil, take-append-drop, length-take-le, at_drop_more, at_drop_all}
use Rattle.text.specs.Turns.{turn_of}
use Rattle.text.specs.Numbers.{Meaning, flawed, fine, meaning, meaning_of, answered, answer_of, store_of, Reads}
use Rattle.text.proofs.Readback.{read_back}
use Rattle.text.proofs.Settling.{Holds, Before}
use Rattle.text.specs.declared.modes.Mode.{Mode}
use Rattle.text.specs.declared.types.Flaw.{Flaw}

abbrev pub Sofar : List ℕ → List ℕ → ℕ → ℕ → Mode → List ℕ → Type 0
Sofar text was at count mode out = Holds (meaning_of (length was) text) was count out (meaning (length was - count) mode at (drop at text))

module _ (text was out : List ℕ) (at count : ℕ) (mode : Mode) (h : Sofar text was at count mode out) where
  -- at the byte at `at`
  pub before_byte : at < length text → Before (meaning_of (length was) text) was out count (λ left next. meaning left next (at + 1) (drop (at + 1) text)) (turn_of mode at (get_or text at 0))
  before_byte lt = subst (Holds _ was count out) (at_drop_more (meaning (length was - count) mode at) text at 0 lt) h

  -- and at the end of the text
  pub before_end : at ≡ length text → Before (meaning_of (length was) text) was out count (λ _ _. fine) (turn_of mode (length text) 10)
  before_end e =
      let none : drop at text ≡ [] = at_drop_all (λ xs. xs) text at (omega arith) in
      subst (Holds _ was count out) (ap (meaning (length was - count) mode at) none ∙ ap (λ n. meaning (length was - count) mode n []) e) h

-- no number is left: those of the meaning stand in front
module _ (text was out : List ℕ) (count : ℕ) where
  abbrev whole : Meaning
  whole = meaning_of (length was) text

  module _ (left : Meaning) (none : left.numbers ≡ []) (h : Holds whole was count out left) where
    numbers_are : whole.numbers ≡ take count out
    numbers_are = ap (λ m. m.numbers) h.whole ∙ ap (λ ns. take count out ++ ns) none ∙ append-nil (take count out)

    count_is : length whole.numbers ≡ count
    count_is = ap length numbers_are ∙ length-take-le count out (omega (arith, h.within, h.len))

    store_is : out ≡ store_of whole was
    store_is =
        let c = count_is in
        let n = numbers_are in
        sym (take-append-drop count out) ∙ ap (λ ns. take count out ++ ns) h.rest ∙ cc

  pub read_all : Holds whole was count out fine → Reads text was out (Ok count)
  read_all h =
      let said : Ok count ≡ answer_of whole = ap Ok (sym (count_is fine refl h)) ∙ ap (λ f. answered whole.numbers f) (sym (ap (λ m. m.flaw) h.whole)) in
      let kept = store_is fine refl h in
      record { answer = said; store = kept; len = h.len; within = h.within; back = read_back text was out (Ok count) said kept }

  pub read_part : (f : Flaw) → Holds whole was count out (flawed f) → Reads text was out (Err f)
  read_part f h =
      let said : Err f ≡ answer_of whole = ap (λ o. answered whole.numbers o) (sym (ap (λ m. m.flaw) h.whole)) in
      let kept = store_is (flawed f) refl h in
      record { answer = said; store = kept; len = h.len; within = tt; back = read_back text was out (Err f) said kept }
