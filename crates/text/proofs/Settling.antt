-- What a turn keeps: the meaning of the whole is the numbers so far, and then the meaning of what is left.
use Rattle.std.proofs.Common.{◌≡◌, ℕ, suc, ◌+◌, ◌-◌, ◌<◌, ◌≤◌, List, [], ◌∷◌, ◌++◌, length, take, drop, set, Ok, Err, Result, sym, ap, ◌∙◌, subst, ⊎_elim, arith}
use Rattle.std.proofs.lemmas.List.{append_assoc, take_more_set, drop-set-lt, drop-drop, length-set, set_past}
use Rattle.std.proofs.lemmas.Bool.{cases_lt, lt-ltb, le-ltb, cond-true, cond-false}
use Rattle.text.specs.Turns.{flaw_at}
use Rattle.text.specs.Storing.{settled, stored}
use Rattle.text.specs.Numbers.{Meaning, flawed, after, continued}
use Rattle.text.specs.declared.modes.Mode.{Mode}
use Rattle.text.specs.declared.modes.Turn.{Turn}
use Rattle.text.specs.declared.modes.Turn.TheVariants.{Goes, Ends}
use Rattle.text.specs.declared.types.Flaw.{Flaw}
use Rattle.text.specs.declared.types.What.TheVariants.{TooMany}

-- `count` numbers stand in `out`, which was `was`, and m is the meaning of the whole text
pub record Holds (m : Meaning) (was : List ℕ) (count : ℕ) (out : List ℕ) (left : Meaning) : Type 0 where
  pub within : count ≤ length was
  pub len : length out ≡ length was
  pub whole : m ≡ after (take count out) left
  pub rest : drop count out ≡ drop count was

-- a number that ends, where there is room
stored_more : (m : Meaning) (was out : List ℕ) (count value : ℕ) (left : Meaning) → count < length was
    → Holds m was count out (after (value ∷ []) left) → Holds m was (count + 1) (set out count value) left
stored_more m was out count value left room h =
    let inside : count < length out = omega (arith, h.len) in
    let front = append_assoc (take count out) (value ∷ []) left.numbers in
    let one_more = ap (λ ns. ns ++ left.numbers) (take_more_set out count value inside) in
    record {
      within = omega arith;
      len = length-set out count value ∙ h.len;
      whole = h.whole ∙ ap (λ ns. record { numbers = ns; flaw = left.flaw }) (sym (one_more ∙ front));
      rest = drop-set-lt (count + 1) out count value (omega arith) ∙ sym (drop-drop 1 count out) ∙ ap (drop 1) h.rest ∙ drop-drop 1 count was;
    }

apart : {A : Type 0} (next : ℕ × Mode) (f : Flaw) → ◌≡◌ {A = Result (ℕ × Mode) Flaw} (Ok next) (Err f) → A
apart next f e = let z : ◌≡◌ {A = ℕ} 0 1 = cc in absurd (omega arith)

module _ (m : Meaning) (was out : List ℕ) (count : ℕ) (rest : ℕ → Mode → Meaning) where
  -- what is left of the meaning, where a byte makes this of the mode
  abbrev pub Before : Result Turn Flaw → Type 0
  Before u = Holds m was count out (continued u (length was - count) rest)

  abbrev After : Turn → ℕ × Mode → Type 0
  After t next = Holds m was next.0 (stored t count out) (rest (length was - next.0) next.1)

  pub refused : (u : Result Turn Flaw) (f : Flaw) → u ≡ Err f → Before u → Holds m was count out (flawed f)
  refused u f e h = subst Before e h

  settles : (t : Turn) (next : ℕ × Mode) → settled t count (length was) ≡ Ok next → Before (Ok t) → After t next
  settles (Goes mode) next e h = let is : (count, mode) ≡ next = cc in subst (After (Goes mode)) is h
  settles (Ends d mode) next e h =
      ⊎_elim
      (λ lt.
      let is : (count + 1, mode) ≡ next = cc (cond-true {A = Result (ℕ × Mode) Flaw} _ (Ok (count + 1, mode)) (Err (flaw_at d.from TooMany)) (lt-ltb count (length was) lt)) in
      let one : length was - count ≡ suc (length was - (count + 1)) = omega arith in
      subst (After (Ends d mode)) is
      (stored_more m was out count d.value _ lt (subst (λ k. Holds m was count out (continued (Ok (Ends d mode)) k rest)) one h)))
      (λ ge. apart next (flaw_at d.from TooMany) (sym e ∙ cond-false _ _ _ (le-ltb count (length was) ge)))
      (cases_lt count (length was))

  stops : (t : Turn) (f : Flaw) → settled t count (length was) ≡ Err f → Before (Ok t) → Holds m was count (stored t count out) (flawed f)
  stops (Goes mode) f e h = apart (count, mode) f e
  stops (Ends d mode) f e h =
      ⊎_elim
      (λ lt. apart (count + 1, mode) f (sym (cond-true _ _ _ (lt-ltb count (length was) lt)) ∙ e))
      (λ ge.
      let is : flaw_at d.from TooMany ≡ f = cc (cond-false {A = Result (ℕ × Mode) Flaw} _ (Ok (count + 1, mode)) (Err (flaw_at d.from TooMany)) (le-ltb count (length was) ge)) in
      let none : length was - count ≡ 0 = omega arith in
      let same = subst (λ k. Holds m was count out (continued (Ok (Ends d mode)) k rest)) none h in
      subst (λ xs. Holds m was count xs (flawed f)) (sym (set_past out count d.value (omega (arith, h.len)))) (subst (λ g. Holds m was count out (flawed g)) is same))
      (cases_lt count (length was))

-- a call of `settle` on the turn t, which leaves `exit`
module _ (m : Meaning) (was out exit : List ℕ) (count : ℕ) (rest : ℕ → Mode → Meaning) (t : Turn) (u : Result Turn Flaw) (r : Result (ℕ × Mode) Flaw) where
  pub record Called : Type 0 where
    pub before : Before m was out count rest u
    pub turned : u ≡ Ok t
    pub answer : r ≡ settled t count (length out)
    pub store : exit ≡ stored t count out

  size_is : Called → r ≡ settled t count (length was)
  size_is h = h.answer ∙ ap (settled t count) h.before.len

  at_turn : Called → Before m was out count rest (Ok t)
  at_turn h = subst (Before m was out count rest) h.turned h.before

  pub called_ok : (next : ℕ × Mode) → r ≡ Ok next → Called → Holds m was next.0 exit (rest (length was - next.0) next.1)
  called_ok next e h =
      subst (λ xs. Holds m was next.0 xs (rest (length was - next.0) next.1)) (sym h.store)
      (settles m was out count rest t next (sym (size_is h) ∙ e) (at_turn h))

  pub called_err : (f : Flaw) → r ≡ Err f → Called → Holds m was count exit (flawed f)
  called_err f e h =
      subst (λ xs. Holds m was count xs (flawed f)) (sym h.store) (stops m was out count rest t f (sym (size_is h) ∙ e) (at_turn h))
