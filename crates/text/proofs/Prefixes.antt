-- What `strip_prefix` leaves.
use Rattle.std.proofs.Common.{◌≡◌, ℕ, Bool, true, false, cond, eqb, ◌&&◌, List, [], ◌∷◌, ◌++◌, slice_get, IsTrue, length, take, drop, Some, None, Option, MatchOption, Bor, refl, sym, ap, ◌∙◌}
use Rattle.std.specs.Bool.{then_some}
use Rattle.std.specs.Option.{option_map, option_copied}
use Rattle.std.specs.Cmp.Lexicographic.{pointwise}
use Rattle.std.proofs.lemmas.Bool.{cond-true, cond-false}
use Rattle.text.specs.Bytes.{white}
use Rattle.text.specs.Lines.{behind_front, closed, if_closed, told}

tested : (fs bs : List ℕ) → cond (pointwise eqb (take (length fs) bs) fs) (Some (drop (length fs) bs)) None ≡ behind_front fs bs
tested [] bs = refl
tested (f ∷ fs) [] = refl
tested (f ∷ fs) (b ∷ bs) =
    elim (eqb b f) as (λ t. cond (t && pointwise eqb (take (length fs) bs) fs) (Some (drop (length fs) bs)) None ≡ cond t (behind_front fs bs) None) [
      | true ↦ tested fs bs
      | false ↦ refl
    ]

behind_so : (fs bs rest : List ℕ) → pointwise eqb (take (length fs) bs) fs ≡ true → rest ≡ drop (length fs) bs → behind_front fs bs ≡ Some rest
behind_so fs bs rest same is = sym (tested fs bs) ∙ cond-true _ _ _ same ∙ ap Some (sym is)

behind_not : (fs bs : List ℕ) → pointwise eqb (take (length fs) bs) fs ≡ false → behind_front fs bs ≡ None
behind_not fs bs other = sym (tested fs bs) ∙ cond-false _ _ _ other

abbrev then_behind : List ℕ → Option (List ℕ) → Option (List ℕ)
then_behind gs None = None
then_behind gs (Some bs) = behind_front gs bs

-- one front, and then another
behind_both : (fs gs bs : List ℕ) → behind_front (fs ++ gs) bs ≡ then_behind gs (behind_front fs bs)
behind_both [] gs bs = refl
behind_both (f ∷ fs) gs [] = refl
behind_both (f ∷ fs) gs (b ∷ bs) =
    elim (eqb b f) as (λ t. cond t (behind_front (fs ++ gs) bs) None ≡ then_behind gs (cond t (behind_front fs bs) None)) [
      | true ↦ behind_both fs gs bs
      | false ↦ refl
    ]

shown : (x : Bor (List ℕ)) (r : Bool) → option_map (λ y. y.now) (then_some r x) ≡ cond r (Some x.now) None
shown x true = refl
shown x false = refl

-- on a line that begins with `# `, behind which `rest` stands
module _ (key line rest : List ℕ) (sign : pointwise eqb (take 2 line) (35 ∷ 32 ∷ []) ≡ true) (is : rest ≡ drop 2 line) where
  told_behind : told key line ≡ if_closed (behind_front key rest)
  told_behind = ap if_closed (behind_both (35 ∷ 32 ∷ []) key line ∙ ap (then_behind key) (behind_so (35 ∷ 32 ∷ []) line rest sign is))

  pub told_not : pointwise eqb (take (length key) rest) key ≡ false → None ≡ told key line
  told_not other = sym (told_behind ∙ ap if_closed (behind_not key rest other))

  pub told_key : (end : Bor (List ℕ)) (r : Bool) → pointwise eqb (take (length key) rest) key ≡ true → end.now ≡ drop (length key) rest → r ≡ closed end.now → option_map (λ x. x.now) (then_some r end) ≡ told key line
  told_key end r same at ends =
      shown end r ∙ ap (λ t. cond t (Some end.now) None) ends ∙ sym (told_behind ∙ ap if_closed (behind_so key rest end.now same at))

-- what `rest.first()` and a test of it say of the end of a key
pub closed_is : {Answers : Bor ℕ → Type 0} (rest : List ℕ) (first : Option (Bor ℕ)) (r : Bool) → option_copied first ≡ slice_get rest 0 → MatchOption first (IsTrue r) (λ x. Answers x)
    → ((x : Bor ℕ) → Answers x → r ≡ white x.now) → r ≡ closed rest
closed_is [] None r e h p = h
closed_is [] (Some x) r e h p = cc
closed_is (b ∷ bs) None r e h p = cc
closed_is (b ∷ bs) (Some x) r e h p = let is : x.now ≡ b = cc in p x h ∙ ap white is
