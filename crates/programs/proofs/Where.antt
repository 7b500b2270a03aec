-- where the steps of a program begin
use Rattle.std.proofs.Common.{◌≡◌, ℕ, ◌+◌, ◌<◌, ◌≤◌, ◌≢◌, ◌⊎◌, List, [], ◌∷◌, ◌++◌, length, get_or, take, set, sym, refl, ap, ◌∙◌, inl, inr, arith, length-append}
use Rattle.std.proofs.lemmas.List.{take-append-le, take_at, length-set, get_or-set_same, get_or-set_other, set_past}
use Rattle.std.proofs.lemmas.Bool.{cases_lt}
use Rattle.programs.specs.Programs.{Step, encode_steps}
use Rattle.programs.specs.Reading.{Started}

module _ (ss : List Step) (s : Step) (o o' : List ℕ) (h : Started ss o o') where
  here_more : (a j : ℕ) → a ≡ 3 + length (encode_steps ss) → (j < length ss) ⊎ (length ss ≤ j) → j ≤ length ss → j < length o
      → get_or (set o' (length ss) a) j 0 ≡ 3 + length (encode_steps (take j (ss ++ s ∷ [])))
  here_more a j e (inl l) m r =
      let ne : j ≢ length ss = omega arith in
      get_or-set_other o' (length ss) j a 0 ne ∙ h.here j l r ∙ ap (λ (ts : List Step). 3 + length (encode_steps ts)) (sym (take-append-le j ss (s ∷ []) m))
  here_more a j e (inr l) m r =
      let q : j ≡ length ss = omega arith in
      cc (get_or-set_same o' (length ss) a 0 (omega (arith, h.len)), take_at ss (s ∷ []) (length ss) refl)

  -- one start more is written
  pub started_more : (a : ℕ) → a ≡ 3 + length (encode_steps ss) → Started (ss ++ s ∷ []) o (set o' (length ss) a)
  started_more a e =
      record {
        len = length-set o' (length ss) a ∙ h.len;
        here = λ j l r. here_more a j e (cases_lt j (length ss)) (omega (arith, length-append ss (s ∷ []))) r;
        later = λ j l. later j (omega (arith, length-append ss (s ∷ [])));
      }
    where
      later : (j : ℕ) → length ss < j → get_or (set o' (length ss) a) j 0 ≡ get_or o j 0
      later j l = let ne : j ≢ length ss = omega arith in get_or-set_other o' (length ss) j a 0 ne ∙ h.later j (omega arith)

  -- there is no room for it
  pub started_full : length o ≤ length ss → Started (ss ++ s ∷ []) o o'
  started_full l = let r : length o' ≤ length ss = omega (arith, h.len) in let g = started_more (3 + length (encode_steps ss)) refl in rw set_past at g
