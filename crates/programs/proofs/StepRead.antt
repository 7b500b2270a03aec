-- the step that words begin with, or the first word that no step has there
use Rattle.std.proofs.Common.{◌≡◌, ℕ, suc, ◌+◌, ◌<◌, ◌≤◌, T, ◌⊎◌, List, ◌++◌, length, get_or, take, drop, sym, refl, ap, ◌∙◌, inl, inr, arith, lt→ltb}
use Rattle.std.proofs.lemmas.List.{take-append-drop, length-take-le, take-take, drop-drop, length-drop, get_or-drop}
use Rattle.std.specs.declared.ops.Bound.TheVariants.{Excluded, Unbounded}
use Rattle.algebra.specs.Vec.{below}
use Rattle.programs.specs.declared.step.Fault.{Fault}
use Rattle.programs.specs.declared.step.Fault.TheVariants.{Ends, Point, Kind, Word}
use Rattle.programs.specs.declared.step.Wrong.{Wrong}
use Rattle.programs.specs.Programs.{set, any, skip, Step, valid_step, encode_action, encode_step}
use Rattle.programs.specs.Reading.{bound, Starts, StepFault, NoStep}
use Rattle.programs.specs.Single.{Missing, There, Inside, Outside, Part, Short}
use Rattle.programs.proofs.Cuts.{same_at, same_reach, three, four, below_take}
use Rattle.programs.proofs.StepWords.{step_at, valid_i, valid_from, valid_to, valid_does, valid_set, kind_small, some_words, more_words, word_small, set_words, Begun, begun_0, begun_1, begun_2, begun_3, begun_set}

-- the word `at` is below `end`, or too large
abbrev Below : List ℕ → ℕ → ℕ → ℕ → Type 0
Below ws at end n = Inside ws at Unbounded (Excluded end) n

abbrev Large : List ℕ → ℕ → ℕ → Fault → Wrong → Type 0
Large ws at end f e = Outside ws at Unbounded (Excluded end) f e

large : (ws : List ℕ) (at end : ℕ) → ⊥ ⊎ (end ≤ get_or ws at 0) → end ≤ get_or ws at 0
large ws at end (inl h) = absurd h
large ws at end (inr h) = h

-- every step that has the first words has the word `at` too; and has it below `end`
abbrev Goes : ℕ → ℕ → List ℕ → ℕ → Type 0
Goes k m ws at = (s : Step) (us : List ℕ) → T (valid_step bound k m s) → take at (encode_step s ++ us) ≡ take at ws → at < length (encode_step s ++ us)

abbrev Stays : ℕ → ℕ → List ℕ → ℕ → ℕ → Type 0
Stays k m ws at end = (s : Step) (us : List ℕ) → T (valid_step bound k m s) → take at (encode_step s ++ us) ≡ take at ws → get_or (encode_step s ++ us) at 0 < end

less : (at : ℕ) (xs ys : List ℕ) → take (suc at) xs ≡ take (suc at) ys → take at xs ≡ take at ys
less at xs ys e = sym (take-take at (suc at) xs (omega arith)) ∙ ap (take at) e ∙ take-take at (suc at) ys (omega arith)

ends : (k m : ℕ) (ws : List ℕ) (at : ℕ) → at ≡ length ws → Goes k m ws at → (0 < k → 0 < m → Begun k m ws at) → NoStep k m ws at Ends
ends k m ws at e goes begun =
    record {
      within = omega arith;
      refutes = λ s us v h. omega (arith, same_reach at (encode_step s ++ us) ws h (goes s us v (less at (encode_step s ++ us) ws h)));
      begins = begun;
      why = e;
    }

over : (k m : ℕ) (ws : List ℕ) (at end : ℕ) (f : Fault) → at < length ws → end ≤ get_or ws at 0 → Stays k m ws at end → (0 < k → 0 < m → Begun k m ws at) → StepFault k m ws at f → NoStep k m ws at f
over k m ws at end f l o stays begun why =
    record {
      within = omega arith;
      refutes = λ s us v h. omega (arith, same_at (suc at) at (encode_step s ++ us) ws h (omega arith), stays s us v (less at (encode_step s ++ us) ws h));
      begins = begun;
      why = why;
    }

-- the first word that no step has
wrong : (k m : ℕ) (ws : List ℕ) (at end : ℕ) (f : Fault) (e : Wrong) → Goes k m ws at → Stays k m ws at end → (0 < k → 0 < m → Begun k m ws at)
    → (end ≤ get_or ws at 0 → StepFault k m ws at f) → Missing ws at e ⊎ Large ws at end f e → NoStep k m ws e.at e.fault
wrong k m ws at end f e goes stays begun why (inl h) = rw (h.here, h.fault) (ends k m ws at h.ends goes begun)
wrong k m ws at end f e goes stays begun why (inr h) =
    let l = large ws at end h.outside in rw (h.here, h.fault) (over k m ws at end f h.within l stays begun (why l))

pub wrong_from : (k m : ℕ) (ws : List ℕ) (e : Wrong) → Missing ws 0 e ⊎ Large ws 0 m Point e → NoStep k m ws e.at e.fault
wrong_from k m ws e = wrong k m ws 0 m Point e (λ s us v h. omega arith) (λ s us v h. valid_from k m s v) (λ a b. begun_0 k m ws b) (λ o. (omega arith, o))

pub wrong_to : (k m : ℕ) (ws : List ℕ) {x : ℕ} → Below ws 0 m x → (e : Wrong) → Missing ws 1 e ⊎ Large ws 1 m Point e → NoStep k m ws e.at e.fault
wrong_to k m ws p e = wrong k m ws 1 m Point e (λ s us v h. omega arith) (λ s us v h. valid_to k m s v) (λ a b. begun_1 k m ws b p.within (omega arith)) (λ o. (omega arith, o))

-- where both points are there
module _ (k m : ℕ) (ws : List ℕ) {x y : ℕ} (p : Below ws 0 m x) (q : Below ws 1 m y) where
  begun_kind : 0 < k → 0 < m → Begun k m ws 2
  begun_kind a b = begun_2 k m ws q.within (omega (arith, p.is, p.inside.1)) (omega (arith, q.is, q.inside.1))

  pub missing_kind : (e : Wrong) → Missing ws 2 e → NoStep k m ws e.at e.fault
  missing_kind e h = rw (h.here, h.fault) (ends k m ws 2 h.ends (λ s us v h. omega (arith, some_words s.action us)) begun_kind)

  pub wrong_kind : {t : ℕ} → There ws 2 t → 2 < t → NoStep k m ws 2 Kind
  wrong_kind r l = over k m ws 2 3 Kind r.within (omega (arith, r.is)) (λ s us v h. kind_small s.action us) begun_kind (refl, omega (arith, r.is))

  pub starts_skip : There ws 2 2 → Starts k m ws (step_at x y skip) 3
  starts_skip r = record { valid = valid_i k m (step_at x y skip) p.inside.1 q.inside.1 tt; is = cc (three ws r.within); size = refl; within = omega arith }

  -- a step of a kind below 2, whose word is missing or is no word
  pub wrong_word : {t : ℕ} → There ws 2 t → t < 2 → (e : Wrong) → Missing ws 3 e ⊎ Large ws 3 k Word e → NoStep k m ws e.at e.fault
  wrong_word r l e = wrong k m ws 3 k Word e (λ s us v h. omega (arith, more_words s.action us (kind s us h))) (λ s us v h. word_small k s.action us (valid_does k m s v) (kind s us h)) (λ a b. begun_3 k m ws a r.within (omega arith) (omega arith) (omega arith)) (λ o. (refl, o))
    where
      kind : (s : Step) (us : List ℕ) → take 3 (encode_step s ++ us) ≡ take 3 ws → get_or (encode_action s.action ++ us) 0 0 < 2
      kind s us h = omega (arith, same_at 3 2 (encode_step s ++ us) ws h (omega arith))

  pub starts_any : There ws 2 1 → {v : ℕ} → Below ws 3 k v → Starts k m ws (step_at x y (any v)) 4
  starts_any r {v} w = record { valid = valid_i k m (step_at x y (any v)) p.inside.1 q.inside.1 (lt→ltb v k w.inside.1); is = cc (four ws w.within); size = refl; within = omega arith }

  -- too few words for the numbers of a step that sets a word
  pub wrong_set : ((i : ℕ) → get_or ws i 0 < bound) → There ws 2 0 → {v : ℕ} → Below ws 3 k v → (e : Wrong) → Short ws 4 (suc k) e → NoStep k m ws e.at e.fault
  wrong_set fits r w e h =
      rw (h.here, h.fault)
      (ends k m ws (length ws) refl (λ s us v l. omega (arith, set_words k s.action us (valid_does k m s v) (kind s us l))) (λ a b. begun_set k m ws fits w.within (omega (arith, h.ends)) (omega (arith, p.is, p.inside.1)) (omega (arith, q.is, q.inside.1)) r.is (omega (arith, w.is, w.inside.1))))
    where
      kind : (s : Step) (us : List ℕ) → take (length ws) (encode_step s ++ us) ≡ take (length ws) ws → get_or (encode_action s.action ++ us) 0 0 ≡ 0
      kind s us l = same_at (length ws) 2 (encode_step s ++ us) ws l (omega (arith, w.within)) ∙ r.is

  pub starts_set : ((i : ℕ) → get_or ws i 0 < bound) → There ws 2 0 → {v : ℕ} → Below ws 3 k v → {cs : List ℕ} → Part ws 4 (suc k) cs
      → Starts k m ws (step_at x y (set v cs)) (4 + suc k)
  starts_set fits r {v} w {cs} h =
      record {
        valid = valid_i k m (step_at x y (set v cs)) p.inside.1 q.inside.1 (valid_set k v cs w.inside.1 size small);
        is = cc (four ws w.within, whole);
        size = omega (arith, size);
        within = h.within;
      }
    where
      size : length cs ≡ suc k
      size = ap length (sym h.is) ∙ length-take-le (suc k) (drop 4 ws) (omega (arith, h.within, length-drop 4 ws))

      small : T (below bound cs)
      small = rw (← h.is) (below_take bound (suc k) (drop 4 ws) (λ i. rw get_or-drop (fits (4 + i))))

      whole : drop 4 ws ≡ cs ++ drop (4 + suc k) ws
      whole = rw (← h.is, ← drop-drop) (sym (take-append-drop (suc k) (drop 4 ws)))
