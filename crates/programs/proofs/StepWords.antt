-- the words of a step: what is valid, what its kind says of its words, and a step for each way to begin
use Rattle.std.proofs.Common.{◌≡◌, ℕ, zero, suc, ◌+◌, ◌-◌, ◌<◌, ◌≤◌, ◌&&◌, T, eqb, ltb, List, [], ◌∷◌, ◌++◌, length, get_or, take, replicate, sym, refl, ◌∙◌, arith, ltb→lt, lt→ltb, length-append}
use lib.Dec.{eqb_refl}
use lib.ListN.{length-replicate}
use Rattle.std.proofs.lemmas.List.{take_at, take_all}
use Rattle.algebra.specs.Vec.{below}
use Rattle.algebra.proofs.Vec.{and_l, and_r, and_i, cons_≡, below_all}
use Rattle.programs.specs.Programs.{Action, set, any, skip, Step, valid_action, valid_step, encode_action, encode_step}
use Rattle.programs.specs.Reading.{bound}
use Rattle.programs.proofs.One.{set_long}
use Rattle.programs.proofs.Cuts.{below_zeros, below_append}

abbrev pub step_at : ℕ → ℕ → Action → Step
step_at x y d = record { from = x; to = y; action = d }

-- what is valid
pub valid_i : (k m : ℕ) (s : Step) → s.from < m → s.to < m → T (valid_action bound k s.action) → T (valid_step bound k m s)
valid_i k m s p q h = and_i (ltb s.from m && ltb s.to m) (valid_action bound k s.action) (and_i (ltb s.from m) (ltb s.to m) (lt→ltb s.from m p) (lt→ltb s.to m q)) h

pub valid_from : (k m : ℕ) (s : Step) → T (valid_step bound k m s) → s.from < m
valid_from k m s h = ltb→lt s.from m (and_l (ltb s.from m) (ltb s.to m) (and_l (ltb s.from m && ltb s.to m) (valid_action bound k s.action) h))

pub valid_to : (k m : ℕ) (s : Step) → T (valid_step bound k m s) → s.to < m
valid_to k m s h = ltb→lt s.to m (and_r (ltb s.from m) (ltb s.to m) (and_l (ltb s.from m && ltb s.to m) (valid_action bound k s.action) h))

pub valid_does : (k m : ℕ) (s : Step) → T (valid_step bound k m s) → T (valid_action bound k s.action)
valid_does k m s h = and_r (ltb s.from m && ltb s.to m) (valid_action bound k s.action) h

pub valid_set : (k x : ℕ) (cs : List ℕ) → x < k → length cs ≡ suc k → T (below bound cs) → T (valid_action bound k (set x cs))
valid_set k x cs h e b = and_i (ltb x k) (eqb (length cs) (suc k) && below bound cs) (lt→ltb x k h) (and_i (eqb (length cs) (suc k)) (below bound cs) (rw e (eqb_refl (suc k))) b)

-- the words of an action, by its kind
pub kind_small : (d : Action) (us : List ℕ) → get_or (encode_action d ++ us) 0 0 < 3
kind_small (set x cs) us = omega arith
kind_small (any x) us = omega arith
kind_small skip us = omega arith

pub some_words : (d : Action) (us : List ℕ) → 0 < length (encode_action d ++ us)
some_words (set x cs) us = omega arith
some_words (any x) us = omega arith
some_words skip us = omega arith

pub more_words : (d : Action) (us : List ℕ) → get_or (encode_action d ++ us) 0 0 < 2 → 1 < length (encode_action d ++ us)
more_words (set x cs) us h = omega arith
more_words (any x) us h = omega arith
more_words skip us h = absurd (omega arith)

pub word_small : (k : ℕ) (d : Action) (us : List ℕ) → T (valid_action bound k d) → get_or (encode_action d ++ us) 0 0 < 2 → get_or (encode_action d ++ us) 1 0 < k
word_small k (set x cs) us v h = ltb→lt x k (and_l (ltb x k) (eqb (length cs) (suc k) && below bound cs) v)
word_small k (any x) us v h = ltb→lt x k v
word_small k skip us v h = absurd (omega arith)

pub set_words : (k : ℕ) (d : Action) (us : List ℕ) → T (valid_action bound k d) → get_or (encode_action d ++ us) 0 0 ≡ 0 → suc (suc k) < length (encode_action d ++ us)
set_words k (set x cs) us v h = omega (arith, set_long bound k x cs v, length-append cs us)
set_words k (any x) us v h = absurd (omega arith)
set_words k skip us v h = absurd (omega arith)

-- some step has the first words
abbrev pub Begun : ℕ → ℕ → List ℕ → ℕ → Type 0
Begun k m ws at = (s : Step) × T (valid_step bound k m s) × (at ≤ length (encode_step s)) × (take at (encode_step s) ≡ take at ws)

pub begun_0 : (k m : ℕ) (ws : List ℕ) → 0 < m → Begun k m ws 0
begun_0 k m ws h = (step_at 0 0 skip, valid_i k m (step_at 0 0 skip) h h tt, omega arith, refl)

pub begun_1 : (k m : ℕ) (ws : List ℕ) → 0 < m → 0 < length ws → get_or ws 0 0 < m → Begun k m ws 1
begun_1 k m [] h l p = absurd (omega arith)
begun_1 k m (x ∷ ws) h l p = (step_at x 0 skip, valid_i k m (step_at x 0 skip) p h tt, omega arith, refl)

pub begun_2 : (k m : ℕ) (ws : List ℕ) → 1 < length ws → get_or ws 0 0 < m → get_or ws 1 0 < m → Begun k m ws 2
begun_2 k m [] l p q = absurd (omega arith)
begun_2 k m (x ∷ []) l p q = absurd (omega arith)
begun_2 k m (x ∷ y ∷ ws) l p q = (step_at x y skip, valid_i k m (step_at x y skip) p q tt, omega arith, refl)

pub begun_3 : (k m : ℕ) (ws : List ℕ) → 0 < k → 2 < length ws → get_or ws 0 0 < m → get_or ws 1 0 < m → get_or ws 2 0 < 2 → Begun k m ws 3
begun_3 k m [] h l p q r = absurd (omega arith)
begun_3 k m (x ∷ []) h l p q r = absurd (omega arith)
begun_3 k m (x ∷ y ∷ []) h l p q r = absurd (omega arith)
begun_3 k m (x ∷ y ∷ zero ∷ ws) h l p q r = (step_at x y (set 0 (replicate (suc k) 0)), valid_i k m (step_at x y (set 0 (replicate (suc k) 0))) p q (valid_set k 0 (replicate (suc k) 0) h (length-replicate (suc k) 0) (below_zeros bound (suc k) (omega arith))), omega arith, refl)
begun_3 k m (x ∷ y ∷ suc zero ∷ ws) h l p q r = (step_at x y (any 0), valid_i k m (step_at x y (any 0)) p q (lt→ltb 0 k h), omega arith, refl)
begun_3 k m (x ∷ y ∷ suc (suc t) ∷ ws) h l p q r = absurd (omega arith)

pub begun_set : (k m : ℕ) (ws : List ℕ) → ((i : ℕ) → get_or ws i 0 < bound) → 3 < length ws → length ws < k + 5 → get_or ws 0 0 < m → get_or ws 1 0 < m
    → get_or ws 2 0 ≡ 0 → get_or ws 3 0 < k → Begun k m ws (length ws)
begun_set k m [] fits l short p q z w = absurd (omega arith)
begun_set k m (x ∷ []) fits l short p q z w = absurd (omega arith)
begun_set k m (x ∷ y ∷ []) fits l short p q z w = absurd (omega arith)
begun_set k m (x ∷ y ∷ t ∷ []) fits l short p q z w = absurd (omega arith)
begun_set k m (x ∷ y ∷ t ∷ v ∷ cs) fits l short p q z w = (step_at x y (set v ds), valid_i k m (step_at x y (set v ds)) p q (valid_set k v ds w long small), omega (arith, long), cons_≡ refl (cons_≡ refl (cons_≡ (sym z) (cons_≡ refl (take_at cs zs (length cs) refl ∙ sym (take_all (length cs) cs (omega arith)))))))
  where
    zs : List ℕ
    zs = replicate (suc k - length cs) 0

    ds : List ℕ
    ds = cs ++ zs

    long : length ds ≡ suc k
    long = omega (arith, length-append cs zs, length-replicate {A = ℕ} (suc k - length cs) 0)

    small : T (below bound ds)
    small = below_append bound cs zs (below_all bound cs (λ i. fits (suc (suc (suc (suc i)))))) (below_zeros bound (suc k - length cs) (omega arith))
