-- the words of several steps, one behind another
use Rattle.std.proofs.Common.{◌≡◌, ℕ, zero, suc, ◌<◌, ◌≤◌, T, List, [], ◌∷◌, ◌++◌, length, replicate, sym, refl, ap, ◌∙◌, arith}
use lib.ListN.{length-replicate}
use Rattle.std.proofs.lemmas.List.{append_assoc}
use Rattle.algebra.proofs.Vec.{and_l, and_r, and_i}
use Rattle.programs.specs.Programs.{skip, Step, valid_step, valid_steps, encode_step, encode_steps}
use Rattle.programs.specs.Reading.{bound}
use Rattle.programs.proofs.One.{same_step}
use Rattle.programs.proofs.StepWords.{step_at, valid_i}

pub encode_append : (ss ts : List Step) → encode_steps (ss ++ ts) ≡ encode_steps ss ++ encode_steps ts
encode_append [] ts = refl
encode_append (s ∷ ss) ts = ap (λ (l : List ℕ). encode_step s ++ l) (encode_append ss ts) ∙ sym (append_assoc (encode_step s) (encode_steps ss) (encode_steps ts))

pub valid_append : (b k m : ℕ) (ss ts : List Step) → T (valid_steps b k m ss) → T (valid_steps b k m ts) → T (valid_steps b k m (ss ++ ts))
valid_append b k m [] ts p q = q
valid_append b k m (s ∷ ss) ts p q = and_i (valid_step b k m s) (valid_steps b k m (ss ++ ts)) (and_l (valid_step b k m s) (valid_steps b k m ss) p) (valid_append b k m ss ts (and_r (valid_step b k m s) (valid_steps b k m ss) p) q)

pub valid_push : (b k m : ℕ) (ss : List Step) (s : Step) → T (valid_steps b k m ss) → T (valid_step b k m s) → T (valid_steps b k m (ss ++ s ∷ []))
valid_push b k m ss s p q = valid_append b k m ss (s ∷ []) p (and_i (valid_step b k m s) (valid_steps b k m []) q tt)

-- steps that change nothing, as many as are wanted
abbrev pub idle : ℕ → List Step
idle n = replicate n (step_at 0 0 skip)

pub idle_long : (n : ℕ) → length (idle n) ≡ n
idle_long n = length-replicate n (step_at 0 0 skip)

pub idle_valid : (k m n : ℕ) → 0 < m → T (valid_steps bound k m (idle n))
idle_valid k m zero h = tt
idle_valid k m (suc n) h = and_i (valid_step bound k m (step_at 0 0 skip)) (valid_steps bound k m (replicate n (step_at 0 0 skip))) (valid_i k m (step_at 0 0 skip) h h tt) (idle_valid k m n h)

-- steps whose words begin with those of others begin with these
pub record Behind (b k m : ℕ) (ss ts : List Step) (us : List ℕ) : Type 0 where
  pub others : List Step
  pub is : ts ≡ ss ++ others
  pub words : encode_steps others ≡ us
  pub valid : T (valid_steps b k m others)

pub behind : (b k m : ℕ) (ss ts : List Step) (us : List ℕ) → T (valid_steps b k m ss) → T (valid_steps b k m ts) → length ss ≤ length ts
    → encode_steps ts ≡ encode_steps ss ++ us → Behind b k m ss ts us
behind b k m [] ts us p q l e = record { others = ts; is = refl; words = e; valid = q }
behind b k m (s ∷ ss) [] us p q l e = absurd (omega arith)
behind b k m (s ∷ ss) (t ∷ ts) us p q l e =
    let rest = behind b k m ss ts us (and_r (valid_step b k m s) (valid_steps b k m ss) p) (and_r (valid_step b k m t) (valid_steps b k m ts) q) (omega arith) same.1 in
    record { others = rest.others; is = cons same.0 rest.is; words = rest.words; valid = rest.valid }
  where
    same : (t ≡ s) × (encode_steps ts ≡ encode_steps ss ++ us)
    same = same_step b k m m t s (encode_steps ts) (encode_steps ss ++ us) (and_l (valid_step b k m t) (valid_steps b k m ts) q) (and_l (valid_step b k m s) (valid_steps b k m ss) p) (e ∙ append_assoc (encode_step s) (encode_steps ss) us)

    cons : {x y : Step} {xs ys : List Step} → x ≡ y → xs ≡ ys → ◌≡◌ {A = List Step} (x ∷ xs) (y ∷ ys)
    cons p q = cc
