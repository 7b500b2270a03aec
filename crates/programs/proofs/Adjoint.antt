-- a factor row with a step put in
use Rattle.std.proofs.Common.{◌≡◌, ℕ, zero, suc, ◌+◌, ◌*◌, ◌%◌, ◌^◌, List, [], ◌∷◌, length, sym, ap, ◌∙◌, arith}
use native.Mathlib.Nat.{suc_inj}
use Rattle.algebra.proofs.Modular.{mods, push, pull, red, by_zero}
use Rattle.algebra.proofs.Vec.{length_times}
use Rattle.algebra.proofs.Sums.{plus_dot, times_dot}
use Rattle.algebra.specs.Vec.{times, dot}
use Rattle.algebra.specs.Vec.{entry}
use Rattle.programs.specs.Runs.{put}
use Rattle.programs.specs.Theorems.{Adjoint}
use Rattle.programs.proofs.States.{length_put}

dot_put : (w y v : ℕ) (c r : List ℕ) → length c ≡ length r → dot w c (put r y v) ≡ (dot w (put c y 0) r + entry c y * v) % 2 ^ w
dot_put w y v [] r e = sym (by_zero w _ 0 (omega arith))
dot_put w y v (a ∷ c) [] e = absurd (omega arith)
dot_put w zero v (a ∷ c) (b ∷ r) e = simp push (simp pull (ap (red (2 ^ w)) (omega arith)))
dot_put w (suc y) v (a ∷ c) (b ∷ r) e = ap (λ (z : ℕ). (a * b + z) % 2 ^ w) (dot_put w y v c r (suc_inj e)) ∙ simp push (simp pull (ap (red (2 ^ w)) (omega arith)))

pub adjoint : (w : ℕ) → Adjoint w
adjoint w k x cs c r ls lc lr =
    dot_put w (suc x) (dot w cs r) c r (lc ∙ sym lr)
    ∙ sym (plus_dot w (put c (suc x) 0) (times w (entry c (suc x)) cs) r (length_put c (suc x) 0 ∙ lc ∙ sym ls ∙ sym (length_times w (entry c (suc x)) cs)) ∙ ap (λ (z : ℕ). (dot w (put c (suc x) 0) r + z) % 2 ^ w) (times_dot w (entry c (suc x)) cs r) ∙ simp mods)
