-- vectors of n places, and submodules of them
use mathlib.Core.Path.{◌≡◌, refl, sym, ap, ◌∙◌, subst}
use mathlib.Core.List.{List, [], ◌∷◌}
use Prim.Native.Nat.{ℕ, suc, ◌+◌, ◌*◌, ◌%◌, ◌^◌, ◌<◌}
use native.Mathlib.Omega.{arith}
use native.Mathlib.Nat.{suc_inj}
use lib.ListN.{replicate, length-replicate}
use lib.Pow.{pow_pos}
use Rattle.algebra.proofs.Modular.{mods, by_zero}
use Rattle.algebra.proofs.Vec.{cons_≡, below_head, below_tail, below_cons, below_plus, below_times, below_zero, length_plus, length_times, plus_comm, plus_zero}
use Rattle.algebra.specs.Vec.{neg, plus, times, less}
use Rattle.algebra.specs.Span.{Fit}
use Rattle.algebra.specs.Form.{Form}

-- vectors that fit
pub fit_less : (w : ℕ) {n : ℕ} {v t : List ℕ} (k : ℕ) → Fit w n v → Fit w n t → Fit w n (less w v k t)
fit_less w {n} {v} {t} k a b = record { sized = length_plus w v (times w (neg w * k) t) (a.sized ∙ sym b.sized ∙ sym (length_times w (neg w * k) t)) ∙ a.sized; small = below_plus w v (times w (neg w * k) t) }

pub fit_plus : (w : ℕ) {n : ℕ} {v t : List ℕ} (k : ℕ) → Fit w n v → Fit w n t → Fit w n (plus w v (times w k t))
fit_plus w {n} {v} {t} k a b = record { sized = length_plus w v (times w k t) (a.sized ∙ sym b.sized ∙ sym (length_times w k t)) ∙ a.sized; small = below_plus w v (times w k t) }

pub fit_times : (w : ℕ) {n : ℕ} {v : List ℕ} (k : ℕ) → Fit w n v → Fit w n (times w k v)
fit_times w {n} {v} k a = record { sized = length_times w k v ∙ a.sized; small = below_times w k v }

pub fit_zero : (w n : ℕ) → Fit w n (replicate n 0)
fit_zero w n = record { sized = length-replicate n 0; small = below_zero w n }

pub fit_tail : (w : ℕ) {n x : ℕ} {v : List ℕ} → Fit w (suc n) (x ∷ v) → Fit w n v
fit_tail w {n} {x} {v} a = record { sized = suc_inj a.sized; small = below_tail (2 ^ w) x v a.small }

pub fit_cons : (w : ℕ) {n x : ℕ} {v : List ℕ} → x < 2 ^ w → Fit w n v → Fit w (suc n) (x ∷ v)
fit_cons w {n} {x} {v} h a = record { sized = ap suc a.sized; small = below_cons (2 ^ w) x v h a.small }

pub fit_head : (w : ℕ) {n x : ℕ} {v : List ℕ} → Fit w (suc n) (x ∷ v) → x < 2 ^ w
fit_head w {n} {x} {v} a = below_head (2 ^ w) x v a.small

pub fit_nought : (w : ℕ) {n : ℕ} {v : List ℕ} → Fit w n v → Fit w (suc n) (0 ∷ v)
fit_nought w a = fit_cons w (pow_pos w) a

-- 0 and so many times 0
pub nought : (w k : ℕ) → (0 + (k * 0) % 2 ^ w) % 2 ^ w ≡ 0
nought w k = simp mods (by_zero w _ 0 (omega arith))

-- a submodule of the vectors of n places: a set with 0 and c + k d
pub record Submodule (w n : ℕ) (S : List ℕ → Type 0) : Type 0 where
  pub zeros : S (replicate n 0)
  pub add : (k : ℕ) (c d : List ℕ) → Fit w n c → Fit w n d → S c → S d → S (plus w c (times w k d))

-- those vectors that begin with 0, without it
abbrev pub Tail : (List ℕ → Type 0) → List ℕ → Type 0
Tail S v = S (0 ∷ v)

pub sub_tail : (w : ℕ) {n : ℕ} {S : List ℕ → Type 0} → Submodule w (suc n) S → Submodule w n (Tail S)
sub_tail w {n} {S} a = record { zeros = a.zeros; add = λ k c d p q x y. subst S (cons_≡ (nought w k) refl) (a.add k (0 ∷ c) (0 ∷ d) (fit_nought w p) (fit_nought w q) x y) }

pub zero_plus : (w n : ℕ) (v : List ℕ) → Fit w n v → plus w (replicate n 0) v ≡ v
zero_plus w n v a = plus_comm w (replicate n 0) v ∙ plus_zero w n v a.sized a.small

pub sub_times : (w : ℕ) {n : ℕ} {S : List ℕ → Type 0} → Submodule w n S → (k : ℕ) (c : List ℕ) → Fit w n c → S c → S (times w k c)
sub_times w {n} {S} a k c p x = subst S (zero_plus w n (times w k c) (fit_times w k p)) (a.add k (replicate n 0) c (fit_zero w n) p a.zeros x)

-- all of a form's rows are in a set
abbrev pub Inside : ℕ → (List ℕ → Type 0) → Form → Type 0
Inside w S [] = Unit
Inside w S (s ∷ f) = S ((2 ^ s.exp % 2 ^ w) ∷ s.rest) × Inside w (Tail S) f
