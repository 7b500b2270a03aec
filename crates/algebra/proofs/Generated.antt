-- linear maps, and what vectors generate
use mathlib.Core.Path.{◌≡◌, sym, ap, ◌∙◌, subst}
use mathlib.Core.List.{List}
use Prim.Native.Nat.{ℕ, ◌*◌}
use Rattle.algebra.proofs.Vec.{times_one, times_plus, times_times, plus_zero, plus_assoc}
use Rattle.algebra.proofs.Sums.{times_of_zero}
use Rattle.algebra.proofs.Fit.{fit_plus, fit_times, fit_zero, zero_plus, Submodule}
use Rattle.algebra.proofs.LastPlace.{fit_flip, flip_flip, flip_zero, flip_sums}
use Rattle.algebra.specs.Vec.{plus, times, flip}
use Rattle.algebra.specs.Span.{Fit}
use Rattle.algebra.specs.System.{Linear, flipped, Gen, gen_none, gen_more}

-- what a linear map takes into a set
pub sub_map : (w : ℕ) {n : ℕ} {m : List ℕ → List ℕ} {S : List ℕ → Type 0} → Linear w n m → Submodule w n S → Submodule w n (λ (u : List ℕ). S (m u))
sub_map w {n} {m} {S} l sub = record { zeros = subst S (sym l.zeros) sub.zeros; add = λ k c d p q x y. subst S (sym (l.sums k c d p q)) (sub.add k (m c) (m d) (l.fit c p) (l.fit d q) x y) }

-- what vectors generate is the least submodule that has them
module _ (w n : ℕ) (P : List ℕ → Type 0) (fits : (d : List ℕ) → P d → Fit w n d) where
  pub gen_fit : {c : List ℕ} → Gen w n P c → Fit w n c
  gen_fit gen_none = fit_zero w n
  gen_fit (gen_more {d = d} k g h) = fit_plus w k (gen_fit g) (fits d h)

  pub gen_least : (S : List ℕ → Type 0) → Submodule w n S → ((d : List ℕ) → P d → S d) → {c : List ℕ} → Gen w n P c → S c
  gen_least S sub f gen_none = sub.zeros
  gen_least S sub f (gen_more {c} {d} k g h) = sub.add k c d (gen_fit g) (fits d h) (gen_least S sub f g) (f d h)

  pub gen_one : (d : List ℕ) → P d → Gen w n P d
  gen_one d h = subst (Gen w n P) (zero_plus w n (times w 1 d) (fit_times w 1 (fits d h)) ∙ times_one w d (fits d h).small) (gen_more 1 gen_none h)

  pub gen_add : (k : ℕ) (c : List ℕ) {d : List ℕ} → Gen w n P c → Gen w n P d → Gen w n P (plus w c (times w k d))
  gen_add k c g gen_none = subst (Gen w n P) (sym (ap (plus w c) (times_of_zero w k n) ∙ plus_zero w n c (gen_fit g).sized (gen_fit g).small)) g
  gen_add k c g (gen_more {c = c₁} {d = e} l h i) = subst (Gen w n P) (plus_assoc w c (times w k c₁) (times w (k * l) e) ∙ ap (plus w c) (ap (plus w (times w k c₁)) (sym (times_times w k l e)) ∙ sym (times_plus w k c₁ (times w l e)))) (gen_more (k * l) (gen_add k c g h) i)

  pub gen_sub : Submodule w n (Gen w n P)
  gen_sub = record { zeros = gen_none; add = λ k c d p q. gen_add k c }

pub gen_mono : (w n : ℕ) (P Q : List ℕ → Type 0) → ((d : List ℕ) → P d → Fit w n d) → ((d : List ℕ) → Q d → Fit w n d) → ((d : List ℕ) → P d → Q d) → (c : List ℕ) → Gen w n P c → Gen w n Q c
gen_mono w n P Q fp fq f c g = gen_least w n P fp (Gen w n Q) (gen_sub w n Q fq) (λ d h. gen_one w n Q fq d (f d h)) g

-- a linear map with the places in the other order
pub linear_flipped : (w n : ℕ) (m : List ℕ → List ℕ) → Linear w n m → Linear w n (flipped m)
linear_flipped w n m l = record {
  fit = λ u fu. fit_flip w (l.fit (flip u) (fit_flip w fu));
  zeros = ap (λ (z : List ℕ). flip (m z)) (flip_zero n) ∙ ap flip l.zeros ∙ flip_zero n;
  sums = λ k u v p q. (ap (λ (z : List ℕ). flip (m z)) (flip_sums w k u v p q) ∙ ap flip (l.sums k (flip u) (flip v) (fit_flip w p) (fit_flip w q)) ∙ flip_sums w k (m (flip u)) (m (flip v)) (l.fit (flip u) (fit_flip w p)) (l.fit (flip v) (fit_flip w q)));
}

pub flipped_is : (m : List ℕ → List ℕ) (u : List ℕ) → flipped m (flip u) ≡ flip (m u)
flipped_is m u = ap (λ (z : List ℕ). flip (m z)) (flip_flip u)
