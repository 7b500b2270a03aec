-- what rows span is closed; the best rows of a closed set span it
use mathlib.Core.Path.{◌≡◌, refl, sym, ap, ap₂, ◌∙◌, subst}
use mathlib.Core.List.{List, [], ◌∷◌}
use mathlib.Core.Option.{some}
use Prim.Native.Nat.{ℕ, zero, suc, ◌+◌, ◌*◌, ◌^◌, ◌<◌}
use native.Mathlib.Omega.{arith}
use native.Mathlib.Nat.{suc_inj}
use lib.ListN.{length, replicate, length-replicate}
use lib.Dec.{T}
use Rattle.algebra.proofs.Modular.{push, pull, out, by_zero, by_small}
use Rattle.algebra.proofs.Vec.{cons_≡, below_head, below_tail, length_plus, length_times, plus_comm, times_zero, times_one, plus_zero}
use Rattle.algebra.proofs.Sums.{Sized, no_rows, row_on, length_sum, sum_plus, sum_times, zero_plus_zero}
use Rattle.algebra.proofs.Rows.{none≢some, nth_some, Low, low_more, low_plus, low_all}
use Rattle.algebra.specs.Vec.{neg, below, plus, times, sum}
use Rattle.algebra.specs.Rows.{nth, Lead, Row, here, there, Best}
use Rattle.algebra.specs.Span.{Closed, Span}

pub sized_rows : (n : ℕ) (rs : List (List ℕ)) → ((r : List ℕ) (i : ℕ) → Row r i rs → length r ≡ n) → Sized n rs
sized_rows n [] f = no_rows
sized_rows n (r ∷ rs) f = row_on (f r 0 here) (sized_rows n rs (λ s i h. f s (suc i) (there h)))

pub sum_zero : (w : ℕ) {n : ℕ} {rs : List (List ℕ)} → Sized n rs → sum w n (replicate (length rs) 0) rs ≡ replicate n 0
sum_zero w no_rows = refl
sum_zero w {n} (row_on {r} {rs} e z) = rw (sum_zero w z, times_zero w r, e) (zero_plus_zero w n)

pub span_zero : (w : ℕ) {n : ℕ} {rs : List (List ℕ)} → Sized n rs → Span w n rs (replicate n 0)
span_zero w {rs} z = record { weights = replicate (length rs) 0; many = length-replicate (length rs) 0; gives = sum_zero w z }

pub span_add : (w : ℕ) {n : ℕ} {rs : List (List ℕ)} {c d : List ℕ} (k : ℕ) → Span w n rs c → Span w n rs d → Span w n rs (plus w c (times w k d))
span_add w {n} {rs} {c} {d} k a b = record {
  weights = plus w a.weights (times w k b.weights);
  many = length_plus w a.weights (times w k b.weights) same ∙ a.many;
  gives = sum_plus w n a.weights (times w k b.weights) rs same ∙ ap₂ (plus w) a.gives (sum_times w n k b.weights rs ∙ ap (times w k) b.gives);
}
  where
    same : length a.weights ≡ length (times w k b.weights)
    same = a.many ∙ sym b.many ∙ sym (length_times w k b.weights)

pub span_row : (w : ℕ) {n : ℕ} {r : List ℕ} {rs : List (List ℕ)} → Sized n rs → T (below (2 ^ w) r) → {i : ℕ} → Row r i rs → Span w n rs r
span_row w no_rows b h = elim h [ ]
span_row w {n} (row_on {r} {rs} e z) b here = record { weights = 1 ∷ replicate (length rs) 0; many = ap suc (length-replicate (length rs) 0); gives = rw (sum_zero w z, times_one w r b) (plus_zero w n r e b) }
span_row w {n} {r} (row_on {r = s} {rs} e z) b (there h) =
    let a = span_row w z b h in
    record { weights = 0 ∷ a.weights; many = ap suc a.many; gives = rw (times_zero w s, e, a.gives) (plus_comm w (replicate n 0) r ∙ plus_zero w n r (ap length (sym a.gives) ∙ length_sum w a.weights z) b) }

-- a multiple subtracted and added again
pub back : (w k : ℕ) (cs rs : List ℕ) → length cs ≡ length rs → T (below (2 ^ w) cs) → plus w (plus w cs (times w (neg w * k) rs)) (times w k rs) ≡ cs
back w k [] rs e b = refl
back w k (c ∷ cs) [] e b = absurd (omega arith)
back w k (c ∷ cs) (r ∷ rs) e b =
    cons_≡ (simp push (simp pull (simp out (by_small w _ c (k * r) (below_head (2 ^ w) c cs b) (omega arith))))) (back w k cs rs (suc_inj e) (below_tail (2 ^ w) c cs b))

-- at a place where c has k times what r has, c less k times r has 0
pub clears : (w k p v v' : ℕ) (c r : List ℕ) → nth c p ≡ some v → nth r p ≡ some v' → v ≡ k * v' → length c ≡ length r → p < length c → nth (plus w c (times w (neg w * k) r)) p ≡ some 0
clears w k p v v' [] r g h e l m = absurd (none≢some v g)
clears w k p v v' (c ∷ cs) [] g h e l m = absurd (none≢some v' h)
clears w k zero v v' (c ∷ cs) (r ∷ rs) g h e l m =
    let a : c ≡ v = cc in
    let b : r ≡ v' = cc in
    ap some (rw (a, b, e) (simp push (simp pull (simp out (by_zero w _ (k * v') (omega arith))))))
clears w k (suc p) v v' (c ∷ cs) (r ∷ rs) g h e l m = clears w k p v v' cs rs g h e (suc_inj l) (omega arith)

module _ (w n : ℕ) (is : List ℕ → Type 0) (cl : Closed w n is) (rs : List (List ℕ)) (best : Best is rs) where
  pub sized : Sized n rs
  sized = sized_rows n rs (λ r i h. cl.sized r (best.members r i h))

  -- at the place p, with what comes after done
  at : (p : ℕ) (c : List ℕ) (v : ℕ) → p < n → is c → Low p c → nth c p ≡ some v → ((d : List ℕ) → is d → Low (suc p) d → Span w n rs d) → Span w n rs c
  at p c zero h i l e next = next c i (low_more p c l e)
  at p c (suc v) h i l e next = subst (Span w n rs) (back w k c r same (cl.small c i)) (span_add w k rest (span_row w sized (cl.small r (best.members r j row)) row))
    where
      found : (r : List ℕ) × (i : ℕ) × (v' : ℕ) × (k : ℕ) × Row r i rs × Lead r p v' × (suc v ≡ k * v')
      found = best.reaches c p (suc v) i (record { zeros = l; is = e; not_0 = omega arith })

      r : List ℕ
      r = found.0

      j : ℕ
      j = found.1

      k : ℕ
      k = found.3

      row : Row r j rs
      row = found.4

      lead : Lead r p found.2
      lead = found.5

      same : length c ≡ length r
      same = cl.sized c i ∙ sym (cl.sized r (best.members r j row))

      d : List ℕ
      d = plus w c (times w (neg w * k) r)

      rest : Span w n rs d
      rest = next d (cl.sums (neg w * k) c r i (best.members r j row)) (low_more p d (low_plus w p (neg w * k) c r l lead.zeros) (clears w k p (suc v) found.2 c r e lead.is found.6 same (rw (cl.sized c i) h)))

  -- q places are left; the p before them are 0
  spans : (q p : ℕ) (c : List ℕ) → q + p ≡ n → is c → Low p c → Span w n rs c
  spans zero p c e i l = let f = cl.sized c i in let g : p ≡ n = omega arith in rw (low_all c (rw (f, ← g) l), f) (span_zero w sized)
  spans (suc q) p c e i l =
      let f = cl.sized c i in
      let x = nth_some c p (omega arith) in
      at p c x.0 (omega arith) i l x.1 (λ d j m. spans q (suc p) d (omega arith) j m)

pub all_spanned : (w n : ℕ) (is : List ℕ → Type 0) → Closed w n is → (rs : List (List ℕ)) → Best is rs → (c : List ℕ) → is c → Span w n rs c
all_spanned w n is cl rs best c i = spans w n is cl rs best n 0 c (omega arith) i refl
